-- `float_cross` meets its contract, component by component.
use mathlib.Core.Path.{◌≡◌, ◌∙◌}
use lib.IntN.{ℤ}
use mir.Syntax.{w64}
use mir.Val.{SFits, to_z, of_z}
use mir.ValLaws.{to_z-of_z}
use Rattle.sphere.specs.Approximate.{minor_of, float_cross_of}
use Rattle.sphere.proofs.Numbers.{words_of}
use Rattle.sphere.proofs.approximate.float_cross.Goals as goal

-- The four numbers of a component, as the call gets them.
abbrev local : ℤ → ℤ
local z = to_z w64 (of_z w64 z)

kept : (p q r s : ℤ) → SFits w64 p → SFits w64 q → SFits w64 r → SFits w64 s →
    minor_of (local p) (local q) (local r) (local s) ≡ minor_of p q r s
kept p q r s f g h k = rw (to_z-of_z w64 p f, to_z-of_z w64 q g, to_z-of_z w64 r h, to_z-of_z w64 s k)

pub returns : goal.returns
unfolding float_cross_of
returns c =
    let second = c.before.before.before.before.before in
    let first = second.before.before.before.before.before in
    let s = first.before.before.before.before.before.args in
    let a = words_of s.a c.before.before.struct_told-11-1.given in
    let b = words_of s.b c.before.struct_told-12-1.given in
    let x = first.minor.ensures ∙ kept s.a.y s.b.z s.a.z s.b.y a.at_y b.at_z a.at_z
    b.at_y in
    let y = second.minor-2.ensures ∙ kept s.a.z s.b.x s.a.x s.b.z a.at_z b.at_x a.at_x
    b.at_z in
    let z = c.minor-3.ensures ∙ kept s.a.x s.b.y s.a.y s.b.x a.at_x b.at_y a.at_y b.at_x in
    λ i. record { x = x i; y = y i; z = z i }
