-- `end_for` meets its contract.
use mathlib.Core.Path.{◌≡◌, refl, ap, ◌∙◌}
use mathlib.Core.Bool.{Bool, true, false, cond}
use mathlib.Core.List.{List}
use Prim.Native.Nat.{ℕ, ◌+◌, ◌<◌}
use native.Mathlib.Omega.{arith}
use lib.IntN.{ℤ, pos}
use lib.ListN.{length, get_or}
use mir.Syntax.{w64}
use mir.Val.{to_z, of_z}
use mir.ValLaws.{to_z-of_z}
use Rattle.integers.specs.Sign.{sign_of, is_negative}
use Rattle.integers.proofs.Compare.{result_same}
use Rattle.search.proofs.boxes.end_for.Goals as goal
use Rattle.search.proofs.boxes.end_for.Lts as lts
use Rattle.search.proofs.boxes.end_for.Reads as reads
use Rattle.search.proofs.boxes.end_for.Tie as tie

abbrev Start : Type 0
Start = lts.Start tie.the-claims reads.Pre reads.Post

one_of : (t : Bool) (at a b : ℕ) {n : ℕ} → at + a < n → at + b < n → at + cond t b a < n
one_of true at a b h k = k
one_of false at a b h k = h

read_one : (l : List ℤ) (t : Bool) (at a b : ℕ) →
    get_or l (at + cond t b a) (pos 0) ≡ cond t (get_or l (at + b) (pos 0)) (get_or l (at + a) (pos 0))
read_one l true at a b = refl
read_one l false at a b = refl

-- The place that is read.
below : (s : Start) →
    let a = s.args in
    a.at + cond (is_negative (sign_of (to_z w64 (of_z w64 a.n)))) a.b a.a < length a.boxes.now
below s =
    let a = s.args in
    one_of (is_negative (sign_of (to_z w64 (of_z w64 a.n)))) a.at a.a a.b s.requires.0 s.requires.1

pub overflow_add-at : goal.overflow_add-at
overflow_add-at c =
    let e = c.end_at.ensures in
    let h = below c.before in
    omega (arith, e, h)

pub number_at-requires : goal.number_at-requires
number_at-requires c =
    rw c.end_at.ensures (below c.before)

pub returns : goal.returns
returns c =
    let l = c.args.boxes.now in
    let n = to_z-of_z w64 c.args.n c.ranges.n in
    let place = c.end_at.ensures ∙ ap (λ m. cond (is_negative (sign_of m)) c.args.b c.args.a) n in
    result_same w64 c.number_at.result c.number_at.type_inv
    (c.number_at.ensures ∙ ap (λ (k : ℕ). get_or l (c.args.at + k) (pos 0)) place
    ∙ read_one l (is_negative (sign_of c.args.n)) c.args.at c.args.a c.args.b)
