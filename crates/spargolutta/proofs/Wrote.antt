-- What a call of write_list gave, kept with the two points that it was given: another order of them is seen at once.
-- Proved, in order: wrote, wrote_to; carried, carried_to (points that are the same).
use mathlib.Core.Path.{◌≡◌, ◌∙◌}
use mathlib.Core.List.{List}
use Prim.Native.Nat.{ℕ}
use Rattle.sphere.specs.declared.point.Point.{Point}
use Rattle.answer.specs.Refusal.{Answer}
use Rattle.spargolutta.specs.Writing.{bytes_write_of, bytes_written_to}

pub record Wrote (charset : ℕ) (name : List ℕ) (known second : Point) (vertices : List ℕ) (g room : ℕ) (r : Answer) :
    Type 0 where
  pub is : r ≡ bytes_write_of charset name known second vertices g room

pub record WroteTo (zone charset : ℕ) (name : List ℕ) (known second : Point) (vertices : List ℕ) (g : ℕ)
    (before after : List ℕ) : Type 0 where
  pub is : after ≡ bytes_written_to zone charset name known second vertices g before

pub wrote : {charset : ℕ} {name : List ℕ} {known second : Point} {vertices : List ℕ} {g room : ℕ} {r : Answer} →
    r ≡ bytes_write_of charset name known second vertices g room →
    Wrote charset name known second vertices g room r
wrote e = record { is = e }

pub wrote_to : {zone charset : ℕ} {name : List ℕ} {known second : Point} {vertices : List ℕ} {g : ℕ}
    {before after : List ℕ} → after ≡ bytes_written_to zone charset name known second vertices g before →
    WroteTo zone charset name known second vertices g before after
wrote_to e = record { is = e }

pub carried : (charset : ℕ) (name : List ℕ) (known second : Point) (vertices : List ℕ) (g room : ℕ) {r : Answer}
    {k s : Point} → Wrote charset name known second vertices g room r → known ≡ k → second ≡ s →
    r ≡ bytes_write_of charset name k s vertices g room
carried charset name known second vertices g room w p q =
    w.is ∙ (λ j. bytes_write_of charset name (p j) (q j) vertices g room)

pub carried_to : (zone charset : ℕ) (name : List ℕ) (known second : Point) (vertices : List ℕ) (g : ℕ)
    (before : List ℕ) {after : List ℕ} {k s : Point} →
    WroteTo zone charset name known second vertices g before after → known ≡ k → second ≡ s →
    after ≡ bytes_written_to zone charset name k s vertices g before
carried_to zone charset name known second vertices g before w p q =
    w.is ∙ (λ j. bytes_written_to zone charset name (p j) (q j) vertices g before)
