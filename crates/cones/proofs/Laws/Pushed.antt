-- One node more in the table. Proved, in order: copied_covers, pushed.
use mathlib.Core.Path.{◌≡◌, sym, ◌∙◌, subst}
use mathlib.Core.Bool.{true≢false}
use mathlib.Core.List.{List}
use mathlib.Core.Logic.{⊎_elim}
use Prim.Native.Nat.{ℕ, ◌+◌, ◌*◌, ◌-◌, ◌≤◌, ◌<◌}
use native.Mathlib.Nat.{eq-or-lt_of_le}
use native.Mathlib.Omega.{arith}
use lib.ListN.{length, get_or, set, length-set}
use lib.Seq.{get_or-set_same, get_or-set_other}
use Rattle.azimuths.specs.Sectors.{MissedIn}
use Rattle.cones.specs.Cones.{Covers}
use Rattle.cones.specs.Table.{Node, Indexed, Room, Copied}
use Rattle.cones.proofs.Laws.Covers.{covers_same, kept_covers}

pub copied_covers : {I : ℕ → Type 0} {s l m : List ℕ} {from to at : ℕ} (n : ℕ) → Copied s l m from to at →
    Covers I s from n to → Covers I m at n (at + (to - from))
copied_covers {I} n c all =
    kept_covers {I = I} {J = I} (λ j h. h) n (λ j h e. absurd (true≢false (sym e))) (omega arith) c.kept all

-- ---- four numbers, from entry i on
module _ (l : List ℕ) (i a b c d : ℕ) where
  abbrev one : List ℕ
  one = set l i a

  abbrev two : List ℕ
  two = set one (i + 1) b

  abbrev three : List ℕ
  three = set two (i + 2) c

  abbrev row : List ℕ
  row = set three (i + 3) d

  row_long : length row ≡ length l
  row_long = simp length-set

  three_before : (x : ℕ) → x < i + 2 → get_or row x 0 ≡ get_or two x 0
  three_before x h =
      get_or-set_other three (i + 3) x d 0 (λ e. omega arith) ∙ get_or-set_other two (i + 2) x c 0 (λ e. omega arith)

  row_before : (x : ℕ) → x < i → get_or row x 0 ≡ get_or l x 0
  row_before x h =
      three_before x (omega arith) ∙ get_or-set_other one (i + 1) x b 0 (λ e. omega arith)
      ∙ get_or-set_other l i x a 0 (λ e. omega arith)

  module _ (room : i + 4 ≤ length l) where
    first : get_or row i 0 ≡ a
    first =
        three_before i (omega arith) ∙ get_or-set_other one (i + 1) i b 0 (λ e. omega arith)
        ∙ get_or-set_same l i a 0 (omega arith)

    second : get_or row (i + 1) 0 ≡ b
    second =
        three_before (i + 1) (omega arith) ∙ get_or-set_same one (i + 1) b 0 (simp length-set (omega arith))

    third : get_or row (i + 2) 0 ≡ c
    third =
        get_or-set_other three (i + 3) (i + 2) d 0 (λ e. omega arith)
        ∙ get_or-set_same two (i + 2) c 0 (simp length-set (omega arith))

    fourth : get_or row (i + 3) 0 ≡ d
    fourth = get_or-set_same three (i + 3) d 0 (simp length-set (omega arith))

-- ---- a node
module _ (n : ℕ) (sectors table list : List ℕ) (nodes top more : ℕ) (t : Indexed n sectors table list nodes top)
    (r : Room (length table) (length list) nodes top more) (lo last : ℕ) (m : List ℕ) (long : length m ≡ length list)
    (before : (x : ℕ) → x < top → get_or m x 0 ≡ get_or list x 0)
    (all : Covers (MissedIn sectors lo last) m top n (top + more)) where
  abbrev table' : List ℕ
  table' = row table (nodes * 4) lo last top (top + more)

  same : (x : ℕ) → x < nodes * 4 → get_or table' x 0 ≡ get_or table x 0
  same = row_before table (nodes * 4) lo last top (top + more)

  -- a node from before
  old : (k : ℕ) → k < nodes → Node n sectors table' m k
  old k h =
      let o = (t.each k h).complete in
      let e = t.ends k h in
      record {
        complete =
            rw (
              same (k * 4) (omega arith),
              same (k * 4 + 1) (omega arith),
              same (k * 4 + 2) (omega arith),
              same (k * 4 + 3) (omega arith),
            ) (record {
              some = o.some;
              within = omega (arith, e, long, t.list_room);
              covers = covers_same (λ x a b. before x (omega (arith, e, b))) o.covers;
            });
      }

  -- the new one
  new : Node n sectors table' m nodes
  new = record {
    complete =
        rw (
          first table (nodes * 4) lo last top (top + more) r.table_room,
          second table (nodes * 4) lo last top (top + more) r.table_room,
          third table (nodes * 4) lo last top (top + more) r.table_room,
          fourth table (nodes * 4) lo last top (top + more) r.table_room,
        ) (record { some = omega arith; within = omega (arith, long, r.list_room); covers = all });
  }

  here_or_before : (P : ℕ → Type 0) (k : ℕ) → ((j : ℕ) → j < nodes → P j) → P nodes → k < nodes + 1 → P k
  here_or_before P k f p h =
      ⊎_elim (λ e. subst P (sym e) p) (λ l. f k l) (eq-or-lt_of_le {n = k} {m = nodes} (omega arith))

  pub pushed : Indexed n sectors table' m (nodes + 1) (top + more)
  pushed = record {
    table_room = omega (arith, row_long table (nodes * 4) lo last top (top + more), r.table_room);
    list_room = omega (arith, long, r.list_room);
    ends = λ k h. here_or_before (λ k. get_or table' (k * 4 + 3) 0 ≤ top + more) k
        (λ j l. rw (same (j * 4 + 3) (omega arith)) (omega (arith, t.ends j l)))
        (rw (fourth table (nodes * 4) lo last top (top + more) r.table_room) (omega arith)) h;
    each = λ k h. here_or_before (λ k. Node n sectors table' m k) k old new h;
  }
