-- The place of a dead byte is the length of the longest beginning. Defined: read_from (`read` by the list itself).
-- Proved, in order: read_list, to_whole, of_whole, dead_at; longest_beginning.
use mathlib.Core.Path.{◌≡◌, refl, sym, ap, ◌∙◌}
use mathlib.Core.Bool.{Bool, true, false, not, ◌&&◌, ◌||◌}
use mathlib.Core.List.{List, [], ◌∷◌, ◌++◌}
use Prim.Native.Nat.{ℕ, suc, ◌+◌, ◌≤◌, ◌<◌}
use native.Mathlib.Omega.{arith}
use lib.Dec.{T, eqb}
use lib.ListN.{length, take, drop, get_or}
use lib.Seq.{get_or-drop, drop-drop}
use lib.Ieee.Fits.{and_i, and_r}
use Rattle.std.specs.declared.result.Result.{Result}
use Rattle.std.specs.Prelude.{⊤}
use Rattle.std.specs.declared.result.Result.TheVariants.{Ok, Err}
use Rattle.positions.specs.declared.grammar.State.{State}
use Rattle.positions.specs.Text.{next_of, start, pick_reading, read}
use Rattle.positions.specs.Claims.{LongestBeginning}
use Rattle.positions.proofs.Viable.{alive, whole, only_alive, finish, after, completes, completes_in_bytes}

abbrev ended : Bool → Bool → ℕ → Result ⊤ ℕ
ended a b i = pick_reading a (Ok tt) (pick_reading b (Ok tt) (Err i))

pub read_from : State → ℕ → List ℕ → Result ⊤ ℕ
read_from s i [] = ended (eqb s.at 37) (eqb s.at 75) i
read_from s i (b ∷ bs) = pick_reading (eqb (next_of s b).at 76) (Err i) (read_from (next_of s b) (suc i) bs)

read_list : (l t : List ℕ) (s : State) (i : ℕ) → drop i l ≡ t → read l s i (length t) ≡ read_from s i t
unfolding read read_from
read_list l [] s i e = refl
read_list l (b ∷ bs) s i e =
    let z : i + 0 ≡ i = omega arith in
    let o : i + 1 ≡ suc i = omega arith in
    let h : get_or l i 0 ≡ b =
    sym (get_or-drop i l 0 0 ∙ ap (λ (k : ℕ). get_or l k 0) z) ∙ ap (λ (m : List ℕ). get_or m 0 0) e in
    let r : drop (suc i) l ≡ bs =
    ap (λ (k : ℕ). drop k l) (sym o) ∙ sym (drop-drop 1 i l) ∙ ap (λ (m : List ℕ). drop 1 m) e in
    rw (h, read_list l bs (next_of s b) (suc i) r)

pub all_read : (l : List ℕ) → read l start 0 (length l) ≡ read_from start 0 l
all_read l = read_list l l start 0 refl

no_whole : (i : ℕ) → ◌≡◌ {A = Result ⊤ ℕ} (Err i) (Ok tt) → ⊥
no_whole i e = let z : ◌≡◌ {A = ℕ} 0 1 = cc in omega arith

end_whole : (a b : Bool) (i : ℕ) → T (a || b) → ended a b i ≡ Ok tt
end_whole true b i t = refl
end_whole false true i t = refl
end_whole false false i t = absurd t

whole_end : (a b : Bool) (i : ℕ) → ended a b i ≡ Ok tt → T (a || b)
whole_end true b i e = tt
whole_end false true i e = tt
whole_end false false i e = absurd (no_whole i e)

step_to : (x w : Bool) (i : ℕ) (r : Result ⊤ ℕ) → T (not x && w) → (T w → r ≡ Ok tt) → pick_reading x (Err i) r ≡ Ok tt
step_to true w i r t f = absurd t
step_to false w i r t f = f t

step_of : (x w : Bool) (i : ℕ) (r : Result ⊤ ℕ) → pick_reading x (Err i) r ≡ Ok tt → (r ≡ Ok tt → T w) → T (not x && w)
step_of true w i r e f = absurd (no_whole i e)
step_of false w i r e f = f e

pub to_whole : (t : List ℕ) (s : State) (i : ℕ) → T (whole s t) → read_from s i t ≡ Ok tt
unfolding read_from
to_whole [] s i w = end_whole (eqb s.at 37) (eqb s.at 75) i w
to_whole (b ∷ bs) s i w =
    step_to (eqb (next_of s b).at 76) (whole (next_of s b) bs) i _ w (to_whole bs (next_of s b) (suc i))

pub of_whole : (t : List ℕ) (s : State) (i : ℕ) → read_from s i t ≡ Ok tt → T (whole s t)
unfolding read_from
of_whole [] s i e = whole_end (eqb s.at 37) (eqb s.at 75) i e
of_whole (b ∷ bs) s i e =
    step_of (eqb (next_of s b).at 76) (whole (next_of s b) bs) i _ e (of_whole bs (next_of s b) (suc i))

-- The dead byte j is k bytes on: the bytes before it are alive, and with it they are not.
record DeadAt (s : State) (t : List ℕ) (i j : ℕ) : Type 0 where
  k : ℕ
  is : j ≡ i + k
  inside : k ≤ length t
  before : T (alive s (take k t))
  behind : k < length t → T (alive s (take (suc k) t)) → ⊥

none : (n : ℕ) → n < 0 → ⊥
none n h = omega arith

at_end : (s : State) (i j : ℕ) (a b : Bool) → ended a b i ≡ Err j → DeadAt s [] i j
at_end s i j true b e = absurd (no_whole j (sym e))
at_end s i j false true e = absurd (no_whole j (sym e))
at_end s i j false false e =
    let m : i ≡ j = cc in
    record { k = 0; is = omega arith; inside = omega arith; before = tt; behind = λ h t. none 0 h }

at_byte : (s : State) (b : ℕ) (bs : List ℕ) (i j : ℕ) (x : Bool) (r : Result ⊤ ℕ) → eqb (next_of s b).at 76 ≡ x →
    pick_reading x (Err i) r ≡ Err j → (r ≡ Err j → DeadAt (next_of s b) bs (suc i) j) → DeadAt s (b ∷ bs) i j
at_byte s b bs i j true r o e f =
    let m : i ≡ j = cc in
    record {
      k = 0;
      is = omega arith;
      inside = omega arith;
      before = tt;
      behind = λ h t. dies
          (eqb (next_of s b).at 76) o t;
    }
  where
    dies : (x : Bool) → x ≡ true → T (not x && true) → ⊥
    dies true o t = t
    dies false o t = let z : ◌≡◌ {A = ℕ} 0 1 = cc in omega arith
at_byte s b bs i j false r o e f =
    let d = f e in
    let n : T (not (eqb (next_of s b).at 76)) = rw o tt in
    record {
      k = suc d.k;
      is = d.is ∙ omega arith;
      inside = let h = d.inside in omega arith;
      before = and_i (not (eqb (next_of s b).at 76)) (alive (next_of s b) (take d.k bs)) n d.before;
      behind = λ h t. d.behind (omega arith)
          (and_r (not (eqb (next_of s b).at 76)) (alive (next_of s b) (take (suc d.k) bs)) t);
    }

dead_at : (t : List ℕ) (s : State) (i j : ℕ) → read_from s i t ≡ Err j → DeadAt s t i j
unfolding read_from
dead_at [] s i j e = at_end s i j (eqb s.at 37) (eqb s.at 75) e
dead_at (b ∷ bs) s i j e =
    at_byte s b bs i j (eqb (next_of s b).at 76) (read_from (next_of s b) (suc i) bs) refl e
    (dead_at bs (next_of s b) (suc i) j)

-- ---- the claim

pub longest_beginning : LongestBeginning
longest_beginning text i e =
    let d = dead_at text start 0 i (sym (all_read text) ∙ e) in
    let is : d.k ≡ i = let m = d.is in omega arith in
    let p = take i text in
    let live : T (alive start p) = rw is at d.before in
    record {
      inside = let h = d.inside in omega arith;
      rest = finish (after start p);
      bytes = completes_in_bytes p live;
      begins = all_read (p ++ finish (after start p)) ∙ to_whole _ start 0 (completes p live);
      no_more = λ more h t.
          (rw is at d.behind) h
          (only_alive (take (suc i) text) more start
          (of_whole _ start 0 (sym (all_read (take (suc i) text ++ more)) ∙ t)));
    }
