-- The promised theorems of document 02's P10, as statements. Their proofs are in proofs/Claims. Defined, in order:
-- bit_of, zone_at, how_many, flat, place_of_part, visited; Agrees, Matches, Refusal, Visits. Stated, in order: BitsAgree (bit i of a
-- set is what the single call says of sheet i by itself, and no other bit is set), GridsMatch (what the named grid
-- decides), SetsDisjoint (no zone is in two sets), CountIsZones (the count is the number of zones so answered),
-- RefusedBook (20 to 23 or 36, with empty sets); ReaderVisits (a reader that starts at 0 visits exactly the sheets, and
-- their bytes, joined, are the book's), ReaderStays (on a refusal, 20 to 23, and at the end it does not move),
-- PartsAreSheets (each part by itself passes 20 to 24), SheetsMakeBook (up to 64 such sheets joined end to end are a
-- book of just these); OctantBook (a worked book of three).
use Rattle.std.specs.declared.option.Option.TheVariants.{None, Some}
use Rattle.std.specs.Prelude.{◌≡◌, ◌⊎◌, Bool, ◌||◌, List, [], ◌∷◌, ◌++◌, map, ℕ, zero, suc, ◌+◌, ◌/◌, ◌%◌, ◌^◌, ◌≤◌, ◌<◌, pos, negsuc, length, take, get_or}
use Rattle.std.specs.Int.Bits.{bit_and}
use Rattle.sphere.specs.declared.point.Grid.TheVariants.{Coarse, Fine}
use Rattle.sphere.specs.declared.point.Point.{Point}
use Rattle.std.specs.declared.result.Result.TheVariants.{Ok, Err}
use Rattle.answer.specs.declared.Refusal as answer
use Rattle.answer.specs.declared.Reason.TheVariants.{OtherGrid}
use Rattle.answer.specs.Refusal.{refused_at, reason_number}
use Rattle.answer.specs.Refusal.{Answer}
use Rattle.fields.specs.Fields.{grid_of, fields_check}
use Rattle.sheet.specs.Claims.{octant_bytes, octant_pair_bytes}
use Rattle.zone.specs.Judge.{sheet_answer_of}
use Rattle.book.specs.declared.sets.Which.{Which}
use Rattle.book.specs.Step.{step_at, next_at}
use Rattle.book.specs.Split.{Whole, Broken, part_of, split_of}
use Rattle.book.specs.Sets.{is_inside, is_boundary, is_refused, digit}
use Rattle.book.specs.Which.{zone_answer, which_of}

abbrev pub bit_of : ℕ → ℕ → ℕ
bit_of mask i = mask / 2 ^ i % 2

-- Sheet i's own bytes.
abbrev pub zone_at : List (List ℕ) → ℕ → List ℕ
zone_at parts i = get_or parts i []

unfoldable pub how_many : (Answer → Bool) → List Answer → ℕ
how_many test [] = 0
how_many test (answer ∷ answers) = digit (test answer) + how_many test answers

-- The bytes of some sheets, joined end to end, and the place where sheet i starts.
unfoldable pub flat : List (List ℕ) → List ℕ
flat [] = []
flat (part ∷ parts) = part ++ flat parts

abbrev pub place_of_part : List (List ℕ) → ℕ → ℕ
place_of_part parts i = length (flat (take i parts))

-- The reader's place after n steps from the start.
unfoldable pub visited : List ℕ → ℕ → ℕ
visited book zero = 0
visited book (suc n) = next_at book (visited book n)

-- ---- the sets

-- What is promised of a set whose zones pass `test`.
pub record Agrees (test : Answer → Bool) (answer : List ℕ → Answer) (parts : List (List ℕ)) (mask : ℕ) : Type 0 where
  pub each : (i : ℕ) → i < length parts → bit_of mask i ≡ digit (test (answer (zone_at parts i)))
  pub none : (i : ℕ) → length parts ≤ i → bit_of mask i ≡ 0

abbrev pub BitsAgree : Type 0
BitsAgree =
    (book : List ℕ) (grid : ℕ) (query : Point) (parts : List (List ℕ)) → split_of book ≡ Whole parts →
    let sets = (which_of book grid query).sets in
    Agrees is_inside (zone_answer grid query) parts sets.inside
    × Agrees is_boundary (zone_answer grid query) parts sets.boundary
    × Agrees is_refused (zone_answer grid query) parts sets.refused

-- What is promised of a zone, by its sheet's grid and the named one: on the sheet's own grid the single call decides.
pub record Matches (grid : ℕ) (query : Point) (part : List ℕ) : Type 0 where
  pub coarse : grid_of part ≡ Coarse → grid ≡ 0 → zone_answer grid query part ≡ sheet_answer_of part query
  pub fine : grid_of part ≡ Fine → grid ≡ 1 → zone_answer grid query part ≡ sheet_answer_of part query
  pub not_coarse : grid_of part ≡ Coarse → (grid ≡ 0 → ⊥) → zone_answer grid query part ≡ Err (refused_at OtherGrid 0)
  pub not_fine : grid_of part ≡ Fine → (grid ≡ 1 → ⊥) → zone_answer grid query part ≡ Err (refused_at OtherGrid 0)

abbrev pub GridsMatch : Type 0
GridsMatch = (grid : ℕ) (query : Point) (part : List ℕ) → Matches grid query part

abbrev pub SetsDisjoint : Type 0
SetsDisjoint =
    (book : List ℕ) (grid : ℕ) (query : Point) →
    let sets = (which_of book grid query).sets in
    (bit_and sets.inside sets.boundary ≡ 0)
    × (bit_and sets.inside sets.refused ≡ 0)
    × (bit_and sets.boundary sets.refused ≡ 0)

abbrev pub CountIsZones : Type 0
CountIsZones =
    (book : List ℕ) (grid : ℕ) (query : Point) (parts : List (List ℕ)) → split_of book ≡ Whole parts →
    (which_of book grid query).count
    ≡ how_many (λ answer. is_inside answer || is_boundary answer) (map (zone_answer grid query) parts)

-- What is promised of a book that is refused.
pub record Refusal (book : List ℕ) (number place : ℕ) (which : Which) : Type 0 where
  pub number_is : which.number ≡ number
  pub place_is : which.place ≡ place
  pub listed : ((20 ≤ number) × (number ≤ 23)) ⊎ (number ≡ 36)
  pub within : place ≤ length book
  pub count : which.count ≡ 0
  pub inside : which.sets.inside ≡ 0
  pub boundary : which.sets.boundary ≡ 0
  pub refused : which.sets.refused ≡ 0

abbrev pub RefusedBook : Type 0
RefusedBook =
    (book : List ℕ) (grid : ℕ) (query : Point) (refusal : answer.Refusal) → split_of book ≡ Broken refusal →
    Refusal book (reason_number refusal.reason) refusal.place (which_of book grid query)

-- ---- the walk

-- What is promised of a book that splits into these sheets.
pub record Visits (book : List ℕ) (parts : List (List ℕ)) : Type 0 where
  pub few : length parts ≤ 64
  pub all : flat parts ≡ book
  pub places : (i : ℕ) → i ≤ length parts → visited book i ≡ place_of_part parts i
  pub sheets : (i : ℕ) → i < length parts →
      (step_at book (place_of_part parts i) ≡ Ok (Some ((place_of_part parts i), (length (zone_at parts i)))))
      × (part_of book (place_of_part parts i) (length (zone_at parts i)) ≡ zone_at parts i)
  pub ends : step_at book (place_of_part parts (length parts)) ≡ Ok None

abbrev pub ReaderVisits : Type 0
ReaderVisits = (book : List ℕ) (parts : List (List ℕ)) → split_of book ≡ Whole parts → Visits book parts

abbrev pub ReaderStays : Type 0
ReaderStays =
    (book : List ℕ) (at : ℕ) →
    ((refusal : answer.Refusal) → step_at book at ≡ Err refusal →
    (next_at book at ≡ at) × (20 ≤ reason_number refusal.reason) × (reason_number refusal.reason ≤ 23))
    × (length book ≤ at → (step_at book at ≡ Ok None) × (next_at book at ≡ at))

abbrev pub PartsAreSheets : Type 0
PartsAreSheets =
    (book : List ℕ) (parts : List (List ℕ)) → split_of book ≡ Whole parts → (i : ℕ) → i < length parts →
    fields_check (zone_at parts i) ≡ Ok tt

abbrev pub SheetsMakeBook : Type 0
SheetsMakeBook =
    (parts : List (List ℕ)) → length parts ≤ 64 →
    ((i : ℕ) → i < length parts → fields_check (zone_at parts i) ≡ Ok tt) → split_of (flat parts) ≡ Whole parts

-- ---- a worked book

-- Document 01's octant three times: on the coarse grid, with a second point, on the fine grid.
abbrev pub octant_sheets : List (List ℕ)
octant_sheets = octant_bytes 5 ∷ octant_pair_bytes ∷ octant_bytes 7 ∷ []

-- K8, opposite the known point, and a point beyond the coarse grid.
abbrev pub farthest : Point
farthest = record { x = negsuc 0; y = negsuc 0; z = negsuc 0 }

abbrev pub beyond : Point
beyond = record { x = pos 1048577; y = pos 1; z = pos 1 }

abbrev pub answered : ℕ → ℕ → ℕ → Which
answered count inside refused = record {
  number = 0;
  place = 0;
  count = count;
  sets = record { inside = inside; boundary = 0; refused = refused };
}

-- Sheet 0 refuses K8 (18), sheet 1 judges it from its second point as outside, sheet 2 is on the other grid (28). On the
-- fine grid only sheet 2 is asked, and a third number matches no sheet.
abbrev pub OctantBook : Type 0
OctantBook =
    (which_of (flat octant_sheets) 0 farthest ≡ answered 0 0 5)
    × (which_of (flat octant_sheets) 1 beyond ≡ answered 1 4 3)
    × (which_of (flat octant_sheets) 2 beyond ≡ answered 0 0 7)
