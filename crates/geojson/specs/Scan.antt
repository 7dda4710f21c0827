-- Document 02, P7: 30 to 33 of a text, and its list of grid numbers on either grid. Defined, in order: list_on, numbers_of;
-- text_check (30), import_check (30 to 33), vertices_on, vertices_of; put_of, step_of, out_of, Scanned, finish_of,
-- scanned_of, Listed, Past (the code's).
use Rattle.std.specs.declared.result.Result.{Result}
use Rattle.std.specs.Prelude.{⊤}
use Rattle.std.specs.Prelude.{◌≡◌, cond, List, [], ◌∷◌, ℕ, ◌+◌, ◌-◌, ◌*◌, ◌<◌, min, ltb, ℤ, length, take, IfOk}
use Rattle.std.proofs.lemmas.List.Edits.{sets}
use Rattle.sphere.specs.declared.point.Grid.{Grid}
use Rattle.sphere.specs.declared.point.Grid.TheVariants.{Coarse}
use Rattle.std.specs.declared.result.Result.TheVariants.{Ok, Err}
use Rattle.answer.specs.declared.Reason.TheVariants.{PolygonText}
use Rattle.answer.specs.declared.Refusal.{Refusal}
use Rattle.answer.specs.Refusal.{fails}
use Rattle.answer.specs.Refusal.{Check}
use Rattle.answer.specs.Chain.{◌then◌}
use Rattle.positions.specs.declared.grammar.State.{State}
use Rattle.positions.specs.declared.number.Pending.{Pending}
use Rattle.positions.specs.Text.{start, read}
use Rattle.angles.specs.declared.point.Position.{Position}
use Rattle.angles.specs.Point.{numbers_on}
use Rattle.positions.specs.Number.{fresh, pending_of, is_end, position_of, positions_of, held}
use Rattle.positions.specs.Number.{onward, DigitRun}
use Rattle.positions.specs.Ring.{ring_check, kept_of, added_of, check_of}
use Rattle.fields.specs.Parts.{value_after}
use Rattle.geojson.specs.declared.ahead.Reached.{Reached}
use Rattle.geojson.specs.declared.scan.Reader.{Reader}

-- Three numbers for each position, as a polygon's list has them.
unfoldable pub list_on : Grid → List Position → List ℤ
list_on g [] = []
list_on g (p ∷ ps) = (numbers_on g p).x ∷ (numbers_on g p).y ∷ (numbers_on g p).z ∷ list_on g ps

abbrev pub numbers_of : List Position → List ℤ
numbers_of ps = list_on Coarse ps

-- 30: the text is not one of document 02's.
abbrev pub unread : Result ⊤ ℕ → Check
unread (Ok unit) = Ok tt
unread (Err place) = fails PolygonText place

unfoldable pub text_check : List ℕ → Check
text_check text = unread (read text start 0 (length text))

unfoldable pub import_check : List ℕ → Check
import_check text = text_check text then ring_check (positions_of text)

-- The vertices: every position but the last.
unfoldable pub vertices_on : Grid → List ℕ → List ℤ
vertices_on g text = list_on g (kept_of (positions_of text))

abbrev pub vertices_of : List ℕ → List ℤ
vertices_of text = vertices_on Coarse text

-- ---- the code's, one byte after the other

unfoldable pub put_of : Grid → List ℤ → ℕ → Position → List ℤ
put_of g out k p = cond (ltb k 4097) (sets out (k * 3) (list_on g (p ∷ []))) out

unfoldable pub step_of : Reader → ℕ → Reader
step_of r b =
    cond (is_end r.pending b)
    (record { pending = fresh; ring = added_of r.ring (position_of r.pending) })
    (record { pending = pending_of held r.pending b; ring = r.ring })

unfoldable pub out_of : Grid → Reader → ℕ → List ℤ → List ℤ
out_of g r b out = cond (is_end r.pending b) (put_of g out r.ring.count (position_of r.pending)) out

-- How many vertices the text has, or a refusal.
abbrev pub Scanned : Type 0
Scanned = Result ℕ Refusal

unfoldable pub finish_of : Reader → Scanned
finish_of r = value_after (check_of r.ring) (r.ring.count - 1)

unfoldable pub scanned_of : List ℕ → Scanned
scanned_of text = value_after (import_check text) (length (positions_of text) - 1)

-- The list's front holds the vertices, at most 4,097 of them.
abbrev pub Listed : Grid → Scanned → List ℕ → List ℤ → Type 0
Listed g scanned text out =
    IfOk scanned (λ n. take (min n 4097 * 3) out ≡ take (min n 4097 * 3) (vertices_on g text))

-- Past the decimals from the place i, k of them, where the text stands at s and the number read is p.
pub record Past (text : List ℕ) (i : ℕ) (s : State) (p : Pending) (r : Reached) : Type 0 where
  pub k : ℕ
  pub run : DigitRun text i k
  pub at : r.at ≡ i + k
  pub pending : r.pending ≡ onward text i p k
  pub low : r.state.at < 76
  pub ring : r.state.ring < 29
  pub reads : read text s i (length text - i) ≡ read text r.state r.at (length text - r.at)
