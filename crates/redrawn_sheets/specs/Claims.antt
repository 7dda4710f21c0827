-- The promised theorems of document 02's P12 over two sheets' bytes, as statements. Their proofs are in proofs/Claims.
-- Stated, in order: RedrawnSheets (of two sheets whose outlines are redrawings of each other and whose known points are
-- equal in direction: a query judged under both gets the same verdict), RedrawnFeeds (the same over two feeds' results).
-- Any grids, the same or not; any second points, or none. Two outlines that are the same ring (document 02, P11) are one
-- case of it.
use Rattle.std.specs.Prelude.{◌≡◌, true, List, ℕ, ◌*◌, ◌≤◌, ◌<◌, length}
use Rattle.sphere.specs.declared.point.Point.{Point}
use Rattle.sphere.specs.Direction.{is_same_direction}
use Rattle.big_endian.specs.Bytes.{word_at}
use Rattle.std.specs.declared.result.Result.TheVariants.{Ok}
use Rattle.answer.specs.declared.Verdict.TheVariants.{Done}
use Rattle.answer.specs.Answer.{number_of}
use Rattle.feed.specs.Feed.{query_count, query_at}
use Rattle.sheet.specs.Sheet.{known_of, vertices_of}
use Rattle.zone.specs.Judge.{sheet_answer_of, sheet_feed_of, sheet_results_after}
use Rattle.redraw.specs.Redraw.{Redrawn}

-- ---- single queries

-- A query that is judged under both sheets, that is, gets 1, 2 or 3 from each (0 is no answer to a query), gets the
-- same. On different grids its numbers may differ: the direction counts.
abbrev pub SheetsAgree : List ℕ → List ℕ → Type 0
SheetsAgree b c = (P P' : Point) → is_same_direction P P' ≡ true →
    number_of (sheet_answer_of b P) ≤ 3 → number_of (sheet_answer_of c P') ≤ 3 →
    number_of (sheet_answer_of c P') ≡ number_of (sheet_answer_of b P)

-- ---- feeds

-- Result i of two feeds, after queries i of one direction, and both verdicts: the same number.
pub record ResultsAgree (queries queries' results results' : List ℕ) : Type 0 where
  pub each : (i : ℕ) → i < query_count queries → i < query_count queries' →
      is_same_direction (query_at queries i) (query_at queries' i) ≡ true →
      word_at results (i * 12) ≤ 3 → word_at results' (i * 12) ≤ 3 →
      word_at results' (i * 12) ≡ word_at results (i * 12)

-- Of any two feeds that succeed.
abbrev pub FeedsAgree : List ℕ → List ℕ → Type 0
FeedsAgree b c = (queries queries' buffer buffer' : List ℕ) →
    sheet_feed_of b queries (length buffer) ≡ Ok (Done 0) → sheet_feed_of c queries' (length buffer') ≡ Ok (Done 0) →
    ResultsAgree queries queries' (sheet_results_after b queries buffer) (sheet_results_after c queries' buffer')

-- ---- the claims

pub record RedrawnSheet (b c : List ℕ) : Type 0 where
  pub known : is_same_direction (known_of b) (known_of c) ≡ true
  pub outline : Redrawn (vertices_of b) (vertices_of c)

abbrev pub RedrawnSheets : Type 0
RedrawnSheets = (b c : List ℕ) → RedrawnSheet b c → SheetsAgree b c

abbrev pub RedrawnFeeds : Type 0
RedrawnFeeds = (b c : List ℕ) → RedrawnSheet b c → FeedsAgree b c
