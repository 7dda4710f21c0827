-- The proofs of specs/Claims. Proved, in order: sheet_passed (a verdict comes after checks that passed), sheet_judged (a
-- sheet answers as its list); redrawn_sheets; agreeing, redrawn_feeds.
use mathlib.Core.Path.{◌≡◌, sym, ◌∙◌, ap, subst}
use mathlib.Core.List.{List}
use Prim.Native.Nat.{ℕ, ◌≤◌}
use native.Mathlib.Omega.{arith}
use Rattle.sphere.specs.declared.point.Point.{Point}
use Rattle.sphere.specs.Point.{limit_of}
use Rattle.std.specs.declared.result.Result.TheVariants.{Ok}
use Rattle.answer.specs.Answer.{number_of}
use Rattle.polygon.specs.Pair.{optional_answer_of}
use Rattle.polygon.proofs.Laws.Pair.{optional_judged}
use Rattle.feed.specs.Feed.{query_at}
use Rattle.fields.specs.Fields.{grid_of}
use Rattle.sheet.specs.Sheet.{known_of, vertices_of, second_of, sheet_check}
use Rattle.sheet.proofs.Laws.Numbers.{above_sheet}
use Rattle.sheet.proofs.Laws.Reads.{sheet_optional}
use Rattle.zone.specs.Judge.{sheet_answer_of}
use Rattle.zone.proofs.Claims.{sheet_feed_equals_single}
use Rattle.redraw.proofs.Pair.{after_passed, redrawn_verdicts}
use Rattle.redrawn_sheets.specs.Claims.{SheetsAgree, FeedsAgree, RedrawnSheets, RedrawnFeeds}

-- ---- a sheet that answers a verdict
module _ (b : List ℕ) (P : Point) (h : number_of (sheet_answer_of b P) ≤ 3) where
  sheet_passed : sheet_check b ≡ Ok tt
  unfolding sheet_answer_of
  sheet_passed = after_passed (λ n l. omega (arith, l)) (sheet_check b) _ (above_sheet b) h

  sheet_judged : sheet_answer_of b P
      ≡ optional_answer_of (limit_of (grid_of b)) (vertices_of b) (known_of b) (second_of b) P
  unfolding sheet_answer_of
  sheet_judged = rw sheet_passed
      (sym (optional_judged (limit_of (grid_of b)) (vertices_of b) (known_of b) (second_of b) P
      (sheet_optional b sheet_passed)))

pub redrawn_sheets : RedrawnSheets
redrawn_sheets b c r P P' p first second =
    ap number_of judged'
    ∙ redrawn_verdicts (vertices_of b) (vertices_of c) r.outline (limit_of (grid_of b)) (limit_of (grid_of c))
    (known_of b) (second_of b) (known_of c) (second_of c) P P' (record {
      reference = r.known;
      query = p;
      first = subst (λ a. number_of a ≤ 3) judged first;
      second = subst (λ a. number_of a ≤ 3) judged' second;
    })
    ∙ sym (ap number_of judged)
  where
    judged : sheet_answer_of b P ≡ optional_answer_of (limit_of (grid_of b)) (vertices_of b) (known_of b) (second_of b) P
    judged = sheet_judged b P first

    judged' : sheet_answer_of c P' ≡ optional_answer_of (limit_of (grid_of c)) (vertices_of c) (known_of c) (second_of c) P'
    judged' = sheet_judged c P' second

-- ---- results are what the single calls answer
pub agreeing : (b c : List ℕ) → SheetsAgree b c → FeedsAgree b c
agreeing b c agree queries queries' buffer buffer' done done' = record {
  each = λ i h h' same first second.
      let said = ((sheet_feed_equals_single b queries buffer done).each i h).number in
      let said' = ((sheet_feed_equals_single c queries' buffer' done').each i h').number in
      said'
      ∙ agree (query_at queries i) (query_at queries' i) same (subst (λ n. n ≤ 3) said first)
      (subst (λ n. n ≤ 3) said' second)
      ∙ sym said;
}

pub redrawn_feeds : RedrawnFeeds
redrawn_feeds b c r = agreeing b c (redrawn_sheets b c r)
