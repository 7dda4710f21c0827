-- What is answered by a book of three octants. Proved, in order: octants_sound, octants_split, octants_answer,
-- octant_book.
use mathlib.Core.Path.{◌≡◌, refl, ◌∙◌}
use mathlib.Core.List.{[], ◌∷◌}
use Prim.Native.Nat.{ℕ, zero, suc, ◌<◌}
use native.Mathlib.Omega.{arith}
use lib.Count.{ones}
use lib.ListN.{length}
use Rattle.sphere.specs.declared.point.Point.{Point}
use Rattle.big_endian.specs.Bytes.{short_at}
use Rattle.std.specs.declared.result.Result.TheVariants.{Ok}
use Rattle.answer.specs.Refusal.{Answer}
use Rattle.fields.specs.Fields.{is_allowed, field_end, field_check, grid_at, has_second_point, is_charset, charset_check, five_fields}
use Rattle.fields.specs.Fields.{second_field, sheet_fields, rest_check, fields_check}
use Rattle.sheet.specs.Claims.{octant_bytes, octant_pair_bytes}
use Rattle.zone.proofs.Octant.{octant_answers}
use Rattle.book.specs.Split.{Whole, split_of}
use Rattle.book.specs.Sets.{mask_of, sets_of, found_of}
use Rattle.book.specs.Which.{zone_answer, which_of}
use Rattle.book.specs.Claims.{zone_at, flat, octant_sheets, farthest, beyond, OctantBook}
use Rattle.book.proofs.Laws.Zones.{zone_named, zone_other}
use Rattle.book.proofs.Bits.{which_split}
use Rattle.book.proofs.Joined.{sheets_make_book}

octants_sound : (i : ℕ) → i < length octant_sheets → fields_check (zone_at octant_sheets i) ≡ Ok tt
unfolding octant_bytes octant_pair_bytes fields_check rest_check sheet_fields second_field five_fields charset_check is_charset
    has_second_point grid_at field_check field_end is_allowed short_at
octants_sound zero h = refl
octants_sound (suc zero) h = refl
octants_sound (suc (suc zero)) h = refl
octants_sound (suc (suc (suc i))) h = absurd (omega arith)

octants_split : split_of (flat octant_sheets) ≡ Whole octant_sheets
octants_split = sheets_make_book octant_sheets (omega arith) octants_sound

octants_answer :
    {a b c : Answer} (grid : ℕ) (query : Point) → zone_answer grid query (octant_bytes 5) ≡ a →
    zone_answer grid query octant_pair_bytes ≡ b → zone_answer grid query (octant_bytes 7) ≡ c →
    which_of (flat octant_sheets) grid query ≡ found_of (sets_of (a ∷ b ∷ c ∷ []))
octants_answer grid query e f g =
    which_split (flat octant_sheets) grid query octants_split ∙ (λ j. found_of (sets_of (e j ∷ f j ∷ g j ∷ [])))

pub octant_book : OctantBook
unfolding octant_bytes octant_pair_bytes grid_at field_end short_at mask_of ones
octant_book = (
  octants_answer 0 farthest (zone_named 0 farthest (octant_bytes 5) refl ∙ octant_answers.0)
      (zone_named 0 farthest octant_pair_bytes refl ∙ octant_answers.1)
      (zone_other 0 farthest (octant_bytes 7) (λ e. omega arith)),
  octants_answer 1 beyond (zone_other 1 beyond (octant_bytes 5) (λ e. omega arith))
      (zone_other 1 beyond octant_pair_bytes (λ e. omega arith))
      (zone_named 1 beyond (octant_bytes 7) refl ∙ octant_answers.3),
  octants_answer 2 beyond (zone_other 2 beyond (octant_bytes 5) (λ e. omega arith))
      (zone_other 2 beyond octant_pair_bytes (λ e. omega arith)) (zone_other 2 beyond (octant_bytes 7) (λ e. omega arith)),
)
