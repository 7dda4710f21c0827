-- The boxes beside a polygon, built where it is accepted: for the code alone, no call's statement needs it. Defined, in
-- order: BoxRoom, boxed_after.
use Rattle.std.specs.Prelude.{List, ◌*◌, ◌≤◌, ℤ, length}
use Rattle.std.specs.declared.result.Result.TheVariants.{Ok, Err}
use Rattle.answer.specs.Refusal.{Check}
use Rattle.polygon.specs.Vertices.{vertices_count}
use Rattle.search.specs.Boxes.{run_count, boxes_stored}

-- Numbers enough for the boxes, if the list is not too long.
pub record BoxRoom (vs boxes : List ℤ) : Type 0 where
  pub enough : vertices_count vs ≤ 4096 → run_count (vertices_count vs) * 6 ≤ length boxes

-- What the checks leave in their scratch space: the boxes, if they passed.
abbrev pub boxed_after : Check → List ℤ → List ℤ → List ℤ
boxed_after (Err refusal) vs boxes = boxes
boxed_after (Ok unit) vs boxes = boxes_stored vs (run_count (vertices_count vs)) boxes
