-- `filling::spg_vertices_number` meets its contract.
use mathlib.Core.Path.{sym, ap, ◌∙◌}
use native.Mathlib.Omega.{arith}
use lib.ListN.{length}
use Rattle.fields.proofs.Laws.Parts.{passed_value, refused_value}
use Rattle.sheet.proofs.Laws.Reads.{sheet_five}
use Rattle.spargolutta.specs.Reading.{row_of, fill_check, filled_to}
use Rattle.spargolutta.proofs.Read.{fill_passed, row_length, row_filled}
use Rattle.spargolutta.proofs.filling.spg_vertices_number.Goals as goal

pub vertices_in-requires : goal.vertices_in-requires
vertices_in-requires c =
    let b = c.args.sheet.now in
    let v = passed_value (fill_check b (length c.args.vertices.now)) (sym c.fillable.ensures ∙ c.in-Ok.is) in
    record {
      b_value = (sheet_five b (fill_passed b _ v.0).0, ap (λ o. o.name) v.1);
      count_value = ap (λ o. o.count) v.1;
    }

pub put_bytes-requires : goal.put_bytes-requires
unfolding row_of
put_bytes-requires c =
    let b = c.args.sheet.now in
    let v = passed_value (fill_check b (length c.args.vertices.now)) (sym c.fillable.ensures ∙ c.in-Ok.is) in
    let told = fill_passed b _ v.0 in
    omega (arith, ap length c.vertices_in.ensures, row_length b told.0, told.1)

pub returns-in-Ok : goal.returns-in-Ok
returns-in-Ok c =
    let b = c.args.sheet.now in
    let v = passed_value (fill_check b (length c.args.vertices.now)) (sym c.fillable.ensures ∙ c.in-Ok.is) in
    let e = rw c.vertices_in.ensures at c.put_bytes.ensures in
    record {
      value = rw v.0;
      vertices_after = e ∙ row_filled b c.args.vertices.now v.0;
    }

pub returns-in-Err : goal.returns-in-Err
unfolding filled_to
returns-in-Err c =
    let b = c.args.sheet.now in
    let e = refused_value (fill_check b (length c.args.vertices.now)) _ (sym c.fillable.ensures ∙ c.in-Err.is) in
    record {
      value = rw e c.number.ensures;
      vertices_after = rw e;
    }
