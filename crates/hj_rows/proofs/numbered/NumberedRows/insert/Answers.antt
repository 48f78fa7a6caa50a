use Rattle.std.proofs.Common.{◌≡◌, ◌≤◌, ◌+◌, ℕ, length, nat_eq, Some, Option, option_map, option_and_then, false, sym, ap, subst, ◌∙◌, arith}
use Rattle.std.specs.Map.{lookup}
use Rattle.indexmap.specs.IndexMap.{get}
use Rattle.hj_rows.specs.Places.{rows_of, is_empty_place}
use Rattle.hj_rows.specs.declared.place.RestingRow.{RestingRow}
use Rattle.hj_rows.proofs.Rows.{row-taken, rows-distinct, rows-inserted}
use Rattle.hj_rows.proofs.InPlace.{inserted-le, put-last}
use Rattle.hj_rows.proofs.PutAgain.{put_again}
use Rattle.hj_rows.proofs.numbered.NumberedRows.insert.Goals as goal

pub returns-then-was_empty : goal.returns-then-was_empty
returns-then-was_empty g c =
    let k = c.args.no in
    let m = c.args.self.now.places in
    let rest : RestingRow g.row.P.Denot = record { row = c.args.row; settled = c.args.settled } in
    let empty = ap is_empty_place (sym c.in-Ok.ensures.old) ∙ sym c.if-was_empty.ensures in
    let again = put_again k rest m c.insert.new.self.entries c.move_last.new.self.places.entries (get nat_eq c.insert.new.self k) empty c.in-Ok.ensures.entries c.in-Ok.ensures.unique c.in-Ok.ensures.updates.1 c.move_last.ensures.moved in
    record {
      replaced = sym again.none;
      rows = again.rows;
      few = omega (arith, again.no_longer);
      appended = λ long. absurd (omega (arith, again.no_longer, long));
      distinct = rows-distinct c.move_last.new.self.places.entries c.move_last.ensures.unique;
    }

pub returns : goal.returns
returns g c =
    let k = c.args.no in
    let es = c.args.self.now.places.entries in
    let rest : RestingRow g.row.P.Denot = record { row = c.args.row; settled = c.args.settled } in
    let full : is_empty_place (lookup (nat_eq k) es) ≡ false = ap is_empty_place (sym c.in-Ok.ensures.old) ∙ sym c.if-was_empty.ensures in
    record {
      replaced =
          c.taken_place.ensures ∙ ap (λ (o : Option (Option (RestingRow g.row.P.Denot))). option_map (λ (rest : RestingRow g.row.P.Denot). rest.row) (option_and_then (λ (place : Option (RestingRow g.row.P.Denot)). place) o)) c.in-Ok.ensures.old
          ∙ sym (row-taken k es full);
      rows = ap rows_of c.in-Ok.ensures.entries ∙ rows-inserted k rest es full;
      few = subst (λ (n : ℕ). n ≤ length es + 1) (sym (ap length c.in-Ok.ensures.entries)) (inserted-le k (Some rest) es);
      appended = λ long. put-last k rest es c.insert.new.self.entries c.in-Ok.ensures.entries long;
      distinct = rows-distinct c.insert.new.self.entries c.insert.ensures.unique;
    }
