use Rattle.std.proofs.Common.{◌≡◌, ℕ, None, Some, Option, Bor, is_some, nat_eq, option_map, sym, ap, ◌∙◌}
use Rattle.std.specs.Map.{lookup}
use Rattle.std.specs.Option.{option_copied}
use Rattle.hj_rows.specs.declared.place.RestingRow.{RestingRow}
use Rattle.hj_rows.proofs.Rows.{entry-absent, row-indexed, row_of, no-some}
use Rattle.hj_rows.proofs.numbered.NumberedRows.get.Goals as goal

pub returns-in_err-at : goal.returns-in_err-at
returns-in_err-at g c =
    let absent : lookup (nat_eq c.args.no) c.args.self.now.places.entries ≡ None = no-some _ (sym c.get_index_of.ensures.found ∙ ap is_some c.in_err-at.was) in
    ap (option_map _) c.from_residual.ensures ∙ sym (entry-absent c.args.no c.args.self.now.places.entries absent)

shown : {P : Type 0} (k : ℕ) (found : Option (Bor (RestingRow P))) (place : Option (RestingRow P)) → option_copied found ≡ place
    → option_map (λ (rest : Bor (RestingRow P)). row_of k rest.now) found ≡ option_map (row_of k) place
shown k None place e = ap (option_map (row_of k)) e
shown k (Some rest) place e = ap (option_map (row_of k)) e

pub returns : goal.returns
returns g c =
    shown c.args.no c.as_ref.result c.in_ok-place.place.now c.as_ref.ensures.value
    ∙ sym (row-indexed c.args.no c.in_ok-at.at c.args.self.now.places.entries c.get_index_of.ensures.unique c.in_ok-at.ensures.value (c.in_ok-place.field-0-0.now, c.in_ok-place.place.now) (sym c.in_ok-place.ensures.entry))
