use Rattle.std.proofs.Common.{◌≤◌, length, sym, subst}
use Rattle.hj_rows.specs.Places.{rows_of}
use Rattle.hj_rows.proofs.Rows.{fewer-rows}
use Rattle.hj_rows.proofs.numbered.NumberedRows.places.Goals as goal

pub returns-clause-enough : goal.returns-clause-enough
returns-clause-enough g c = subst (λ n. length (rows_of c.args.self.now.places.entries) ≤ n) (sym c.len.ensures.len) (fewer-rows c.args.self.now.places.entries)
