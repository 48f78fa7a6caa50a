use Rattle.hj_rows.proofs.Rows.{rows-distinct}
use Rattle.hj_rows.proofs.numbered.NumberedRows.reserve.Goals as goal

pub returns-in_err-reserve-clause-distinct : goal.returns-in_err-reserve-clause-distinct
returns-in_err-reserve-clause-distinct g c = rows-distinct c.reserve.new.self.entries c.reserve.ensures.unique

pub returns-clause-distinct : goal.returns-clause-distinct
returns-clause-distinct g c = rows-distinct c.reserve.new.self.entries c.reserve.ensures.unique
