use Rattle.std.proofs.Common.{sym}
use Rattle.hj_index.specs.KeyChains.{rows_in}
use Rattle.hj_rows.proofs.Rows.{without-absent}
use Rattle.hj_index.proofs.ChainRows.{row-held}
use Rattle.hj_index.proofs.chains.KeyChains.take.Goals as goal

pub returns-in-Some-clause-held : goal.returns-in-Some-clause-held
returns-in-Some-clause-held c = sym (row-held c.args.no c.in-Some.at c.args.self.now.places.items c.in-Some.ensures)

pub returns-in-None-clause-rows : goal.returns-in-None-clause-rows
returns-in-None-clause-rows c = sym (without-absent c.args.no (rows_in c.args.self.now) c.in-None.ensures)
