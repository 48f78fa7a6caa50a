use Rattle.std.proofs.Common.{ap}
use Rattle.hj_chain_tests.specs.TwoRows.{two_rows}
use Rattle.hj_chain_tests.proofs.chains.chain_of.Goals as goal

pub new-requires-clause-fresh : goal.new-requires-clause-fresh
new-requires-clause-fresh g c = ap (two_rows c.args.feed.now.first) c.requires.fresh
