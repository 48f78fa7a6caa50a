use Rattle.std.proofs.Common.{◌≤◌, length, arith}
use Rattle.hj_engine.proofs.Beginning.{all_begun}
use Rattle.hj_engine.proofs.run.begun.Goals as goal

pub returns-clause-begun : goal.returns-clause-begun
returns-clause-begun g c =
    let some : 1 ≤ length c.args.stores.left.items = omega (arith, c.requires.stores.left.count, c.args.size.some_cores) in
    all_begun g.F.Feed.gives c.args.query.now c.new-join.result (length c.args.stores.left.items) c.args.size.flight c.new.result c.args.feed.now c.new.new.feed some c.new-join.ensures c.new.ensures.begins
