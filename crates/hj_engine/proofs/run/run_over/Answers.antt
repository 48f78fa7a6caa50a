use Rattle.std.proofs.Common.{[], Some}
use Rattle.hj_msg.specs.Feed.{event_in}
use Rattle.hj_engine.proofs.Ran.{ran}
use Rattle.hj_engine.proofs.run.run_over.Goals as goal

pub returns-clause-runs : goal.returns-clause-runs
returns-clause-runs g c =
    let begun = c.in_ok-chain.ensures.begun in
    ran g.F.Feed.gives g.F.Feed.ready g.F.Feed.state g.D.Drain.takes c.args.query.now c.args.plan.now.chooser c.in_ok-chain.chain c.run_serial-fin.new.self c.args.feed.now c.begun.new.feed c.run_serial-fin.new.feed c.args.drain.now c.run_serial-fin.new.drain
    begun c.run_serial-fin.ensures.join c.run_serial-fin.ensures.goes c.run_serial-fin.result
    (c.run_serial-fin.ensures.runs [] (event_in (Some begun.first)) 0 begun.stands)
