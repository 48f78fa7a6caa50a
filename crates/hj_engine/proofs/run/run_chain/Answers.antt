use Rattle.hj_eval.specs.Holds.{holds}
use Rattle.hj_engine.proofs.Ran.{nothing_ran}
use Rattle.hj_engine.proofs.run.run_chain.Goals as goal

pub returns-in-Err : goal.returns-in-Err
returns-in-Err g c =
    nothing_ran g.F.Feed.gives g.F.Feed.state g.D.Drain.takes (holds c.args.query.now) c.args.feed.now c.run_planned.new.feed c.args.drain.now c.run_planned.new.drain
    c.in-Err.ensures.refused.0 c.in-Err.ensures.refused.1
