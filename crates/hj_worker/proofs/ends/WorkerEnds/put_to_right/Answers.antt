use Rattle.hj_worker.specs.Seen.{journals_of}
use Rattle.hj_worker.proofs.Putting.{second_blocked, report_blocked}
use Rattle.hj_worker.proofs.ends.WorkerEnds.put_to_right.Goals as goal

pub returns-in-Some-put_some-clause-some : goal.returns-in-Some-put_some-clause-some
returns-in-Some-put_some-clause-some g c =
    second_blocked c.args.turn (journals_of c.args.self.now) _ _ c.args.to_right c.args.to_right_then c.args.entry c.in-Some-put_some.message c.in_default.ensures.put.0 c.in-Some-put_some.ensures.back.0 c.in-Some-put_some.ensures.back.1

pub returns-clause-some : goal.returns-clause-some
returns-clause-some g c =
    report_blocked c.args.turn (journals_of c.args.self.now) _ _ _ c.args.to_right c.args.to_right_then c.args.entry c.in_ok-report.report c.in_default.ensures.put.0 c.in_default-put_some.ensures.put.0 c.in_ok-report.ensures.back.0 c.in_ok-report.ensures.back.1
