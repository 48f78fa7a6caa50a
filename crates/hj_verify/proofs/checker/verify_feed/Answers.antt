use Rattle.hj_verify.specs.Checked.{feeding}
use Rattle.hj_verify.proofs.Beginning.{begun}
use Rattle.hj_verify.proofs.Verified.{verified_all, verified_wrong}
use Rattle.hj_verify.proofs.checker.verify_feed.Goals as goal

pub judge_ended-requires : goal.judge_ended-requires
judge_ended-requires g c = c.in-Ok.ensures.checks.checks.ended

pub returns-in-Ok-clause-verifies : goal.returns-in-Ok-clause-verifies
returns-in-Ok-clause-verifies g c = λ limit unasked.
    let run = c.in-Ok.ensures.checks in
    verified_all c.args.query.now c.args.size.cores c.args.size.flight limit (feeding c.args.feed.now) (feeding c.check_run.new.feed) (begun {O = g.row.O.Denot} {outside = g.O.Outside} c.args.query.now c.args.size.cores c.args.size.flight limit c.args.feed.now unasked) c.requires.trace c.requires.output run.trace run.output c.args.size.some_cores c.args.size.few_cores run.checks c.judge_ended.result c.judge_ended.ensures

pub returns-in-Err-clause-verifies : goal.returns-in-Err-clause-verifies
returns-in-Err-clause-verifies g c = λ limit unasked.
    let run = c.in-Err.ensures.checks in
    verified_wrong c.args.query.now c.args.size.cores c.args.size.flight limit (feeding c.args.feed.now) (feeding c.check_run.new.feed) (begun {O = g.row.O.Denot} {outside = g.O.Outside} c.args.query.now c.args.size.cores c.args.size.flight limit c.args.feed.now unasked) c.requires.trace c.requires.output run.trace run.output c.in-Err.verdict run.checks
