use Rattle.hj_verify.proofs.Made.{fails_given_up, given_up_going}
use Rattle.hj_verify.proofs.line.given_up.Goals as goal

pub returns-in-Ok : goal.returns-in-Ok
returns-in-Ok g c = given_up_going c.args.feed.now.feed.ended c.in-Ok.ensures

pub returns-in-Err : goal.returns-in-Err
returns-in-Err g c = fails_given_up c.args.feed.now.feed.ended c.in-Err.verdict c.in-Err.ensures
