use Rattle.hj_verify.proofs.Beginning.{no_run}
use Rattle.hj_verify.proofs.checker.check_run.Goals as goal

pub returns-in-Err-clause-checks : goal.returns-in-Err-clause-checks
returns-in-Err-clause-checks g c = no_run {O = g.row.O.Denot} {outside = g.O.Outside} c.args.query.now c.args.size.cores c.args.size.flight c.requires.unasked.0 c.args.feed.now c.requires.unasked.1
