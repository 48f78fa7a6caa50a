use Rattle.hj_verify.proofs.Verified.{verified_none}
use Rattle.hj_verify.proofs.checker.verify.Goals as goal

pub returns-in_default-clause-verifies : goal.returns-in_default-clause-verifies
returns-in_default-clause-verifies g c =
    verified_none c.args.query.now c.args.size.cores c.args.size.flight c.args.limit (g.O.Outside.state c.args.outside.now) c.requires.left c.requires.right c.requires.trace c.requires.output
