use Rattle.std.proofs.Common.{subst}
use Rattle.hj_query.specs.Grammar.{IsSpelled}
use Rattle.hj_query.proofs.query.Query.pred.Goals as goal

pub returns-clause-readable : goal.returns-clause-readable
returns-clause-readable c = subst IsSpelled c.self.view_is c.self.invariant
