use Rattle.std.proofs.Common.{rules}
use Rattle.hj_query.proofs.CanonicalSpells.{written_spells}
use Rattle.hj_query.proofs.canonical.print.Goals as goal

pub returns-clause-text : goal.returns-clause-text
returns-clause-text c = search rules

pub returns-clause-again : goal.returns-clause-again
returns-clause-again c = written_spells _ _ (returns-clause-text c) c.pred.ensures.readable
