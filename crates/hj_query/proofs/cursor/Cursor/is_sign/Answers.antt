use Rattle.std.proofs.Common.{sym, ◌∙◌}
use Rattle.hj_query.proofs.Lists.{sign_no_end}
use Rattle.hj_query.proofs.cursor.Cursor.is_sign.Goals as goal

pub returns-clause-not_end : goal.returns-clause-not_end
returns-clause-not_end c = λ some found. sign_no_end c.args.sign.now c.args.self.now some (sym c.is.ensures ∙ found)
