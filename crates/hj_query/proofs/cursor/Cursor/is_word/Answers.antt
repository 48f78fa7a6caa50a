use Rattle.std.proofs.Common.{sym, ◌∙◌}
use Rattle.hj_query.proofs.Lists.{word_no_end}
use Rattle.hj_query.proofs.cursor.Cursor.is_word.Goals as goal

pub returns-clause-not_end : goal.returns-clause-not_end
returns-clause-not_end c = λ found. word_no_end c.args.word.now c.args.self.now (sym c.is.ensures ∙ found)
