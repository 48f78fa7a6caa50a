use Rattle.std.proofs.Common.{sym, ◌∙◌}
use Rattle.hj_lex.specs.declared.token.TokenKind.TheVariants as kinds
use Rattle.hj_query.proofs.Lists.{next_has_at}
use Rattle.hj_query.proofs.cursor.Cursor.is_number.Goals as goal

pub returns : goal.returns
returns c = c.is_kind.ensures ∙ sym (next_has_at kinds.Number c.args.self.now _ _ _ c.peek.ensures.next)
