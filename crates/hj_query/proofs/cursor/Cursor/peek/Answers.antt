use Rattle.std.proofs.Common.{◌∷◌, ap, sym, ◌∙◌}
use Rattle.hj_query.specs.Lexemes.{behind, lexeme}
use Rattle.hj_query.proofs.Lists.{peek_end, peek_token, suits, token_at}
use Rattle.hj_query.proofs.cursor.Cursor.peek.Goals as goal

pub bytes_of-requires-clause-black : goal.bytes_of-requires-clause-black
bytes_of-requires-clause-black c = (token_at _ 0 _ _ _ c.self.invariant.1 c.in-Some.ensures).0

pub bytes_of-requires-clause-inside : goal.bytes_of-requires-clause-inside
bytes_of-requires-clause-inside c = (token_at _ 0 _ _ _ c.self.invariant.1 c.in-Some.ensures).1

pub returns-in-Some-clause-next : goal.returns-in-Some-clause-next
returns-in-Some-clause-next c =
    peek_token c.self.inside.text.now c.self.inside.tokens.now c.self.inside.at c.in-Some.token.now c.args.self.now (sym c.self.view_is) c.in-Some.ensures
    ∙ ap (λ bytes. lexeme c.in-Some.token.now.from c.in-Some.token.now.kind bytes ∷ behind c.args.self.now) (sym c.bytes_of.ensures)

pub returns-in-Some-clause-suits : goal.returns-in-Some-clause-suits
returns-in-Some-clause-suits c = rw c.bytes_of.ensures (suits _ _ _ (token_at c.self.inside.text.now 0 c.self.inside.tokens.now c.self.inside.at c.in-Some.token.now c.self.invariant.1 c.in-Some.ensures).2)

pub returns-in-None-clause-next : goal.returns-in-None-clause-next
returns-in-None-clause-next c =
    peek_end c.self.inside.text.now c.self.inside.tokens.now c.self.inside.at c.args.self.now (sym c.self.view_is) c.self.invariant.0 c.in-None.ensures
