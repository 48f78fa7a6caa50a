use Rattle.std.proofs.Common.{◌+◌, arith, refl, sym}
use Rattle.hj_query.proofs.Lists.{not_last, stepped, tokens_fit}
use Rattle.hj_query.proofs.cursor.Cursor.skip.Goals as goal

pub overflow_add-self : goal.overflow_add-self
overflow_add-self c =
    omega (arith, not_last c.self.inside.text.now c.self.inside.tokens.now c.self.inside.at c.args.self.now (sym c.self.view_is) c.self.invariant.0 c.requires, tokens_fit c.self.inside.text.now 0 c.self.inside.tokens.now c.self.invariant.1)

pub invariant_of-self : goal.invariant_of-self
invariant_of-self c =
    (omega (arith, not_last c.self.inside.text.now c.self.inside.tokens.now c.self.inside.at c.args.self.now (sym c.self.view_is) c.self.invariant.0 c.requires), c.self.invariant.1)

pub returns-clause-behind : goal.returns-clause-behind
returns-clause-behind c =
    stepped c.self.inside.text.now c.self.inside.tokens.now c.self.inside.at (c.self.inside.at + 1) c.args.self.now refl (sym c.self.view_is)
