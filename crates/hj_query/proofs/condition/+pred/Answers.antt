use Rattle.std.proofs.Common.{arith, refl, rules, sym, ◌∙◌}
use Rattle.std.proofs.lemmas.Result.{err_from_is_err_and, MatchResult-weaker}
use Rattle.hj_query.specs.Faults.{deep_not, deep_parens, first_conj, first_unary, in_atom, next_conj, next_unary}
use Rattle.hj_query.specs.Grammar.{of_and, of_atom, of_conj, of_or, of_unary}
use Rattle.hj_query.specs.Lexemes.{behind}
use Rattle.hj_query.specs.Sides.{columns_in}
use Rattle.hj_query.proofs.Depths.{not_faults, not_inside, parens_fault, parens_inside, unclosed_fault}
use Rattle.hj_query.proofs.condition.+pred.Goals as goal

pub conj-returns-in_err-left-clause-read : goal.conj-returns-in_err-left-clause-read
conj-returns-in_err-left-clause-read t c =
    let p = err_from_is_err_and c.from_residual.result c.from_residual.ensures.1 in
    rw (p.1, p.2) (λ other. first_unary _ _ _ (c.in_err-left.ensures.read other))

pub conj-conjuncts-init : goal.conj-conjuncts-init
conj-conjuncts-init t c = (of_unary _ _ _ _ c.in_ok-left.ensures.read, c.in_ok-left.ensures.shorter)

pub conj-returns-in_err-right-clause-read : goal.conj-returns-in_err-right-clause-read
conj-returns-in_err-right-clause-read t c =
    let p = err_from_is_err_and c.from_residual-in_err-right.result c.from_residual-in_err-right.ensures.1 in
    rw (p.1, p.2) (λ other. next_unary _ _ _ _ _ _ c.conjuncts.invariant.0 (record { found = sym c.is_word.ensures.is ∙ c.conjuncts-test.true; left = c.skip.ensures.behind }) (c.in_err-right.ensures.read other))

pub conj-conjuncts-preserved : goal.conj-conjuncts-preserved
conj-conjuncts-preserved t c = (
  of_and _ _ _ _ _ _ _ _ c.conjuncts.invariant.0 (record { found = sym c.is_word.ensures.is ∙ c.conjuncts-test.true; left = c.skip.ensures.behind }) c.in_ok-right.ensures.read (search rules),
  omega (arith, c.conjuncts.invariant.1, c.skip.ensures.shorter, c.in_ok-right.ensures.shorter),
)

pub pred-returns-in_err-left-clause-read : goal.pred-returns-in_err-left-clause-read
pred-returns-in_err-left-clause-read t c =
    let p = err_from_is_err_and c.from_residual.result c.from_residual.ensures.1 in
    rw (p.1, p.2) (λ other. first_conj _ _ _ (c.in_err-left.ensures.read other))

pub pred-disjuncts-init : goal.pred-disjuncts-init
pred-disjuncts-init t c = (of_conj _ _ _ _ c.in_ok-left.ensures.read.0, c.in_ok-left.ensures.read.1, c.in_ok-left.ensures.shorter)

pub pred-returns-in_err-right-clause-read : goal.pred-returns-in_err-right-clause-read
pred-returns-in_err-right-clause-read t c =
    let p = err_from_is_err_and c.from_residual-in_err-right.result c.from_residual-in_err-right.ensures.1 in
    rw (p.1, p.2) (λ other. next_conj _ _ _ _ _ _ c.disjuncts.invariant.0 (record { found = sym c.is_word.ensures.is ∙ c.disjuncts-test.true; left = c.skip.ensures.behind }) (c.in_err-right.ensures.read other))

pub pred-disjuncts-preserved : goal.pred-disjuncts-preserved
pred-disjuncts-preserved t c = (
  of_or _ _ _ _ _ _ _ _ c.disjuncts.invariant.0 (record { found = sym c.is_word.ensures.is ∙ c.disjuncts-test.true; left = c.skip.ensures.behind }) c.in_ok-right.ensures.read.0 (search rules),
  c.in_ok-right.ensures.read.1,
  omega (arith, c.disjuncts.invariant.2, c.skip.ensures.shorter, c.in_ok-right.ensures.shorter),
)

pub unary-returns-in_err-inside-clause-read : goal.unary-returns-in_err-inside-clause-read
unary-returns-in_err-inside-clause-read t c =
    let p = err_from_is_err_and c.from_residual.result c.from_residual.ensures.1 in
    rw (p.1, p.2) (λ _. deep_not c.args.depth c.args.cursor.now (behind c.args.cursor.now) _ c.in_err-inside.ensures.0 (record { found = sym c.if-is_word.ensures.is; left = refl }) c.in_err-inside.ensures.1)

pub unary-returns-in_err-inner-clause-read : goal.unary-returns-in_err-inner-clause-read
unary-returns-in_err-inner-clause-read t c =
    let p = err_from_is_err_and c.from_residual-in_err-inner.result c.from_residual-in_err-inner.ensures.1 in
    rw (p.1, p.2) (λ other. not_faults (columns_in c.args.schemas.now) c.args.depth c.in_ok-inside.inside _ _ _ c.in_ok-inside.ensures (record { found = sym c.if-is_word.ensures.is; left = c.skip.ensures.behind }) (c.in_err-inner.ensures.read other))

pub unary-returns-then-is_word-clause-read : goal.unary-returns-then-is_word-clause-read
unary-returns-then-is_word-clause-read t c =
    not_inside (columns_in c.args.schemas.now) c.args.depth c.in_ok-inside.inside _ _ _ c.in_ok-inner.inner _ c.in_ok-inside.ensures (record { found = sym c.if-is_word.ensures.is; left = c.skip.ensures.behind }) c.in_ok-inner.ensures.read c.in_ok-new.ensures.ok

pub unary-returns-in_err-inside-2-clause-read : goal.unary-returns-in_err-inside-2-clause-read
unary-returns-in_err-inside-2-clause-read t c =
    let p = err_from_is_err_and c.from_residual-in_err-inside-2.result c.from_residual-in_err-inside-2.ensures.1 in
    rw (p.1, p.2) (λ _. deep_parens c.args.depth c.args.cursor.now (behind c.args.cursor.now) _ c.in_err-inside-2.ensures.0 (record { found = sym c.if-is_sign.ensures.is; left = refl }) c.in_err-inside-2.ensures.1)

pub unary-returns-in_err-inner-2-clause-read : goal.unary-returns-in_err-inner-2-clause-read
unary-returns-in_err-inner-2-clause-read t c =
    let p = err_from_is_err_and c.from_residual-in_err-inner-2.result c.from_residual-in_err-inner-2.ensures.1 in
    rw (p.1, p.2) (λ other. parens_fault (columns_in c.args.schemas.now) c.args.depth c.in_ok-inside-2.inside _ _ _ c.in_ok-inside-2.ensures (record { found = sym c.if-is_sign.ensures.is; left = c.skip-then-is_sign.ensures.behind }) (c.in_err-inner-2.ensures.read other))

pub unary-returns-in_err-sign-clause-read : goal.unary-returns-in_err-sign-clause-read
unary-returns-in_err-sign-clause-read t c =
    let p = err_from_is_err_and c.from_residual-in_err-sign.result c.from_residual-in_err-sign.ensures.1 in
    rw (p.1, p.2) (λ _. unclosed_fault (columns_in c.args.schemas.now) c.args.depth c.in_ok-inside-2.inside _ _ _ c.in_ok-inner-2.inner _ c.in_ok-inside-2.ensures (record { found = sym c.if-is_sign.ensures.is; left = c.skip-then-is_sign.ensures.behind }) c.in_ok-inner-2.ensures.read.0 c.in_ok-inner-2.ensures.read.1 c.in_err-sign.ensures.read.0 c.in_err-sign.ensures.read.1)

pub unary-returns-then-is_sign-clause-read : goal.unary-returns-then-is_sign-clause-read
unary-returns-then-is_sign-clause-read t c =
    parens_inside (columns_in c.args.schemas.now) c.args.depth c.in_ok-inside-2.inside _ _ _ _ c.in_ok-inner-2.inner c.in_ok-inside-2.ensures (record { found = sym c.if-is_sign.ensures.is; left = c.skip-then-is_sign.ensures.behind }) c.in_ok-inner-2.ensures.read.0 c.in_ok-sign.ensures.read

pub unary-returns-clause-read : goal.unary-returns-clause-read
unary-returns-clause-read t c =
    MatchResult-weaker c.atom.result c.atom.ensures.read
    (λ atom h. of_atom _ _ atom _ h)
    (λ fault h other. in_atom _ _ _ (sym c.if-is_word.ensures.is) (sym c.if-is_sign.ensures.is) (h other))
