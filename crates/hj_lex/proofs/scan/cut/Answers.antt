use Rattle.std.proofs.Common.{List, arith, sym, subst}
use Rattle.std.proofs.lemmas.Result.{err_from_is_err_and}
use Rattle.hj_lex.specs.declared.token.Token.{Token}
use Rattle.hj_lex.proofs.Cutting.{CutsSoFar, begin, go_on, finish, fails}
use Rattle.hj_lex.proofs.scan.cut.Goals as goal

pub loop-at-init : goal.loop-at-init
loop-at-init c =
    let at = c.blanks_end-at.result in
    let blank = c.blanks_end-at.ensures.blank in
    record {
      within = blank.1;
      black = c.blanks_end-at.ensures.longest;
      so_far = subst (λ (list : List Token). CutsSoFar c.args.text.now list at) (sym c.new-tokens.ensures) (begin c.args.text.now at blank);
    }

pub loop-at-preserved : goal.loop-at-preserved
loop-at-preserved c =
    let next = c.blanks_end-at-in-loop-at.result in
    let blank = c.blanks_end-at-in-loop-at.ensures.blank in
    let token = c.in_ok-token.token in
    record {
      within = blank.1;
      black = c.blanks_end-at-in-loop-at.ensures.longest;
      so_far = go_on c.args.text.now c.loop-at.tokens c.push.new.self token c.loop-at.at next c.loop-at.invariant.so_far c.in_ok-token.ensures.0 c.in_ok-token.ensures.1 blank c.in_ok-push.ensures.ok;
    }

pub returns-in_err-token : goal.returns-in_err-token
returns-in_err-token c =
    let p = err_from_is_err_and c.from_residual.result c.from_residual.ensures.1 in
    let w = fails c.args.text.now c.loop-at.tokens c.loop-at.at c.in_err-token.field-0.0 c.loop-at.invariant.so_far c.loop-at.invariant.within c.in_err-token.ensures in
    rw (p.1, p.2) w

pub returns : goal.returns
returns c =
    finish c.args.text.now c.loop-at.tokens c.loop-at.at (omega arith) c.loop-at.invariant.so_far
