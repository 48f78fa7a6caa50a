use Rattle.std.proofs.Common.{◌<◌, Bool, true, false, List, length, ap, arith}
use Rattle.std.proofs.lemmas.Result.{err_from_is_err_and}
use Rattle.hj_query.specs.declared.sum.SignedTerm.{SignedTerm}
use Rattle.hj_query.specs.declared.sum.Sum.{Sum}
use Rattle.hj_query.specs.declared.sum.Term.{Term}
use Rattle.hj_query.specs.Faults.{first_term, next_term}
use Rattle.hj_query.specs.Grammar.{of_part, of_term, part_sign}
use Rattle.hj_query.proofs.Lists.{sign_no_end}
use Rattle.hj_query.proofs.term.sum.Goals as goal

part_some : (plus : Bool) → 0 < length (part_sign plus)
part_some true = omega arith
part_some false = omega arith

abbrev sum_of : Term → List SignedTerm → Sum
sum_of first rest = record { first = first; rest = rest }

pub returns-in_err-first-clause-read : goal.returns-in_err-first-clause-read
returns-in_err-first-clause-read c =
    let p = err_from_is_err_and c.from_residual.result c.from_residual.ensures.1 in
    rw (p.1, p.2) (λ other. first_term (c.in_err-first.ensures.read other))

pub parts-init : goal.parts-init
parts-init c =
    (of_term c.in_ok-first.first _ _ c.in_ok-first.ensures.read (ap (sum_of c.in_ok-first.first) c.new-rest.ensures), c.in_ok-first.ensures.shorter)

pub skip-requires : goal.skip-requires
skip-requires c = sign_no_end (part_sign c.in-Some.plus) c.parts.cursor (part_some c.in-Some.plus) c.in-Some.ensures

pub returns-in_err-term-clause-read : goal.returns-in_err-term-clause-read
returns-in_err-term-clause-read c =
    let p = err_from_is_err_and c.from_residual-in_err-term.result c.from_residual-in_err-term.ensures.1 in
    rw (p.1, p.2) (λ other. next_term _ c.in-Some.plus c.parts.cursor c.skip.new.self c.parts.invariant.0 (record { found = c.in-Some.ensures; left = c.skip.ensures.behind }) (c.in_err-term.ensures.read other))

pub parts-preserved : goal.parts-preserved
parts-preserved c = (
  of_part _ c.in-Some.plus c.in_ok-term.term c.parts.cursor c.skip.new.self _ _ c.parts.invariant.0 (record { found = c.in-Some.ensures; left = c.skip.ensures.behind }) c.in_ok-term.ensures.read
      (ap (sum_of _) c.in_ok-push.ensures.ok),
  omega (arith, c.parts.invariant.1, c.skip.ensures.shorter, c.in_ok-term.ensures.shorter),
)
