use Rattle.std.proofs.Common.{Bool, true, false, not, ap, arith, sym, ◌∙◌}
use Rattle.std.specs.List.{list_all}
use Rattle.hj_query.specs.declared.sum.SignedTerm.{SignedTerm}
use Rattle.hj_query.specs.Grammar.{is_text}
use Rattle.hj_query.specs.Sides.{columns_in}
use Rattle.hj_query.proofs.Columns.{all_at, and_right, get_within}
use Rattle.hj_query.proofs.types.is_int_sum.Goals as goal

pub returns-then-is_text-2 : goal.returns-then-is_text-2
returns-then-is_text-2 c =
    let is_int : SignedTerm → Bool = λ part. not (is_text (columns_in c.args.schemas.now) part.term) in
    sym (and_right (not (is_text (columns_in c.args.schemas.now) c.args.sum.now.first)) (list_all is_int c.args.sum.now.rest)
    (sym c.loop-at.invariant.0 ∙ all_at is_int c.args.sum.now.rest c.loop-at.at c.in-Some.part.now false c.in-Some.ensures (ap not (sym c.is_text-in-loop-at.ensures ∙ c.if-is_text-2.true))))

pub loop-at-preserved : goal.loop-at-preserved
loop-at-preserved c =
    let is_int : SignedTerm → Bool = λ part. not (is_text (columns_in c.args.schemas.now) part.term) in (
      sym (all_at is_int c.args.sum.now.rest c.loop-at.at c.in-Some.part.now true c.in-Some.ensures (ap not (sym c.is_text-in-loop-at.ensures ∙ c.if-is_text-2.false))) ∙ c.loop-at.invariant.0,
      (let lt = get_within c.args.sum.now.rest c.loop-at.at c.in-Some.part.now c.in-Some.ensures in omega arith),
    )
