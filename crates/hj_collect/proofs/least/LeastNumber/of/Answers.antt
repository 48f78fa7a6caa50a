use Rattle.std.proofs.Common.{◌∷◌, Some, map, take, sym, subst}
use Rattle.hj_msg.specs.Punctuation.{up_to}
use Rattle.hj_collect.specs.declared.reach.Reach.TheVariants.{Nowhere}
use Rattle.hj_collect.specs.Reach.{reached}
use Rattle.hj_collect.proofs.LeastMarks.{Counts, next_behind}
use Rattle.hj_collect.proofs.least.LeastNumber.of.Goals as goal

pub loop-mark-preserved : goal.loop-mark-preserved
loop-mark-preserved c =
    let is = c.with-lowest.ensures _ c.loop-mark.invariant in
    let counts = next_behind reached (Some (up_to c.args.first.0)) c.args.marks.now c.loop-mark.mark-index Nowhere (Some (up_to c.with-lowest.result.no.0)) c.with-lowest.result.holders c.loop-mark-test.true
    (subst (λ mark. Counts (Some (up_to c.with-lowest.result.no.0)) c.with-lowest.result.holders (mark ∷ Some (up_to c.args.first.0) ∷ map reached (take c.loop-mark.mark-index c.args.marks.now))) (sym c.in_ok-number.ensures) (is.mark, is.holders)) in
    record { mark = counts.0; holders = counts.1 }
