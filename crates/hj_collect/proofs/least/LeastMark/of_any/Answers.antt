use Rattle.hj_collect.specs.declared.reach.Reach.TheVariants.{Nowhere}
use Rattle.hj_collect.specs.Reach.{reached}
use Rattle.hj_collect.proofs.LeastMarks.{next_counts}
use Rattle.hj_collect.proofs.least.LeastMark.of_any.Goals as goal

pub loop-mark-preserved : goal.loop-mark-preserved
loop-mark-preserved c =
    let is = c.with-least.ensures _ c.loop-mark.invariant in
    let counts = next_counts reached c.args.marks.now c.loop-mark.mark-index Nowhere (reached c.with-least.result.mark) c.with-least.result.holders c.loop-mark-test.true (is.mark, is.holders) in
    record { mark = counts.0; holders = counts.1 }
