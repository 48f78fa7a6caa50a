use Rattle.std.proofs.Common.{◌≡◌, ◌+◌, arith, rules, to_z, of_z}
use Rattle.std.proofs.lemmas.Int.{to_z-of_z}
use Rattle.std.specs.Prelude.{FitsSigned}
use Rattle.std.specs.Int.{w128}
use Rattle.hj_eval.specs.Values.{value_in}
use Rattle.hj_eval.proofs.Totals.{missing_part, next_part}
use Rattle.hj_eval.proofs.row_pair.total.Goals as goal

pub returns-in_err-total : goal.returns-in_err-total
returns-in_err-total c =
    let front : to_z w128 (of_z w128 c.args.front) ≡ c.args.front = to_z-of_z w128 c.args.front c.ranges.front in
    rw c.from_residual.ensures (missing_part (value_in c.args.rows.now) c.args.rest.now c.loop-at.at c.in-Some.part.now (to_z w128 c.loop-at.total-bits) _ c.in-Some.ensures c.in_err-total.ensures.value
    (rw front at c.loop-at.invariant.0))

pub loop-at-preserved : goal.loop-at-preserved
loop-at-preserved c =
    let fits : FitsSigned w128 c.in_ok-total.total = search rules in
    let same : to_z w128 (of_z w128 c.in_ok-total.total) ≡ c.in_ok-total.total = to_z-of_z w128 c.in_ok-total.total fits in
    rw same (
      next_part (value_in c.args.rows.now) c.args.rest.now c.loop-at.at c.in-Some.part.now (to_z w128 c.loop-at.total-bits) c.in_ok-total.total _ c.in-Some.ensures c.in_ok-total.ensures.value c.loop-at.invariant.0,
      c.in_ok-total.ensures.grows (c.loop-at.at + 1) c.loop-at.invariant.1,
      omega arith,
    )
