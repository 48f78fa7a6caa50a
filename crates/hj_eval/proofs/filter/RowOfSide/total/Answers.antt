use Rattle.std.proofs.Common.{◌≡◌, ◌+◌, None, arith, rules, to_z, of_z}
use Rattle.std.proofs.lemmas.Int.{to_z-of_z}
use Rattle.std.specs.Prelude.{FitsSigned}
use Rattle.std.specs.Int.{w128}
use Rattle.hj_eval.specs.Filter.{number_of}
use Rattle.hj_eval.proofs.Filtering.{first_missing, next_number, none_within, part_missing}
use Rattle.hj_eval.proofs.filter.RowOfSide.total.Goals as goal

pub returns-in_err-number : goal.returns-in_err-number
returns-in_err-number c =
    let none : c.from_residual.result ≡ None = search rules in
    rw none (first_missing (number_of c.args.self.now.side c.args.self.now.row.now c.args.self.now.has_numbers) c.args.sum.now c.in_err-number.ensures)

pub unreachable-requires : goal.unreachable-requires
unreachable-requires c = none_within c.args.sum.now.rest c.loop-at.at c.in_default.ensures (omega arith)

pub returns-in_err-total : goal.returns-in_err-total
returns-in_err-total c =
    let none : c.from_residual-in_err-total.result ≡ None = search rules in
    rw none (
    part_missing (number_of c.args.self.now.side c.args.self.now.row.now c.args.self.now.has_numbers) c.args.sum.now.rest c.loop-at.at c.in-Some.part.now (to_z w128 c.loop-at.total-bits) _ c.in-Some.ensures c.in_err-total.ensures.value
    c.loop-at.invariant.0
    )

pub loop-at-preserved : goal.loop-at-preserved
loop-at-preserved c =
    let fits : FitsSigned w128 c.in_ok-total.total = search rules in
    let same : to_z w128 (of_z w128 c.in_ok-total.total) ≡ c.in_ok-total.total = to_z-of_z w128 c.in_ok-total.total fits in
    rw same (
      next_number (number_of c.args.self.now.side c.args.self.now.row.now c.args.self.now.has_numbers) c.args.sum.now.rest c.loop-at.at c.in-Some.part.now (to_z w128 c.loop-at.total-bits) c.in_ok-total.total _ c.in-Some.ensures
          c.in_ok-total.ensures.value c.loop-at.invariant.0,
      c.in_ok-total.ensures.grows (c.loop-at.at + 1) c.loop-at.invariant.1,
      omega arith,
    )
