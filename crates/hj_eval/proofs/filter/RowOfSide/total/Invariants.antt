use Rattle.std.proofs.Common.{◌≡◌, ◌+◌, ◌≤◌, Some, drop, length}
use Rattle.hj_eval.specs.Filter.{number_of, total, with_numbers}
use Rattle.hj_eval.specs.Values.{IsTotalOf}
use Rattle.hj_eval.proofs.filter.RowOfSide.total.Given as goal

abbrev pub invariant-loop-at : goal.invariant-loop-at
invariant-loop-at l =
    (with_numbers (number_of l.self.side l.self.row.now l.self.has_numbers) (Some l.total) (drop l.at l.sum.rest) ≡ total (number_of l.self.side l.self.row.now l.self.has_numbers) l.sum)
    × IsTotalOf (l.at + 1) l.total × (l.at ≤ length l.sum.rest)
