use Rattle.std.proofs.Common.{◌≡◌, ◌≤◌, drop, length, not}
use Rattle.std.specs.List.{list_all}
use Rattle.hj_query.specs.Grammar.{is_text}
use Rattle.hj_query.specs.Sides.{columns_in}
use Rattle.hj_query.proofs.types.is_int_sum.Given as goal

abbrev pub invariant-loop-at : goal.invariant-loop-at
invariant-loop-at l =
    (list_all (λ part. not (is_text (columns_in l.schemas) part.term)) (drop l.at l.sum.rest) ≡ list_all (λ part. not (is_text (columns_in l.schemas) part.term)) l.sum.rest)
    × (l.at ≤ length l.sum.rest)
