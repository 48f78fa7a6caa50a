use Rattle.std.proofs.Common.{◌≡◌, ◌++◌, drop}
use Rattle.std.specs.List.{flat_map}
use Rattle.hj_query.specs.Canonical.{part_text, sum_text}
use Rattle.hj_query.specs.Grammar.{columns_of}
use Rattle.hj_query.proofs.canonical.terms.push_sum.Given as goal

abbrev pub invariant-loop-at : goal.invariant-loop-at
invariant-loop-at l =
    l.text.items ++ flat_map (part_text (columns_of l.query)) (drop l.at l.sum.rest) ≡ l.fn.text.items ++ sum_text (columns_of l.query) l.sum
