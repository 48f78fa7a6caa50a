use Rattle.std.proofs.Common.{◌≡◌, map, ◌++◌}
use Rattle.hj_rows.specs.Places.{partner_of}
use Rattle.hj_rows.proofs.list_store.partners_of.Given as goal

abbrev pub invariant-loop-no : goal.invariant-loop-no
invariant-loop-no g l = l.partners ++ map partner_of l.no-iterator ≡ map partner_of l.initial.no-iterator
