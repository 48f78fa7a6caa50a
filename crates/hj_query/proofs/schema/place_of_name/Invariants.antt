use Rattle.std.proofs.Common.{◌≡◌, ◌-◌, ◌≤◌, length, drop}
use Rattle.std.specs.List.{position_from}
use Rattle.std.specs.Str.{bytes_eq}
use Rattle.hj_query.specs.Grammar.{place_of_name}
use Rattle.hj_query.proofs.schema.place_of_name.Given as goal

abbrev pub invariant-columns : goal.invariant-columns
invariant-columns l = (position_from (λ column. bytes_eq column.name l.name) l.at (drop l.at l.columns) ≡ place_of_name l.name l.columns) × (l.at ≤ length l.columns)

abbrev pub decreases-columns : goal.decreases-columns
decreases-columns l = length l.columns - l.at
