use Rattle.std.proofs.Common.{◌≡◌, All, length}
use Rattle.hj_stores.specs.Stores.{IsNewFor}
use Rattle.hj_stores.proofs.stores.column_stores.Given as goal

abbrev pub invariant-loop : goal.invariant-loop
invariant-loop l = record {
  count : length l.stores.items ≡ l.counter;
  made : All (IsNewFor l.side l.filters) l.stores.items;
}
