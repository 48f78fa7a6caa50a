use Rattle.std.proofs.Common.{◌≡◌, All, length}
use Rattle.hj_stores.proofs.stores.repeat_with.Given as goal

abbrev pub invariant-loop : goal.invariant-loop
invariant-loop g l = record {
  count : length l.stores.items ≡ l.counter;
  made : All (λ store. goal.M-post g l.make store) l.stores.items;
}
