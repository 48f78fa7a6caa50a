use Rattle.std.proofs.Common.{◌≡◌, [], All, length}
use Rattle.hj_rows.specs.ListStore.{resting_rows}
use Rattle.hj_chain_tests.proofs.rows.stores.Given as goal

abbrev pub invariant-loop-core : goal.invariant-loop-core
invariant-loop-core l = record {
  many : length l.stores.items ≡ l._core;
  empty : All (λ store. resting_rows store ≡ []) l.stores.items;
}
