use Rattle.std.proofs.Common.{◌≡◌, ◌≤◌, length, take, filter}
use Rattle.hj_chain.specs.Serial.{actors, is_enabled}
use Rattle.hj_chain.proofs.chain.Chain.nth.Given as goal

abbrev pub invariant-loop-place : goal.invariant-loop-place
invariant-loop-place g l = record {
  passed : l.passed ≡ length (filter (is_enabled l.self.state) (take l.place (actors (length l.self.state.cores))));
  within : l.passed ≤ l.at;
}
