use Rattle.std.proofs.Common.{◌≡◌, ◌-◌, [], length, take, drop, filter}
use Rattle.hj_chain.specs.Serial.{actors, is_enabled}
use Rattle.hj_chain.proofs.chain.Chain.first_enabled.Given as goal

abbrev pub invariant-loop-place : goal.invariant-loop-place
invariant-loop-place g l = filter (is_enabled l.self.state) (take (l.place - l.from) (drop l.from (actors (length l.self.state.cores)))) ≡ []
