use Rattle.std.proofs.Common.{◌≡◌, length}
use Rattle.hj_crew.proofs.making.make_signals.Given as goal

abbrev pub invariant-loop-team : goal.invariant-loop-team
invariant-loop-team l = length l.signals.items ≡ l._team
