use Rattle.std.proofs.Common.{◌≡◌, drop, take}
use Rattle.hj_relay.specs.Fits.{kinds}
use Rattle.hj_relay.proofs.shape.are_at.Given as goal

abbrev pub invariant-loop-at : goal.invariant-loop-at
invariant-loop-at l = take l.at (drop l.from (kinds l.read.columns)) ≡ take l.at (kinds l.others)
