use Rattle.std.proofs.Common.{length}
use Rattle.hj_msg.specs.declared.drain.Drained.TheVariants.{Kept}
use Rattle.hj_desk.specs.Outlet.{GivesDue}
use Rattle.hj_desk.specs.RawOutlet.{GivesRaw}
use Rattle.hj_desk.proofs.raw.RawOutletOutlet.release.Given as goal

-- what was given so far was kept
abbrev pub invariant-loop-item : goal.invariant-loop-item
invariant-loop-item g l = GivesDue (GivesRaw g.D.RawDrain.takes) l.fn._collector Kept l.fn.self l.self

abbrev pub decreases-loop-item : goal.decreases-loop-item
decreases-loop-item g l = length l.self.items.items
