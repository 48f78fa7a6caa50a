use Rattle.hj_window.specs.LiveRows.{AllBelow}
use Rattle.hj_part_tests.proofs.windows.events.Given as goal

abbrev pub invariant-loop-side : goal.invariant-loop-side
invariant-loop-side g l = AllBelow l.next l.live.rows
