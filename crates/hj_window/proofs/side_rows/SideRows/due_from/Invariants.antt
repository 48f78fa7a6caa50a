use Rattle.std.proofs.Common.{◌≡◌, drop}
use Rattle.hj_window.specs.SideRows.{aged}
use Rattle.hj_window.proofs.side_rows.SideRows.due_from.Given as goal

abbrev pub invariant-loop-at : goal.invariant-loop-at
invariant-loop-at l =
    aged l.self-inside.window l.now (drop l.from l.self-inside.rows.items) ≡ aged l.self-inside.window l.now (drop l.at l.self-inside.rows.items)
