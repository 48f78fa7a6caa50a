use Rattle.std.proofs.Common.{◌≡◌, ◌+◌, ◌++◌, length}
use Rattle.std.specs.List.{filter}
use Rattle.hj_window.specs.LiveRows.{is_gone}
use Rattle.hj_window.specs.Numbers.{numbers_of}
use Rattle.hj_window.specs.SideRows.{due_rows}
use Rattle.hj_window.proofs.Finding.{still_due}
use Rattle.hj_window.proofs.live.Live.find_gone.Given as goal

abbrev pub invariant-rows : goal.invariant-rows
invariant-rows l =
    numbers_of (filter (is_gone l.self l.now) l.self.rows) ≡ l.gone ++ numbers_of (still_due l.now l.self-inside.left l.self-inside.right l.left l.right)

abbrev pub decreases-rows : goal.decreases-rows
decreases-rows l =
    length (due_rows l.self-inside.left.window l.now l.self-inside.left.rows l.left)
    + length (due_rows l.self-inside.right.window l.now l.self-inside.right.rows l.right)
