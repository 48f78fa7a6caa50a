use Rattle.std.proofs.Common.{◌≡◌}
use Rattle.hj_window.specs.SideRows.{unaged, IsInTime}
use Rattle.std.specs.VecDeque.{deque_len, deque_capacity}
use Rattle.hj_window.proofs.side_rows.pop_aged.Given as goal

abbrev pub invariant-loop-oldest : goal.invariant-loop-oldest
invariant-loop-oldest l = record {
  items : unaged l.window l.now l.rows.items ≡ unaged l.window l.now l.initial.rows.items;
  in_time : IsInTime l.rows.items;
  capacity : deque_capacity l.rows ≡ deque_capacity l.initial.rows;
}

abbrev pub decreases-loop-oldest : goal.decreases-loop-oldest
decreases-loop-oldest l = deque_len l.rows
