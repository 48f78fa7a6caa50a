-- The run of an order whose chain threads turn.
use Rattle.std.specs.Prelude.{◌≢◌, ◌↔◌, IsSome, IfSome, Some}
use Rattle.hj_serve.specs.declared.ended.OrderEnd.{OrderEnd}
use Rattle.hj_opening.specs.Calls.{Call}
use Rattle.hj_serve.specs.Crew.{CameToJoin, ShowsOrder}
use Rattle.hj_notes.specs.NoteText.{status_of_end}
use Rattle.hj_opening.specs.Run.{RunsOrder}
use Rattle.hj_opening.specs.Words.{ChainShape, Order}

-- The order ran, and the run of the threads is handed back where the join was made; where memory ran out it may be or not.
pub record RunsOnCrew (crew : ChainShape) (ended : OrderEnd) (order : Order) (call : Call) : Type 0 where
  pub runs : RunsOrder ended.end order call
  pub ran : status_of_end ended.end ≢ 6 → (IsSome ended.ran ↔ CameToJoin (Some crew) (status_of_end ended.end) call.now)
  pub shows : IfSome ended.ran (ShowsOrder crew order (status_of_end ended.end) call)
