-- What stands before a join: its query, and its two open streams.
use Rattle.std.specs.Prelude.{◌≡◌, ◌⊎◌, ℕ, List, Ok, Err}
use Rattle.std.specs.declared.option.Option.{Option}
use Rattle.std.specs.declared.result.Result.{Result}
use Rattle.hj_base.specs.declared.outside.Role.{Role}
use Rattle.hj_base.specs.declared.outside.Role.TheVariants as role
use Rattle.hj_base.specs.Outside.{RoleState, unbegun}
use Rattle.hj_query.specs.QueryParts.{QueryParts}
use Rattle.hj_notes.specs.declared.note.Note.{Note}
use Rattle.hj_opening.specs.Calls.{call}
use Rattle.hj_notes.specs.NoteText.{status_of}
use Rattle.hj_opening.specs.Opening.{AreOpened}
use Rattle.hj_opening.specs.Queries.{IsQueryOf}
use Rattle.hj_opening.specs.Run.{RunsOrder}
use Rattle.hj_opening.specs.Serve.{AreOpen, BeginsSource, IsJoinRole}
use Rattle.hj_opening.specs.Words.{Names, Order, QuerySource, check_query, check_trace, join_streams, join_twice, sum_up}

-- The query of a join was got, and both its streams are open; nothing was read of them, and nothing failed.
pub record IsReady (query : QueryParts) (source : QuerySource) (names : Names) (under : List ℕ → Option (List ℕ)) (before now : Role → RoleState) : Type 0 where
  pub accepted : IsQueryOf source query under (before role.Query) (now role.Query)
  pub unfailed : (of : Role) → (now of).faults ≡ (before of).faults
  pub begun : BeginsSource source (now role.Query).phase
  pub opened : AreOpened names under before now
  -- no other role was begun
  pub others : (of : Role) → ¬ (IsJoinRole source of) → (now of).phase ≡ unbegun

-- An order ends with this note before anything is joined, whatever the output is, and nothing is written to it.
pub record EndsEarly (note : Note) (order : Order) (under : List ℕ → Option (List ℕ)) (before now : Role → RoleState) : Type 0 where
  pub runs : (told : Option (List ℕ)) (faults : ℕ) → RunsOrder (Err note) order (call under before now told told faults faults)
  pub early : (status_of note ≡ 2) ⊎ (status_of note ≡ 6) ⊎ ((status_of note ≡ 4) × ¬ (AreOpen now))
  -- and where the query is refused, nothing failed
  pub unfailed : status_of note ≡ 2 → (of : Role) → (now of).faults ≡ (before of).faults

abbrev pub MakesReady : Result QueryParts Note → Order → (List ℕ → Option (List ℕ)) → (Role → RoleState) → (Role → RoleState) → Type 0
MakesReady (Ok query) (join_streams kind source names limit) under before now = IsReady query source names under before now
MakesReady (Ok query) (check_trace chain name names limit) under before now = ⊥
MakesReady (Ok query) (check_query name) under before now = ⊥
MakesReady (Ok query) (sum_up recipe) under before now = ⊥
MakesReady (Ok query) (join_twice names limit) under before now = ⊥
MakesReady (Err note) order under before now = EndsEarly note order under before now
