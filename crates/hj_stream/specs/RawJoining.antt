-- A join whose pairs are written as they are met, with marks between them.
use Rattle.std.specs.Prelude.{ℕ, List, length}
use Rattle.std.specs.declared.option.Option.{Option}
use Rattle.hj_base.specs.declared.outside.Role.{Role}
use Rattle.hj_base.specs.Outside.{RoleState}
use Rattle.hj_query.specs.QueryParts.{QueryParts}
use Rattle.hj_record.specs.Pieces.{Stream}
use Rattle.hj_event.specs.Events.{events_of}
use Rattle.hj_stream.specs.declared.outcome.Outcome.{Outcome}
use Rattle.hj_stream.specs.Joining.{JoinsTo}
use Rattle.hj_stream.specs.JoinText.{JoinResult}

-- The join of two streams that writes this text: how their events end, and how many they are.
abbrev pub result_with : List ℕ → QueryParts → Stream → Stream → ℕ → JoinResult
result_with text query left right limit =
    let all = events_of query left right limit in
    record { text = text; ending = all.ending; events = length all.events }

-- A join that writes a text which isn't told by its streams alone.
pub record JoinsRaw (ended : Outcome) (query : QueryParts) (limit : ℕ) (before now : Role → RoleState)
    (old new : Option (List ℕ)) : Type 0 where
  pub text : List ℕ
  pub joins : JoinsTo (result_with text) ended query limit before now old new
