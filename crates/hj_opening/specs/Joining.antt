-- What a call of a join did from its query on: of which streams, up to which ending, and how much of the text it wrote.
use Rattle.std.specs.Prelude.{◌≡◌, ℕ, List, true}
use Rattle.std.specs.declared.option.Option.{Option}
use Rattle.std.specs.Io.KnownBytes.{Appends}
use Rattle.hj_base.specs.declared.outside.Role.{Role}
use Rattle.hj_base.specs.declared.outside.Role.TheVariants as role
use Rattle.hj_base.specs.Outside.{RoleState}
use Rattle.hj_event.specs.Arrivals.{Ending, clean}
use Rattle.hj_stream.specs.declared.outcome.Outcome.{Outcome}
use Rattle.hj_stream.specs.Joining.{JoinsSo}
use Rattle.hj_stream.specs.JoinText.{join_result}
use Rattle.hj_query.specs.QueryParts.{QueryParts}
use Rattle.hj_record.specs.Pieces.{Stream}
use Rattle.hj_opening.specs.Calls.{Call}
use Rattle.hj_opening.specs.Streams.{AreStreams, IsReadToEnd}
use Rattle.hj_opening.specs.Texts.{IsTextFront, IsWholeText, WritesKind}
use Rattle.hj_opening.specs.Words.{Names, TextKind}

-- The events of the streams end so, and a whole text of their join was written.
pub record WritesAll (kind : TextKind) (EndsSo : Ending → Type 0) (query : QueryParts) (limit : ℕ) (names : Names)
    (call : Call) : Type 0 where
  pub left : Stream
  pub right : Stream
  pub streams : AreStreams names call.under call.before call.now left right
  pub ending : EndsSo (join_result query left right limit).ending
  pub text : List ℕ
  pub whole : IsWholeText kind query left right limit text
  pub written : Appends call.old call.new text

-- Both streams were read to their ends, their events end with them, and a whole text of their join was written.
pub record WritesWhole (kind : TextKind) (query : QueryParts) (limit : ℕ) (names : Names) (call : Call) : Type 0 where
  pub left : Stream
  pub right : Stream
  pub streams : AreStreams names call.under call.before call.now left right
  pub left_whole : left.whole ≡ true
  pub right_whole : right.whole ≡ true
  pub left_ended : IsReadToEnd names.left (call.now role.Left)
  pub right_ended : IsReadToEnd names.right (call.now role.Right)
  pub ending : (join_result query left right limit).ending ≡ clean
  pub text : List ℕ
  pub whole : IsWholeText kind query left right limit text
  pub written : Appends call.old call.new text

-- These bytes are a front of a text of the join of the streams.
pub record BeginsText (kind : TextKind) (grown : List ℕ) (query : QueryParts) (limit : ℕ) (names : Names) (call : Call) : Type 0 where
  pub left : Stream
  pub right : Stream
  pub streams : AreStreams names call.under call.before call.now left right
  pub begins : IsTextFront kind query left right limit grown

-- A join that writes a text of this kind.
abbrev pub JoinsKind : TextKind → Outcome → QueryParts → ℕ → (Role → RoleState) → (Role → RoleState) → Option (List ℕ) → Option (List ℕ)
    → Type 0
JoinsKind kind ended query limit before now old new = JoinsSo (WritesKind kind) ended query limit before now old new
