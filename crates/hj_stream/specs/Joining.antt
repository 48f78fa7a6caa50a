-- How a join ends, and what it did to the streams and to the sink.
use Rattle.std.specs.Prelude.{◌≡◌, ◌≤◌, ◌&&◌, ℕ, Bool, true, false, List}
use Rattle.std.specs.Io.KnownBytes.{Appends}
use Rattle.std.specs.declared.option.Option.{Option}
use Rattle.hj_base.specs.declared.numbers.Side.{Side}
use Rattle.hj_base.specs.declared.numbers.Side.TheVariants.{Left, Right}
use Rattle.hj_base.specs.declared.outside.Role.{Role}
use Rattle.hj_base.specs.declared.outside.Role.TheVariants as role
use Rattle.hj_base.specs.Counts.{Rose}
use Rattle.hj_base.specs.Outside.{RoleState, ChangesOnlyStreams}
use Rattle.hj_base.specs.Journals.{IsPrefix}
use Rattle.hj_query.specs.QueryParts.{QueryParts}
use Rattle.hj_record.specs.Pieces.{Stream}
use Rattle.hj_event.specs.Arrivals.{clean, bad, unread, too_many}
use Rattle.hj_event.specs.Roles.{IsReadOn}
use Rattle.hj_event.specs.Sides.{in_front, Follows}
use Rattle.hj_stream.specs.declared.outcome.Outcome.{Outcome}
use Rattle.hj_stream.specs.declared.outcome.Outcome.TheVariants as outcome
use Rattle.hj_stream.specs.JoinText.{JoinResult, Line, joined_by, pair_line}

-- the outcome is that a read of this side failed
abbrev pub fails_on : Outcome → Side → Bool
fails_on (outcome.SourceFault role.Left) Left = true
fails_on (outcome.SourceFault role.Right) Right = true
fails_on ended side = false

-- On which sides a read failed: on that of a source fault. A fault of the sink, or that memory ran out, may come after a failed read,
-- and stand for it.
abbrev pub FailsOn : Outcome → Bool → Bool → Type 0
FailsOn outcome.SinkFault left right = (left && right) ≡ false
FailsOn outcome.Memory left right = (left && right) ≡ false
FailsOn ended left right = (left ≡ fails_on ended Left) × (right ≡ fails_on ended Right)

-- What was written, by the outcome: the whole text of events that end so; a prefix of it where the sink failed or memory
-- ran out.
abbrev pub WritesText : Outcome → List ℕ → JoinResult → Type 0
WritesText (outcome.Done events) written joined =
    (written ≡ joined.text) × (joined.ending ≡ clean) × (joined.events ≡ events)
WritesText (outcome.Bad side at found) written joined = (written ≡ joined.text) × (joined.ending ≡ bad side at found)
WritesText (outcome.SourceFault role.Query) written joined = ⊥
WritesText (outcome.SourceFault role.SecondQuery) written joined = ⊥
WritesText (outcome.SourceFault role.Left) written joined = (written ≡ joined.text) × (joined.ending ≡ unread Left)
WritesText (outcome.SourceFault role.Right) written joined = (written ≡ joined.text) × (joined.ending ≡ unread Right)
WritesText (outcome.SourceFault role.Third) written joined = ⊥
WritesText (outcome.SourceFault role.Trace) written joined = ⊥
WritesText (outcome.SourceFault role.Output) written joined = ⊥
WritesText outcome.SinkFault written joined = IsPrefix written joined.text
WritesText outcome.TooMany written joined = (written ≡ joined.text) × (joined.ending ≡ too_many)
WritesText outcome.Memory written joined = IsPrefix written joined.text

-- Both streams were read to their ends where the join is done.
abbrev pub AreEnded : Outcome → Bool → Bool → Type 0
AreEnded (outcome.Done events) left right = (left ≡ true) × (right ≡ true)
AreEnded ended left right = Unit {0}

-- A join of two streams that writes so: these bytes of both streams were read, this text was written, and whatever comes after the
-- bytes, it is what the outcome says. Nothing comes after a read that answered the end, and after a failed one the stream is cut off.
pub record JoinsSo (Writes : Outcome → QueryParts → Stream → Stream → ℕ → List ℕ → Type 0) (ended : Outcome) (query : QueryParts)
    (limit : ℕ)
    (before now : Role → RoleState) (old new : Option (List ℕ)) : Type 0 where
  pub left_bytes : List ℕ
  pub right_bytes : List ℕ
  pub left_failed : Bool
  pub right_failed : Bool
  pub left_ended : Bool
  pub right_ended : Bool
  pub left : IsReadOn left_failed left_bytes false left_ended (before role.Left) (now role.Left)
  pub right : IsReadOn right_failed right_bytes false right_ended (before role.Right) (now role.Right)
  pub failed : FailsOn ended left_failed right_failed
  pub others : ChangesOnlyStreams before now
  pub grown : List ℕ
  pub written : Appends old new grown
  pub text : (l r : Stream) → Follows left_failed left_ended l → Follows right_failed right_ended r
      → Writes ended query (in_front left_bytes l) (in_front right_bytes r) limit grown
  pub ends : AreEnded ended left_ended right_ended

-- A join of two streams that has this result.
abbrev pub JoinsTo : (QueryParts → Stream → Stream → ℕ → JoinResult) → Outcome → QueryParts → ℕ → (Role → RoleState) → (Role → RoleState)
    → Option (List ℕ) → Option (List ℕ) → Type 0
JoinsTo joined ended query limit before now old new =
    JoinsSo (λ how of left right most written. WritesText how written (joined of left right most)) ended query limit before now old new

-- A join that writes a line for each pair.
abbrev pub JoinsBy : Line → Outcome → QueryParts → ℕ → (Role → RoleState) → (Role → RoleState) → Option (List ℕ) → Option (List ℕ) → Type 0
JoinsBy line ended query limit before now old new = JoinsTo (joined_by line) ended query limit before now old new

-- A join that writes the line of each pair as an output has it.
abbrev pub Joins : Outcome → QueryParts → ℕ → (Role → RoleState) → (Role → RoleState) → Option (List ℕ) → Option (List ℕ) → Type 0
Joins ended query limit before now old new = JoinsBy pair_line ended query limit before now old new

-- The sink's count of faults rose where the outcome is its fault, and nowhere else.
abbrev pub CountsSinkFault : Outcome → ℕ → ℕ → Type 0
CountsSinkFault outcome.SinkFault old new = (old ≤ new) × Rose old new
CountsSinkFault ended old new = new ≡ old
