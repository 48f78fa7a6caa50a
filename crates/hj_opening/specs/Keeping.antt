-- What the commands promise alike.
use Rattle.std.specs.Prelude.{◌≡◌, ◌≢◌, ◌⊎◌, ℕ, List, []}
use Rattle.std.specs.Io.KnownBytes.{Appends}
use Rattle.hj_base.specs.declared.outside.Role.{Role}
use Rattle.hj_base.specs.declared.outside.Role.TheVariants as role
use Rattle.hj_base.specs.Counts.{Rose}
use Rattle.hj_base.specs.Outside.{RoleState, unbegun}
use Rattle.hj_event.specs.Arrivals.{Ending, clean, bad, unread, too_many}
use Rattle.hj_notes.specs.Notes.{memory_note, sink_note}
use Rattle.hj_query.specs.declared.fault.QueryFault.{QueryFault}
use Rattle.hj_opening.specs.Calls.{Call}
use Rattle.hj_opening.specs.Queries.{IsRefused}
use Rattle.hj_opening.specs.Streams.{NoneFails}

-- Why a command ends: by one of its own endings, or because the output failed, or because memory ran out.
pub data EndsCommand (EndsSo : ℕ → List ℕ → Type 0) (status : ℕ) (note : List ℕ) (call : Call) : Type 0 where
  own : EndsSo status note → EndsCommand EndsSo status note call
  failed_sink : status ≡ 5 → note ≡ sink_note → Rose call.faults_before call.faults_now → EndsCommand EndsSo status note call
  memory : status ≡ 6 → note ≡ memory_note → EndsCommand EndsSo status note call

-- A command with these endings, with these beginnings of its text, and with these roles.
pub record KeepsPromise (EndsSo : ℕ → List ℕ → Type 0) (IsFront : List ℕ → Type 0) (Reads : Role → Type 0)
    (status : ℕ) (note : List ℕ) (call : Call) : Type 0 where
  -- The status and the note have a cause.
  pub ends : EndsCommand EndsSo status note call
  -- Whatever the status, nothing was written, or a front of the text.
  pub grown : List ℕ
  pub written : Appends call.old call.new grown
  pub front : (grown ≡ []) ⊎ IsFront grown
  -- No other role is begun.
  pub others : (of : Role) → ¬ (Reads of) → (call.now of).phase ≡ unbegun
  -- A fault of the sink is told as such.
  pub sink : status ≢ 5 → call.faults_now ≡ call.faults_before

-- No role but the query's is begun.
abbrev pub IsQueryAlone : (Role → RoleState) → Type 0
IsQueryAlone now = (of : Role) → of ≢ role.Query → (now of).phase ≡ unbegun

-- Nothing failed: no role's count of faults rose, and that of the sink didn't.
pub record NothingFails (call : Call) : Type 0 where
  pub roles : NoneFails call.before call.now
  pub sink : ¬ (Rose call.faults_before call.faults_now)

-- The text of the query under this name was read and has this first fault. No other role was begun, and nothing written.
pub record RefusesQuery (found : QueryFault) (name : List ℕ) (call : Call) : Type 0 where
  pub refused : IsRefused found name (call.under name) (call.before role.Query) (call.now role.Query)
  pub alone : IsQueryAlone call.now
  pub nothing : Appends call.old call.new []

-- the status of a call whose events end so
abbrev pub status_of_ending : Ending → ℕ
status_of_ending clean = 0
status_of_ending (bad side at found) = 3
status_of_ending (unread side) = 4
status_of_ending too_many = 7
