-- What `check` writes.
use Rattle.std.specs.Prelude.{ℕ, List, Ok, Err}
use Rattle.std.specs.Io.KnownBytes.{Appends}
use Rattle.std.specs.declared.option.Option.{Option}
use Rattle.std.specs.declared.result.Result.{Result}
use Rattle.hj_base.specs.declared.output.Sent.TheVariants as sent
use Rattle.hj_base.specs.declared.outside.Role.TheVariants as role
use Rattle.hj_base.specs.Output.{CountsFaults, SendsPiece}
use Rattle.hj_base.specs.Journals.{IsPrefix}
use Rattle.hj_notes.specs.declared.note.Note.{Note}
use Rattle.hj_notes.specs.declared.note.Note.TheVariants as note
use Rattle.hj_query.specs.Canonical.{canonical}
use Rattle.hj_query.specs.QueryParts.{QueryParts}
use Rattle.hj_opening.specs.Calls.{Call}
use Rattle.hj_opening.specs.Queries.{IsAccepted}

-- The query under the name was read and accepted, and its canonical text was written.
pub record WritesCanonical (name : List ℕ) (call : Call) : Type 0 where
  pub query : QueryParts
  pub accepted : IsAccepted query name (call.under name) (call.before role.Query) (call.now role.Query)
  pub written : Appends call.old call.new (canonical query)

-- The bytes are a front of the canonical text of the query under the name, which was read and accepted.
pub record BeginsCanonical (grown name : List ℕ) (call : Call) : Type 0 where
  pub query : QueryParts
  pub accepted : IsAccepted query name (call.under name) (call.before role.Query) (call.now role.Query)
  pub begins : IsPrefix grown (canonical query)

-- The canonical text of a query was sent whole; or what begins it, because the sink failed or memory ran out.
abbrev pub SendsCanonical : Result (Unit {0}) Note → QueryParts → (old new : Option (List ℕ)) → (faults_before faults_now : ℕ) → Type 0
SendsCanonical (Ok done) query old new before now = SendsPiece sent.Whole (canonical query) old new × CountsFaults sent.Whole before now
SendsCanonical (Err note.Sink) query old new before now = SendsPiece sent.Failed (canonical query) old new × CountsFaults sent.Failed before now
SendsCanonical (Err note.Memory) query old new before now = SendsPiece sent.Memory (canonical query) old new × CountsFaults sent.Memory before now
SendsCanonical (Err other) query old new before now = ⊥
