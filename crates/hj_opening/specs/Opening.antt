-- What the parts of a run do to the roles: opening a stream, and reading a query.
use Rattle.std.specs.Prelude.{◌≡◌, ◌⊎◌, ℕ, ◌+◌, List, false, length, Ok, Err}
use Rattle.std.specs.Io.KnownBytes.{Consumes, IsAtEnd}
use Rattle.std.specs.declared.option.Option.{Option}
use Rattle.std.specs.declared.result.Result.{Result}
use Rattle.std.specs.declared.vec.Vec.{Vec}
use Rattle.std.specs.declared.alloc.Global.{Global}
use Rattle.hj_base.specs.declared.outside.Role.{Role}
use Rattle.hj_base.specs.declared.outside.Role.TheVariants as role
use Rattle.hj_base.specs.Counts.{Rose}
use Rattle.hj_base.specs.Outside.{RoleState, ChangesOnly, at_end, opened, refused}
use Rattle.hj_query.specs.declared.fault.QueryFault.{QueryFault}
use Rattle.hj_query.specs.declared.fault.QueryFault.TheVariants as fault
use Rattle.hj_query.specs.QueryParts.{QueryParts}
use Rattle.hj_query.specs.Texts.{most_bytes, IsFirstQueryFault, Spells}
use Rattle.hj_notes.specs.declared.note.Note.{Note}
use Rattle.hj_notes.specs.declared.note.Note.TheVariants as note
use Rattle.hj_opening.specs.Queries.{IsQueryOf, IsRefused}
use Rattle.hj_opening.specs.Serve.{BeginsSource}
use Rattle.hj_opening.specs.Words.{Names, QuerySource, named}

-- A role is open under a name, with the bytes that are told to stand under it, and didn't fail.
pub record IsOpened (name : List ℕ) (told : Option (List ℕ)) (before now : RoleState) : Type 0 where
  pub phase : now.phase ≡ opened name false
  pub left : now.left ≡ told
  pub faults : now.faults ≡ before.faults

-- Its start failed.
pub record IsRefusedStart (name : List ℕ) (before now : RoleState) : Type 0 where
  pub phase : now.phase ≡ refused name
  pub fails : Rose before.faults now.faults

-- Opening a role under a name.
abbrev pub Opens : Result (Unit {0}) Note → Role → List ℕ → Option (List ℕ) → RoleState → RoleState → Type 0
Opens (Ok done) of name told before now = IsOpened name told before now
Opens (Err (note.Source failed)) of name told before now = (failed ≡ of) × IsRefusedStart name before now
Opens (Err note.Memory) of name told before now = now ≡ before
Opens (Err other) of name told before now = ⊥

-- These bytes of an open role came, and then its end.
pub record ReadsToEnd (bytes : List ℕ) (before now : RoleState) : Type 0 where
  pub came : Consumes before.left now.left bytes
  pub phase : now.phase ≡ at_end before.phase
  pub nothing_left : IsAtEnd now.left
  pub faults : now.faults ≡ before.faults

-- One byte more came than the longest text has.
pub record IsReadPast (bytes : List ℕ) (before now : RoleState) : Type 0 where
  pub size : length bytes ≡ most_bytes + 1
  pub came : Consumes before.left now.left bytes
  pub phase : now.phase ≡ before.phase
  pub faults : now.faults ≡ before.faults

-- Reading the text of an open role, as far as it can be that of a query.
abbrev pub ReadsText : Result (Vec ℕ Global) Note → Role → RoleState → RoleState → Type 0
ReadsText (Ok text) of before now = ReadsToEnd text.items before now ⊎ IsReadPast text.items before now
ReadsText (Err (note.Source failed)) of before now = (failed ≡ of) × (now.phase ≡ before.phase) × Rose before.faults now.faults
ReadsText (Err note.Memory) of before now = now.phase ≡ before.phase
ReadsText (Err other) of before now = ⊥

-- The note of a fault: that memory ran out is no fault of the text.
abbrev pub refusal_of : QueryFault → Note
refusal_of fault.Memory = note.Memory
refusal_of found = note.BadQuery found

-- The query that a text spells, or the text's first fault.
abbrev pub Parses : Result QueryParts Note → List ℕ → Type 0
Parses (Ok query) text = Spells text query
Parses (Err (note.BadQuery found)) text = IsFirstQueryFault text found
Parses (Err note.Memory) text = Unit {0}
Parses (Err other) text = ⊥

-- The query of a join, which is read for this role, or why there is none.
abbrev pub QueryCause : Result QueryParts Note → Role → QuerySource → (List ℕ → Option (List ℕ)) → RoleState → RoleState → Type 0
QueryCause (Ok query) of source under before now = IsQueryOf source query under before now × (now.faults ≡ before.faults)
QueryCause (Err (note.BadQuery found)) of source under before now =
    (name : List ℕ) × (source ≡ named name) × IsRefused found name (under name) before now
QueryCause (Err (note.Source failed)) of source under before now =
    (name : List ℕ) × (source ≡ named name) × (failed ≡ of) × Rose before.faults now.faults
QueryCause (Err note.Memory) of source under before now = Unit {0}
QueryCause (Err other) of source under before now = ⊥

-- Both streams of a join are open, each under its name, and nothing was read of them.
pub record AreOpened (names : Names) (under : List ℕ → Option (List ℕ)) (before now : Role → RoleState) : Type 0 where
  pub of_left : IsOpened names.left (under names.left) (before role.Left) (now role.Left)
  pub of_right : IsOpened names.right (under names.right) (before role.Right) (now role.Right)

-- Getting the query of a join, which is read for this role.
pub record GetsQuery (got : Result QueryParts Note) (of : Role) (source : QuerySource) (under : List ℕ → Option (List ℕ))
    (before now : Role → RoleState) : Type 0 where
  pub cause : QueryCause got of source under (before of) (now of)
  pub begun : BeginsSource source (now of).phase
  pub others : ChangesOnly of before now
