-- What stands before two joins in a row: their queries, and their three open streams.
use Rattle.std.specs.Prelude.{◌≡◌, ◌≢◌, ℕ, List, Ok, Err}
use Rattle.std.specs.declared.option.Option.{Option}
use Rattle.std.specs.declared.result.Result.{Result}
use Rattle.hj_base.specs.declared.outside.Role.{Role}
use Rattle.hj_base.specs.declared.outside.Role.TheVariants as role
use Rattle.hj_base.specs.Counts.{Rose}
use Rattle.hj_base.specs.Outside.{RoleState, ChangesOnly, unbegun, NoneBegun}
use Rattle.hj_notes.specs.declared.note.Note.{Note}
use Rattle.hj_notes.specs.declared.note.Note.TheVariants as why
use Rattle.hj_notes.specs.declared.twice_note.TwiceNote.{TwiceNote}
use Rattle.hj_notes.specs.declared.twice_note.TwiceNote.TheVariants as note
use Rattle.hj_query.specs.QueryParts.{QueryParts}
use Rattle.hj_opening.specs.declared.twice.TwoQueries.{TwoQueries}
use Rattle.hj_opening.specs.Calls.{call}
use Rattle.hj_opening.specs.Opening.{GetsQuery, IsOpened}
use Rattle.hj_opening.specs.Queries.{IsAccepted, IsRefused}
use Rattle.hj_opening.specs.RunTwice.{RunsTwice}
use Rattle.hj_opening.specs.Streams.{IsBegunUnder}
use Rattle.hj_opening.specs.TwoJoins.{AcceptsBoth, IsTwiceRole}
use Rattle.hj_opening.specs.Words.{TwiceNames, named}

-- the note of a second query that wasn't got, by the note that its reading gave
abbrev pub second_note : Note → TwiceNote
second_note (why.BadQuery found) = note.BadSecondQuery found
second_note other = note.Common other

-- The second query, or why there is none.
abbrev pub SecondCause : Result QueryParts TwiceNote → List ℕ → Option (List ℕ) → RoleState → RoleState → Type 0
SecondCause (Ok query) name told before now = IsAccepted query name told before now × (now.faults ≡ before.faults)
SecondCause (Err (note.BadSecondQuery found)) name told before now = IsRefused found name told before now
SecondCause (Err (note.Common (why.Source failed))) name told before now = (failed ≡ role.SecondQuery) × Rose before.faults now.faults
SecondCause (Err (note.Common why.Memory)) name told before now = Unit {0}
SecondCause (Err other) name told before now = ⊥

-- Getting the second query under a name.
pub record GetsSecond (got : Result QueryParts TwiceNote) (name : List ℕ) (under : List ℕ → Option (List ℕ))
    (before now : Role → RoleState) : Type 0 where
  pub cause : SecondCause got name (under name) (before role.SecondQuery) (now role.SecondQuery)
  pub begun : IsBegunUnder name (now role.SecondQuery).phase
  pub others : ChangesOnly role.SecondQuery before now

-- The first query was got from these roles on, and the second one is read under this name behind it.
pub record GoesBehind (first : QueryParts) (name : List ℕ) (names : TwiceNames) (under : List ℕ → Option (List ℕ))
    (before : Role → RoleState) (told : List ℕ → Option (List ℕ)) (now : Role → RoleState) : Type 0 where
  pub second : names.second ≡ name
  pub none : NoneBegun before
  pub gets : GetsQuery (Ok first) role.Query (named names.query) under before now
  pub told_as : told name ≡ under name

-- Both queries were accepted and fit; nothing failed, and no other role was begun.
pub record AreBothRead (queries : TwoQueries) (names : TwiceNames) (under : List ℕ → Option (List ℕ))
    (before now : Role → RoleState) : Type 0 where
  pub accepted : AcceptsBoth queries.first queries.second names under before now
  pub unfailed : (of : Role) → (now of).faults ≡ (before of).faults
  pub first_begun : IsBegunUnder names.query (now role.Query).phase
  pub second_begun : IsBegunUnder names.second (now role.SecondQuery).phase
  pub others : (of : Role) → of ≢ role.Query → of ≢ role.SecondQuery → now of ≡ before of

-- The run ends so before its joins, whatever the output is, and nothing is written to it.
abbrev pub EndsTwiceEarly : TwiceNote → TwiceNames → ℕ → (List ℕ → Option (List ℕ)) → (Role → RoleState) → (Role → RoleState)
    → Type 0
EndsTwiceEarly why names limit under before now =
    (told : Option (List ℕ)) (faults : ℕ) → RunsTwice (Err why) names limit (call under before now told told faults faults)

-- Getting both queries.
abbrev pub GetsBoth : Result TwoQueries TwiceNote → TwiceNames → ℕ → (List ℕ → Option (List ℕ)) → (Role → RoleState)
    → (Role → RoleState) → Type 0
GetsBoth (Ok queries) names limit under before now = AreBothRead queries names under before now
GetsBoth (Err why) names limit under before now = EndsTwiceEarly why names limit under before now

-- Both queries were accepted and fit, and all three streams are open; nothing was read of them, and nothing failed.
pub record IsTwiceReady (queries : TwoQueries) (names : TwiceNames) (under : List ℕ → Option (List ℕ))
    (before now : Role → RoleState) : Type 0 where
  pub accepted : AcceptsBoth queries.first queries.second names under before now
  pub unfailed : (of : Role) → (now of).faults ≡ (before of).faults
  pub first_begun : IsBegunUnder names.query (now role.Query).phase
  pub second_begun : IsBegunUnder names.second (now role.SecondQuery).phase
  pub left : IsOpened names.streams.left (under names.streams.left) (before role.Left) (now role.Left)
  pub right : IsOpened names.streams.right (under names.streams.right) (before role.Right) (now role.Right)
  pub third : IsOpened names.third (under names.third) (before role.Third) (now role.Third)
  -- no other role was begun
  pub others : (of : Role) → ¬ (IsTwiceRole of) → (now of).phase ≡ unbegun

-- Getting ready for two joins in a row.
abbrev pub MakesTwiceReady : Result TwoQueries TwiceNote → TwiceNames → ℕ → (List ℕ → Option (List ℕ)) → (Role → RoleState)
    → (Role → RoleState) → Type 0
MakesTwiceReady (Ok queries) names limit under before now = IsTwiceReady queries names under before now
MakesTwiceReady (Err why) names limit under before now = EndsTwiceEarly why names limit under before now
