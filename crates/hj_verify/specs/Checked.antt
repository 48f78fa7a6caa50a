-- How far a check of a trace and an output has come, and how it ends where something is wrong.
use Rattle.std.specs.Prelude.{◌≡◌, ◌≢◌, ◌↔◌, ℕ, ◌+◌, ◌*◌, Bool, true, false, List, [], ◌++◌, None, Some, Ok, Err, is_some, length, take}
use Rattle.std.specs.declared.option.Option.{Option}
use Rattle.std.specs.declared.result.Result.{Result}
use Rattle.hj_value.specs.declared.field.Field.{Field}
use Rattle.hj_base.specs.declared.outside.Outside.{Ghosts as OutsideGhosts}
use Rattle.hj_base.specs.declared.outside.Role.{Role}
use Rattle.hj_base.specs.declared.outside.Role.TheVariants as role
use Rattle.hj_base.specs.Outside.{RoleState}
use Rattle.hj_msg.specs.declared.event.Event.{Event}
use Rattle.hj_msg.specs.declared.event.Pair.{Pair}
use Rattle.hj_msg.specs.declared.feed.Given.{Given}
use Rattle.hj_msg.specs.Feed.{FeedState, events_in}
use Rattle.hj_query.specs.QueryParts.{QueryParts}
use Rattle.hj_eval.specs.Holds.{holds}
use Rattle.hj_event.specs.Merger.{IsNewMerger}
use Rattle.hj_event.specs.Roles.{IsInStep}
use Rattle.hj_chain.specs.declared.actor.Actor.{Actor}
use Rattle.hj_chain.specs.Chain.{ChainState, Contents}
use Rattle.hj_chain.proofs.FewSteps.{to_come}
use Rattle.hj_stream.specs.declared.feed.EventFeed.{EventFeed}
use Rattle.hj_stream.specs.declared.outcome.Outcome.{Outcome}
use Rattle.hj_stream.specs.declared.outcome.Outcome.TheVariants as outcome
use Rattle.hj_stream.specs.Feeding.{Feeding}
use Rattle.hj_stream.specs.JoinText.{text, text_of}
use Rattle.hj_replay.specs.declared.ready.AlwaysReady.{AlwaysReady}
use Rattle.hj_trace.specs.Checking.{IsRight, Stands}
use Rattle.hj_trace.specs.Play.{AreEnabled, at_start, played, trace_text}
use Rattle.hj_trace.specs.Stream.{GoesWithRole, TextStreamState, Uses}
use Rattle.hj_replay.specs.Feeds.{Gave, MayCome, with_streams}
use Rattle.hj_verify.specs.declared.output.OutputCheck.{OutputCheck}
use Rattle.hj_verify.specs.declared.verdict.Verdict.{Verdict}
use Rattle.hj_verify.specs.declared.verdict.Verdict.TheVariants as verdict
use Rattle.hj_verify.specs.Due.{ChainHasGiven}
use Rattle.hj_verify.specs.Output.{OutputAgrees}
use Rattle.hj_verify.specs.Reading.{IsUsedWhole, fault_of, no_memory}

abbrev pub Events : Type 0
Events = List (Event (List Field))

-- ---- the four roles

-- The roles of which a read may fail.
abbrev pub IsStreamRole : Role → Type 0
IsStreamRole role.Query = ⊥
IsStreamRole role.SecondQuery = ⊥
IsStreamRole role.Left = Unit {0}
IsStreamRole role.Right = Unit {0}
IsStreamRole role.Third = ⊥
IsStreamRole role.Trace = ⊥
IsStreamRole role.Output = ⊥

abbrev pub IsChecked : Role → Type 0
IsChecked role.Query = ⊥
IsChecked role.SecondQuery = ⊥
IsChecked role.Left = Unit {0}
IsChecked role.Right = Unit {0}
IsChecked role.Third = ⊥
IsChecked role.Trace = Unit {0}
IsChecked role.Output = Unit {0}

-- Nothing changes but the roles of the two streams, of the trace and of the output.
abbrev pub ChangesOnlyChecked : (Role → RoleState) → (Role → RoleState) → Type 0
ChangesOnlyChecked before now = (other : Role) → (IsChecked other → ⊥) → now other ≡ before other

-- the stream of a role of which nothing was read
abbrev pub fresh : Role → TextStreamState
fresh of = record { role = of; unused = []; ended = false }

-- ---- the events

-- what is seen of a feed
abbrev pub feeding_in : {O : Type 0} {outside : OutsideGhosts O} → EventFeed O outside → Feeding
feeding_in {outside = outside} f = record { merger = f.merger.now; roles = outside.state f.outside.now; events = f.events; ended = f.ended }

abbrev pub feeding : {O : Type 0} {outside : OutsideGhosts O} → AlwaysReady O outside → Feeding
feeding f = feeding_in f.feed

-- a feed, of whose roles the two of its streams are seen alone, beside the others
abbrev pub beside : (Role → RoleState) → Feeding → Feeding
beside others feed = record feed { roles = with_streams others (feed.roles role.Left) (feed.roles role.Right) }

-- No event was given yet: nothing was read of the two streams, and the merger is new, for this query and this limit.
pub record IsBegunCheck (query : QueryParts) (limit : ℕ) (start : Feeding) : Type 0 where
  pub merger : IsNewMerger query limit start.merger
  pub none : start.events ≡ 0
  pub going : start.ended ≡ None
  pub left : IsInStep false (start.roles role.Left)
  pub right : IsInStep false (start.roles role.Right)

-- The feed gave these answers, and nothing was read but of the four roles.
pub record GaveAnswers (start now : Feeding) : Type 0 where
  pub answers : List (Given (List Field))
  pub gave : Gave (beside start.roles start) answers (beside start.roles now)
  pub others : ChangesOnlyChecked start.roles now.roles

-- The events have ended because a read failed, or because memory ran out.
abbrev pub has_failed : Option Outcome → Bool
has_failed None = false
has_failed (Some (outcome.Done events)) = false
has_failed (Some (outcome.Bad side at found)) = false
has_failed (Some (outcome.SourceFault of)) = true
has_failed (Some outcome.SinkFault) = false
has_failed (Some outcome.TooMany) = false
has_failed (Some outcome.Memory) = true

-- The verdict is that the events have ended so.
pub record FailsSo (ended : Option Outcome) (judged : Verdict) : Type 0 where
  pub made : Outcome
  pub ended_is : ended ≡ Some made
  pub failed : has_failed ended ≡ true
  pub judged_is : judged ≡ verdict.Ended made

-- ---- the steps

-- Whatever events come behind these, none where they have ended, the steps of this schedule can be made over all of them, lead to
-- this chain, and have this text.
pub record LeadTo (query : QueryParts) (n flight : ℕ) (events : Events) (ended : Bool) (schedule : List Actor)
    (chain : ChainState (List Field))
    (text : List ℕ) : Type 0 where
  pub played_is : (more : Events) → (ended ≡ true → more ≡ [])
      → played (holds query) schedule (at_start n flight (events ++ more)) ≡ record { chain = chain; coming = more }
  pub enabled : (more : Events) → (ended ≡ true → more ≡ []) → AreEnabled (holds query) schedule (at_start n flight (events ++ more))
  pub text_is : (more : Events) → (ended ≡ true → more ≡ []) → trace_text (holds query) schedule (at_start n flight (events ++ more)) ≡ text

-- A chain has made no step of a check yet. Its feed was asked for the first event, and nothing was read of the trace and the output.
pub record IsUnplayed (query : QueryParts) (n flight : ℕ) (start : Feeding) (chain : Contents (List Field) QueryParts)
    (now : Feeding) : Type 0 where
  pub join : chain.join ≡ query
  pub limit : ℕ
  pub begun : IsBegunCheck query limit start
  pub kept : chain.state.over ≡ false
  pub fed : GaveAnswers start now
  pub steps : LeadTo query n flight (events_in fed.answers) (is_some now.ended) [] chain.state []
  pub pairs : List (Pair (List Field))
  pub gave : ChainHasGiven chain [] (events_in fed.answers) 0 pairs
  pub trace : now.roles role.Trace ≡ start.roles role.Trace
  pub output : now.roles role.Output ≡ start.roles role.Output

-- A check has come to this place behind the lines before the one of this number: the trace has the lines of the steps that were made,
-- and nothing is known to be wrong with them, and the output was compared with the lines of the pairs that were given.
pub record CheckingAt (place : List ℕ → List ℕ) (query : QueryParts) (n flight : ℕ) (start : Feeding) (number : ℕ) (chain : Contents (List Field) QueryParts)
    (now : Feeding) (trace : TextStreamState) (output : OutputCheck) : Type 0 where
  pub join : chain.join ≡ query
  pub limit : ℕ
  pub begun : IsBegunCheck query limit start
  pub kept : chain.state.over ≡ false
  pub fed : GaveAnswers start now
  pub going : has_failed now.ended ≡ false
  pub schedule : List Actor
  pub counted : number ≡ length schedule + 1
  pub lines : List ℕ
  pub steps : LeadTo query n flight (events_in fed.answers) (is_some now.ended) schedule chain.state lines
  pub trace_used : Uses false (place lines) (fresh role.Trace) (start.roles role.Trace) trace (now.roles trace.role)
  pub given : ℕ
  pub pairs : List (Pair (List Field))
  pub gave : ChainHasGiven chain schedule (events_in fed.answers) given pairs
  pub agrees : OutputAgrees (text (take given pairs)) (fresh role.Output) (start.roles role.Output) output (now.roles output.stream.role)

-- A check has come to the line of this number.
abbrev pub Checking : QueryParts → (n flight : ℕ) → Feeding → ℕ → Contents (List Field) QueryParts → Feeding → TextStreamState
    → OutputCheck → Type 0
Checking query n flight start number chain now trace output = CheckingAt (λ lines. lines) query n flight start number chain now trace output

-- ---- its end

-- A stream was used so far, and a read of it failed exactly where the verdict says so.
pub record IsReadSoFar (judged : Verdict) (of : Role) (before : RoleState) (stream : TextStreamState) (now : RoleState) : Type 0 where
  pub failed : Bool
  pub bytes : List ℕ
  pub uses : Uses failed bytes (fresh of) before stream now
  pub tells : (failed ≡ true) ↔ (judged ≡ fault_of of)

-- What a verdict says by which a check ends: this is wrong with a trace and an output, over these events.
abbrev pub IsWrongBy : Verdict → QueryParts → (cores flight : ℕ) → Events → (trace output : List ℕ) → Type 0
IsWrongBy (verdict.Accepted events) query n flight all trace output = ⊥
IsWrongBy (verdict.Refused fault) query n flight all trace output = Stands (holds query) fault n flight all trace output (text_of query all)
IsWrongBy (verdict.Ended (outcome.Done events)) query n flight all trace output = ⊥
IsWrongBy (verdict.Ended (outcome.Bad side at found)) query n flight all trace output = ⊥
IsWrongBy (verdict.Ended (outcome.SourceFault of)) query n flight all trace output = IsChecked of
IsWrongBy (verdict.Ended outcome.SinkFault) query n flight all trace output = ⊥
IsWrongBy (verdict.Ended outcome.TooMany) query n flight all trace output = ⊥
IsWrongBy (verdict.Ended outcome.Memory) query n flight all trace output = Unit {0}

-- A check ended with this verdict: a read of a role failed exactly where it says so, and what it says to be wrong is so, whatever
-- comes behind what was read.
pub record Concludes (judged : Verdict) (query : QueryParts) (n flight : ℕ) (start now : Feeding)
    (trace output : TextStreamState) : Type 0 where
  pub fed : GaveAnswers start now
  pub streams : (of : Role) → IsStreamRole of → (now.ended ≡ Some (outcome.SourceFault of)) ↔ (judged ≡ fault_of of)
  pub trace_read : IsReadSoFar judged role.Trace (start.roles role.Trace) trace (now.roles trace.role)
  pub output_read : IsReadSoFar judged role.Output (start.roles role.Output) output (now.roles output.role)
  pub says : (more : Events) (t o : List ℕ) → MayCome now.ended more → (trace.ended ≡ true → t ≡ []) → (output.ended ≡ true → o ≡ [])
      → IsWrongBy judged query n flight (events_in fed.answers ++ more) (trace_read.uses.came ++ t) (output_read.uses.came ++ o)

-- The line of this number is right, and a check has come to the next one; or it ended there.
abbrev pub ChecksLine : Result (Unit {0}) Verdict → QueryParts → (n flight : ℕ) → Feeding → ℕ → Contents (List Field) QueryParts → Feeding
    → TextStreamState → OutputCheck → Type 0
ChecksLine (Ok went) query n flight start number chain now trace output = Checking query n flight start (number + 1) chain now trace output
ChecksLine (Err judged) query n flight start number chain now trace output = Concludes judged query n flight start now trace output.stream

-- A trace is right over the events that a feed gave, which have ended, and an output is the text of their join. Both were read to
-- their ends.
pub record AllIsRight (query : QueryParts) (n flight : ℕ) (start now : Feeding) (trace output : TextStreamState) : Type 0 where
  pub fed : GaveAnswers start now
  pub going : has_failed now.ended ≡ false
  pub ended : now.ended ≢ None
  pub lines : List ℕ
  pub trace_is : IsUsedWhole lines (fresh role.Trace) (start.roles role.Trace) trace (now.roles trace.role)
  pub output_is : IsUsedWhole (text_of query (events_in fed.answers)) (fresh role.Output) (start.roles role.Output) output
      (now.roles output.role)
  pub right : IsRight (holds query) n flight (events_in fed.answers) lines (text_of query (events_in fed.answers))
      (text_of query (events_in fed.answers))

-- All is right, or the check ended with a verdict.
abbrev pub ChecksAll : Result (Unit {0}) Verdict → QueryParts → (n flight : ℕ) → Feeding → Feeding → TextStreamState → TextStreamState
    → Type 0
ChecksAll (Ok went) query n flight start now trace output = AllIsRight query n flight start now trace output
ChecksAll (Err judged) query n flight start now trace output = Concludes judged query n flight start now trace output

-- The number of the next line, or that there is none.
abbrev pub NumbersOn : Result ℕ Verdict → ℕ → Type 0
NumbersOn (Ok next) number = next ≡ number + 1
NumbersOn (Err judged) number = judged ≡ no_memory

-- The trace and the output are open, under their roles.
pub record AreOpen (roles : Role → RoleState) (trace output : TextStreamState) : Type 0 where
  pub trace_role : trace.role ≡ role.Trace
  pub output_role : output.role ≡ role.Output
  pub trace_open : GoesWithRole trace (roles trace.role)
  pub output_open : GoesWithRole output (roles output.role)

-- How many steps a chain may make at most until it is done.
abbrev pub steps_left : ChainState (List Field) → FeedState → ℕ
steps_left chain feed = to_come (length chain.cores) chain + (4 * length chain.cores + 4) * feed.remaining

-- The same of a trace and an output that were read for it, as far as they were.
pub record ChecksRun (result : Result (Unit {0}) Verdict) (query : QueryParts) (n flight : ℕ) (start now : Feeding) : Type 0 where
  pub trace : TextStreamState
  pub output : TextStreamState
  pub checks : ChecksAll result query n flight start now trace output
