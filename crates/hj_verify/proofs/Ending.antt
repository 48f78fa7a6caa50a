-- What is known where a check ends with a verdict.
use Rattle.std.proofs.Common.{◌≡◌, ◌≢◌, Bool, true, false, List, [], ◌∷◌, ◌++◌, ℕ, None, Some, is_some, refl, sym, ap, ap₂, subst, ◌∙◌, true≢false}
use Rattle.std.specs.Prelude.{◌↔◌}
use Rattle.std.specs.declared.option.Option.{Option}
use Rattle.hj_value.specs.declared.field.Field.{Field}
use Rattle.hj_base.specs.declared.outside.Outside.{Ghosts as OutsideGhosts}
use Rattle.hj_base.specs.declared.outside.Role.{Role}
use Rattle.hj_base.specs.declared.outside.Role.TheVariants as role
use Rattle.hj_base.specs.Outside.{RoleState, ChangesOnly}
use Rattle.hj_msg.specs.declared.feed.Given.{Given}
use Rattle.hj_msg.specs.declared.feed.Given.TheVariants.{Event, Stop}
use Rattle.hj_msg.specs.Feed.{GoesOverAnswers, events_in}
use Rattle.hj_event.specs.declared.merger.Next.{Next}
use Rattle.hj_event.specs.declared.merger.Next.TheVariants as next
use Rattle.hj_base.specs.declared.numbers.Side.TheVariants.{Left, Right}
use Rattle.hj_stream.specs.declared.outcome.Outcome.{Outcome}
use Rattle.hj_stream.specs.declared.outcome.Outcome.TheVariants as outcome
use Rattle.hj_stream.specs.Feeding.{Feeding, Gives, GivesFrom, outcome_by}
use Rattle.hj_stream.proofs.Fed.{kept_all}
use Rattle.hj_trace.specs.declared.fault.TraceFault.{TraceFault}
use Rattle.hj_replay.specs.declared.ready.AlwaysReady.{AlwaysReady}
use Rattle.hj_trace.specs.Stream.{TextStreamState, Uses}
use Rattle.hj_replay.specs.Feeds.{Gave, MayCome, gives, with_streams}
use Rattle.hj_replay.proofs.Feeding.{events_both, gives_alone, others_stay, over_both, over_mapped}
use Rattle.hj_verify.specs.declared.verdict.Verdict.{Verdict}
use Rattle.hj_verify.specs.declared.verdict.Verdict.TheVariants as verdict
use Rattle.hj_verify.specs.Checked.{Events, GaveAnswers, IsChecked, IsReadSoFar, IsStreamRole, beside, feeding, fresh, has_failed}
use Rattle.hj_verify.specs.Reading.{fault_of, no_memory}

-- ---- which role a verdict names

pub same_role : (a b : Role) → fault_of a ≡ fault_of b → a ≡ b
same_role a b e = let same : verdict.Ended (outcome.SourceFault a) ≡ verdict.Ended (outcome.SourceFault b) = e in cc

pub refused_apart : (fault : TraceFault) (of : Role) → verdict.Refused fault ≡ fault_of of → ⊥
refused_apart fault of e = let wrong : verdict.Refused fault ≡ verdict.Ended (outcome.SourceFault of) = e in cc

pub memory_apart : (of : Role) → no_memory ≡ fault_of of → ⊥
memory_apart of e = let wrong : verdict.Ended outcome.Memory ≡ verdict.Ended (outcome.SourceFault of) = e in cc

pub other_role : (a b : Role) → a ≢ b → fault_of a ≡ fault_of b → ⊥
other_role a b apart e = apart (same_role a b e)

pub not_stream : (found of : Role) → (IsStreamRole found → ⊥) → IsStreamRole of → fault_of found ≡ fault_of of → ⊥
not_stream found of other is e = other (subst IsStreamRole (sym (same_role found of e)) is)

-- the events go on, or have ended without a failed read
pub streams_go : (judged : Verdict) (ended : Option Outcome) → has_failed ended ≡ false → ((of : Role) → IsStreamRole of → judged ≡ fault_of of → ⊥) → (of : Role) → IsStreamRole of → (ended ≡ Some (outcome.SourceFault of)) ↔ (judged ≡ fault_of of)
streams_go judged ended going apart of is = (λ e. absurd (true≢false (sym (ap has_failed e) ∙ going)), λ e. absurd (apart of is e))

-- ---- how a stream was read

-- no read failed
abbrev pub read_on : (judged : Verdict) (of : Role) (before : RoleState) (stream : TextStreamState) (now : RoleState) → (judged ≡ fault_of of → ⊥) → (bytes : List ℕ) → Uses false bytes (fresh of) before stream now → IsReadSoFar judged of before stream now
read_on judged of before stream now apart bytes uses = record { failed = false; bytes = bytes; uses = uses; tells = (λ e. absurd (true≢false (sym e)), λ e. absurd (apart e)) }

-- a read failed
abbrev pub read_failed : (of : Role) (before : RoleState) (stream : TextStreamState) (now : RoleState) (bytes : List ℕ) → Uses true bytes (fresh of) before stream now → IsReadSoFar (fault_of of) of before stream now
read_failed of before stream now bytes uses = record { failed = true; bytes = bytes; uses = uses; tells = (λ e. refl, λ e. refl) }

-- what came is what was used and what waits
pub came_is : (failed : Bool) (of : Role) (bytes : List ℕ) (before : RoleState) (stream : TextStreamState) (now : RoleState) (uses : Uses failed bytes (fresh of) before stream now) → uses.came ≡ bytes ++ stream.unused
came_is failed of bytes before stream now uses = uses.used

-- ---- other roles

-- a role that isn't checked is another than one that is
pub unlike : (of other : Role) → IsChecked of → (IsChecked other → ⊥) → other ≢ of
unlike of other is isnt same = isnt (subst IsChecked (sym same) is)

-- a feed with other states of its roles, but for those of its streams
abbrev pub fed_aside : (start now : Feeding) (roles : Role → RoleState) → GaveAnswers start now → roles role.Left ≡ now.roles role.Left → roles role.Right ≡ now.roles role.Right
    → ((other : Role) → (IsChecked other → ⊥) → roles other ≡ now.roles other) → GaveAnswers start (record now { roles = roles })
fed_aside start now roles fed left right others = record {
  answers = fed.answers;
  gave = subst (λ (f : Feeding). Gave (beside start.roles start) fed.answers f)
      (ap₂ (λ (a b : RoleState). record now { roles = with_streams start.roles a b }) (sym left) (sym right)) fed.gave;
  others = λ other isnt. others other isnt ∙ fed.others other isnt;
}

-- The trace or the output was read.
abbrev pub fed_read : (start now : Feeding) (of : Role) (roles : Role → RoleState) → GaveAnswers start now → IsChecked of → (IsStreamRole of → ⊥) → ChangesOnly of now.roles roles → GaveAnswers start (record now { roles = roles })
fed_read start now of roles fed is isnt changes =
    fed_aside start now roles fed (changes role.Left (λ e. isnt (subst IsStreamRole e tt))) (changes role.Right (λ e. isnt (subst IsStreamRole e tt))) (λ other unread. changes other (unlike of other is unread))

-- ---- the feed was asked

module _ {O : Type 0} {outside : OutsideGhosts O} (start : Feeding) (from to : AlwaysReady O outside) (answers : List (Given (List Field))) (goes : GoesOverAnswers (gives {O = O} {outside = outside}) from answers to) where
  pub asked_others : (other : Role) → other ≢ role.Left → other ≢ role.Right → (feeding to).roles other ≡ (feeding from).roles other
  asked_others other left right =
      kept_all (gives {O = O} {outside = outside}) (λ f. outside.state f.feed.outside.now other) (λ old answer new gave. others_stay old.feed.ended answer (feeding old) (feeding new) gave.2 other left right) answers from to goes

  pub gave_there : Gave (beside start.roles (feeding from)) answers (beside start.roles (feeding to))
  gave_there = over_mapped (gives {O = O} {outside = outside}) (λ old answer new. Gives answer old new) (λ f. beside start.roles (feeding f))
      (λ old answer new gave. gives_alone start.roles old.feed.ended answer (feeding old) (feeding new) gave.2) answers from to goes

  abbrev pub fed_more : GaveAnswers start (feeding from) → GaveAnswers start (feeding to)
  fed_more fed = record {
    answers = fed.answers ++ answers;
    gave = over_both (λ old answer new. Gives answer old new) fed.answers answers (beside start.roles start) (beside start.roles (feeding from)) (beside start.roles (feeding to)) fed.gave gave_there;
    others = λ other unread. asked_others other (unlike role.Left other tt unread) (unlike role.Right other tt unread) ∙ fed.others other unread;
  }

  -- the events with those that it gave
  pub more_events : (fed : GaveAnswers start (feeding from)) → events_in (fed_more fed).answers ≡ events_in fed.answers ++ events_in answers
  more_events fed = events_both fed.answers answers

  pub trace_stays : (feeding to).roles role.Trace ≡ (feeding from).roles role.Trace
  trace_stays = asked_others role.Trace (λ e. let wrong : role.Trace ≡ role.Left = e in cc) (λ e. let wrong : role.Trace ≡ role.Right = e in cc)

  pub output_stays : (feeding to).roles role.Output ≡ (feeding from).roles role.Output
  output_stays = asked_others role.Output (λ e. let wrong : role.Output ≡ role.Left = e in cc) (λ e. let wrong : role.Output ≡ role.Right = e in cc)

-- ---- how the events fail

-- a read of the events that failed is one of their streams
abbrev pub FailsOfStreams : Option Outcome → Type 0
FailsOfStreams ended = (of : Role) → ended ≡ Some (outcome.SourceFault of) → IsStreamRole of

ended_of_streams : (count : ℕ) (last : Next) (o : Outcome) → outcome_by count last ≡ Some o → (of : Role) → Some o ≡ Some (outcome.SourceFault of) → IsStreamRole of
ended_of_streams count (next.Event one) o made of is = absurd (let e : None ≡ Some o = made in cc)
ended_of_streams count next.Done o made of is = absurd (let e : Some (outcome.Done count) ≡ Some (outcome.SourceFault of) = made ∙ is in cc)
ended_of_streams count (next.Bad side at why) o made of is = absurd (let e : Some (outcome.Bad side at why) ≡ Some (outcome.SourceFault of) = made ∙ is in cc)
ended_of_streams count (next.Failed Left) o made of is =
    let e : Some (outcome.SourceFault role.Left) ≡ Some (outcome.SourceFault of) = made ∙ is in
    let same : role.Left ≡ of = cc in
    subst IsStreamRole same tt
ended_of_streams count (next.Failed Right) o made of is =
    let e : Some (outcome.SourceFault role.Right) ≡ Some (outcome.SourceFault of) = made ∙ is in
    let same : role.Right ≡ of = cc in
    subst IsStreamRole same tt
ended_of_streams count next.TooMany o made of is = absurd (let e : Some outcome.TooMany ≡ Some (outcome.SourceFault of) = made ∙ is in cc)
ended_of_streams count next.Memory o made of is = absurd (let e : Some outcome.Memory ≡ Some (outcome.SourceFault of) = made ∙ is in cc)

fails_further : (was : Option Outcome) (answer : Given (List Field)) (old new : Feeding) → old.ended ≡ was → FailsOfStreams old.ended → GivesFrom was answer old new → FailsOfStreams new.ended
fails_further None (Event one) old new is so gave of fails = absurd (let e : None ≡ Some (outcome.SourceFault of) = sym gave.going ∙ fails in cc)
fails_further None Stop old new is so gave of fails = ended_of_streams old.events gave.last gave.outcome gave.made of (sym gave.kept ∙ fails)
fails_further (Some ended) (Event one) old new is so gave of fails = absurd gave
fails_further (Some ended) Stop old new is so gave of fails = so of (sym (ap (λ (f : Feeding). f.ended) gave) ∙ fails)

pub fails_of_streams : (answers : List (Given (List Field))) (from to : Feeding) → FailsOfStreams from.ended → Gave from answers to → FailsOfStreams to.ended
fails_of_streams [] from to so gave = subst (λ (f : Feeding). FailsOfStreams f.ended) (sym gave) so
fails_of_streams (answer ∷ answers) from to so gave = fails_of_streams answers gave.0 to (fails_further from.ended answer from gave.0 refl so gave.1) gave.2

-- nor did one fail before the events ended
pub none_yet : (start : Feeding) → start.ended ≡ None → FailsOfStreams start.ended
none_yet start going of is = absurd (let wrong : None ≡ Some (outcome.SourceFault of) = sym going ∙ is in cc)

-- no events come behind those that have ended without failing
pub ends_there : (ended : Option Outcome) → has_failed ended ≡ false → (more : Events) → MayCome ended more → is_some ended ≡ true → more ≡ []
ends_there None going more may some = absurd (true≢false (sym some))
ends_there (Some (outcome.Done events)) going more may some = may
ends_there (Some (outcome.Bad side at found)) going more may some = may
ends_there (Some (outcome.SourceFault of)) going more may some = may
ends_there (Some outcome.SinkFault) going more may some = may
ends_there (Some outcome.TooMany) going more may some = may
ends_there (Some outcome.Memory) going more may some = absurd (true≢false going)

pub not_memory : (ended : Option Outcome) → has_failed ended ≡ false → ended ≢ Some outcome.Memory
not_memory ended going is = true≢false (sym (ap has_failed is) ∙ going)
