-- What a feed gave, answer by answer: the first events of the streams, or all of them, and how they end.
use Rattle.std.proofs.Common.{◌≡◌, ℕ, List, [], ◌∷◌, ◌++◌, length, false, None, Some, refl, sym, ap, subst, ◌∙◌, append_assoc, append-nil, length-append, arith}
use Rattle.std.specs.declared.option.Option.{Option}
use Rattle.hj_value.specs.declared.field.Field.{Field}
use Rattle.hj_base.specs.declared.outside.Role.{Role}
use Rattle.hj_base.specs.declared.outside.Role.TheVariants as role
use Rattle.hj_base.specs.Outside.{RoleState}
use Rattle.hj_msg.specs.declared.event.Event as event
use Rattle.hj_msg.specs.declared.feed.Given.{Given}
use Rattle.hj_msg.specs.declared.feed.Given.TheVariants.{Event, Stop}
use Rattle.hj_msg.specs.Event.{IsWellFormed}
use Rattle.hj_msg.specs.Feed.{GoesOverAnswers, event_in, events_in}
use Rattle.hj_query.specs.QueryParts.{QueryParts}
use Rattle.hj_event.specs.declared.merger.Next.{Next}
use Rattle.hj_event.specs.Merger.{Merging, IsNewMerger, TakesNext}
use Rattle.hj_event.specs.Roles.{IsInStep}
use Rattle.hj_stream.specs.declared.outcome.Outcome.{Outcome}
use Rattle.hj_stream.specs.Feeding.{Feeding, Gives, GivesFrom, outcome_by}
use Rattle.hj_stream.proofs.Reading.{Reads, reads_begin, reads_more, well_formed}

abbrev Events : Type 0
Events = List (event.Event (List Field))

-- These events were given, and more may come.
pub record IsOpen (query : QueryParts) (limit : ℕ) (before : Role → RoleState) (events : Events) (now : Feeding) : Type 0 where
  pub reads : Reads query limit events now.merger before now.roles
  pub counted : length events ≡ now.events

-- These events were given, and then the merger said how they end.
pub record HasEnded (outcome : Outcome) (query : QueryParts) (limit : ℕ) (before : Role → RoleState) (events : Events) (now : Feeding) : Type 0 where
  pub merger : Merging
  pub roles : Role → RoleState
  pub reads : Reads query limit events merger before roles
  pub last : Next
  pub takes : TakesNext last merger now.merger roles now.roles
  pub made : outcome_by (length events) last ≡ Some outcome

abbrev pub Fed : Option Outcome → QueryParts → ℕ → (Role → RoleState) → Events → Feeding → Type 0
Fed None query limit before events now = IsOpen query limit before events now
Fed (Some outcome) query limit before events now = HasEnded outcome query limit before events now

pub fed_first : (query : QueryParts) (limit : ℕ) (now : Feeding) → now.ended ≡ None → now.events ≡ 0 → IsNewMerger query limit now.merger → IsInStep false (now.roles role.Left) → IsInStep false (now.roles role.Right) → Fed now.ended query limit now.roles [] now
fed_first query limit now going none new left right =
    subst (λ (ended : Option Outcome). Fed ended query limit now.roles [] now) (sym going) (record { reads = reads_begin query limit now.merger now.roles new left right; counted = sym none })

pub fed_well : (ended : Option Outcome) (query : QueryParts) (limit : ℕ) (before : Role → RoleState) (events : Events) (now : Feeding) → Fed ended query limit before events now → IsWellFormed events
fed_well None query limit before events now fed = well_formed query limit events now.merger before now.roles fed.reads
fed_well (Some outcome) query limit before events now fed = well_formed query limit events fed.merger before fed.roles fed.reads

module _ (query : QueryParts) (limit : ℕ) (before : Role → RoleState) where
  -- one answer more
  fed_from : (was : Option Outcome) (events : Events) (answer : Given (List Field)) (old new : Feeding) → old.ended ≡ was → Fed was query limit before events old → GivesFrom was answer old new → Fed new.ended query limit before (events ++ event_in (Some answer)) new
  fed_from None events (Event one) old new is fed gives =
      subst (λ (ended : Option Outcome). Fed ended query limit before (events ++ one ∷ []) new) (sym gives.going)
      (record {
        reads = reads_more query limit events one old.merger new.merger before old.roles new.roles fed.reads gives.takes;
        counted = omega (arith, length-append events (one ∷ []), fed.counted, gives.counted);
      })
  fed_from None events Stop old new is fed gives =
      subst (λ (ended : Option Outcome). Fed ended query limit before (events ++ []) new) (sym gives.kept)
      (subst (λ (l : Events). HasEnded gives.outcome query limit before l new) (sym (append-nil events))
      (record {
        merger = old.merger;
        roles = old.roles;
        reads = fed.reads;
        last = gives.last;
        takes = gives.takes;
        made = ap (λ count. outcome_by count gives.last) fed.counted ∙ gives.made;
      }))
  fed_from (Some outcome) events (Event one) old new is fed gives = absurd gives
  fed_from (Some outcome) events Stop old new is fed gives =
      subst (λ (f : Feeding). Fed f.ended query limit before (events ++ []) f) (sym gives)
      (subst (λ (l : Events). Fed old.ended query limit before l old) (sym (append-nil events)) (subst (λ (ended : Option Outcome). Fed ended query limit before events old) (sym is) fed))

  module _ {F : Type 0} (gives : F → Given (List Field) → F → Type 0) (view : F → Feeding) (each : (old : F) (answer : Given (List Field)) (new : F) → gives old answer new → Gives answer (view old) (view new)) where
    -- all answers
    pub fed_all : (events : Events) (answers : List (Given (List Field))) (from to : F) → Fed (view from).ended query limit before events (view from) → GoesOverAnswers gives from answers to
        → Fed (view to).ended query limit before (events ++ events_in answers) (view to)
    fed_all events [] from to fed goes =
        subst (λ (f : F). Fed (view f).ended query limit before (events ++ []) (view f)) (sym goes)
        (subst (λ (l : Events). Fed (view from).ended query limit before l (view from)) (sym (append-nil events)) fed)
    fed_all events (answer ∷ answers) from to fed goes =
        subst (λ (l : Events). Fed (view to).ended query limit before l (view to)) (append_assoc events (event_in (Some answer)) (events_in answers))
        (fed_all (events ++ event_in (Some answer)) answers goes.0 to (fed_from (view from).ended events answer (view from) (view goes.0) refl fed (each from answer goes.0 goes.1)) goes.2)

-- what every answer keeps, all keep
pub kept_all : {P F X : Type 0} (gives : F → Given P → F → Type 0) (of : F → X) → ((old : F) (answer : Given P) (new : F) → gives old answer new → of new ≡ of old) → (answers : List (Given P)) (from to : F) → GoesOverAnswers gives from answers to → of to ≡ of from
kept_all gives of each [] from to goes = ap of goes
kept_all gives of each (answer ∷ answers) from to goes = kept_all gives of each answers goes.0 to goes.2 ∙ each from answer goes.0 goes.1
