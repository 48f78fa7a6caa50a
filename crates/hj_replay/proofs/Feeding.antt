-- Answers of a feed, as they are seen, one behind another.
use Rattle.std.proofs.Common.{◌≡◌, ◌≢◌, true, false, List, [], ◌∷◌, ◌++◌, None, Some, is_some, refl, sym, ap, subst, ◌∙◌, append_assoc}
use Rattle.std.specs.declared.option.Option.{Option}
use Rattle.hj_value.specs.declared.field.Field.{Field}
use Rattle.hj_base.specs.declared.outside.Outside.{Ghosts as OutsideGhosts}
use Rattle.hj_base.specs.declared.outside.Role.{Role}
use Rattle.hj_base.specs.declared.outside.Role.TheVariants as role
use Rattle.hj_base.specs.Outside.{RoleState, ChangesOnlyStreams}
use Rattle.hj_msg.specs.declared.event.Event as event
use Rattle.hj_msg.specs.declared.feed.Given.{Given}
use Rattle.hj_msg.specs.declared.feed.Given.TheVariants.{Event, Stop}
use Rattle.hj_msg.specs.Feed.{GoesOverAnswers, event_in, events_in}
use Rattle.hj_event.specs.declared.merger.Next.{Next}
use Rattle.hj_event.specs.Merger.{Merging, TakesNext}
use Rattle.hj_stream.specs.declared.outcome.Outcome.{Outcome}
use Rattle.hj_stream.specs.declared.outcome.Outcome.TheVariants as outcome
use Rattle.hj_stream.specs.Feeding.{Feeding, Gives, GivesFrom}
use Rattle.hj_stream.proofs.Fed.{kept_all}
use Rattle.hj_replay.specs.declared.ready.AlwaysReady.{AlwaysReady}
use Rattle.hj_replay.specs.Feeds.{Fed, Gave, MayCome, gives, seen, with_streams}

-- ---- the roles of both streams alone

same_others : (roles : Role → RoleState) (a b c d : RoleState) → ChangesOnlyStreams (with_streams roles a b) (with_streams roles c d)
same_others roles a b c d role.Query left right = refl
same_others roles a b c d role.SecondQuery left right = refl
same_others roles a b c d role.Left left right = absurd (left refl)
same_others roles a b c d role.Right left right = absurd (right refl)
same_others roles a b c d role.Third left right = refl
same_others roles a b c d role.Trace left right = refl
same_others roles a b c d role.Output left right = refl

module _ (roles : Role → RoleState) where
  abbrev pub alone : Feeding → Feeding
  alone f = record f { roles = with_streams roles (f.roles role.Left) (f.roles role.Right) }

  takes_alone : (answer : Next) (old new : Merging) (before now : Role → RoleState) → TakesNext answer old new before now
      → TakesNext answer old new (with_streams roles (before role.Left) (before role.Right)) (with_streams roles (now role.Left) (now role.Right))
  takes_alone answer old new before now takes = record {
    left_bytes = takes.left_bytes;
    right_bytes = takes.right_bytes;
    left = takes.left;
    right = takes.right;
    others = same_others roles (before role.Left) (before role.Right) (now role.Left) (now role.Right);
    leads = takes.leads;
    ended = takes.ended;
    stays = takes.stays;
    due = takes.due;
    left_needed = takes.left_needed;
    right_needed = takes.right_needed;
  }

  pub gives_alone : (was : Option Outcome) (answer : Given (List Field)) (old new : Feeding) → GivesFrom was answer old new → GivesFrom was answer (alone old) (alone new)
  gives_alone None (Event one) old new gave = record { takes = takes_alone _ old.merger new.merger old.roles new.roles gave.takes; counted = gave.counted; going = gave.going }
  gives_alone None Stop old new gave =
      record { last = gave.last; takes = takes_alone gave.last old.merger new.merger old.roles new.roles gave.takes; outcome = gave.outcome; made = gave.made; counted = gave.counted; kept = gave.kept }
  gives_alone (Some ended) (Event one) old new gave = absurd gave
  gives_alone (Some ended) Stop old new gave = ap alone gave

pub others_stay : (was : Option Outcome) (answer : Given (List Field)) (old new : Feeding) → GivesFrom was answer old new → ChangesOnlyStreams old.roles new.roles
others_stay None (Event one) old new gave = gave.takes.others
others_stay None Stop old new gave = gave.takes.others
others_stay (Some ended) (Event one) old new gave = absurd gave
others_stay (Some ended) Stop old new gave = λ other left right. ap (λ (f : Feeding). f.roles other) gave

-- ---- answers one behind another

pub over_both : {P F : Type 0} (gives : F → Given P → F → Type 0) (xs ys : List (Given P)) (a b c : F) → GoesOverAnswers gives a xs b → GoesOverAnswers gives b ys c → GoesOverAnswers gives a (xs ++ ys) c
over_both gives [] ys a b c first second = subst (λ f. GoesOverAnswers gives f ys c) first second
over_both gives (x ∷ xs) ys a b c first second = (first.0, first.1, over_both gives xs ys first.0 b c first.2 second)

pub events_both : {P : Type 0} (xs ys : List (Given P)) → events_in (xs ++ ys) ≡ events_in xs ++ events_in ys
events_both [] ys = refl
events_both (x ∷ xs) ys = ap (λ l. event_in (Some x) ++ l) (events_both xs ys) ∙ sym (append_assoc (event_in (Some x)) (events_in xs) (events_in ys))

pub over_mapped : {P F G : Type 0} (gives : F → Given P → F → Type 0) (such : G → Given P → G → Type 0) (view : F → G) → ((old : F) (answer : Given P) (new : F) → gives old answer new → such (view old) answer (view new))
    → (answers : List (Given P)) (from to : F) → GoesOverAnswers gives from answers to → GoesOverAnswers such (view from) answers (view to)
over_mapped gives such view each [] from to goes = ap view goes
over_mapped gives such view each (answer ∷ answers) from to goes = (view goes.0, each from answer goes.0 goes.1, over_mapped gives such view each answers goes.0 to goes.2)

-- ---- a feed

module _ {O : Type 0} {outside : OutsideGhosts O} where
  abbrev pub whole : AlwaysReady O outside → Feeding
  whole f = record { merger = f.feed.merger.now; roles = outside.state f.feed.outside.now; events = f.feed.events; ended = f.feed.ended }

  abbrev pub fed_by : (from to : AlwaysReady O outside) → (answers : List (Given (List Field))) × GoesOverAnswers (gives {O = O} {outside = outside}) from answers to → Fed from to
  fed_by from to goes = record {
    answers = goes.0;
    gave = λ roles. over_mapped gives (λ old answer new. Gives answer old new) (seen roles) (λ old answer new gave. gives_alone roles old.feed.ended answer (whole old) (whole new) gave.2) goes.0 from to goes.1;
    outside_is = record {
      same = kept_all gives (λ f. f.feed.outside.ghost_name) (λ old answer new gave. gave.0) goes.0 from to goes.1;
      names = λ name. kept_all gives (λ f. outside.under f.feed.outside.now name) (λ old answer new gave. gave.1 name) goes.0 from to goes.1;
    };
    others = λ other left right. kept_all gives (λ f. outside.state f.feed.outside.now other) (λ old answer new gave. others_stay old.feed.ended answer (whole old) (whole new) gave.2 other left right) goes.0 from to goes.1;
  }

  abbrev pub fed_none : (feed : AlwaysReady O outside) → Fed feed feed
  fed_none feed = record { answers = []; gave = λ roles. refl; outside_is = record { same = refl; names = λ name. refl }; others = λ other left right. refl }

  abbrev pub fed_both : (a b c : AlwaysReady O outside) → Fed a b → Fed b c → Fed a c
  fed_both a b c first second = record {
    answers = first.answers ++ second.answers;
    gave = λ roles. over_both (λ old answer new. Gives answer old new) first.answers second.answers (seen roles a) (seen roles b) (seen roles c) (first.gave roles) (second.gave roles);
    outside_is = record {
      same = second.outside_is.same ∙ first.outside_is.same;
      names = λ name. second.outside_is.names name ∙ first.outside_is.names name;
    };
    others = λ other left right. second.others other left right ∙ first.others other left right;
  }

-- ---- events that have ended stay so

ended_stays : (answers : List (Given (List Field))) (from to : Feeding) (o : Outcome) → from.ended ≡ Some o → Gave from answers to → (events_in answers ≡ []) × (to.ended ≡ Some o)
ended_stays [] from to o is gave = (refl, ap (λ (f : Feeding). f.ended) gave ∙ is)
ended_stays (Event one ∷ answers) from to o is gave = absurd (subst (λ (e : Option Outcome). GivesFrom e (Event one) from gave.0) is gave.1)
ended_stays (Stop ∷ answers) from to o is gave =
    let same : gave.0 ≡ from = subst (λ (e : Option Outcome). GivesFrom e Stop from gave.0) is gave.1 in
    ended_stays answers gave.0 to o (ap (λ (f : Feeding). f.ended) same ∙ is) gave.2

none_comes : (o : Outcome) (more : List (event.Event (List Field))) → o ≢ outcome.Memory → MayCome (Some o) more → more ≡ []
none_comes (outcome.Done events) more other may = may
none_comes (outcome.Bad side at found) more other may = may
none_comes (outcome.SourceFault of) more other may = may
none_comes outcome.SinkFault more other may = may
none_comes outcome.TooMany more other may = may
none_comes outcome.Memory more other may = absurd (other refl)

came_by : (was : Option Outcome) (answers : List (Given (List Field))) (from to : Feeding) (more : List (event.Event (List Field))) → from.ended ≡ was → from.ended ≢ Some outcome.Memory → Gave from answers to → MayCome to.ended more
    → is_some from.ended ≡ true → events_in answers ++ more ≡ []
came_by None answers from to more is other gave may some = absurd (let e : false ≡ true = sym (ap (λ (o : Option Outcome). is_some o) is) ∙ some in cc)
came_by (Some o) answers from to more is other gave may some =
    let stays = ended_stays answers from to o is gave in
    let none : more ≡ [] = none_comes o more (λ same. other (is ∙ ap Some same)) (subst (λ (e : Option Outcome). MayCome e more) stays.1 may) in
    ap (λ (l : List (event.Event (List Field))). l ++ more) stays.0 ∙ none

-- What may come behind the answers may come with their events before them.
pub may_come : (answers : List (Given (List Field))) (from to : Feeding) (more : List (event.Event (List Field))) → from.ended ≢ Some outcome.Memory → Gave from answers to → MayCome to.ended more
    → is_some from.ended ≡ true → events_in answers ++ more ≡ []
may_come answers from to more other gave may = came_by from.ended answers from to more refl other gave may
