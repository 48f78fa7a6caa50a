-- The put of an event: what is known of the event that a chain gives its driver, and what follows of the chain.
use Rattle.std.proofs.Common.{◌≡◌, ℕ, Bool, false, List, [], ◌∷◌, ◌++◌, length, Some, None, Option, ap, ap₂, sym, ◌∙◌, subst, refl}
use Rattle.std.specs.Bool.{OnTrue, MatchBool}
use Rattle.hj_base.specs.declared.numbers.Side.{Side}
use Rattle.hj_msg.specs.declared.event.Event.{Event}
use Rattle.hj_msg.specs.declared.feed.Given.{Given}
use Rattle.hj_msg.specs.declared.feed.Given.TheVariants as given
use Rattle.hj_msg.specs.declared.message.Msg.{Msg}
use Rattle.hj_msg.specs.Event.{IsWellFormed}
use Rattle.hj_msg.specs.Feed.{Answers, FeedState, event_in}
use Rattle.hj_msg.specs.Driver.{DriverTurn, admission, admitted, message_of, port_of}
use Rattle.hj_driver.specs.declared.answers.Admitted.{Admitted}
use Rattle.hj_driver.specs.declared.answers.Admitted.TheVariants as admitted_as
use Rattle.hj_driver.specs.declared.answers.Why.{Why}
use Rattle.hj_driver.specs.Driver.{DriverState, answer_to, cause_of as wait_of, is_send}
use Rattle.hj_driver.specs.StandsFor.{StandsFor, cause_after}
use Rattle.hj_chain.specs.declared.actor.Actor.TheVariants.{Admit}
use Rattle.hj_chain.specs.declared.actor.NotNow.TheVariants.{Waits}
use Rattle.hj_chain.specs.declared.actor.Stepped.TheVariants.{Did, NotEnabled}
use Rattle.hj_chain.specs.Queues.{Queues}
use Rattle.hj_chain.specs.Links.{put_in}
use Rattle.hj_chain.specs.Chain.{FeedAnswer, ChainState, Contents, if_there}
use Rattle.hj_chain.specs.Steps.{GoesWith, IsGoing, StepsTo, asks}
use Rattle.hj_chain.proofs.Drivers.{wait-same, sent}
use Rattle.hj_chain.proofs.Standing.{log, driving}
use Rattle.hj_chain.proofs.Stepping.{admit-waits, admit-did, asks-did}

-- a chain that goes with a feed, and in which memory didn't run out
pub going_from : {P J : Type 0} (predicate : J → P → P → Bool) (chain : Contents P J) (feed : FeedState) → GoesWith predicate chain feed → chain.state.over ≡ false → IsGoing predicate chain
going_from predicate chain feed goes going = record { schedule = goes.schedule; events = goes.events; given = goes.given; stands = goes.stands; well_formed = goes.well_formed; going = going }

module _ {P J : Type 0} (predicate : J → P → P → Bool) (opened now : Contents P J) (is : opened ≡ now) (goes : IsGoing predicate now) (event : Event P) (next : opened.state.next ≡ Some (given.Event event)) where
  abbrev chain : ChainState P
  chain = opened.state

  abbrev matches : P → P → Bool
  matches = predicate opened.join

  going_on : IsGoing predicate opened
  going_on = subst (IsGoing predicate) (sym is) goes

  past : List (DriverTurn P)
  past = log predicate opened going_on

  stood : StandsFor chain.driver past
  unfolding past
  stood = (driving predicate opened going_on).stands

  well : IsWellFormed (admitted past ++ event ∷ [])
  unfolding past
  well = subst IsWellFormed ((driving predicate opened going_on).events_are ∙ ap (λ (g : Option (Given P)). admitted (log predicate opened going_on) ++ event_in g) next) going_on.well_formed

  pub admitting-log : (l : List (DriverTurn P)) × StandsFor chain.driver l × IsWellFormed (admitted l ++ event ∷ [])
  admitting-log = (past, stood, well)

  -- what the driver was asked about this event
  abbrev Asked : Event P → Option Why → Type 0
  Asked one found = (l : List (DriverTurn P)) → StandsFor chain.driver l → IsWellFormed (admitted l ++ one ∷ []) → found ≡ cause_after chain.driver.flight one l

  waits_for : (one : Event P) (found : Option Why) → chain.next ≡ Some (given.Event one) → Asked one found → wait_of event chain.driver ≡ found
  waits_for one found next_one asked =
      let same : one ≡ event = (let e = sym next_one ∙ next in cc) in
      wait-same chain.driver past event stood well found (subst (λ (e : Event P). Asked e found) same asked)

  -- and what it answered
  abbrev Answered : Admitted P → Type 0
  Answered result = (l : List (DriverTurn P)) → StandsFor chain.driver l → IsWellFormed (admitted l ++ event ∷ []) → result ≡ answer_to event (cause_after chain.driver.flight event l)

  pub admitting-waits : (answer : FeedAnswer P) (why : Why) (found : Option Why) (new : ChainState P) → Asked event found → found ≡ Some why → new ≡ chain → StepsTo (predicate now.join) Admit answer now.state (NotEnabled (Waits why)) new
  admitting-waits answer why found new asked some same =
      subst (λ (c : Contents P J). StepsTo (predicate c.join) Admit answer c.state (NotEnabled (Waits why)) new) is
      (admit-waits matches chain going_on.going answer event why new next (waits_for event found next asked ∙ some) same)

  pub admitting-free : (one : Event P) (found : Option Why) → chain.next ≡ Some (given.Event one) → Asked one found → found ≡ None → wait_of event chain.driver ≡ None
  admitting-free one found next_one asked none = waits_for one found next_one asked ∙ none

  pub admitting-did : (one : Event P) (found : Option Why) → chain.next ≡ Some (given.Event one) → Asked one found → found ≡ None
      → (answer : FeedAnswer P) (driver : DriverState) (result : Admitted P) (port : Side) (message : Msg P) (count : ℕ) (links : List (Queues (Msg P))) (later told : Option (Given P)) → Answered result → result ≡ admitted_as.Send port message
      → ((l : List (DriverTurn P)) → StandsFor chain.driver l → IsWellFormed (admitted l ++ event ∷ []) → OnTrue (is_send result) (StandsFor driver (l ++ admission event ∷ [])))
      → driver.flight ≡ chain.driver.flight → count ≡ length chain.cores → links ≡ put_in port count message chain.links → later ≡ told → told ≡ if_there answer
      → StepsTo (predicate now.join) Admit answer now.state Did (record chain { driver = driver; links = links; next = later })
  admitting-did one found next_one asked none answer driver result port message count links later told answered sends stands_new same all put later_is told_is =
      let free = waits_for one found next_one asked ∙ none in
      let s = sent chain.driver past event stood well driver port message free same (subst Answered sends answered)
      (λ l before fine. subst (λ (a : Admitted P). OnTrue (is_send a) (StandsFor driver (l ++ admission event ∷ []))) sends (stands_new l before fine)) in
      let links_are : links ≡ put_in (port_of event) (length chain.cores) (message_of event) chain.links =
      put ∙ ap₂ (λ (p : Side) (m : Msg P). put_in p count m chain.links) s.port_is s.message_is ∙ ap (λ (k : ℕ). put_in (port_of event) k (message_of event) chain.links) all in
      let new : ChainState P = record chain { driver = driver; links = links; next = later } in
      subst (λ (c : Contents P J). StepsTo (predicate c.join) Admit answer c.state Did new) is
      (admit-did matches chain going_on.going answer event new next free
      (ap (λ (g : Option (Given P)). record chain { driver = driver; links = links; next = g }) (later_is ∙ told_is) ∙ ap₂ (λ (d : DriverState) (ls : List (Queues (Msg P))). record chain { driver = d; links = ls; next = if_there answer }) s.state links_are))

-- where no answer of the feed is known, it is asked
pub asking-did : {P J : Type 0} (predicate : J → P → P → Bool) (opened now : Contents P J) → opened ≡ now → IsGoing predicate now → opened.state.next ≡ None → (answer : FeedAnswer P)
    → StepsTo (predicate now.join) Admit answer now.state Did (record opened.state { next = Some answer.given })
asking-did {P} {J} predicate opened now is goes none answer =
    let going = subst (λ (c : Contents P J). c.state.over ≡ false) (sym is) goes.going in
    subst (λ (c : Contents P J). StepsTo (predicate c.join) Admit answer c.state Did (record opened.state { next = Some answer.given })) is
    (asks-did (predicate opened.join) opened.state going answer (record opened.state { next = Some answer.given }) none refl)

-- what a feed answers, by its states
abbrev pub AnswersFrom : {P : Type 0} → FeedState → Given P → FeedState → Type 0
AnswersFrom before given after = Answers given before after

-- The feed is asked where an event is put and the next one is there, and where no answer is known.
module _ {P F : Type 0} (gives : F → Given P → F → Type 0) (next : Option (Given P)) (answer : FeedAnswer P) (from to : F) where
  abbrev Told : Bool → Type 0
  Told asked = MatchBool asked (gives from answer.given to) (to ≡ from)

  pub asks-event : (event : Event P) → next ≡ Some (given.Event event) → Told answer.ready → Told (asks Admit next answer.ready)
  asks-event event is gave = subst (λ (g : Option (Given P)). Told (asks Admit g answer.ready)) (sym is) gave

  pub asks-first : next ≡ None → gives from answer.given to → Told (asks Admit next answer.ready)
  asks-first is gave = subst (λ (g : Option (Given P)). Told (asks Admit g answer.ready)) (sym is) gave
