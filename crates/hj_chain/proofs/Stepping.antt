-- What an actor does is its step.
use Rattle.std.proofs.Common.{◌≡◌, ℕ, zero, suc, ◌<◌, ◌==◌, Bool, true, false, cond, List, [], ◌∷◌, ◌++◌, length, drop, get_or, Some, None, Option, refl, ap, sym, ◌∙◌}
use Rattle.std.specs.Option.{option_map, option_to_list}
use Rattle.std.proofs.lemmas.Bool.{lt-ltb}
use Rattle.hj_base.specs.declared.numbers.CoreNo.{CoreNo}
use Rattle.hj_base.specs.declared.numbers.Side.{Side}
use Rattle.hj_base.specs.declared.numbers.Side.TheVariants.{Left, Right}
use Rattle.hj_msg.specs.declared.event.Event.{Event}
use Rattle.hj_msg.specs.declared.feed.Given.{Given}
use Rattle.hj_msg.specs.declared.feed.Given.TheVariants as given
use Rattle.hj_msg.specs.declared.message.Msg.{Msg}
use Rattle.hj_msg.specs.declared.message.Report.{Report}
use Rattle.hj_msg.specs.Core as core
use Rattle.hj_msg.specs.Driver.{admission, receipt, message_of, port_of}
use Rattle.hj_driver.specs.declared.answers.Why.{Why}
use Rattle.hj_driver.specs.Driver.{after_put, after_take, cause_of as wait_of}
use Rattle.hj_chain.specs.declared.actor.Actor.{Actor}
use Rattle.hj_chain.specs.declared.actor.Actor.TheVariants.{Admit, Core, Collect}
use Rattle.hj_chain.specs.declared.actor.NotNow.{NotNow}
use Rattle.hj_chain.specs.declared.actor.NotNow.TheVariants.{Waits, Empty, ReportsFull, NoSuchCore}
use Rattle.hj_chain.specs.declared.actor.Stepped.TheVariants.{Did, NotEnabled, Memory}
use Rattle.hj_chain.specs.Queues.{Queues}
use Rattle.hj_chain.specs.Links.{changed_at, link_at, at_port, put_in, take_out, incoming, take_in, send_out, take_leftwards, take_rightwards}
use Rattle.hj_chain.specs.Reports.{queue_at}
use Rattle.hj_chain.specs.Chain.{FeedAnswer, ChainState, Action, drives, handles, collects, first, action_of, after_action, cause_of, admit_cause, or_empty, at_core, capacity, asks, if_there, next_action}
use Rattle.hj_chain.specs.Steps.{StepsTo, needs_memory, at_port as actor_at}
use Rattle.hj_chain.proofs.Goings.{cause-going}
use Rattle.hj_chain.proofs.Standing.{first-none, first-some}

-- of a queue
pub or_empty-none : {X : Type 0} (xs : List X) (other : Option NotNow) → xs ≡ [] → or_empty xs other ≡ Some Empty
or_empty-none {X} xs other is = ap (λ (ys : List X). or_empty ys other) is

or_empty-some : {X : Type 0} (xs : List X) (x : X) (rest : List X) (other : Option NotNow) → xs ≡ x ∷ rest → or_empty xs other ≡ other
or_empty-some {X} xs x rest other is = ap (λ (ys : List X). or_empty ys other) is

module _ {P : Type 0} (matches : P → P → Bool) (chain : ChainState P) (going : chain.over ≡ false) (answer : FeedAnswer P) where
  abbrev n : ℕ
  n = length chain.cores

  -- an actor that finds what it does, and is enabled
  did : (actor : Actor) (action : Action P) (new : ChainState P) → cause_of chain actor ≡ None → action_of chain actor ≡ Some action → new ≡ after_action matches chain (Some action) answer → StepsTo matches actor answer chain Did new
  did actor action new enabled is made = (cause-going chain actor going ∙ enabled, made ∙ ap (λ (o : Option (Action P)). after_action matches chain o answer) (sym is))

  waits : (actor : Actor) (why : NotNow) (new : ChainState P) → cause_of chain actor ≡ Some why → new ≡ chain → StepsTo matches actor answer chain (NotEnabled why) new
  waits actor why new is same = (cause-going chain actor going ∙ is, same)

  no_memory : (actor : Actor) (new : ChainState P) → cause_of chain actor ≡ None → needs_memory actor ≡ true → new ≡ record chain { over = true } → StepsTo matches actor answer chain Memory new
  no_memory actor new enabled needs made = (cause-going chain actor going ∙ enabled, needs, made)

  -- the driver
  pub asks-did : (new : ChainState P) → chain.next ≡ None → new ≡ record chain { next = Some answer.given } → StepsTo matches Admit answer chain Did new
  asks-did new next made = did Admit asks new (ap (admit_cause chain.driver) next) (ap (λ (g : Option (Given P)). Some (next_action g)) next) made

  pub admit-waits : (event : Event P) (why : Why) (new : ChainState P) → chain.next ≡ Some (given.Event event) → wait_of event chain.driver ≡ Some why → new ≡ chain → StepsTo matches Admit answer chain (NotEnabled (Waits why)) new
  admit-waits event why new next is same = waits Admit (Waits why) new (ap (admit_cause chain.driver) next ∙ ap (option_map Waits) is) same

  pub admit-did : (event : Event P) (new : ChainState P) → chain.next ≡ Some (given.Event event) → wait_of event chain.driver ≡ None
      → new ≡ record chain { driver = after_put event chain.driver; links = put_in (port_of event) n (message_of event) chain.links; next = if_there answer } → StepsTo matches Admit answer chain Did new
  admit-did event new next free made =
      did Admit (drives (admission event)) new (ap (admit_cause chain.driver) next ∙ ap (option_map Waits) free) (ap (λ (g : Option (Given P)). Some (next_action g)) next) made

  port-cause : (port : Side) → cause_of chain (actor_at port) ≡ or_empty (at_port port n chain.links) None
  port-cause Left = refl
  port-cause Right = refl

  port-action : (port : Side) → action_of chain (actor_at port) ≡ option_map (λ message. drives (receipt port message)) (first (at_port port n chain.links))
  port-action Left = refl
  port-action Right = refl

  pub receive-waits : (port : Side) (new : ChainState P) → first (at_port port n chain.links) ≡ None → new ≡ chain → StepsTo matches (actor_at port) answer chain (NotEnabled Empty) new
  receive-waits port new none same = waits (actor_at port) Empty new (port-cause port ∙ or_empty-none (at_port port n chain.links) None (first-none _ none)) same

  pub receive-did : (port : Side) (message : Msg P) (new : ChainState P) → first (at_port port n chain.links) ≡ Some message
      → new ≡ record chain { driver = after_take port message chain.driver; links = take_out port n chain.links } → StepsTo matches (actor_at port) answer chain Did new
  receive-did port message new some made =
      let found = first-some (at_port port n chain.links) message some in
      did (actor_at port) (drives (receipt port message)) new (port-cause port ∙ or_empty-some _ message found.0 None found.1) (port-action port ∙ ap (option_map (λ m. drives (receipt port m))) some) made

  -- a core
  in_chain : (place : ℕ) (other : Option NotNow) → place < n → at_core chain place other ≡ other
  in_chain place other low = ap (λ b. cond b other (Some NoSuchCore)) (lt-ltb place n low)

  pub turn-enabled : (place : CoreNo) (end : Side) (message : Msg P) → place.0 < n → first (incoming end place.0 chain.links) ≡ Some message → (length (queue_at chain.reports place.0) == capacity chain.driver.flight) ≡ false
      → cause_of chain (Core place end) ≡ None
  turn-enabled place end message low some room =
      let found = first-some (incoming end place.0 chain.links) message some in
      in_chain place.0 _ low ∙ or_empty-some _ message found.0 _ found.1 ∙ ap (λ b. cond b (Some ReportsFull) None) room

  pub turn-action : (place : CoreNo) (end : Side) (message : Msg P) → first (incoming end place.0 chain.links) ≡ Some message → action_of chain (Core place end) ≡ Some (handles place.0 end message)
  turn-action place end message some = ap (option_map (handles place.0 end)) some

  pub turn-no_memory : (place : CoreNo) (end : Side) (message : Msg P) (new : ChainState P) → place.0 < n → first (incoming end place.0 chain.links) ≡ Some message
      → (length (queue_at chain.reports place.0) == capacity chain.driver.flight) ≡ false → new ≡ record chain { over = true } → StepsTo matches (Core place end) answer chain Memory new
  turn-no_memory place end message new low some room made = no_memory (Core place end) new (turn-enabled place end message low some room) refl made

  pub turn-did : (place : CoreNo) (end : Side) (message : Msg P) (new : ChainState P) → place.0 < n → first (incoming end place.0 chain.links) ≡ Some message
      → (length (queue_at chain.reports place.0) == capacity chain.driver.flight) ≡ false
      → new ≡ record chain {
        links = send_out place.0 (core.sends place.0 n message).left (core.sends place.0 n message).right (take_in end place.0 chain.links);
        cores = changed_at place.0 (λ state. core.after place.0 n state message) chain.cores;
        reports = changed_at place.0 (λ queue. queue ++ option_to_list (core.report matches (get_or chain.cores place.0 core.empty_state) message)) chain.reports;
      }
      → StepsTo matches (Core place end) answer chain Did new
  turn-did place end message new low some room made = did (Core place end) (handles place.0 end message) new (turn-enabled place end message low some room) (turn-action place end message some) made

  -- a collection
  pub collect-no_memory : (place : CoreNo) (report : Report P) (rest : List (Report P)) (new : ChainState P) → place.0 < n → queue_at chain.reports place.0 ≡ report ∷ rest → new ≡ record chain { over = true }
      → StepsTo matches (Collect place) answer chain Memory new
  collect-no_memory place report rest new low is made = no_memory (Collect place) new (in_chain place.0 _ low ∙ or_empty-some _ report rest None is) refl made

  pub collect-did : (place : CoreNo) (report : Report P) (new : ChainState P) → place.0 < n → first (queue_at chain.reports place.0) ≡ Some report
      → new ≡ record chain { reports = changed_at place.0 (drop 1) chain.reports } → StepsTo matches (Collect place) answer chain Did new
  collect-did place report new low some made =
      let found = first-some (queue_at chain.reports place.0) report some in
      did (Collect place) (collects place.0 report) new (in_chain place.0 _ low ∙ or_empty-some _ report found.0 None found.1) (ap (option_map (collects place.0)) some) made

-- nothing is taken of an empty queue
fixed : {X : Type 0} (i : ℕ) (f : X → X) (xs : List X) (d : X) → f (get_or xs i d) ≡ get_or xs i d → changed_at i f xs ≡ xs
fixed i f [] d same = refl
fixed zero f (x ∷ xs) d same = ap (λ y. y ∷ xs) same
fixed (suc i) f (x ∷ xs) d same = ap (λ ys. x ∷ ys) (fixed i f xs d same)

pub take_out-empty : {M : Type 0} (port : Side) (n : ℕ) (links : List (Queues M)) → first (at_port port n links) ≡ None → take_out port n links ≡ links
take_out-empty {M} Left n links none =
    let nothing : (link_at links 0).leftwards ≡ [] = first-none _ none in
    fixed 0 take_leftwards links _ (ap (λ (ms : List M). record (link_at links 0) { leftwards = drop 1 ms }) nothing ∙ ap (λ (ms : List M). record (link_at links 0) { leftwards = ms }) (sym nothing))
take_out-empty {M} Right n links none =
    let nothing : (link_at links n).rightwards ≡ [] = first-none _ none in
    fixed n take_rightwards links _ (ap (λ (ms : List M). record (link_at links n) { rightwards = drop 1 ms }) nothing ∙ ap (λ (ms : List M). record (link_at links n) { rightwards = ms }) (sym nothing))
