-- What no step changes: how many links, cores and queues there are, how much they hold, and the flight.
use Rattle.std.proofs.Common.{◌≡◌, ℕ, ◌+◌, ◌<◌, ◌≤◌, Bool, false, List, [], ◌∷◌, length, map, get_or, replicate, Some, None, Option, refl, ap, sym, ◌∙◌, arith}
use Rattle.std.proofs.lemmas.List.{length-map, length-replicate, get_or-map, get_or-replicate}
use Rattle.hj_base.specs.declared.numbers.Side.{Side}
use Rattle.hj_base.specs.declared.numbers.Side.TheVariants.{Left, Right}
use Rattle.hj_msg.specs.declared.event.Event.{Event}
use Rattle.hj_msg.specs.declared.message.Msg.{Msg}
use Rattle.hj_msg.specs.declared.message.Msg.TheVariants.{CloseL, CloseR}
use Rattle.hj_msg.specs.Core as core
use Rattle.hj_msg.specs.Driver.{DriverTurn, admission, receipt, closing, message_of, port_of}
use Rattle.hj_driver.proofs.Standing.{flight-put}
use Rattle.hj_chain.specs.declared.actor.Actor.{Actor}
use Rattle.hj_chain.specs.Queues.{Queues, no_messages}
use Rattle.hj_chain.specs.Links.{changed_at, link_at, put_rightwards, put_leftwards, take_rightwards, take_leftwards, put_in, take_out, take_in, send_out}
use Rattle.hj_chain.specs.Chain.{FeedAnswer, ChainState, Action, asks, drives, handles, collects, action_of, after_action, links_after, driver_after, capacity}
use Rattle.hj_chain.specs.Reached.{Reached, begins, steps}
use Rattle.hj_chain.proofs.Places.{length-changed_at, map-changed_at, changed_at-same}
use Rattle.hj_chain.proofs.ReportQueues.{map-replicate}

pub record Shape {P : Type 0} (n most : ℕ) (chain : ChainState P) : Type 0 where
  pub cores : length chain.cores ≡ n
  pub capacities : map (λ q. q.capacity) chain.links ≡ replicate (n + 1) (capacity most)
  pub reports : length chain.reports ≡ n
  pub flight : chain.driver.flight ≡ most
  pub going : chain.over ≡ false

abbrev capacities_of : {M : Type 0} → List (Queues M) → List ℕ
capacities_of links = map (λ q. q.capacity) links

-- a change of the queues alone
capacities-changed : {M : Type 0} (i : ℕ) (f : Queues M → Queues M) (links : List (Queues M)) → ((q : Queues M) → (f q).capacity ≡ q.capacity) → capacities_of (changed_at i f links) ≡ capacities_of links
capacities-changed {M} i f links same = map-changed_at (λ (q : Queues M). q.capacity) i f (λ x. x) links same ∙ changed_at-same i (λ x. x) (capacities_of links) (λ x. refl)

capacities-put_in : {M : Type 0} (port : Side) (n : ℕ) (message : M) (links : List (Queues M)) → capacities_of (put_in port n message links) ≡ capacities_of links
capacities-put_in Left n message links = capacities-changed 0 (put_rightwards (message ∷ [])) links (λ q. refl)
capacities-put_in Right n message links = capacities-changed n (put_leftwards (message ∷ [])) links (λ q. refl)

capacities-take_out : {M : Type 0} (port : Side) (n : ℕ) (links : List (Queues M)) → capacities_of (take_out port n links) ≡ capacities_of links
capacities-take_out Left n links = capacities-changed 0 take_leftwards links (λ q. refl)
capacities-take_out Right n links = capacities-changed n take_rightwards links (λ q. refl)

capacities-take_in : {M : Type 0} (end : Side) (place : ℕ) (links : List (Queues M)) → capacities_of (take_in end place links) ≡ capacities_of links
capacities-take_in Left place links = capacities-changed place take_rightwards links (λ q. refl)
capacities-take_in Right place links = capacities-changed (place + 1) take_leftwards links (λ q. refl)

capacities-send_out : {M : Type 0} (place : ℕ) (to_left to_right : List M) (links : List (Queues M)) → capacities_of (send_out place to_left to_right links) ≡ capacities_of links
capacities-send_out place to_left to_right links =
    capacities-changed (place + 1) (put_rightwards to_right) (changed_at place (put_leftwards to_left) links) (λ q. refl)
    ∙ capacities-changed place (put_leftwards to_left) links (λ q. refl)

capacities-links_after : {P : Type 0} (n : ℕ) (turn : DriverTurn P) (links : List (Queues (Msg P))) → capacities_of (links_after n turn links) ≡ capacities_of links
capacities-links_after n (admission event) links = capacities-put_in (port_of event) n (message_of event) links
capacities-links_after n (receipt port message) links = capacities-take_out port n links
capacities-links_after n closing links = capacities-put_in Right n CloseR (put_in Left n CloseL links) ∙ capacities-put_in Left n CloseL links

flight-driver_after : {P : Type 0} (chain : ChainState P) (turn : DriverTurn P) → (driver_after turn chain.driver).flight ≡ chain.driver.flight
flight-driver_after chain (admission event) = flight-put event chain.driver
flight-driver_after chain (receipt port message) = refl
flight-driver_after chain closing = refl

shape-after : {P : Type 0} (matches : P → P → Bool) (n flight : ℕ) (chain : ChainState P) (action : Option (Action P)) (answer : FeedAnswer P) → Shape n flight chain → Shape n flight (after_action matches chain action answer)
shape-after matches n flight chain None answer shape = shape
shape-after matches n flight chain (Some asks) answer shape =
    record {
      cores = shape.cores;
      capacities = shape.capacities;
      reports = shape.reports;
      flight = shape.flight;
      going = shape.going;
    }
shape-after matches n flight chain (Some (drives turn)) answer shape =
    record {
      cores = shape.cores;
      capacities = capacities-links_after (length chain.cores) turn chain.links ∙ shape.capacities;
      reports = shape.reports;
      flight = flight-driver_after chain turn ∙ shape.flight;
      going = shape.going;
    }
shape-after matches n flight chain (Some (handles place end message)) answer shape =
    record {
      cores = length-changed_at place _ chain.cores ∙ shape.cores;
      capacities = capacities-send_out place _ _ (take_in end place chain.links) ∙ capacities-take_in end place chain.links ∙ shape.capacities;
      reports = length-changed_at place _ chain.reports ∙ shape.reports;
      flight = shape.flight;
      going = shape.going;
    }
shape-after matches n flight chain (Some (collects place report)) answer shape =
    record {
      cores = shape.cores;
      capacities = shape.capacities;
      reports = length-changed_at place _ chain.reports ∙ shape.reports;
      flight = shape.flight;
      going = shape.going;
    }

pub shape : {P : Type 0} {matches : P → P → Bool} {n flight : ℕ} {schedule : List Actor} {events : List (Event P)} {chain : ChainState P} → Reached matches n flight schedule events chain → Shape n flight chain
shape {P} {n = n} {flight = flight} (begins some first) =
    record {
      cores = length-replicate n core.empty_state;
      capacities = map-replicate (λ (q : Queues (Msg P)). q.capacity) (n + 1) (no_messages (capacity flight));
      reports = length-replicate n [];
      flight = refl;
      going = refl;
    }
shape {matches = matches} {n = n} {flight = flight} (steps schedule events chain actor answer before enabled) = shape-after matches n flight chain (action_of chain actor) answer (shape before)

-- there is a core
pub some_core : {P : Type 0} {matches : P → P → Bool} {n flight : ℕ} {schedule : List Actor} {events : List (Event P)} {chain : ChainState P} → Reached matches n flight schedule events chain → 1 ≤ n
some_core (begins some first) = some
some_core (steps schedule events chain actor answer before enabled) = some_core before

pub links-length : {P : Type 0} (n flight : ℕ) (chain : ChainState P) → Shape n flight chain → length chain.links ≡ n + 1
links-length {P} n flight chain shape = sym (length-map chain.links (λ (q : Queues (Msg P)). q.capacity)) ∙ ap length shape.capacities ∙ length-replicate (n + 1) (capacity flight)

pub capacity_at : {P : Type 0} (n flight : ℕ) (chain : ChainState P) → Shape n flight chain → (k : ℕ) → k ≤ n → (link_at chain.links k).capacity ≡ capacity flight
capacity_at {P} n flight chain shape k within =
    let all = links-length n flight chain shape in
    let here : k < length chain.links = omega arith in
    sym (get_or-map (λ (q : Queues (Msg P)). q.capacity) chain.links k (no_messages 0) 0 here) ∙ ap (λ (xs : List ℕ). get_or xs k 0) shape.capacities ∙ get_or-replicate (n + 1) k (capacity flight) 0 (omega arith)
