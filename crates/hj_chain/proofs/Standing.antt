-- What is known of a chain that goes on: its lists go with one another, and its queues have room.
use Rattle.std.proofs.Common.{◌≡◌, ℕ, ◌+◌, ◌<◌, ◌≤◌, ◌==◌, Bool, false, List, [], ◌∷◌, ◌++◌, length, Some, None, Option, refl, ap, sym, subst, arith, append-nil, length-append, eq-eqb}
use Rattle.hj_base.specs.declared.numbers.CoreNo.{CoreNo}
use Rattle.hj_base.specs.declared.numbers.Side.{Side}
use Rattle.hj_base.specs.declared.numbers.Side.TheVariants.{Left, Right}
use Rattle.hj_msg.specs.declared.message.Msg.{Msg}
use Rattle.hj_msg.specs.Core as core
use Rattle.hj_msg.specs.Turns.{only_at}
use Rattle.hj_msg.specs.Event.{IsWellFormed}
use Rattle.hj_msg.specs.Driver.{DriverTurn}
use Rattle.hj_chain.specs.declared.actor.Actor.TheVariants.{Core}
use Rattle.hj_chain.specs.Queues.{Queues}
use Rattle.hj_chain.specs.Links.{link_at, incoming, take_in, send_out}
use Rattle.hj_chain.specs.Reports.{queue_at}
use Rattle.hj_chain.specs.Chain.{FeedAnswer, ChainState, Contents, first, after, after_action, action_of, handles, cause, capacity}
use Rattle.hj_chain.specs.Reached.{Reached, steps, history_of}
use Rattle.hj_chain.specs.Steps.{IsGoing, HasRoom}
use Rattle.hj_chain.proofs.Shape.{Shape, shape, links-length, capacity_at}
use Rattle.hj_chain.proofs.Ways.{when, lefts-take_in, rights-send_out, length-take_in}
use Rattle.hj_chain.proofs.Room.{has_room}
use Rattle.hj_chain.proofs.Carrying.{rights, lefts}
use Rattle.hj_chain.proofs.Turning.{turned}
use Rattle.hj_chain.proofs.Driving.{Driven, driven, turns_of}
use Rattle.hj_chain.proofs.Sending.{capacity-changed}
use Rattle.hj_chain.proofs.Goings.{reached-state}

-- the first element of a queue, if there is one
pub first-none : {X : Type 0} (xs : List X) → first xs ≡ None → xs ≡ []
first-none [] none = refl
first-none (x ∷ xs) none = absurd (cc)

pub first-some : {X : Type 0} (xs : List X) (x : X) → first xs ≡ Some x → (rest : List X) × (xs ≡ x ∷ rest)
first-some [] x some = absurd (cc)
first-some (y ∷ xs) x some = let same : y ≡ x = cc in (xs, ap (λ z. z ∷ xs) same)

pub record Stands {P : Type 0} (chain : ChainState P) : Type 0 where
  pub going : chain.over ≡ false
  pub links : length chain.links ≡ length chain.cores + 1
  pub reports : length chain.reports ≡ length chain.cores
  pub room : (k : ℕ) → k < length chain.cores → length (queue_at chain.reports k) ≤ capacity chain.driver.flight
  pub fits_right : (k : ℕ) → k ≤ length chain.cores → length (rights chain k) < (link_at chain.links k).capacity
  pub fits_left : (k : ℕ) → k ≤ length chain.cores → length (lefts chain k) + 1 ≤ (link_at chain.links k).capacity

-- the capacity of a link stays
pub capacity-take_in : {M : Type 0} (end : Side) (place : ℕ) (links : List (Queues M)) (k : ℕ) → k < length links → (link_at (take_in end place links) k).capacity ≡ (link_at links k).capacity
capacity-take_in Left place links k low = capacity-changed place _ links k low (λ q. refl)
capacity-take_in Right place links k low = capacity-changed (place + 1) _ links k low (λ q. refl)

module _ {P J : Type 0} (predicate : J → P → P → Bool) (chain : Contents P J) (goes : IsGoing predicate chain) where
  abbrev n : ℕ
  n = length chain.state.cores

  abbrev flight : ℕ
  flight = chain.state.driver.flight

  pub reached : Reached (predicate chain.join) n flight goes.schedule goes.events chain.state
  reached = reached-state predicate chain goes.schedule goes.events goes.going goes.stands.reached

  of_shape : Shape n flight chain.state
  of_shape = shape reached

  of_room : HasRoom chain.state
  of_room = has_room (predicate chain.join) n flight reached goes.well_formed

  pub stands : Stands chain.state
  stands = record {
    going = goes.going;
    links = links-length n flight chain.state of_shape;
    reports = of_shape.reports;
    room = λ k low. (turned (predicate chain.join) n flight reached k low).room;
    fits_right = λ k within. omega (arith, of_room.rightwards k within, capacity_at n flight chain.state of_shape k within);
    fits_left = λ k within. omega (arith, of_room.leftwards k within, capacity_at n flight chain.state of_shape k within);
  }

  -- the log for which the driver stands
  pub log : List (DriverTurn P)
  log = turns_of (history_of reached).log

  pub driving : Driven goes.events chain.state log
  unfolding log reached
  driving = driven (predicate chain.join) n flight reached goes.well_formed

  -- what a core sends to its right finds room, behind the take of its message
  pub fits_both : (place : CoreNo) (end : Side) (message : Msg P) (answer : FeedAnswer P) → cause chain.state (Core place end) ≡ None → action_of chain.state (Core place end) ≡ Some (handles place.0 end message) → place.0 < n
      → length (link_at (take_in end place.0 chain.state.links) (place.0 + 1)).rightwards + length (core.sends place.0 n message).right ≤ (link_at (take_in end place.0 chain.state.links) (place.0 + 1)).capacity
  fits_both place end message answer enabled is low =
      let k : ℕ = place.0 + 1 in
      let matches = predicate chain.join in
      let next : ChainState P = after matches chain.state (Core place end) answer in
      let reached_next : Reached matches n flight (goes.schedule ++ Core place end ∷ []) (goes.events ++ []) next = steps goes.schedule goes.events chain.state (Core place end) answer reached enabled in
      let well : IsWellFormed (goes.events ++ []) = subst IsWellFormed (sym (append-nil goes.events)) goes.well_formed in
      let room = has_room matches n flight reached_next well in
      let shape_next = shape reached_next in
      let in_links : k < length chain.state.links = omega (arith, low, stands.links) in
      let in_taken : k < length (take_in end place.0 chain.state.links) = omega (arith, in_links, length-take_in end place.0 chain.state.links) in
      let to_right = (core.sends place.0 n message).right in
      let to_left = (core.sends place.0 n message).left in
      let links_next : next.links ≡ send_out place.0 to_left to_right (take_in end place.0 chain.state.links) = ap (λ (o : Option _). (after_action matches chain.state o answer).links) is in
      omega (
        arith,
        room.rightwards k (omega (arith, low, shape_next.cores)),
        shape_next.flight,
        ap (λ (ls : List (Queues (Msg P))). length (link_at ls k).rightwards) links_next,
        ap length (rights-send_out (take_in end place.0 chain.state.links) k in_taken place.0 to_left to_right),
        ap (λ b. length (when b to_right)) (eq-eqb k k refl),
        length-append (link_at (take_in end place.0 chain.state.links) k).rightwards (when (k == k) to_right),
        capacity-take_in end place.0 chain.state.links k in_links,
        capacity_at n flight chain.state of_shape k (omega (arith, low)),
      )

  -- and what it sends to its left
  pub fits_one : (place : CoreNo) (end : Side) (message : Msg P) (rest : List (Msg P)) → incoming end place.0 chain.state.links ≡ message ∷ rest → place.0 < n
      → length (link_at (take_in end place.0 chain.state.links) place.0).leftwards + 1 ≤ (link_at (take_in end place.0 chain.state.links) place.0).capacity
  fits_one place end message rest is low =
      let in_links : place.0 < length chain.state.links = omega (arith, low, stands.links) in
      omega (
        arith,
        stands.fits_left place.0 (omega (arith, low)),
        ap length (lefts-take_in chain.state.links place.0 in_links end place.0 message rest is),
        length-append (when (place.0 == place.0 + 1) (only_at end Right message)) (link_at (take_in end place.0 chain.state.links) place.0).leftwards,
        capacity-take_in end place.0 chain.state.links place.0 in_links,
      )
