-- After each step each queue holds few messages, so that the puts of a next step find room.
use Rattle.std.proofs.Common.{ℕ, zero, suc, ◌+◌, ◌*◌, ◌≤◌, inl, inr, Bool, true, false, cond, List, [], ◌∷◌, length, arith}
use Rattle.hj_msg.specs.declared.event.Event.{Event}
use Rattle.hj_msg.specs.Event.{IsWellFormed}
use Rattle.hj_driver.specs.declared.lane.Departure.TheVariants.{Row, End}
use Rattle.hj_driver.specs.Driver.{is_sent}
use Rattle.hj_chain.specs.declared.actor.Actor.{Actor}
use Rattle.hj_chain.specs.Chain.{ChainState}
use Rattle.hj_chain.specs.Reached.{Reached}
use Rattle.hj_chain.specs.Steps.{HasRoom}
use Rattle.hj_chain.proofs.Shape.{shape, some_core}
use Rattle.hj_chain.proofs.Driving.{driven}
use Rattle.hj_chain.proofs.Carrying.{rights, lefts}
use Rattle.hj_chain.proofs.Directed.{directed}
use Rattle.hj_chain.proofs.Counts.{count}
use Rattle.hj_chain.proofs.MessageKinds.{an_AckS, right_kinds, left_kinds, a_CloseL, a_CloseR}
use Rattle.hj_chain.proofs.Balance.{is_waiting}
use Rattle.hj_chain.proofs.Outstanding.{balanced}
use Rattle.hj_chain.proofs.UnderWay.{rows_right, expiries_right, quiets_right, closes_right, ends_right, rows_left, expiries_left, quiets_left, closes_left, ends_left, way_r, way_l}
use Rattle.hj_chain.proofs.Acknowledged.{acks_under_way}

pub count-length : {X : Type 0} (p : X → Bool) (xs : List X) → count p xs ≤ length xs
count-length p [] = omega arith
count-length p (x ∷ xs) = omega (arith, one (p x), count-length p xs)
  where
    one : (b : Bool) → cond {A = ℕ} b 1 0 ≤ 1
    one true = omega arith
    one false = omega arith

one_close : (b : Bool) → cond {A = ℕ} b 1 0 ≤ 1
one_close true = omega arith
one_close false = omega arith

module _ {P : Type 0} (matches : P → P → Bool) (m most : ℕ) {schedule : List Actor} {events : List (Event P)} {chain : ChainState P} (reached : Reached matches (suc m) most schedule events chain) (well : IsWellFormed events) where
  pub acks : (k : ℕ) → k ≤ suc m → way_r matches m most reached an_AckS k ≤ length chain.driver.right_arrivals
  acks k within = elim (acks_under_way matches m most reached k within) [
    | inl none ↦ omega (arith, none)
    | inr few ↦ omega (arith, few, (balanced matches (suc m) most reached well).right.ends, count-length (is_waiting End) chain.driver.right_arrivals)
  ]

  -- what is under way is outstanding, but for a close
  pub outstanding_right : (k : ℕ) → k ≤ suc m
      → length (rights chain k) ≤ length chain.driver.left_arrivals + 2 * length chain.driver.right_arrivals + length chain.driver.right_expiries + length chain.driver.left_quiets + way_r matches m most reached a_CloseL k
  outstanding_right k within =
      let b = balanced matches (suc m) most reached well in
      omega (
        arith,
        right_kinds (rights chain k),
        (directed matches (suc m) most reached).rightwards k within,
        rows_right matches m most reached k within,
        expiries_right matches m most reached k within,
        quiets_right matches m most reached k within,
        ends_right matches m most reached k within,
        acks k within,
        b.left.rows,
        b.right.ends,
        b.right.expiries,
        b.left.quiets,
        count-length (is_waiting Row) chain.driver.left_arrivals,
        count-length (is_waiting End) chain.driver.right_arrivals,
      )

  pub outstanding_left : (k : ℕ) → k ≤ suc m
      → length (lefts chain k) ≤ length chain.driver.right_arrivals + length chain.driver.left_arrivals + length chain.driver.left_expiries + length chain.driver.right_quiets + way_l matches m most reached a_CloseR k
  outstanding_left k within =
      let b = balanced matches (suc m) most reached well in
      omega (
        arith,
        left_kinds (lefts chain k),
        (directed matches (suc m) most reached).leftwards k within,
        rows_left matches m most reached k within,
        expiries_left matches m most reached k within,
        quiets_left matches m most reached k within,
        ends_left matches m most reached k within,
        b.right.rows,
        b.left.ends,
        b.left.expiries,
        b.right.quiets,
        count-length (is_waiting Row) chain.driver.right_arrivals,
        count-length (is_waiting End) chain.driver.left_arrivals,
      )

  few_rights : (k : ℕ) → k ≤ suc m → length (rights chain k) ≤ 2 * chain.driver.flight + 1
  few_rights k within =
      let close = (balanced matches (suc m) most reached well).left.close in
      omega (arith, outstanding_right k within, closes_right matches m most reached k within, close, one_close (is_sent chain.driver.closes), (driven matches (suc m) most reached well).few)

  few_lefts : (k : ℕ) → k ≤ suc m → length (lefts chain k) ≤ chain.driver.flight + 1
  few_lefts k within =
      let close = (balanced matches (suc m) most reached well).right.close in
      omega (arith, outstanding_left k within, closes_left matches m most reached k within, close, one_close (is_sent chain.driver.closes), (driven matches (suc m) most reached well).few)

room-of : {P : Type 0} (matches : P → P → Bool) (n most : ℕ) {schedule : List Actor} {events : List (Event P)} {chain : ChainState P} → Reached matches n most schedule events chain → 1 ≤ n → IsWellFormed events → HasRoom chain
room-of matches zero most reached some well = absurd (omega (arith, some))
room-of matches (suc m) most reached some well = record {
  rightwards = λ k within. few_rights matches m most reached well k (omega (arith, within, (shape reached).cores));
  leftwards = λ k within. few_lefts matches m most reached well k (omega (arith, within, (shape reached).cores));
}

pub has_room : {P : Type 0} (matches : P → P → Bool) (n most : ℕ) {schedule : List Actor} {events : List (Event P)} {chain : ChainState P} → Reached matches n most schedule events chain → IsWellFormed events → HasRoom chain
has_room matches n most reached well = room-of matches n most reached (some_core reached) well
