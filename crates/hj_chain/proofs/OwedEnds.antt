-- Each end mark that the driver awaits is under way, or the row from which it comes: core 0 makes those of right rows, and the last
-- core those of left ones.
use Rattle.std.proofs.Common.{◌≡◌, ℕ, ◌+◌, ◌≤◌, ◌==◌, nat_lt, Bool, true, false, cond, List, ◌++◌, refl, ap, arith, eq-eqb, ne_eqb}
use Rattle.std.specs.List.{filter_map}
use Rattle.hj_base.specs.declared.numbers.EventNo.{EventNo}
use Rattle.hj_base.specs.declared.numbers.Side.{Side}
use Rattle.hj_base.specs.declared.numbers.Side.TheVariants.{Left, Right}
use Rattle.hj_msg.specs.declared.event.Event.{Event}
use Rattle.hj_msg.specs.declared.event.Event.TheVariants.{Arrive, Expire, Quiet}
use Rattle.hj_msg.specs.declared.message.Msg.{Msg}
use Rattle.hj_msg.specs.declared.message.Msg.TheVariants.{R, AckS, EndS, S, EndR}
use Rattle.hj_msg.specs.Core.{only_if, is_last}
use Rattle.hj_msg.specs.Driver.{message_of, port_of}
use Rattle.hj_msg.specs.Messages.{is_R, is_S, is_EndR, is_EndS}
use Rattle.hj_driver.specs.declared.lane.Departure.TheVariants.{Row, End}
use Rattle.hj_driver.specs.declared.lane.OutstandingArrival.{OutstandingArrival}
use Rattle.hj_driver.specs.Lane.{waits_for}
use Rattle.hj_driver.specs.Driver.{DriverState, after_put, after_message}
use Rattle.hj_chain.proofs.Counts.{count}
use Rattle.hj_chain.proofs.OwedThrough.{Handles, owes-driver}
use Rattle.hj_chain.proofs.Owing.{Owes, Fewer}
use Rattle.hj_chain.proofs.Totals.{sum_of}
use Rattle.hj_chain.proofs.Weighing.{Weights, at_entry, at_exit}
use Rattle.hj_chain.proofs.Awaited.{one, waits-put, taken-one, waits-others, waits-still}

less : (b : Bool) (x : ℕ) → cond b 0 x ≤ x
less true x = omega arith
less false x = omega arith

module _ (P : Type 0) (n number : ℕ) (some : 1 ≤ n) where
  -- behind the last core a left row has its end mark
  abbrev pub end_left : Weights (Msg P)
  end_left = record { rightwards = λ k message. cond (k == n) 0 (one (is_R number message)); leftwards = λ k message. one (is_EndR number message) }

  end_left-putting : (event : Event P) (driver : DriverState) → count (waits_for number End) (after_put event driver).left_arrivals ≤ count (waits_for number End) driver.left_arrivals + at_entry end_left (port_of event) n (message_of event)
  end_left-putting (Arrive at Left row) driver = omega (arith, waits-put number End driver.left_arrivals at, ap (λ b. cond b 0 (one (at.0 == number))) (ne_eqb 0 n (λ same. omega (arith, same, some))))
  end_left-putting (Expire at Left of) driver = omega arith
  end_left-putting (Quiet at Left) driver = omega arith
  end_left-putting event driver = omega arith

  none_out : (message : Msg P) → at_exit end_left Right n message ≡ 0
  none_out message = ap (λ b. cond b 0 (one (is_R number message))) (eq-eqb n n refl)

  end_left-taking : (port : Side) (message : Msg P) (arrivals : List OutstandingArrival)
      → Fewer (count (waits_for number End) (filter_map (after_message Left port message) arrivals)) (at_exit end_left port n message) (count (waits_for number End) arrivals)
  end_left-taking Left (EndR at) arrivals = taken-one number at.0 End arrivals
  end_left-taking Left message arrivals = waits-still number End arrivals 0 refl
  end_left-taking Right (R at row) arrivals = waits-others number at.0 End Row arrivals _ (none_out (R at row))
  end_left-taking Right message arrivals = waits-still number End arrivals _ (none_out message)

  end_left-handling : Handles n end_left
  end_left-handling Left place (R at row) = omega (arith, less (place == n) (one (at.0 == number)), mark-or-row (is_last place n) at row)
    where
      mark-or-row : (last : Bool) (at : EventNo) (row : P) → one (at.0 == number) ≤ sum_of (λ message. one (is_EndR number message)) (only_if {P = P} last (EndR at)) + cond last 0 (one (is_R number (R at row)))
      mark-or-row true at row = omega arith
      mark-or-row false at row = omega arith
  end_left-handling Left place message = omega (arith, less (place == n) (one (is_R number message)))
  end_left-handling Right place (EndR at) = omega arith
  end_left-handling Right place message = omega arith

  pub owes-end_left : Owes n end_left (λ driver cores. count (waits_for number End) driver.left_arrivals)
  owes-end_left =
      owes-driver n end_left (λ driver. count (waits_for number End) driver.left_arrivals) (λ most. refl) end_left-putting (λ driver. omega arith) (λ port message driver. end_left-taking port message driver.left_arrivals) end_left-handling

  -- and behind core 0 a right one
  abbrev pub end_right : Weights (Msg P)
  end_right = record { rightwards = λ k message. one (is_EndS number message); leftwards = λ k message. cond (k == 0) 0 (one (is_S number message)) }

  end_right-putting : (event : Event P) (driver : DriverState) → count (waits_for number End) (after_put event driver).right_arrivals ≤ count (waits_for number End) driver.right_arrivals + at_entry end_right (port_of event) n (message_of event)
  end_right-putting (Arrive at Right row) driver = omega (arith, waits-put number End driver.right_arrivals at, ap (λ b. cond b 0 (one (at.0 == number))) (ne_eqb n 0 (λ same. omega (arith, same, some))))
  end_right-putting (Expire at Left of) driver = omega arith
  end_right-putting (Quiet at Left) driver = omega arith
  end_right-putting event driver = omega arith

  end_right-taking : (port : Side) (message : Msg P) (arrivals : List OutstandingArrival)
      → Fewer (count (waits_for number End) (filter_map (after_message Right port message) arrivals)) (at_exit end_right port n message) (count (waits_for number End) arrivals)
  end_right-taking Right (EndS at) arrivals = taken-one number at.0 End arrivals
  end_right-taking Left (S at row) arrivals = waits-others number at.0 End Row arrivals 0 refl
  end_right-taking port message arrivals = waits-still number End arrivals 0 refl

  end_right-handling : Handles n end_right
  end_right-handling Right place (S at row) = omega (arith, less (place + 1 == 0) (one (at.0 == number)), row-or-mark (nat_lt (place + 1) n) (place == 0) at row)
    where
      row-or-mark : (inner first : Bool) (at : EventNo) (row : P) → one (at.0 == number)
          ≤ cond first 0 (one (is_S number (S at row))) + sum_of (λ message. one (is_EndS number message)) (only_if {P = P} inner (AckS at) ++ only_if first (EndS at))
      row-or-mark true true at row = omega arith
      row-or-mark true false at row = omega arith
      row-or-mark false true at row = omega arith
      row-or-mark false false at row = omega arith
  end_right-handling Right place message = omega (arith, less (place + 1 == 0) (one (is_S number message)))
  end_right-handling Left place (EndS at) = omega arith
  end_right-handling Left place message = omega arith

  pub owes-end_right : Owes n end_right (λ driver cores. count (waits_for number End) driver.right_arrivals)
  owes-end_right =
      owes-driver n end_right (λ driver. count (waits_for number End) driver.right_arrivals) (λ most. refl) end_right-putting (λ driver. omega arith) (λ port message driver. end_right-taking port message driver.right_arrivals) end_right-handling
