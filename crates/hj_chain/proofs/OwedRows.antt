-- Each row and each expiry that the driver awaits is under way: it goes through all links, to the port where the driver takes it.
use Rattle.std.proofs.Common.{ℕ, ◌+◌, ◌≤◌, ◌==◌, List, [], ◌∷◌, refl, arith}
use Rattle.std.specs.List.{filter, filter_map}
use Rattle.hj_base.specs.declared.numbers.EventNo.{EventNo}
use Rattle.hj_base.specs.declared.numbers.Side.{Side}
use Rattle.hj_base.specs.declared.numbers.Side.TheVariants.{Left, Right}
use Rattle.hj_msg.specs.declared.event.Event.{Event}
use Rattle.hj_msg.specs.declared.event.Event.TheVariants.{Arrive, Expire, Quiet}
use Rattle.hj_msg.specs.declared.message.Msg.{Msg}
use Rattle.hj_msg.specs.declared.message.Msg.TheVariants.{R, EndS, ExpS, QuietL, S, EndR, ExpR, QuietR}
use Rattle.hj_msg.specs.Core.{sends}
use Rattle.hj_msg.specs.Driver.{message_of, port_of}
use Rattle.hj_msg.specs.Messages.{is_R, is_S, is_ExpR, is_ExpS, is_QuietL, is_QuietR}
use Rattle.hj_driver.specs.declared.lane.Departure.TheVariants.{Row, End}
use Rattle.hj_driver.specs.declared.lane.OutstandingArrival.{OutstandingArrival}
use Rattle.hj_driver.specs.Lane.{waits_for}
use Rattle.hj_driver.specs.Driver.{DriverState, after_put, after_message, stays, quiet_stays}
use Rattle.hj_chain.proofs.Counts.{count, count-append}
use Rattle.hj_chain.proofs.OwedThrough.{handles-left, handles-right, owes-driver, to_left, to_right}
use Rattle.hj_chain.proofs.Owing.{Owes, Fewer}
use Rattle.hj_chain.proofs.Totals.{sum_of}
use Rattle.hj_chain.proofs.Weighing.{Weights, at_entry, at_exit}
use Rattle.hj_chain.proofs.Awaited.{one, outstanding_of, waits-put, taken-one, waits-others, waits-still, number-taken, number-still}

module _ (P : Type 0) (n number : ℕ) where
  -- the row of a left arrival, which goes through to the right port
  abbrev pub row_left : Weights (Msg P)
  row_left = to_right (is_R number)

  row_left-putting : (event : Event P) (driver : DriverState) → count (waits_for number Row) (after_put event driver).left_arrivals ≤ count (waits_for number Row) driver.left_arrivals + at_entry row_left (port_of event) n (message_of event)
  row_left-putting (Arrive at Left row) driver = omega (arith, waits-put number Row driver.left_arrivals at)
  row_left-putting (Expire at Left of) driver = omega arith
  row_left-putting (Quiet at Left) driver = omega arith
  row_left-putting event driver = omega arith

  row_left-taking : (port : Side) (message : Msg P) (arrivals : List OutstandingArrival)
      → Fewer (count (waits_for number Row) (filter_map (after_message Left port message) arrivals)) (at_exit row_left port n message) (count (waits_for number Row) arrivals)
  row_left-taking Right (R at row) arrivals = taken-one number at.0 Row arrivals
  row_left-taking Left (EndR at) arrivals = waits-others number at.0 Row End arrivals 0 refl
  row_left-taking port message arrivals = waits-still number Row arrivals 0 refl

  R-passes : (place : ℕ) (message : Msg P) → one (is_R number message) ≤ sum_of (λ (m : Msg P). one (is_R number m)) (sends place n message).right
  R-passes place (R at row) = omega arith
  R-passes place message = omega arith

  pub owes-row_left : Owes n row_left (λ driver cores. count (waits_for number Row) driver.left_arrivals)
  owes-row_left =
      owes-driver n row_left (λ driver. count (waits_for number Row) driver.left_arrivals) (λ most. refl) row_left-putting (λ driver. omega arith) (λ port message driver. row_left-taking port message driver.left_arrivals)
      (handles-right n (is_R number) R-passes)

  -- that of a right one, which goes through to the left port
  abbrev pub row_right : Weights (Msg P)
  row_right = to_left (is_S number)

  row_right-putting : (event : Event P) (driver : DriverState) → count (waits_for number Row) (after_put event driver).right_arrivals ≤ count (waits_for number Row) driver.right_arrivals + at_entry row_right (port_of event) n (message_of event)
  row_right-putting (Arrive at Right row) driver = omega (arith, waits-put number Row driver.right_arrivals at)
  row_right-putting (Expire at Left of) driver = omega arith
  row_right-putting (Quiet at Left) driver = omega arith
  row_right-putting event driver = omega arith

  row_right-taking : (port : Side) (message : Msg P) (arrivals : List OutstandingArrival)
      → Fewer (count (waits_for number Row) (filter_map (after_message Right port message) arrivals)) (at_exit row_right port n message) (count (waits_for number Row) arrivals)
  row_right-taking Left (S at row) arrivals = taken-one number at.0 Row arrivals
  row_right-taking Right (EndS at) arrivals = waits-others number at.0 Row End arrivals 0 refl
  row_right-taking port message arrivals = waits-still number Row arrivals 0 refl

  S-passes : (place : ℕ) (message : Msg P) → one (is_S number message) ≤ sum_of (λ (m : Msg P). one (is_S number m)) (sends place n message).left
  S-passes place (S at row) = omega arith
  S-passes place message = omega arith

  pub owes-row_right : Owes n row_right (λ driver cores. count (waits_for number Row) driver.right_arrivals)
  owes-row_right =
      owes-driver n row_right (λ driver. count (waits_for number Row) driver.right_arrivals) (λ most. refl) row_right-putting (λ driver. omega arith) (λ port message driver. row_right-taking port message driver.right_arrivals)
      (handles-left n (is_S number) S-passes)

  -- the message of an expiry
  abbrev pub expiry_left : Weights (Msg P)
  expiry_left = to_left (is_ExpR number)

  expiry_left-putting : (event : Event P) (driver : DriverState) → outstanding_of number (after_put event driver).left_expiries ≤ outstanding_of number driver.left_expiries + at_entry expiry_left (port_of event) n (message_of event)
  expiry_left-putting (Expire at Left of) driver = omega (arith, count-append (λ (o : EventNo). o.0 == number) driver.left_expiries (of ∷ []))
  expiry_left-putting (Arrive at Left row) driver = omega arith
  expiry_left-putting (Quiet at Left) driver = omega arith
  expiry_left-putting event driver = omega arith

  expiry_left-taking : (port : Side) (message : Msg P) (expiries : List EventNo)
      → Fewer (outstanding_of number (filter (stays Left port message) expiries)) (at_exit expiry_left port n message) (outstanding_of number expiries)
  expiry_left-taking Left (ExpR of) expiries = number-taken number of.0 expiries
  expiry_left-taking port message expiries = number-still number expiries 0 refl

  ExpR-passes : (place : ℕ) (message : Msg P) → one (is_ExpR number message) ≤ sum_of (λ (m : Msg P). one (is_ExpR number m)) (sends place n message).left
  ExpR-passes place (ExpR at) = omega arith
  ExpR-passes place message = omega arith

  pub owes-expiry_left : Owes n expiry_left (λ driver cores. outstanding_of number driver.left_expiries)
  owes-expiry_left =
      owes-driver n expiry_left (λ driver. outstanding_of number driver.left_expiries) (λ most. refl) expiry_left-putting (λ driver. omega arith) (λ port message driver. expiry_left-taking port message driver.left_expiries)
      (handles-left n (is_ExpR number) ExpR-passes)

  abbrev pub expiry_right : Weights (Msg P)
  expiry_right = to_right (is_ExpS number)

  expiry_right-putting : (event : Event P) (driver : DriverState) → outstanding_of number (after_put event driver).right_expiries ≤ outstanding_of number driver.right_expiries + at_entry expiry_right (port_of event) n (message_of event)
  expiry_right-putting (Expire at Right of) driver = omega (arith, count-append (λ (o : EventNo). o.0 == number) driver.right_expiries (of ∷ []))
  expiry_right-putting (Arrive at Left row) driver = omega arith
  expiry_right-putting (Quiet at Left) driver = omega arith
  expiry_right-putting event driver = omega arith

  expiry_right-taking : (port : Side) (message : Msg P) (expiries : List EventNo)
      → Fewer (outstanding_of number (filter (stays Right port message) expiries)) (at_exit expiry_right port n message) (outstanding_of number expiries)
  expiry_right-taking Right (ExpS of) expiries = number-taken number of.0 expiries
  expiry_right-taking port message expiries = number-still number expiries 0 refl

  ExpS-passes : (place : ℕ) (message : Msg P) → one (is_ExpS number message) ≤ sum_of (λ (m : Msg P). one (is_ExpS number m)) (sends place n message).right
  ExpS-passes place (ExpS at) = omega arith
  ExpS-passes place message = omega arith

  pub owes-expiry_right : Owes n expiry_right (λ driver cores. outstanding_of number driver.right_expiries)
  owes-expiry_right =
      owes-driver n expiry_right (λ driver. outstanding_of number driver.right_expiries) (λ most. refl) expiry_right-putting (λ driver. omega arith) (λ port message driver. expiry_right-taking port message driver.right_expiries)
      (handles-right n (is_ExpS number) ExpS-passes)

  -- the message of a quiet event
  abbrev pub quiet_left : Weights (Msg P)
  quiet_left = to_right (is_QuietL number)

  quiet_left-putting : (event : Event P) (driver : DriverState) → outstanding_of number (after_put event driver).left_quiets ≤ outstanding_of number driver.left_quiets + at_entry quiet_left (port_of event) n (message_of event)
  quiet_left-putting (Quiet at Left) driver = omega (arith, count-append (λ (o : EventNo). o.0 == number) driver.left_quiets (at ∷ []))
  quiet_left-putting (Arrive at Left row) driver = omega arith
  quiet_left-putting (Expire at Left of) driver = omega arith
  quiet_left-putting event driver = omega arith

  quiet_left-taking : (port : Side) (message : Msg P) (quiets : List EventNo)
      → Fewer (outstanding_of number (filter (quiet_stays Left port message) quiets)) (at_exit quiet_left port n message) (outstanding_of number quiets)
  quiet_left-taking Right (QuietL at) quiets = number-taken number at.0 quiets
  quiet_left-taking port message quiets = number-still number quiets 0 refl

  QuietL-passes : (place : ℕ) (message : Msg P) → one (is_QuietL number message) ≤ sum_of (λ (m : Msg P). one (is_QuietL number m)) (sends place n message).right
  QuietL-passes place (QuietL at) = omega arith
  QuietL-passes place message = omega arith

  pub owes-quiet_left : Owes n quiet_left (λ driver cores. outstanding_of number driver.left_quiets)
  owes-quiet_left =
      owes-driver n quiet_left (λ driver. outstanding_of number driver.left_quiets) (λ most. refl) quiet_left-putting (λ driver. omega arith) (λ port message driver. quiet_left-taking port message driver.left_quiets)
      (handles-right n (is_QuietL number) QuietL-passes)

  abbrev pub quiet_right : Weights (Msg P)
  quiet_right = to_left (is_QuietR number)

  quiet_right-putting : (event : Event P) (driver : DriverState) → outstanding_of number (after_put event driver).right_quiets ≤ outstanding_of number driver.right_quiets + at_entry quiet_right (port_of event) n (message_of event)
  quiet_right-putting (Quiet at Right) driver = omega (arith, count-append (λ (o : EventNo). o.0 == number) driver.right_quiets (at ∷ []))
  quiet_right-putting (Arrive at Left row) driver = omega arith
  quiet_right-putting (Expire at Left of) driver = omega arith
  quiet_right-putting event driver = omega arith

  quiet_right-taking : (port : Side) (message : Msg P) (quiets : List EventNo)
      → Fewer (outstanding_of number (filter (quiet_stays Right port message) quiets)) (at_exit quiet_right port n message) (outstanding_of number quiets)
  quiet_right-taking Left (QuietR at) quiets = number-taken number at.0 quiets
  quiet_right-taking port message quiets = number-still number quiets 0 refl

  QuietR-passes : (place : ℕ) (message : Msg P) → one (is_QuietR number message) ≤ sum_of (λ (m : Msg P). one (is_QuietR number m)) (sends place n message).left
  QuietR-passes place (QuietR at) = omega arith
  QuietR-passes place message = omega arith

  pub owes-quiet_right : Owes n quiet_right (λ driver cores. outstanding_of number driver.right_quiets)
  owes-quiet_right =
      owes-driver n quiet_right (λ driver. outstanding_of number driver.right_quiets) (λ most. refl) quiet_right-putting (λ driver. omega arith) (λ port message driver. quiet_right-taking port message driver.right_quiets)
      (handles-left n (is_QuietR number) QuietR-passes)
