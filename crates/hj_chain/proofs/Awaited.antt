-- What a driver awaits of its outstanding events, by their numbers, where one message is taken.
use Rattle.std.proofs.Common.{◌≡◌, ℕ, ◌+◌, ◌≤◌, inl, inr, ◌==◌, not, ◌&&◌, Bool, true, false, cond, List, [], ◌∷◌, ◌++◌, Some, None, Option, refl, ap, sym, ◌∙◌, arith}
use Rattle.std.specs.List.{filter, filter_map}
use Rattle.std.specs.Option.{option_to_list}
use Rattle.std.proofs.lemmas.Bool.Decides.{eqb_tells, nat_tests}
use Rattle.hj_base.specs.declared.numbers.EventNo.{EventNo}
use Rattle.hj_driver.specs.declared.lane.Departure.{Departure}
use Rattle.hj_driver.specs.declared.lane.Departure.TheVariants.{Row, End}
use Rattle.hj_driver.specs.declared.lane.OutstandingArrival.{OutstandingArrival}
use Rattle.hj_driver.specs.Lane.{after_departure, is_other, is_taken, is_same, with_departure, waits_for}
use Rattle.hj_driver.specs.Driver.{arrival_of}
use Rattle.hj_chain.proofs.Balance.{count-cons_option, all_stay, none_go}
use Rattle.hj_chain.proofs.Counts.{count, count-append}
use Rattle.hj_chain.proofs.Owing.{Fewer}

-- one message
abbrev pub one : Bool → ℕ
one b = cond b 1 0

-- a message that is taken leaves no arrival that waits for it, and no more that wait for others
kept-or-not : {X : Type 0} (p : X → Bool) (kept : Bool) (x : X) → count p (option_to_list (cond kept (Some x) None)) ≤ one (p x)
kept-or-not p true x = omega arith
kept-or-not p false x = omega arith

narrower : (one_of other : Bool) → one (one_of && other) ≤ one (one_of && true)
narrower true true = omega arith
narrower true false = omega arith
narrower false other = omega arith

neither : (number : Bool) → one (number && false) ≡ 0
neither true = refl
neither false = refl

still-waits : (number : ℕ) (departure taken : Departure) (same : Bool) (at : EventNo) (before : Option Departure)
    → count (waits_for number departure) (option_to_list (cond same (with_departure taken (record { no = at; taken = before }) before) (Some (record { no = at; taken = before })))) ≤ one (waits_for number departure (record { no = at; taken = before }))
still-waits number departure taken false at before = omega arith
still-waits number departure taken true at None = omega (arith, narrower (number == at.0) (not (is_same taken departure)))
still-waits number departure taken true at (Some before) = kept-or-not (waits_for number departure) (is_same before taken) (record { no = at; taken = Some before })

waits-take : (number other : ℕ) (departure taken : Departure) (arrivals : List OutstandingArrival) → count (waits_for number departure) (filter_map (after_departure other taken) arrivals) ≤ count (waits_for number departure) arrivals
waits-take number other departure taken [] = omega arith
waits-take number other departure taken (a ∷ later) = omega (
  arith,
  still-waits number departure taken (other == a.no.0) a.no a.taken,
  waits-take number other departure taken later,
  count-cons_option (waits_for number departure) (after_departure other taken a) (filter_map (after_departure other taken) later),
)

waits-not : (number : ℕ) (departure : Departure) (at : EventNo) (before : Option Departure) → count (waits_for number departure) (option_to_list (with_departure departure (record { no = at; taken = before }) before)) ≡ 0
waits-not number Row at None = omega (arith, neither (number == at.0))
waits-not number Row at (Some Row) = omega (arith, neither (number == at.0))
waits-not number Row at (Some End) = refl
waits-not number End at None = omega (arith, neither (number == at.0))
waits-not number End at (Some End) = omega (arith, neither (number == at.0))
waits-not number End at (Some Row) = refl

waits-gone : (number : ℕ) (departure : Departure) (a : OutstandingArrival) → count (waits_for number departure) (option_to_list (after_departure number departure a)) ≡ 0
waits-gone number departure a = elim (eqb_tells number a.no.0) [
  | inl w ↦ ap (λ b. count (waits_for number departure) (option_to_list (cond b (with_departure departure a a.taken) (Some a)))) w.0 ∙ waits-not number departure a.no a.taken
  | inr w ↦ ap (λ b. count (waits_for number departure) (option_to_list (cond b (with_departure departure a a.taken) (Some a)))) w.0 ∙ ap (λ b. one (b && not (is_taken departure a.taken)) + 0) w.0
]

pub waits-taken : (number : ℕ) (departure : Departure) (arrivals : List OutstandingArrival) → count (waits_for number departure) (filter_map (after_departure number departure) arrivals) ≡ 0
waits-taken number departure [] = refl
waits-taken number departure (a ∷ later) = omega (
  arith,
  waits-gone number departure a,
  waits-taken number departure later,
  count-cons_option (waits_for number departure) (after_departure number departure a) (filter_map (after_departure number departure) later),
)

waits-same : (number : ℕ) (departure : Departure) (arrivals : List OutstandingArrival) → count (waits_for number departure) (filter_map (λ (a : OutstandingArrival). Some a) arrivals) ≡ count (waits_for number departure) arrivals
waits-same number departure arrivals = ap (count (waits_for number departure)) (sym (all_stay arrivals))

-- of arrivals of which one message is taken, by its number
pub taken-one : (number at : ℕ) (departure : Departure) (arrivals : List OutstandingArrival) → Fewer (count (waits_for number departure) (filter_map (after_departure at departure) arrivals)) (one (at == number)) (count (waits_for number departure) arrivals)
taken-one number at departure arrivals = elim (eqb_tells at number) [
  | inl w ↦ inl (ap (λ i. count (waits_for number departure) (filter_map (after_departure i departure) arrivals)) w.1 ∙ waits-taken number departure arrivals)
  | inr w ↦ inr (omega (arith, waits-take number at departure departure arrivals, ap one w.0))
]

-- one more arrival
pub waits-put : (number : ℕ) (departure : Departure) (arrivals : List OutstandingArrival) (at : EventNo) → count (waits_for number departure) (arrivals ++ arrival_of at ∷ []) ≡ count (waits_for number departure) arrivals + one (at.0 == number)
waits-put number departure arrivals at = grind (arith, nat_tests, count-append (waits_for number departure) arrivals (arrival_of at ∷ []))

pub waits-others : (number at : ℕ) (departure taken : Departure) (arrivals : List OutstandingArrival) (gone : ℕ) → gone ≡ 0 → Fewer (count (waits_for number departure) (filter_map (after_departure at taken) arrivals)) gone (count (waits_for number departure) arrivals)
waits-others number at departure taken arrivals gone none = inr (omega (arith, waits-take number at departure taken arrivals, none))

pub waits-still : (number : ℕ) (departure : Departure) (arrivals : List OutstandingArrival) (gone : ℕ) → gone ≡ 0 → Fewer (count (waits_for number departure) (filter_map (λ (a : OutstandingArrival). Some a) arrivals)) gone (count (waits_for number departure) arrivals)
waits-still number departure arrivals gone none = inr (omega (arith, waits-same number departure arrivals, none))

-- how many events that leave by one message are outstanding under a number: expiries, by that of their row, or quiet events
abbrev pub outstanding_of : ℕ → List EventNo → ℕ
outstanding_of number numbers = count (λ of. of.0 == number) numbers

number-if : (number : ℕ) (stays : Bool) (of : EventNo) (later : List EventNo) → outstanding_of number (cond stays (of ∷ later) later) ≡ cond stays (one (of.0 == number)) 0 + outstanding_of number later
number-if number true of later = refl
number-if number false of later = omega arith

number-others : (number other : ℕ) (numbers : List EventNo) → outstanding_of number (filter (is_other other) numbers) ≤ outstanding_of number numbers
number-others number other [] = omega arith
number-others number other (of ∷ later) = grind (arith, nat_tests, number-others number other later, number-if number (is_other other of) of (filter (is_other other) later))

number-gone : (number : ℕ) (numbers : List EventNo) → outstanding_of number (filter (is_other number) numbers) ≡ 0
number-gone number [] = refl
number-gone number (of ∷ later) = grind (arith, nat_tests, number-gone number later, number-if number (is_other number of) of (filter (is_other number) later))

pub number-taken : (number at : ℕ) (numbers : List EventNo) → Fewer (outstanding_of number (filter (is_other at) numbers)) (one (at == number)) (outstanding_of number numbers)
number-taken number at numbers = elim (eqb_tells at number) [
  | inl w ↦ inl (ap (λ i. outstanding_of number (filter (is_other i) numbers)) w.1 ∙ number-gone number numbers)
  | inr w ↦ inr (omega (arith, number-others number at numbers, ap one w.0))
]

pub number-still : (number : ℕ) (numbers : List EventNo) (gone : ℕ) → gone ≡ 0 → Fewer (outstanding_of number (filter (λ (of : EventNo). true) numbers)) gone (outstanding_of number numbers)
number-still number numbers gone none = inr (omega (arith, none, ap (outstanding_of number) (none_go numbers)))
