-- The events of two streams may come one after another, as those of every well-formed list do.
use Rattle.std.proofs.Common.{◌≡◌, ℕ, ◌+◌, ◌-◌, inl, inr, Bool, true, false, not, ◌&&◌, ◌==◌, List, [], ◌∷◌, ◌++◌, length, fold, refl, sym, ap, subst, ◌∙◌, append_assoc, length-append, Contains, arith}
use Rattle.std.proofs.lemmas.Bool.{and_from, and_parts, eq-eqb, eqb-true, ne_eqb}
use Rattle.std.proofs.lemmas.List.Elements.{Contains-append_left, Contains-append_right}
use Rattle.std.proofs.lemmas.List.Sums.{fold-append}
use Rattle.hj_base.specs.declared.numbers.EventNo.{EventNo}
use Rattle.hj_base.specs.declared.numbers.Side.{Side}
use Rattle.hj_base.specs.declared.numbers.Side.TheVariants.{Left, Right}
use Rattle.hj_msg.specs.declared.event.Event.{Event}
use Rattle.hj_msg.specs.declared.event.Event.TheVariants.{Arrive, Expire, Quiet}
use Rattle.hj_msg.specs.Event.{number, Arrives, Expires, NamesLive, IsWellFormed}
use Rattle.hj_msg.specs.Feed.{GivesEvent, NamesLiveNumber, Numbering, first_numbering, numbering_after, numbering_of}
use Rattle.hj_msg.proofs.Members.{Contains-nil, Contains-head, Contains-cons, Contains-cons_cases, Contains-filter, any_of, find}
use Rattle.hj_msg.proofs.Numbered.{NamesLive-last, front_is_well_formed, number-last}
use Rattle.hj_stream.specs.Ahead.{MayComeBehind, may_come, names_live}

-- the numbers of a side's live rows
abbrev live_of : Side → Numbering → List ℕ
live_of Left numbering = numbering.live_left
live_of Right numbering = numbering.live_right

next-after : {P : Type 0} (numbering : Numbering) (event : Event P) → (numbering_after numbering event).next ≡ numbering.next + 1
next-after numbering (Arrive at Left row) = refl
next-after numbering (Arrive at Right row) = refl
next-after numbering (Expire at Left of) = refl
next-after numbering (Expire at Right of) = refl
next-after numbering (Quiet at side) = refl

next-fold : {P : Type 0} (events : List (Event P)) (numbering : Numbering) → (fold numbering_after numbering events).next ≡ numbering.next + length events
next-fold [] numbering = omega arith
next-fold (event ∷ events) numbering = omega (arith, next-fold events (numbering_after numbering event), next-after numbering event)

numbering-push : {P : Type 0} (events : List (Event P)) (event : Event P) → numbering_of (events ++ event ∷ []) ≡ numbering_after (numbering_of events) event
numbering-push events event = fold-append numbering_after first_numbering events (event ∷ [])

-- no expiry among the events names this row
abbrev Stays : {P : Type 0} → List (Event P) → ℕ → Type 0
Stays {P} events of = (at : ℕ) → ¬ (Expires events of at)

module _ {P : Type 0} (of : ℕ) where
  stays-tail : (event : Event P) (events : List (Event P)) → Stays (event ∷ events) of → Stays events of
  stays-tail event events stays at expiry = stays at (expiry.0, Contains-cons event (Expire (record { 0 = at }) expiry.0 (record { 0 = of })) events expiry.1)

  other : (at : EventNo) (side : Side) (named : EventNo) (events : List (Event P)) → Stays (Expire at side named ∷ events) of → of ≡ named.0 → ⊥
  other at side named events stays same =
      stays at.0 (side, subst (λ n. Contains (Expire at side named ∷ events) (Expire at side (record { 0 = n }))) (sym same) (Contains-head (Expire at side named) events))

  -- a live row stays live after an event that doesn't name it
  stays-after : (side : Side) (event : Event P) (events : List (Event P)) (numbering : Numbering) → Stays (event ∷ events) of → Contains (live_of side numbering) of → Contains (live_of side (numbering_after numbering event)) of
  stays-after Left (Arrive at Left row) events numbering stays live = Contains-append_left numbering.live_left (at.0 ∷ []) of live
  stays-after Right (Arrive at Left row) events numbering stays live = live
  stays-after Left (Arrive at Right row) events numbering stays live = live
  stays-after Right (Arrive at Right row) events numbering stays live = Contains-append_left numbering.live_right (at.0 ∷ []) of live
  stays-after Left (Expire at Left named) events numbering stays live = Contains-filter (λ n. not (n == named.0)) numbering.live_left of live (ap not (ne_eqb of named.0 (other at Left named events stays)))
  stays-after Right (Expire at Left named) events numbering stays live = live
  stays-after Left (Quiet at side) events numbering stays live = live
  stays-after Right (Quiet at side) events numbering stays live = live
  stays-after Left (Expire at Right named) events numbering stays live = live
  stays-after Right (Expire at Right named) events numbering stays live = Contains-filter (λ n. not (n == named.0)) numbering.live_right of live (ap not (ne_eqb of named.0 (other at Right named events stays)))

  stays-live : (side : Side) (events : List (Event P)) (numbering : Numbering) → Stays events of → Contains (live_of side numbering) of → Contains (live_of side (fold numbering_after numbering events)) of
  stays-live side [] numbering stays live = live
  stays-live side (event ∷ events) numbering stays live = stays-live side events (numbering_after numbering event) (stays-tail event events stays) (stays-after side event events numbering stays live)

  arrived-live : (side : Side) (row : P) (numbering : Numbering) → Contains (live_of side (numbering_after numbering (Arrive (record { 0 = of }) side row))) of
  arrived-live Left row numbering = Contains-append_right numbering.live_left (of ∷ []) of (Contains-head of [])
  arrived-live Right row numbering = Contains-append_right numbering.live_right (of ∷ []) of (Contains-head of [])

  -- a row that arrived and didn't expire is live
  is-live : (side : Side) (row : P) (events : List (Event P)) (numbering : Numbering) → Stays events of → Arrives events side of row → Contains (live_of side (fold numbering_after numbering events)) of
  is-live side row [] numbering stays arrival = absurd (Contains-nil (Arrive (record { 0 = of }) side row) arrival)
  is-live side row (event ∷ events) numbering stays arrival = elim (Contains-cons_cases event (Arrive (record { 0 = of }) side row) events arrival) [
    | inl same ↦ stays-live side events (numbering_after numbering event) (stays-tail event events stays)
        (subst (λ (e : Event P). Contains (live_of side (numbering_after numbering e)) of) (sym same) (arrived-live side row numbering))
    | inr later ↦ is-live side row events (numbering_after numbering event) (stays-tail event events stays) later
  ]

names-live : {P : Type 0} (before : List (Event P)) (event : Event P) → NamesLive before event → names_live (numbering_of before) event ≡ true
names-live before (Arrive at side row) live = refl
names-live before (Quiet at side) live = refl
names-live before (Expire at Left of) live = any_of (λ n. n == of.0) (numbering_of before).live_left of.0 (is-live of.0 Left live.0.0 before first_numbering live.1 live.0.1) (eq-eqb of.0 of.0 refl)
names-live before (Expire at Right of) live = any_of (λ n. n == of.0) (numbering_of before).live_right of.0 (is-live of.0 Right live.0.0 before first_numbering live.1 live.0.1) (eq-eqb of.0 of.0 refl)

-- the later ones of well-formed events may come after the earlier ones
pub may-come : {P : Type 0} (before events : List (Event P)) → IsWellFormed (before ++ events) → may_come (numbering_of before) events ≡ true
may-come before [] well = refl
may-come {P} before (event ∷ events) well =
    let all : (before ++ event ∷ []) ++ events ≡ before ++ event ∷ events = append_assoc before (event ∷ []) events in
    let further : IsWellFormed ((before ++ event ∷ []) ++ events) = subst (λ (l : List (Event P)). IsWellFormed l) (sym all) well in
    let front = front_is_well_formed (before ++ event ∷ []) events further in
    let numbered : number event ≡ (numbering_of before).next = omega (arith, number-last before event front, next-fold before first_numbering) in
    and_from (number event == (numbering_of before).next && names_live (numbering_of before) event) (may_come (numbering_after (numbering_of before) event) events)
    (and_from (number event == (numbering_of before).next) (names_live (numbering_of before) event) (eq-eqb (number event) (numbering_of before).next numbered) (names-live before event (NamesLive-last before event front)))
    (subst (λ (n : Numbering). may_come n events ≡ true) (numbering-push before event) (may-come (before ++ event ∷ []) events further))

-- of what may come, the first event
live-number : {P : Type 0} (numbering : Numbering) (event : Event P) → names_live numbering event ≡ true → NamesLiveNumber numbering event
live-number numbering (Arrive at side row) h = tt
live-number numbering (Quiet at side) h = tt
live-number numbering (Expire at Left of) h = let found = find (λ n. n == of.0) numbering.live_left h in subst (Contains numbering.live_left) (eqb-true found.one of.0 found.passes) found.is
live-number numbering (Expire at Right of) h = let found = find (λ n. n == of.0) numbering.live_right h in subst (Contains numbering.live_right) (eqb-true found.one of.0 found.passes) found.is

-- the answer of a feed that gives it
pub gives-first : {P : Type 0} (limit count : ℕ) (stopped : Bool) (given items : List (Event P)) (event : Event P) (later : List (Event P)) → stopped ≡ false → MayComeBehind limit given (event ∷ later) → length given ≡ count → items ≡ given ++ event ∷ []
    → GivesEvent event (record { numbering = numbering_of given; remaining = limit - count; stopped = stopped }) (record { numbering = numbering_of items; remaining = limit - (count + 1); stopped = stopped })
gives-first limit count stopped given items event later going may counted are =
    let first = and_parts (number event == (numbering_of given).next && names_live (numbering_of given) event) (may_come (numbering_after (numbering_of given) event) later) may.numbered in
    let parts = and_parts (number event == (numbering_of given).next) (names_live (numbering_of given) event) first.0 in
    record {
      going = going;
      numbered = eqb-true (number event) (numbering_of given).next parts.0;
      live = live-number (numbering_of given) event parts.1;
      numbering = ap numbering_of are ∙ numbering-push given event;
      remaining = omega (arith, may.few, counted);
      goes_on = going;
    }

-- the later ones may come after it
pub may-come-later : {P : Type 0} (limit : ℕ) (given : List (Event P)) (event : Event P) (later : List (Event P)) → MayComeBehind limit given (event ∷ later) → MayComeBehind limit (given ++ event ∷ []) later
may-come-later limit given event later may = record {
  numbered = subst (λ (n : Numbering). may_come n later ≡ true) (sym (numbering-push given event)) (and_parts (number event == (numbering_of given).next && names_live (numbering_of given) event) (may_come (numbering_after (numbering_of given) event) later) may.numbered).1;
  few = omega (arith, may.few, length-append given (event ∷ []));
}
