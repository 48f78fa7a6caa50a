-- An expiry of a row is put after the rows that the pair law lets it meet.
use Rattle.std.proofs.Common.{◌≡◌, ℕ, ◌+◌, ◌<◌, ◌≤◌, Bool, true, false, cond, ◌||◌, ◌⊎◌, inl, inr, List, [], ◌∷◌, ◌++◌, map, Contains, refl, ap, sym, ◌∙◌, subst, arith, append_assoc, true≢false}
use Rattle.std.specs.List.{list_any}
use native.Mathlib.Decide.{dec_lt}
use Rattle.hj_base.specs.declared.numbers.Side.{Side}
use Rattle.hj_base.specs.declared.numbers.Side.TheVariants.{Left, Right}
use Rattle.hj_base.specs.Journals.{puts}
use Rattle.hj_msg.specs.declared.event.Event.{Event}
use Rattle.hj_msg.specs.declared.event.Event.TheVariants.{Arrive, Expire}
use Rattle.hj_msg.specs.declared.event.Pair.{Pair}
use Rattle.hj_msg.specs.Event.{number, NumbersFrom, Expires, IsWellFormed}
use Rattle.hj_msg.specs.Valid.{IsValid, later, earlier}
use Rattle.hj_msg.specs.Turns.{handled}
use Rattle.hj_msg.specs.Driver.{admitted}
use Rattle.hj_msg.specs.Run.{Run, IsRun, port_journal}
use Rattle.hj_msg.specs.Meeting.{number_of}
use Rattle.hj_msg.proofs.Members.{Contains-head, Contains-cons, Contains-cons_cases, Contains-cut}
use Rattle.hj_msg.proofs.Numbered.{front_is_well_formed, number-last, number_below, NamesLive-last}
use Rattle.hj_msg.proofs.Orders.{before, before-prefix, any-prefix}
use Rattle.hj_msg.proofs.Sides.{opposite, is_row, is_expiry}
use Rattle.hj_msg.proofs.Ports.{event_puts, InOrder, in_order, close_no_row, close_no_expiry, puts_expiry, row_of_event, expiry_of_event}
use Rattle.hj_msg.proofs.Directions.{port_end, port_is, reached}
use Rattle.hj_msg.proofs.Settling.{expiry_order}

-- an expiry that stands before an arrival is numbered below it
record Below {P : Type 0} (side : Side) (of i : ℕ) (events : List (Event P)) : Type 0 where
  at : ℕ
  is : Contains events (Expire (record { 0 = at }) side (record { 0 = of }))
  low : at < i

has_from : {P : Type 0} (q : Event P → Bool) (i first : ℕ) (events : List (Event P)) → ((event : Event P) → q event ≡ true → number event ≡ i) → NumbersFrom first events → list_any q events ≡ true → first ≤ i
has_from q i first [] of_q is h = absurd (true≢false (sym h))
has_from q i first (event ∷ events) of_q is h = grind (arith, is.0, h, of_q event, has_from q i (first + 1) events of_q is.1)

below : {P : Type 0} (side : Side) (of i : ℕ) (p q : Event P → Bool) → ((event : Event P) → p event ≡ true → (at : ℕ) × (event ≡ Expire (record { 0 = at }) side (record { 0 = of })))
    → ((event : Event P) → q event ≡ true → number event ≡ i) → (first : ℕ) (events : List (Event P)) → NumbersFrom first events → list_any q events ≡ true → before p q events ≡ true → Below side of i events
below side of i p q of_p of_q first [] is has h = absurd (true≢false (sym h))
below {P} side of i p q of_p of_q first (event ∷ events) is has h = go (q event) (p event) refl refl (below side of i p q of_p of_q (first + 1) events is.1)
  where
    go : (b c : Bool) → q event ≡ b → p event ≡ c → (list_any q events ≡ true → before p q events ≡ true → Below side of i events) → Below side of i (event ∷ events)
    go true c is_q is_p deeper = absurd (true≢false (grind (arith, h, is_q)))
    go false true is_q is_p deeper =
        let expiry = of_p event is_p in
        let behind : list_any q events ≡ true = grind (arith, has, is_q) in
        record {
          at = expiry.0;
          is = subst (λ e. Contains (event ∷ events) e) expiry.1 (Contains-head event events);
          low = omega (arith, is.0, ap number expiry.1, has_from q i (first + 1) events of_q is.1 behind);
        }
    go false false is_q is_p deeper =
        let found = deeper (grind (arith, has, is_q)) (grind (arith, h, is_q, is_p)) in
        record { at = found.at; is = Contains-cons event (Expire (record { 0 = found.at }) side (record { 0 = of })) events found.is; low = found.low }

-- a row expires after it came
expires_after : {P : Type 0} (events : List (Event P)) (side : Side) (of at : ℕ) → IsWellFormed events → Contains events (Expire (record { 0 = at }) side (record { 0 = of })) → of < at
expires_after {P} events side of at well h =
    let event : Event P = Expire (record { 0 = at }) side (record { 0 = of }) in
    let cut = Contains-cut events event h in
    let parts : events ≡ (cut.0 ++ event ∷ []) ++ cut.1 = cut.2 ∙ sym (append_assoc cut.0 (event ∷ []) cut.1) in
    let front = front_is_well_formed (cut.0 ++ event ∷ []) cut.1 (subst IsWellFormed parts well) in
    let arrived = (NamesLive-last cut.0 event front).0 in
    omega (arith, number-last cut.0 event front, number_below cut.0 (Arrive (record { 0 = of }) side arrived.0) (front_is_well_formed cut.0 (event ∷ []) front).numbered arrived.1)

-- where a pair is valid, neither row expires before the other one comes
stays_from : {P : Type 0} (events : List (Event P)) (pair : Pair P) (side : Side) (own other : ℕ) → (own < other → (earlier pair ≡ own) × (later pair ≡ other))
    → IsWellFormed events → IsValid events pair → Below side own other events → ⊥
stays_from events pair side own other ordered well valid expiry = go (dec_lt own other)
  where
    go : Dec (own < other) → ⊥
    go (yes low) = valid.live expiry.at (subst (λ of. Expires events of expiry.at) (sym (ordered low).0) (side, expiry.is)) (subst (λ to. expiry.at < to) (sym (ordered low).1) expiry.low)
    go (no high) = omega (arith, high, expiry.low, expires_after events side own expiry.at well expiry.is)

stays : {P : Type 0} (side : Side) (events : List (Event P)) (pair : Pair P) → IsWellFormed events → IsValid events pair → Below side (number_of side pair).0 (number_of (opposite side) pair).0 events → ⊥
stays Left events pair = stays_from events pair Left pair.left_no.0 pair.right_no.0 (λ low. (omega arith, omega arith))
stays Right events pair = stays_from events pair Right pair.right_no.0 pair.left_no.0 (λ low. (omega arith, omega arith))

-- and an expiry that is numbered below an arrival stands before it
pub shown : {P : Type 0} (expiry : Event P) (i : ℕ) (p q : Event P → Bool) → p expiry ≡ true → ((event : Event P) → q event ≡ true → number event ≡ i) → number expiry < i
    → (first : ℕ) (events : List (Event P)) → NumbersFrom first events → Contains events expiry → before p q events ≡ true
shown expiry i p q passes of_q low first [] is h = absurd (omega (arith, h.1))
shown {P} expiry i p q passes of_q low first (event ∷ events) is h = go (q event) refl (Contains-cons_cases event expiry events h) (shown expiry i p q passes of_q low (first + 1) events is.1)
  where
    least : (first : ℕ) (events : List (Event P)) → NumbersFrom first events → Contains events expiry → first ≤ number expiry
    least first [] is h = absurd (omega (arith, h.1))
    least first (event ∷ events) is h = elim (Contains-cons_cases event expiry events h) [
      | inl e ↦ omega (arith, is.0, ap number e)
      | inr k ↦ omega (arith, least (first + 1) events is.1 k)
    ]

    go : (b : Bool) → q event ≡ b → (event ≡ expiry) ⊎ Contains events expiry → (Contains events expiry → before p q events ≡ true) → cond b false (p event || before p q events) ≡ true
    go true e (inl same) deeper = absurd (omega (arith, low, of_q event e, ap number same))
    go true e (inr later) deeper = absurd (omega (arith, low, of_q event e, is.0, least (first + 1) events is.1 later))
    go false e (inl same) deeper = rw (ap p same ∙ passes) refl
    go false e (inr later) deeper = rw (deeper later) (grind arith)

module _ {P : Type 0} (run : Run P) (is : IsRun run) where
  events_order : (side : Side) (i j : ℕ) → InOrder side (is_expiry (opposite side) j) (is_row side i) is.log
  events_order side i j = in_order side (is_expiry (opposite side) j) (is_row side i) (close_no_expiry P side j) (close_no_row P side i) is.log

  -- what a core handled, in the order of the events
  record AsEvents (side : Side) (k i j : ℕ) : Type 0 where
    order : before (is_expiry (opposite side) j) (is_row side i) (handled (is.turns k)) ≡ before (event_puts side (is_expiry (opposite side) j)) (event_puts side (is_row side i)) run.events
    has : list_any (event_puts side (is_row side i)) run.events ≡ true

  as_events : (side : Side) (k i j : ℕ) → k < run.cores → list_any (is_row side i) (handled (is.turns k)) ≡ true → AsEvents side k i j
  as_events side k i j low h =
      let there = reached run is side k low in
      let sent = expiry_order run is side there.0 k i j there.1 h in
      let port = events_order side i j in
      let puts_are : puts (port_end run is side) ≡ puts (port_journal side is.log) = ap puts (port_is run is side) in
      let has : list_any (event_puts side (is_row side i)) (admitted (map (λ entry. entry.turn) is.log)) ≡ true = sym port.has ∙ sym (ap (list_any (is_row side i)) puts_are) ∙ sent.has in
      record {
        order = sent.order ∙ ap (before (is_expiry (opposite side) j) (is_row side i)) puts_are ∙ port.order ∙ sym (before-prefix (event_puts side (is_expiry (opposite side) j)) (event_puts side (is_row side i)) is.lawful.in_order has);
        has = any-prefix (event_puts side (is_row side i)) is.lawful.in_order has;
      }

  -- where a row expired before a row of the other side came, the expiry comes first at every core
  pub expired : (side : Side) (k i j at : ℕ) → k < run.cores → Contains run.events (Expire (record { 0 = at }) (opposite side) (record { 0 = j })) → at < i → list_any (is_row side i) (handled (is.turns k)) ≡ true
      → before (is_expiry (opposite side) j) (is_row side i) (handled (is.turns k)) ≡ true
  expired side k i j at low expiry below h =
      (as_events side k i j low h).order
      ∙ shown (Expire (record { 0 = at }) (opposite side) (record { 0 = j })) i (event_puts side (is_expiry (opposite side) j)) (event_puts side (is_row side i)) (puts_expiry P side at j) (row_of_event side i) below 0 run.events is.well_formed.numbered expiry

  -- at no core an expiry of the one row of a valid pair comes before the other row
  pub not_expired : (side : Side) (k : ℕ) → k < run.cores → (pair : Pair P) → IsValid run.events pair → list_any (is_row side (number_of side pair).0) (handled (is.turns k)) ≡ true
      → before (is_expiry (opposite side) (number_of (opposite side) pair).0) (is_row side (number_of side pair).0) (handled (is.turns k)) ≡ false
  not_expired side k low pair valid h = go (before (is_expiry (opposite side) j) (is_row side i) (handled (is.turns k))) refl
    where
      i : ℕ
      i = (number_of side pair).0

      j : ℕ
      j = (number_of (opposite side) pair).0

      back : (side : Side) → Below (opposite side) (number_of (opposite side) pair).0 (number_of side pair).0 run.events → ⊥
      back Left = stays Right run.events pair is.well_formed valid
      back Right = stays Left run.events pair is.well_formed valid

      go : (b : Bool) → before (is_expiry (opposite side) j) (is_row side i) (handled (is.turns k)) ≡ b → before (is_expiry (opposite side) j) (is_row side i) (handled (is.turns k)) ≡ false
      go false e = e
      go true e =
          let found = as_events side k i j low h in
          absurd (back side
          (below (opposite side) j i (event_puts side (is_expiry (opposite side) j)) (event_puts side (is_row side i)) (expiry_of_event side j) (row_of_event side i) 0 run.events is.well_formed.numbered found.has (sym found.order ∙ e)))
