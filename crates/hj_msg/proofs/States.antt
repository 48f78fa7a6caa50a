-- What a core keeps after messages: which rows are in flight, and which rest there settled.
use Rattle.std.proofs.Common.{◌≡◌, ℕ, ◌<◌, ◌≤◌, Bool, true, false, cond, not, ◌||◌, ◌&&◌, ◌==◌, List, [], ◌∷◌, filter, fold, refl, ap, sym, ◌∙◌, subst, arith, true≢false}
use Rattle.std.specs.List.{list_any}
use Rattle.std.proofs.lemmas.Bool.Decides.{nat_tests}
use Rattle.hj_base.specs.declared.numbers.Side.{Side}
use Rattle.hj_base.specs.declared.numbers.Side.TheVariants.{Left, Right}
use Rattle.hj_msg.specs.declared.message.Msg.{Msg}
use Rattle.hj_msg.specs.declared.message.Msg.TheVariants.{R, AckS, EndS, ExpS, S, EndR, ExpR}
use Rattle.hj_msg.specs.Messages.{is_S}
use Rattle.hj_msg.specs.Store.{Resting, with_settled, without_entry}
use Rattle.hj_msg.specs.Core.{State, empty_state, after, is_home, with_home_row, state_after}
use Rattle.hj_msg.proofs.Counts.{count}
use Rattle.hj_msg.proofs.Orders.{before}
use Rattle.hj_msg.proofs.Directions.{is_AckS}
use Rattle.hj_msg.proofs.Sides.{is_row, is_ending, is_expiry, resting, settles_at_once}
use Rattle.hj_msg.proofs.Latches.{latch, latch-set, latch-cleared, latch-never}
use Rattle.hj_msg.proofs.Stores.{flies, rests, rests_settled, any-with, any-with-other, any-with-this, any-with-none, any-without, any-without-this, rests-settling, settled-settling, settled_held}

-- the rows in flight
fly_step : {P : Type 0} (j place n : ℕ) (state : State P) (m : Msg P) → 0 < place
    → flies j (after place n state m).in_flight ≡ cond (is_AckS j m) false (is_S j m || flies j state.in_flight)
fly_step {P} j place n state (S at row) high =
    let not_first : (place == 0) ≡ false = grind (arith, nat_tests, high) in
    ap (flies j) (rw not_first refl) ∙ any-with (λ flying. flying.no) j (record { no = at.0; row = row }) state.in_flight
fly_step j place n state (AckS at) high = go (at.0 == j) refl
  where
    go : (b : Bool) → (at.0 == j) ≡ b → flies j (filter (λ flying. not (flying.no == at.0)) state.in_flight) ≡ cond b false (flies j state.in_flight)
    go true e = any-without-this (λ flying. flying.no) (λ flying. flying.no == j) at.0 state.in_flight (λ y other. grind (arith, nat_tests, e, other))
    go false e = any-without (λ flying. flying.no) (λ flying. flying.no == j) at.0 state.in_flight (λ y same. grind (arith, nat_tests, e, same))
fly_step j place n state other high = refl

flies_is : {P : Type 0} (j place n : ℕ) (state : State P) (ms : List (Msg P)) → 0 < place
    → flies j (fold (after place n) state ms).in_flight ≡ latch (is_S j) (is_AckS j) (flies j state.in_flight) ms
flies_is j place n state [] high = refl
flies_is j place n state (m ∷ ms) high = flies_is j place n (after place n state m) ms high ∙ ap (λ b. latch (is_S j) (is_AckS j) b ms) (fly_step j place n state m high)

pub flies_unacknowledged : {P : Type 0} (j place n : ℕ) (ms : List (Msg P)) → 0 < place → list_any (is_S j) ms ≡ true → list_any (is_AckS j) ms ≡ false → flies j (state_after place n ms).in_flight ≡ true
flies_unacknowledged j place n ms high some none = flies_is j place n empty_state ms high ∙ latch-set (is_S j) (is_AckS j) false ms none ∙ rw some refl

pub flies_came : {P : Type 0} (j place n : ℕ) (ms : List (Msg P)) → 0 < place → flies j (state_after place n ms).in_flight ≡ true → list_any (is_S j) ms ≡ true
flies_came j place n ms high h = go (list_any (is_S j) ms) refl
  where
    go : (b : Bool) → list_any (is_S j) ms ≡ b → list_any (is_S j) ms ≡ true
    go true e = e
    go false e = absurd (true≢false (sym h ∙ flies_is j place n empty_state ms high ∙ latch-never (is_S j) (is_AckS j) ms e))

pub flies_no_more : {P : Type 0} (j place n : ℕ) (ms : List (Msg P)) → 0 < place → list_any (is_AckS j) ms ≡ true → before (is_S j) (is_AckS j) ms ≡ true → count (is_S j) ms ≤ 1 → flies j (state_after place n ms).in_flight ≡ false
flies_no_more j place n ms high some order once = flies_is j place n empty_state ms high ∙ latch-cleared (is_S j) (is_AckS j) false ms some order once

-- what a message does to the rows of a side that rest at a core
data Change (P : Type 0) : Type 0 where
  comes : (at : ℕ) (row : P) → Change P
  ends : (at : ℕ) → Change P
  expires : (at : ℕ) → Change P
  unchanged : Change P

abbrev comes_in : {P : Type 0} → ℕ → Change P → Bool
comes_in j (comes at row) = at == j
comes_in j other = false

abbrev ends_in : {P : Type 0} → ℕ → Change P → Bool
ends_in j (ends at) = at == j
ends_in j other = false

abbrev expires_in : {P : Type 0} → ℕ → Change P → Bool
expires_in j (expires at) = at == j
expires_in j other = false

abbrev changed : {P : Type 0} → Bool → ℕ → ℕ → Change P → List (Resting P) → List (Resting P)
changed at_once place n (comes at row) rows = with_home_row (is_home place n at) (record { no = at; row = row; settled = at_once }) rows
changed at_once place n (ends at) rows = with_settled at rows
changed at_once place n (expires at) rows = without_entry at rows
changed at_once place n unchanged rows = rows

record Changes {P : Type 0} (side : Side) (place n : ℕ) (state : State P) (m : Msg P) : Type 0 where
  change : Change P
  rows : resting side (after place n state m) ≡ changed (settles_at_once side place n) place n change (resting side state)
  row : (j : ℕ) → is_row side j m ≡ comes_in j change
  ending : (j : ℕ) → is_ending side j m ≡ ends_in j change
  expiry : (j : ℕ) → is_expiry side j m ≡ expires_in j change

changes : {P : Type 0} (side : Side) (place n : ℕ) (state : State P) (m : Msg P) → Changes side place n state m
changes Left place n state (R at row) = record { change = comes at.0 row; rows = refl; row = λ j. refl; ending = λ j. refl; expiry = λ j. refl }
changes Left place n state (EndR at) = record { change = ends at.0; rows = refl; row = λ j. refl; ending = λ j. refl; expiry = λ j. refl }
changes Left place n state (ExpR at) = record { change = expires at.0; rows = refl; row = λ j. refl; ending = λ j. refl; expiry = λ j. refl }
changes Left place n state other = record { change = unchanged; rows = refl; row = λ j. refl; ending = λ j. refl; expiry = λ j. refl }
changes Right place n state (S at row) = record { change = comes at.0 row; rows = refl; row = λ j. refl; ending = λ j. refl; expiry = λ j. refl }
changes Right place n state (EndS at) = record { change = ends at.0; rows = refl; row = λ j. refl; ending = λ j. refl; expiry = λ j. refl }
changes Right place n state (ExpS at) = record { change = expires at.0; rows = refl; row = λ j. refl; ending = λ j. refl; expiry = λ j. refl }
changes Right place n state other = record { change = unchanged; rows = refl; row = λ j. refl; ending = λ j. refl; expiry = λ j. refl }

held_change : {P : Type 0} (j place n : ℕ) (once : Bool) (rows : List (Resting P)) (change : Change P)
    → rests j (changed once place n change rows) ≡ cond (expires_in j change) false ((comes_in j change && is_home place n j) || rests j rows)
held_change {P} j place n once rows (comes at row) = go (is_home place n at) refl
  where
    home : (b : Bool) → is_home place n at ≡ b → (c : Bool) → (at == j) ≡ c → (c && b) ≡ (c && is_home place n j)
    home b e true same = let one : at ≡ j = grind (arith, nat_tests, same) in rw (← one, e) refl
    home b e false same = refl

    go : (b : Bool) → is_home place n at ≡ b → rests j (with_home_row b (record { no = at; row = row; settled = once }) rows) ≡ ((at == j && is_home place n j) || rests j rows)
    go true e = any-with (λ entry. entry.no) j (record { no = at; row = row; settled = once }) rows ∙ grind (arith, home true e (at == j) refl)
    go false e = grind (arith, home false e (at == j) refl)
held_change j place n once rows (ends at) = rests-settling j at rows
held_change j place n once rows (expires at) = go (at == j) refl
  where
    go : (b : Bool) → (at == j) ≡ b → rests j (without_entry at rows) ≡ cond b false (rests j rows)
    go true e = any-without-this (λ entry. entry.no) (λ entry. entry.no == j) at rows (λ y other. grind (arith, nat_tests, e, other))
    go false e = any-without (λ entry. entry.no) (λ entry. entry.no == j) at rows (λ y same. grind (arith, nat_tests, e, same))
held_change j place n once rows unchanged = refl

settled_change : {P : Type 0} (j place n : ℕ) (once : Bool) (rows : List (Resting P)) (change : Change P) → comes_in j change ≡ false → expires_in j change ≡ false
    → rests_settled j (changed once place n change rows) ≡ (rests_settled j rows || (ends_in j change && rests j rows))
settled_change {P} j place n once rows (comes at row) other kept = go (is_home place n at)
  where
    go : (b : Bool) → rests_settled j (with_home_row b (record { no = at; row = row; settled = once }) rows) ≡ (rests_settled j rows || false)
    go true = any-with-other (λ entry. entry.no) (λ entry. entry.settled && entry.no == j) (record { no = at; row = row; settled = once }) rows (grind (arith, other)) (λ y same. grind (arith, nat_tests, other, same)) ∙ grind arith
    go false = grind arith
settled_change j place n once rows (ends at) other kept = settled-settling j at rows
settled_change j place n once rows (expires at) other kept =
    any-without (λ entry. entry.no) (λ entry. entry.settled && entry.no == j) at rows (λ y same. grind (arith, nat_tests, kept, same)) ∙ grind arith
settled_change j place n once rows unchanged other kept = grind arith

settled_at_once_change : {P : Type 0} (j place n : ℕ) (rows : List (Resting P)) (change : Change P) → comes_in j change ≡ true → is_home place n j ≡ true → rests_settled j (changed true place n change rows) ≡ true
settled_at_once_change {P} j place n rows (comes at row) this home =
    let one : at ≡ j = grind (arith, nat_tests, this) in
    let home_too : is_home place n at ≡ true = subst (λ a. is_home place n a ≡ true) (sym one) home in
    rw home_too (any-with-this (λ entry. entry.no) (λ entry. entry.settled && entry.no == j) (record { no = at; row = row; settled = true }) rows (rw this refl))
settled_at_once_change j place n rows other this home = absurd (true≢false (sym this))

unsettled_change : {P : Type 0} (j place n : ℕ) (rows : List (Resting P)) (change : Change P) → ends_in j change ≡ false → rests_settled j rows ≡ false → rests_settled j (changed false place n change rows) ≡ false
unsettled_change {P} j place n rows (comes at row) not_end h = go (is_home place n at)
  where
    go : (b : Bool) → rests_settled j (with_home_row b (record { no = at; row = row; settled = false }) rows) ≡ false
    go true = any-with-none (λ entry. entry.no) (λ entry. entry.settled && entry.no == j) (record { no = at; row = row; settled = false }) rows refl h
    go false = h
unsettled_change j place n rows (ends at) not_end h = grind (arith, not_end, h, settled-settling j at rows)
unsettled_change j place n rows (expires at) not_end h = go (at == j) refl
  where
    go : (b : Bool) → (at == j) ≡ b → rests_settled j (without_entry at rows) ≡ false
    go true e = any-without-this (λ entry. entry.no) (λ entry. entry.settled && entry.no == j) at rows (λ y other. grind (arith, nat_tests, e, other))
    go false e = any-without (λ entry. entry.no) (λ entry. entry.settled && entry.no == j) at rows (λ y same. grind (arith, nat_tests, e, same)) ∙ h
unsettled_change j place n rows unchanged not_end h = h

nothing_rests : (P : Type 0) (side : Side) (j : ℕ) → (rests j (resting side (empty_state {P = P})) ≡ false) × (rests_settled j (resting side (empty_state {P = P})) ≡ false)
nothing_rests P Left j = (refl, refl)
nothing_rests P Right j = (refl, refl)

module _ {P : Type 0} (side : Side) (j place n : ℕ) where
  held_step : (state : State P) (m : Msg P) → rests j (resting side (after place n state m)) ≡ cond (is_expiry side j m) false ((is_row side j m && is_home place n j) || rests j (resting side state))
  held_step state m = let c = changes side place n state m in rw (c.rows, c.row j, c.expiry j) (held_change j place n (settles_at_once side place n) (resting side state) c.change)

  -- another message than the row itself and its expiry
  settled_step : (state : State P) (m : Msg P) → is_row side j m ≡ false → is_expiry side j m ≡ false
      → rests_settled j (resting side (after place n state m)) ≡ (rests_settled j (resting side state) || (is_ending side j m && rests j (resting side state)))
  settled_step state m other kept =
      let c = changes side place n state m in
      rw (c.rows, c.ending j) (settled_change j place n (settles_at_once side place n) (resting side state) c.change (sym (c.row j) ∙ other) (sym (c.expiry j) ∙ kept))

  -- the row itself, at the core that settles it at once
  settled_at_once : (state : State P) (m : Msg P) → is_row side j m ≡ true → is_home place n j ≡ true → settles_at_once side place n ≡ true → rests_settled j (resting side (after place n state m)) ≡ true
  settled_at_once state m this home once = let c = changes side place n state m in rw (c.rows, once) (settled_at_once_change j place n (resting side state) c.change (sym (c.row j) ∙ this) home)

  -- a core that doesn't settle it at once
  unsettled_step : (state : State P) (m : Msg P) → settles_at_once side place n ≡ false → is_ending side j m ≡ false → rests_settled j (resting side state) ≡ false → rests_settled j (resting side (after place n state m)) ≡ false
  unsettled_step state m not_once not_end h = let c = changes side place n state m in rw (c.rows, not_once) (unsettled_change j place n (resting side state) c.change (sym (c.ending j) ∙ not_end) h)

  held_is : (state : State P) (ms : List (Msg P)) → rests j (resting side (fold (after place n) state ms)) ≡ latch (λ m. is_row side j m && is_home place n j) (is_expiry side j) (rests j (resting side state)) ms
  held_is state [] = refl
  held_is state (m ∷ ms) = held_is (after place n state m) ms ∙ ap (λ b. latch (λ m. is_row side j m && is_home place n j) (is_expiry side j) b ms) (held_step state m)

  -- a settled row stays so, until it expires
  settled_stays : (state : State P) (ms : List (Msg P)) → list_any (is_expiry side j) ms ≡ false → count (is_row side j) ms ≡ 0 → rests_settled j (resting side state) ≡ true
      → rests_settled j (resting side (fold (after place n) state ms)) ≡ true
  settled_stays state [] kept none h = h
  settled_stays state (m ∷ ms) kept none h = grind (arith, kept, none, h, settled_step state m, settled_stays (after place n state m) ms)

  -- a row that rests is settled by its ending
  settled_by_end : (state : State P) (ms : List (Msg P)) → list_any (is_expiry side j) ms ≡ false → count (is_row side j) ms ≡ 0 → rests j (resting side state) ≡ true → list_any (is_ending side j) ms ≡ true
      → rests_settled j (resting side (fold (after place n) state ms)) ≡ true
  settled_by_end state [] kept none h some = absurd (true≢false (sym some))
  settled_by_end state (m ∷ ms) kept none h some =
      grind (arith, kept, none, h, some, held_step state m, settled_step state m, settled_stays (after place n state m) ms, settled_by_end (after place n state m) ms)

  -- a row that came to its home, ended behind that and didn't expire is settled there
  settled_from : (state : State P) (ms : List (Msg P)) → is_home place n j ≡ true → list_any (is_expiry side j) ms ≡ false → count (is_row side j) ms ≤ 1
      → before (is_row side j) (is_ending side j) ms ≡ true → list_any (is_ending side j) ms ≡ true
      → rests_settled j (resting side (fold (after place n) state ms)) ≡ true
  settled_from state [] home kept once order some = absurd (true≢false (sym some))
  settled_from state (m ∷ ms) home kept once order some =
      grind (arith, home, kept, once, order, some, held_step state m, settled_by_end (after place n state m) ms, settled_from (after place n state m) ms home)

  pub settled_after : (ms : List (Msg P)) → is_home place n j ≡ true → list_any (is_expiry side j) ms ≡ false → count (is_row side j) ms ≤ 1
      → before (is_row side j) (is_ending side j) ms ≡ true → list_any (is_ending side j) ms ≡ true
      → rests_settled j (resting side (state_after place n ms)) ≡ true
  settled_after ms home kept once order some = settled_from empty_state ms home kept once order some

  -- and at the core that settles it at once, without an ending
  settled_soon : (state : State P) (ms : List (Msg P)) → is_home place n j ≡ true → settles_at_once side place n ≡ true → list_any (is_expiry side j) ms ≡ false → count (is_row side j) ms ≤ 1
      → list_any (is_row side j) ms ≡ true → rests_settled j (resting side (fold (after place n) state ms)) ≡ true
  settled_soon state [] home at_once kept once some = absurd (true≢false (sym some))
  settled_soon state (m ∷ ms) home at_once kept once some = go (is_row side j m) refl (settled_soon (after place n state m) ms home at_once)
    where
      go : (b : Bool) → is_row side j m ≡ b
          → (list_any (is_expiry side j) ms ≡ false → count (is_row side j) ms ≤ 1 → list_any (is_row side j) ms ≡ true → rests_settled j (resting side (fold (after place n) (after place n state m) ms)) ≡ true)
          → rests_settled j (resting side (fold (after place n) (after place n state m) ms)) ≡ true
      go true e deeper = settled_stays (after place n state m) ms (grind (arith, kept)) (grind (arith, once, e)) (settled_at_once state m e home at_once)
      go false e deeper = deeper (grind (arith, kept)) (grind (arith, once)) (grind (arith, some, e))

  pub settled_first : (ms : List (Msg P)) → is_home place n j ≡ true → settles_at_once side place n ≡ true → list_any (is_expiry side j) ms ≡ false → count (is_row side j) ms ≤ 1
      → list_any (is_row side j) ms ≡ true → rests_settled j (resting side (state_after place n ms)) ≡ true
  settled_first ms home at_once kept once some = settled_soon empty_state ms home at_once kept once some

  -- without an ending, elsewhere, it isn't settled
  unsettled_from : (state : State P) (ms : List (Msg P)) → settles_at_once side place n ≡ false → list_any (is_ending side j) ms ≡ false → rests_settled j (resting side state) ≡ false
      → rests_settled j (resting side (fold (after place n) state ms)) ≡ false
  unsettled_from state [] not_once none h = h
  unsettled_from state (m ∷ ms) not_once none h = unsettled_from (after place n state m) ms not_once (grind (arith, none)) (unsettled_step state m not_once (grind (arith, none)) h)

  -- what a settled row tells: it came to its home, ended behind that (or was settled at once), and didn't expire since
  pub record Settled (ms : List (Msg P)) : Type 0 where
    pub home : is_home place n j ≡ true
    pub came : list_any (is_row side j) ms ≡ true
    pub ended : settles_at_once side place n ≡ false → list_any (is_ending side j) ms ≡ true
    pub live : count (is_row side j) ms ≤ 1 → before (is_row side j) (is_expiry side j) ms ≡ true → list_any (is_expiry side j) ms ≡ false

  on-home : (ms : List (Msg P)) → list_any (λ m. is_row side j m && is_home place n j) ms ≡ (list_any (is_row side j) ms && is_home place n j)
  on-home [] = refl
  on-home (m ∷ ms) = grind (arith, on-home ms)

  on-home_count : (ms : List (Msg P)) → count (λ m. is_row side j m && is_home place n j) ms ≡ cond (is_home place n j) (count (is_row side j) ms) 0
  on-home_count [] = grind arith
  on-home_count (m ∷ ms) = grind (arith, on-home_count ms)

  on-home_before : (ms : List (Msg P)) → is_home place n j ≡ true → before (λ m. is_row side j m && is_home place n j) (is_expiry side j) ms ≡ before (is_row side j) (is_expiry side j) ms
  on-home_before [] home = refl
  on-home_before (m ∷ ms) home = grind (arith, home, on-home_before ms home)

  latch-off : (ms : List (Msg P)) → latch (λ m. is_row side j m && is_home place n j) (is_expiry side j) false ms ≡ true → list_any (λ m. is_row side j m && is_home place n j) ms ≡ true
  latch-off ms h = go (list_any (λ m. is_row side j m && is_home place n j) ms) refl
    where
      go : (b : Bool) → list_any (λ m. is_row side j m && is_home place n j) ms ≡ b → list_any (λ m. is_row side j m && is_home place n j) ms ≡ true
      go true e = e
      go false e = absurd (true≢false (sym h ∙ latch-never (λ m. is_row side j m && is_home place n j) (is_expiry side j) ms e))

  pub settled_tells : (ms : List (Msg P)) → rests_settled j (resting side (state_after place n ms)) ≡ true → Settled ms
  settled_tells ms h = record {
    home = grind (arith, both);
    came = grind (arith, both);
    ended = ended;
    live = live;
  }
    where
      held : latch (λ (m : Msg P). is_row side j m && is_home place n j) (is_expiry side j) false ms ≡ true
      held = ap (λ b. latch (λ (m : Msg P). is_row side j m && is_home place n j) (is_expiry side j) b ms) (sym (nothing_rests P side j).0) ∙ sym (held_is empty_state ms) ∙ settled_held j (resting side (state_after place n ms)) h

      both : (list_any (is_row side j) ms && is_home place n j) ≡ true
      both = sym (on-home ms) ∙ latch-off ms held

      ended : settles_at_once side place n ≡ false → list_any (is_ending side j) ms ≡ true
      ended not_once = go (list_any (is_ending side j) ms) refl
        where
          go : (b : Bool) → list_any (is_ending side j) ms ≡ b → list_any (is_ending side j) ms ≡ true
          go true e = e
          go false e = absurd (true≢false (sym h ∙ unsettled_from empty_state ms not_once e (nothing_rests P side j).1))

      live : count (is_row side j) ms ≤ 1 → before (is_row side j) (is_expiry side j) ms ≡ true → list_any (is_expiry side j) ms ≡ false
      live once order = go (list_any (is_expiry side j) ms) refl
        where
          go : (b : Bool) → list_any (is_expiry side j) ms ≡ b → list_any (is_expiry side j) ms ≡ false
          go false e = e
          go true e =
              let home : is_home place n j ≡ true = grind (arith, both) in
              absurd (true≢false (sym held ∙ latch-cleared (λ m. is_row side j m && is_home place n j) (is_expiry side j) false ms e (on-home_before ms home ∙ order) (grind (arith, once, on-home_count ms))))
