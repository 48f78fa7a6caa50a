-- No core lists a pair twice, and no two cores list the same one.
use Rattle.std.proofs.Common.{◌≡◌, ℕ, zero, suc, ◌+◌, ◌-◌, ◌<◌, ◌≤◌, Bool, true, false, cond, not, ◌&&◌, ◌==◌, nat_lt, ◌⊎◌, inl, inr, List, [], ◌∷◌, ◌++◌, map, filter, fold, refl, ap, sym, ◌∙◌, subst, arith, add-one, true≢false}
use Rattle.std.specs.List.{list_any}
use Rattle.std.proofs.lemmas.Bool.Decides.{nat_tests}
use Rattle.hj_msg.specs.declared.message.Msg.{Msg}
use Rattle.hj_msg.specs.declared.message.Msg.TheVariants.{R, AckS, EndS, ExpS, QuietL, CloseL, S, EndR, ExpR, QuietR, CloseR}
use Rattle.hj_msg.specs.declared.partner.Partner.{Partner}
use Rattle.hj_msg.specs.Messages.{is_R, is_S, is_EndR, is_EndS}
use Rattle.hj_msg.specs.Store.{Resting, with_element, with_settled, settled_partners}
use Rattle.hj_msg.specs.Core.{State, InFlight, empty_state, after, is_home, is_last, with_home_row, state_after, flying_partners, partners_of_left, partners_of_right}
use Rattle.hj_msg.specs.Turns.{handled}
use Rattle.hj_msg.specs.Run.{Run, IsRun}
use Rattle.hj_msg.proofs.Counts.{count, count-append}
use Rattle.hj_msg.proofs.MarksOnce.{row_goes, row_once}
use Rattle.hj_msg.proofs.TurnPuts.{row_sent}
use Rattle.hj_msg.proofs.Orders.{before, before-any, before-other, front_before, front_count}
use Rattle.hj_msg.proofs.Directions.{is_AckS}
use Rattle.hj_msg.proofs.Settling.{row_before, comes, ack_order, acks_behind, settle_order}
use Rattle.hj_msg.proofs.Stores.{flies, rests_settled}
use Rattle.hj_msg.proofs.States.{flies_came, flies_no_more, settled_tells}
use Rattle.hj_msg.proofs.Sorting.{count-sort}
use Rattle.hj_base.specs.declared.numbers.Side.TheVariants.{Left, Right}

count-settled : {P : Type 0} (j : ℕ) (joins : P → Bool) (entries : List (Resting P)) → count (λ partner. partner.no.0 == j) (settled_partners joins entries) ≤ count (λ entry. entry.settled && entry.no == j) entries
count-settled j joins [] = omega arith
count-settled {P} j joins (entry ∷ entries) = go (entry.settled) (joins entry.row) (count-settled j joins entries)
  where
    go : (b c : Bool) → count (λ partner. partner.no.0 == j) (settled_partners joins entries) ≤ count (λ entry. entry.settled && entry.no == j) entries
        → count (λ (partner : Partner P). partner.no.0 == j) (map (λ entry. record { no = record { 0 = entry.no }; row = entry.row }) (cond (b && c) (entry ∷ filter (λ entry. entry.settled && joins entry.row) entries) (filter (λ entry. entry.settled && joins entry.row) entries)))
        ≤ cond (b && entry.no == j) 1 0 + count (λ entry. entry.settled && entry.no == j) entries
    go true true e = omega (arith, e)
    go true false e = omega (arith, e)
    go false c e = omega (arith, e)

count-flying : {P : Type 0} (j : ℕ) (joins : P → Bool) (rows : List (InFlight P)) → count (λ partner. partner.no.0 == j) (flying_partners joins rows) ≤ count (λ flying. flying.no == j) rows
count-flying j joins [] = omega arith
count-flying {P} j joins (flying ∷ rows) = go (joins flying.row) (count-flying j joins rows)
  where
    go : (b : Bool) → count (λ partner. partner.no.0 == j) (flying_partners joins rows) ≤ count (λ flying. flying.no == j) rows
        → count (λ (partner : Partner P). partner.no.0 == j) (map (λ flying. record { no = record { 0 = flying.no }; row = flying.row }) (cond b (flying ∷ filter (λ flying. joins flying.row) rows) (filter (λ flying. joins flying.row) rows)))
        ≤ cond (flying.no == j) 1 0 + count (λ flying. flying.no == j) rows
    go true e = omega (arith, e)
    go false e = omega (arith, e)

-- no number stands twice
count-with : {X : Type 0} (of : X → ℕ) (j : ℕ) (x : X) (rows : List X) → count (λ y. of y == j) rows ≤ 1 → count (λ y. of y == j) (with_element of x rows) ≤ 1
count-with of j x [] once = grind arith
count-with {X} of j x (y ∷ rows) once = go (of y == of x) refl (count-with of j x rows) (other rows)
  where
    other : (rows : List X) → (of x == j) ≡ false → count (λ y. of y == j) (with_element of x rows) ≡ count (λ y. of y == j) rows
    other [] e = rw e refl
    other (z ∷ zs) e = step (of z == of x) refl (other zs)
      where
        step : (b : Bool) → (of z == of x) ≡ b → ((of x == j) ≡ false → count (λ y. of y == j) (with_element of x zs) ≡ count (λ y. of y == j) zs)
            → count (λ y. of y == j) (cond b (x ∷ zs) (z ∷ with_element of x zs)) ≡ cond (of z == j) 1 0 + count (λ y. of y == j) zs
        step true same deeper = grind (arith, nat_tests, e, same)
        step false same deeper = omega (arith, deeper e)

    go : (b : Bool) → (of y == of x) ≡ b → (count (λ y. of y == j) rows ≤ 1 → count (λ y. of y == j) (with_element of x rows) ≤ 1)
        → ((of x == j) ≡ false → count (λ y. of y == j) (with_element of x rows) ≡ count (λ y. of y == j) rows)
        → count (λ y. of y == j) (cond b (x ∷ rows) (y ∷ with_element of x rows)) ≤ 1
    go true same deeper more = grind (arith, nat_tests, same, once)
    go false same deeper more = grind (arith, nat_tests, same, once, deeper, more)

count-filter : {X : Type 0} (p t : X → Bool) (xs : List X) → count p (filter t xs) ≤ count p xs
count-filter p t [] = omega arith
count-filter {X} p t (x ∷ xs) = go (t x) (count-filter p t xs)
  where
    go : (b : Bool) → count p (filter t xs) ≤ count p xs → count p (cond b (x ∷ filter t xs) (filter t xs)) ≤ cond (p x) 1 0 + count p xs
    go true e = omega (arith, e)
    go false e = omega (arith, e)

count-settling : {P : Type 0} (j at : ℕ) (rows : List (Resting P)) → count (λ entry. entry.no == j) (with_settled at rows) ≡ count (λ entry. entry.no == j) rows
count-settling j at [] = refl
count-settling j at (y ∷ rows) = omega (arith, count-settling j at rows)

count-less : {P : Type 0} (j : ℕ) (rows : List (Resting P)) → count (λ entry. entry.settled && entry.no == j) rows ≤ count (λ entry. entry.no == j) rows
count-less j [] = omega arith
count-less j (y ∷ rows) = grind (arith, count-less j rows)

record Distinct {P : Type 0} (j : ℕ) (state : State P) : Type 0 where
  left : count (λ entry. entry.no == j) state.left ≤ 1
  right : count (λ entry. entry.no == j) state.right ≤ 1
  in_flight : count (λ flying. flying.no == j) state.in_flight ≤ 1

count-home : {P : Type 0} (j : ℕ) (home : Bool) (entry : Resting P) (rows : List (Resting P)) → count (λ entry. entry.no == j) rows ≤ 1 → count (λ entry. entry.no == j) (with_home_row home entry rows) ≤ 1
count-home j true entry rows once = count-with (λ entry. entry.no) j entry rows once
count-home j false entry rows once = once

distinct_step : {P : Type 0} (j place n : ℕ) (state : State P) (m : Msg P) → Distinct j state → Distinct j (after place n state m)
distinct_step j place n state (R at row) is = record { left = count-home j (is_home place n at.0) (record { no = at.0; row = row; settled = is_last place n }) state.left is.left; right = is.right; in_flight = is.in_flight }
distinct_step {P} j place n state (S at row) is = record { left = is.left; right = count-home j (is_home place n at.0) (record { no = at.0; row = row; settled = place == 0 }) state.right is.right; in_flight = go (place == 0) }
  where
    go : (b : Bool) → count (λ flying. flying.no == j) (cond b state.in_flight (with_element (λ flying. flying.no) (record { no = at.0; row = row }) state.in_flight)) ≤ 1
    go true = is.in_flight
    go false = count-with (λ flying. flying.no) j (record { no = at.0; row = row }) state.in_flight is.in_flight
distinct_step j place n state (AckS at) is = record { left = is.left; right = is.right; in_flight = omega (arith, is.in_flight, count-filter (λ flying. flying.no == j) (λ flying. not (flying.no == at.0)) state.in_flight) }
distinct_step j place n state (EndS at) is = record { left = is.left; right = omega (arith, is.right, count-settling j at.0 state.right); in_flight = is.in_flight }
distinct_step j place n state (EndR at) is = record { left = omega (arith, is.left, count-settling j at.0 state.left); right = is.right; in_flight = is.in_flight }
distinct_step j place n state (ExpS at) is = record { left = is.left; right = omega (arith, is.right, count-filter (λ entry. entry.no == j) (λ entry. not (entry.no == at.0)) state.right); in_flight = is.in_flight }
distinct_step j place n state (ExpR at) is = record { left = omega (arith, is.left, count-filter (λ entry. entry.no == j) (λ entry. not (entry.no == at.0)) state.left); right = is.right; in_flight = is.in_flight }
distinct_step j place n state CloseL is = record { left = is.left; right = is.right; in_flight = is.in_flight }
distinct_step j place n state CloseR is = record { left = is.left; right = is.right; in_flight = is.in_flight }
distinct_step j place n state (QuietL at) is = record { left = is.left; right = is.right; in_flight = is.in_flight }
distinct_step j place n state (QuietR at) is = record { left = is.left; right = is.right; in_flight = is.in_flight }

distinct_from : {P : Type 0} (j place n : ℕ) (state : State P) (ms : List (Msg P)) → Distinct j state → Distinct j (fold (after place n) state ms)
distinct_from j place n state [] is = is
distinct_from j place n state (m ∷ ms) is = distinct_from j place n (after place n state m) ms (distinct_step j place n state m is)

distinct : {P : Type 0} (j place n : ℕ) (ms : List (Msg P)) → Distinct j (state_after place n ms)
distinct j place n ms = distinct_from j place n empty_state ms (record { left = omega arith; right = omega arith; in_flight = omega arith })

any-filter : {X : Type 0} (p t : X → Bool) (xs : List X) → list_any p xs ≡ false → list_any p (filter t xs) ≡ false
any-filter p t [] none = refl
any-filter {X} p t (x ∷ xs) none = go (t x) (any-filter p t xs)
  where
    go : (b : Bool) → (list_any p xs ≡ false → list_any p (filter t xs) ≡ false) → list_any p (cond b (x ∷ filter t xs) (filter t xs)) ≡ false
    go true deeper = grind (arith, none, deeper)
    go false deeper = grind (arith, none, deeper)

-- the first core keeps nothing in flight
none_flies_step : {P : Type 0} (j n : ℕ) (state : State P) (m : Msg P) → flies j state.in_flight ≡ false → flies j (after 0 n state m).in_flight ≡ false
none_flies_step j n state (AckS at) none = any-filter (λ flying. flying.no == j) (λ flying. not (flying.no == at.0)) state.in_flight none
none_flies_step j n state other none = none

none_flies_first : {P : Type 0} (j n : ℕ) (state : State P) (ms : List (Msg P)) → flies j state.in_flight ≡ false → flies j (fold (after 0 n) state ms).in_flight ≡ false
none_flies_first j n state [] none = none
none_flies_first j n state (m ∷ ms) none = none_flies_first j n (after 0 n state m) ms (none_flies_step j n state m none)

count-any : {X : Type 0} (p : X → Bool) (xs : List X) → 1 ≤ count p xs → list_any p xs ≡ true
count-any p [] some = absurd (omega (arith, some))
count-any p (x ∷ xs) some = grind (arith, some, count-any p xs)

any-count : {X : Type 0} (p : X → Bool) (xs : List X) → list_any p xs ≡ false → count p xs ≡ 0
any-count p [] none = refl
any-count p (x ∷ xs) none = grind (arith, none, any-count p xs)

-- the front of a list of messages, up to the one that passes q
pub record Front {P : Type 0} (q : Msg P → Bool) (messages front : List (Msg P)) : Type 0 where
  pub message : Msg P
  pub back : List (Msg P)
  pub parts : messages ≡ front ++ message ∷ back
  pub order : (p : Msg P → Bool) → before p q messages ≡ list_any p front
  pub has : list_any q messages ≡ true

module _ {P : Type 0} (run : Run P) (is : IsRun run) (i j : ℕ) where
  -- from the core on where S j came first it does so at every core that handled R i
  pub crossed_on : (d k : ℕ) → k + d < run.cores → before (is_S j) (is_R i) (handled (is.turns k)) ≡ true → list_any (is_R i) (handled (is.turns (k + d))) ≡ true → before (is_S j) (is_R i) (handled (is.turns (k + d))) ≡ true
  crossed_on zero k low h has = let e : k ≡ k + 0 = omega arith in subst (λ a. before (is_S j) (is_R i) (handled (is.turns a)) ≡ true) e h
  crossed_on (suc d) k low h has =
      let e : (k + d) + 1 ≡ k + suc d = omega arith in
      let here : list_any (is_R i) (handled (is.turns ((k + d) + 1))) ≡ true = subst (λ a. list_any (is_R i) (handled (is.turns a)) ≡ true) (sym e) has in
      let next : (k + d) + 1 < run.cores = omega arith in
      let earlier = crossed_on d k (omega arith) h (comes run is Left (k + d) (k + d) ((k + d) + 1) (refl, omega arith) (omega arith, next) (is_R i) (is_R i) (row_goes Left i) (row_sent Left i (k + d) run.cores) here) in
      subst (λ a. before (is_S j) (is_R i) (handled (is.turns a)) ≡ true) e
      (row_before run is Left (k + d) (k + d) ((k + d) + 1) j (refl, omega arith) (omega arith, next) (is_R i) (is_R i) (row_goes Left i) (row_sent Left i (k + d) run.cores)
      (before-any (is_S j) (is_R i) (handled (is.turns (k + d))) earlier)
      (before-other (is_S j) (is_R i) (handled (is.turns (k + d))) earlier) here)

  -- R i went through all cores on its left
  pub has_R_below : (d k : ℕ) → k + d < run.cores → list_any (is_R i) (handled (is.turns (k + d))) ≡ true → list_any (is_R i) (handled (is.turns k)) ≡ true
  has_R_below zero k low h = let e : k + 0 ≡ k = omega arith in subst (λ a. list_any (is_R i) (handled (is.turns a)) ≡ true) e h
  has_R_below (suc d) k low h =
      let e : k + suc d ≡ (k + d) + 1 = omega arith in
      has_R_below d k (omega arith) (comes run is Left (k + d) (k + d) ((k + d) + 1) (refl, omega arith) (omega arith, omega arith) (is_R i) (is_R i) (row_goes Left i) (row_sent Left i (k + d) run.cores) (subst (λ a. list_any (is_R i) (handled (is.turns a)) ≡ true) e h))

  -- why a core finds S j for R i, and why it finds R i for S j
  pub record Flying (k : ℕ) : Type 0 where
    pub below : ℕ
    pub is_next : below + 1 ≡ k
    pub not_yet : before (is_S j) (is_R i) (handled (is.turns below)) ≡ false
    pub crossed : before (is_S j) (is_R i) (handled (is.turns k)) ≡ true

  pub record SettledRight (k : ℕ) : Type 0 where
    pub home : is_home k run.cores j ≡ true
    pub first : before (is_S j) (is_R i) (handled (is.turns 0)) ≡ true

  pub record SettledLeft (k : ℕ) : Type 0 where
    pub home : is_home k run.cores i ≡ true
    pub last : ℕ
    pub is_last_one : last + 1 ≡ run.cores
    pub first : before (is_R i) (is_S j) (handled (is.turns last)) ≡ true

  pub found_flying : (k : ℕ) → k < run.cores → (front : List (Msg P)) → Front (is_R i) (handled (is.turns k)) front → flies j (state_after k run.cores front).in_flight ≡ true → Flying k
  found_flying zero low front at h = absurd (true≢false (sym h ∙ none_flies_first j run.cores empty_state front refl))
  found_flying (suc k) low front at h = record {
    below = k;
    is_next = add-one k;
    not_yet = go (before (is_S j) (is_R i) (handled (is.turns k))) refl;
    crossed = at.order (is_S j) ∙ flies_came j (suc k) run.cores front (omega arith) h;
  }
    where
      next : k + 1 < run.cores
      next = omega arith

      go : (b : Bool) → before (is_S j) (is_R i) (handled (is.turns k)) ≡ b → before (is_S j) (is_R i) (handled (is.turns k)) ≡ false
      go false e = e
      go true e =
          let ack : before (is_AckS j) (is_R i) (handled (is.turns (suc k))) ≡ true
          = subst (λ a. before (is_AckS j) (is_R i) (handled (is.turns a)) ≡ true) (add-one k) ((ack_order run is k i j next (subst (λ a. list_any (is_R i) (handled (is.turns a)) ≡ true) (sym (add-one k)) at.has)).order ∙ e) in
          let acked : list_any (is_AckS j) front ≡ true = sym (at.order (is_AckS j)) ∙ ack in
          let has_ack = before-any (is_AckS j) (is_R i) (handled (is.turns (suc k))) ack in
          let behind : before (is_S j) (is_AckS j) (handled (is.turns (suc k))) ≡ true
          = subst (λ a. before (is_S j) (is_AckS j) (handled (is.turns a)) ≡ true) (add-one k) (acks_behind run is k j next (subst (λ a. list_any (is_AckS j) (handled (is.turns a)) ≡ true) (sym (add-one k)) has_ack)) in
          let in_front : before (is_S j) (is_AckS j) front ≡ true = front_before (is_S j) (is_AckS j) front (at.message ∷ at.back) acked (sym (ap (before (is_S j) (is_AckS j)) at.parts) ∙ behind) in
          let once : count (is_S j) front ≤ 1 = front_count (is_S j) front (at.message ∷ at.back) (subst (λ ms. count (is_S j) ms ≤ 1) at.parts (row_once run is Right j (suc k) low)) in
          absurd (true≢false (sym h ∙ flies_no_more j (suc k) run.cores front (omega arith) acked in_front once))

  pub found_settled : (k : ℕ) → k < run.cores → (front : List (Msg P)) → Front (is_R i) (handled (is.turns k)) front → rests_settled j (state_after k run.cores front).right ≡ true → SettledRight k
  found_settled zero low front at h =
      let tells = settled_tells Right j 0 run.cores front h in
      record { home = tells.home; first = at.order (is_S j) ∙ tells.came }
  found_settled (suc k) low front at h =
      let tells = settled_tells Right j (suc k) run.cores front h in
      let ended : list_any (is_EndS j) front ≡ true = tells.ended (grind (arith, nat_tests)) in
      record {
        home = tells.home;
        first = sym (settle_order run is Left k (suc k) 0 i j (refl, low) (refl, omega (arith, low)) at.has).order ∙ at.order (is_EndS j) ∙ ended;
      }

  pub found_left : (d k : ℕ) → k + (d + 1) ≡ run.cores → (front : List (Msg P)) → Front (is_S j) (handled (is.turns k)) front → rests_settled i (state_after k run.cores front).left ≡ true → SettledLeft k
  found_left zero k e front at h =
      let tells = settled_tells Left i k run.cores front h in
      record { home = tells.home; last = k; is_last_one = e; first = at.order (is_R i) ∙ tells.came }
  found_left (suc d) k e front at h =
      let tells = settled_tells Left i k run.cores front h in
      let last : ℕ = k + (d + 1) in
      let all : last + 1 ≡ run.cores = omega arith in
      let ended : list_any (is_EndR i) front ≡ true = tells.ended (grind (arith, nat_tests, e)) in
      record { home = tells.home; last = last; is_last_one = all; first = sym (settle_order run is Right d k last j i (e, omega arith) (all, omega (arith, all)) at.has).order ∙ at.order (is_EndR i) ∙ ended }

  -- no two of these at once
  pub flying_settled : (k : ℕ) → k < run.cores → list_any (is_R i) (handled (is.turns k)) ≡ true → Flying k → before (is_S j) (is_R i) (handled (is.turns 0)) ≡ true → ⊥
  flying_settled k low has fly first =
      let e : fly.below + 1 ≡ k = fly.is_next in
      let has_below : list_any (is_R i) (handled (is.turns fly.below)) ≡ true = has_R_below 1 fly.below (omega arith) (subst (λ a. list_any (is_R i) (handled (is.turns a)) ≡ true) (sym e) has) in
      let zero_plus : 0 + fly.below ≡ fly.below = omega arith in
      let there : before (is_S j) (is_R i) (handled (is.turns fly.below)) ≡ true
      = subst (λ a. before (is_S j) (is_R i) (handled (is.turns a)) ≡ true) zero_plus (crossed_on fly.below 0 (omega arith) first (subst (λ a. list_any (is_R i) (handled (is.turns a)) ≡ true) (sym zero_plus) has_below)) in
      true≢false (sym there ∙ fly.not_yet)

  pub flying_flying : (d k : ℕ) → k + (d + 1) < run.cores → list_any (is_R i) (handled (is.turns (k + (d + 1)))) ≡ true → Flying k → Flying (k + (d + 1)) → ⊥
  flying_flying d k low has one other =
      let e : other.below ≡ k + d = omega (arith, other.is_next) in
      let has_below : list_any (is_R i) (handled (is.turns (k + d))) ≡ true = has_R_below 1 (k + d) (omega arith) (let f : k + (d + 1) ≡ (k + d) + 1 = omega arith in subst (λ a. list_any (is_R i) (handled (is.turns a)) ≡ true) f has) in
      let there = crossed_on d k (omega arith) one.crossed has_below in
      true≢false (sym (subst (λ a. before (is_S j) (is_R i) (handled (is.turns a)) ≡ true) (sym e) there) ∙ other.not_yet)

  pub left_right : (d k : ℕ) → k + (d + 1) ≡ run.cores → before (is_S j) (is_R i) (handled (is.turns k)) ≡ true → (m : ℕ) → SettledLeft m → ⊥
  left_right d k e h m left =
      let same : left.last ≡ k + d = omega (arith, left.is_last_one) in
      let first : before (is_R i) (is_S j) (handled (is.turns (k + d))) ≡ true = subst (λ a. before (is_R i) (is_S j) (handled (is.turns a)) ≡ true) same left.first in
      let there = crossed_on d k (omega arith) h (before-any (is_R i) (is_S j) (handled (is.turns (k + d))) first) in
      true≢false (sym there ∙ before-other (is_R i) (is_S j) (handled (is.turns (k + d))) first)

  pub both_ways : (k : ℕ) → k < run.cores → list_any (is_R i) (handled (is.turns k)) ≡ true → Flying k → SettledRight k → ⊥
  both_ways k low has fly settled = flying_settled k low has fly settled.first

  -- the partners of this number that a row finds rest settled, or are in flight
  found_within : (k : ℕ) (front : List (Msg P)) (row : P) → count (λ partner. partner.no.0 == j) (partners_of_left run.matches (state_after k run.cores front) row)
      ≤ count (λ entry. entry.settled && entry.no == j) (state_after k run.cores front).right + count (λ flying. flying.no == j) (state_after k run.cores front).in_flight
  found_within k front row =
      let state = state_after k run.cores front in
      omega (
        arith,
        count-sort (λ partner. partner.no.0 == j) (λ partner other. nat_lt partner.no.0 other.no.0) (settled_partners (run.matches row) state.right ++ flying_partners (run.matches row) state.in_flight),
        count-append (λ partner. partner.no.0 == j) (settled_partners (run.matches row) state.right) (flying_partners (run.matches row) state.in_flight),
        count-settled j (run.matches row) state.right,
        count-flying j (run.matches row) state.in_flight,
      )

  -- R i lists j at most once
  pub count_left : (k : ℕ) → k < run.cores → (front : List (Msg P)) → Front (is_R i) (handled (is.turns k)) front → (row : P) → count (λ partner. partner.no.0 == j) (partners_of_left run.matches (state_after k run.cores front) row) ≤ 1
  count_left k low front at row = go (list_any (λ flying. flying.no == j) state.in_flight) refl (rests_settled j state.right) refl
    where
      state : State P
      state = state_after k run.cores front

      parts : count (λ partner. partner.no.0 == j) (partners_of_left run.matches state row) ≤ count (λ entry. entry.settled && entry.no == j) state.right + count (λ flying. flying.no == j) state.in_flight
      parts = found_within k front row

      once : Distinct j state
      once = distinct j k run.cores front

      go : (b : Bool) → list_any (λ flying. flying.no == j) state.in_flight ≡ b → (c : Bool) → rests_settled j state.right ≡ c → count (λ partner. partner.no.0 == j) (partners_of_left run.matches state row) ≤ 1
      go true e true f = absurd (both_ways k low at.has (found_flying k low front at e) (found_settled k low front at f))
      go true e false f = omega (arith, parts, once.in_flight, any-count (λ entry. entry.settled && entry.no == j) state.right f)
      go false e c f = omega (arith, parts, once.right, count-less j state.right, any-count (λ flying. flying.no == j) state.in_flight e)

  pub why_left : (k : ℕ) → k < run.cores → (front : List (Msg P)) → Front (is_R i) (handled (is.turns k)) front → (row : P) → 1 ≤ count (λ partner. partner.no.0 == j) (partners_of_left run.matches (state_after k run.cores front) row) → Flying k ⊎ SettledRight k
  why_left k low front at row some = go (list_any (λ flying. flying.no == j) state.in_flight) refl (rests_settled j state.right) refl
    where
      state : State P
      state = state_after k run.cores front

      parts : count (λ partner. partner.no.0 == j) (partners_of_left run.matches state row) ≤ count (λ entry. entry.settled && entry.no == j) state.right + count (λ flying. flying.no == j) state.in_flight
      parts = found_within k front row

      go : (b : Bool) → list_any (λ flying. flying.no == j) state.in_flight ≡ b → (c : Bool) → rests_settled j state.right ≡ c → Flying k ⊎ SettledRight k
      go true e c f = inl (found_flying k low front at e)
      go false e true f = inr (found_settled k low front at f)
      go false e false f = absurd (omega (arith, parts, some, any-count (λ flying. flying.no == j) state.in_flight e, any-count (λ entry. entry.settled && entry.no == j) state.right f))

  -- S j lists i at most once
  pub count_right : (k : ℕ) → (front : List (Msg P)) → (row : P) → count (λ partner. partner.no.0 == i) (partners_of_right run.matches (state_after k run.cores front) row) ≤ 1
  count_right k front row =
      let state = state_after k run.cores front in
      omega (
        arith,
        count-sort (λ partner. partner.no.0 == i) (λ partner other. nat_lt partner.no.0 other.no.0) (settled_partners (λ other. run.matches other row) state.left),
        count-settled i (λ other. run.matches other row) state.left,
        count-less i state.left,
        (distinct i k run.cores front).left,
      )

  pub why_right : (k : ℕ) → k < run.cores → (front : List (Msg P)) → Front (is_S j) (handled (is.turns k)) front → (row : P) → 1 ≤ count (λ partner. partner.no.0 == i) (partners_of_right run.matches (state_after k run.cores front) row) → SettledLeft k
  why_right k low front at row some =
      let state = state_after k run.cores front in
      let held : 1 ≤ count (λ entry. entry.settled && entry.no == i) state.left
      = omega (
        arith,
        some,
        count-sort (λ partner. partner.no.0 == i) (λ partner other. nat_lt partner.no.0 other.no.0) (settled_partners (λ other. run.matches other row) state.left),
        count-settled i (λ other. run.matches other row) state.left,
      ) in
      found_left (run.cores - (k + 1)) k (omega arith) front at (count-any (λ entry. entry.settled && entry.no == i) state.left held)
