-- The cores meet only valid pairs whose rows join.
use Rattle.std.proofs.Common.{◌≡◌, ℕ, suc, ◌+◌, ◌<◌, ◌≤◌, Bool, true, ◌&&◌, ◌==◌, nat_lt, ◌⊎◌, inl, inr, List, [], ◌∷◌, ◌++◌, filter, length, Contains, refl, ap, sym, ◌∙◌, subst, arith, true≢false}
use Rattle.std.specs.Prelude.{slice_index_or}
use Rattle.std.specs.List.{list_any, flat_map}
use native.Mathlib.Decide.{dec_lt}
use Rattle.std.proofs.lemmas.Bool.Decides.{nat_tests}
use Rattle.std.proofs.lemmas.List.Elements.{Contains-append_left, Contains-append_cases}
use Rattle.hj_base.specs.declared.numbers.EventNo.{EventNo}
use Rattle.hj_base.specs.declared.numbers.Side.{Side}
use Rattle.hj_base.specs.declared.numbers.Side.TheVariants.{Left, Right}
use Rattle.hj_base.specs.Journals.{IsPrefix, puts}
use Rattle.hj_msg.specs.declared.event.Event.TheVariants.{Arrive, Expire}
use Rattle.hj_msg.specs.declared.event.Pair.{Pair}
use Rattle.hj_msg.specs.declared.message.Msg.{Msg}
use Rattle.hj_msg.specs.declared.message.Report.{Report}
use Rattle.hj_msg.specs.declared.message.Report.TheVariants.{Handled, Quiet, Ended, NoMemory}
use Rattle.hj_msg.specs.declared.partner.Partner.{Partner}
use Rattle.hj_msg.specs.Messages.{is_R, is_S, is_ExpS}
use Rattle.hj_msg.specs.Event.{Expires}
use Rattle.hj_msg.specs.Valid.{IsValid, IsMatch, later, earlier}
use Rattle.hj_msg.specs.Store.{Resting, settled_partners}
use Rattle.hj_msg.specs.Core.{State, InFlight, state_after, flying_partners}
use Rattle.hj_msg.specs.Turns.{handled}
use Rattle.hj_msg.specs.Run.{Run, IsRun}
use Rattle.hj_msg.specs.Met.{AreReportsOf, pairs_of, met}
use Rattle.hj_msg.proofs.Counts.{count}
use Rattle.hj_msg.proofs.Members.{Contains-nil, Contains-head, Contains-cons, Contains-from_filter, Contains-from_map, Contains-cut, any_of}
use Rattle.hj_msg.proofs.Numbered.{same_number}
use Rattle.hj_msg.proofs.Orders.{before, before-any, before-other, before-trans, front_before, front_count}
use Rattle.hj_msg.proofs.Stores.{flies, rests_settled}
use Rattle.hj_msg.proofs.States.{settled_tells}
use Rattle.hj_msg.proofs.Rows.{arrived}
use Rattle.hj_msg.proofs.Origins.{fly_origin, rest_origin}
use Rattle.hj_msg.proofs.Expiries.{expired}
use Rattle.hj_msg.proofs.RowBeforeExpiry.{expires_behind}
use Rattle.hj_msg.proofs.MarksOnce.{row_once}
use Rattle.hj_msg.proofs.MeetingPlaces.{AtRow, at_row, passes_row}
use Rattle.hj_msg.proofs.ListedOnce.{Front, found_flying, has_R_below}
use Rattle.hj_msg.proofs.Sorting.{from_sorted}
use Rattle.hj_msg.proofs.Sides.{opposite, row_message, is_row, is_expiry, resting}
use Rattle.hj_msg.proofs.Directions.{reached}

-- a partner, and the row that was kept
record Kept {P : Type 0} (X : Type 0) (no_of : X → ℕ) (row_of : X → P) (test : X → Bool) (rows : List X) (partner : Partner P) : Type 0 where
  one : X
  is : Contains rows one
  passes : test one ≡ true
  number : no_of one ≡ partner.no.0
  row : row_of one ≡ partner.row

kept_settled : {P : Type 0} (joins : P → Bool) (entries : List (Resting P)) (partner : Partner P) → Contains (settled_partners joins entries) partner
    → Kept (Resting P) (λ entry. entry.no) (λ entry. entry.row) (λ entry. entry.settled && joins entry.row) entries partner
kept_settled joins entries partner h =
    let found = Contains-from_map (λ entry. record { no = record { 0 = entry.no }; row = entry.row }) (filter (λ entry. entry.settled && joins entry.row) entries) partner h in
    let kept = Contains-from_filter (λ entry. entry.settled && joins entry.row) entries found.0 found.1 in
    record { one = found.0; is = kept.0; passes = kept.1; number = ap (λ p. p.no.0) found.2; row = ap (λ p. p.row) found.2 }

kept_flying : {P : Type 0} (joins : P → Bool) (rows : List (InFlight P)) (partner : Partner P) → Contains (flying_partners joins rows) partner
    → Kept (InFlight P) (λ flying. flying.no) (λ flying. flying.row) (λ flying. joins flying.row) rows partner
kept_flying joins rows partner h =
    let found = Contains-from_map (λ flying. record { no = record { 0 = flying.no }; row = flying.row }) (filter (λ flying. joins flying.row) rows) partner h in
    let kept = Contains-from_filter (λ flying. joins flying.row) rows found.0 found.1 in
    record { one = found.0; is = kept.0; passes = kept.1; number = ap (λ p. p.no.0) found.2; row = ap (λ p. p.row) found.2 }

module _ {P : Type 0} (run : Run P) (is : IsRun run) where
  -- a row that rests settled didn't expire before the other one came
  settled_lives : (side : Side) (k own other at : ℕ) → k < run.cores → (front : List (Msg P)) → Front (is_row side own) (handled (is.turns k)) front → rests_settled other (resting (opposite side) (state_after k run.cores front)) ≡ true
      → Contains run.events (Expire (record { 0 = at }) (opposite side) (record { 0 = other })) → at < own → ⊥
  settled_lives side k own other at low front here rest expiry below =
      let there = reached run is side k low in
      let row : Msg P → Bool = is_row (opposite side) other in
      let leaves : Msg P → Bool = is_expiry (opposite side) other in
      let tells = settled_tells (opposite side) other k run.cores front rest in
      let first = expired run is side k own other at low expiry below here.has in
      let in_front : list_any leaves front ≡ true = sym (here.order leaves) ∙ first in
      let behind = expires_behind run is side there.0 k other there.1 (before-any leaves (is_row side own) (handled (is.turns k)) first) in
      let once : count row front ≤ 1 = front_count row front (here.message ∷ here.back) (subst (λ ms. count row ms ≤ 1) here.parts (row_once run is (opposite side) other k low)) in
      let order : before row leaves front ≡ true = front_before row leaves front (here.message ∷ here.back) in_front (sym (ap (before row leaves) here.parts) ∙ behind) in
      true≢false (sym in_front ∙ tells.live once order)

  -- nor did a row of which the other one came first
  first_lives : (side : Side) (k own other at : ℕ) → k < run.cores → before (is_row side own) (is_row (opposite side) other) (handled (is.turns k)) ≡ true → list_any (is_row side own) (handled (is.turns k)) ≡ true
      → Contains run.events (Expire (record { 0 = at }) (opposite side) (record { 0 = other })) → at < own → ⊥
  first_lives side k own other at low crossed has expiry below =
      let there = reached run is side k low in
      let first = expired run is side k own other at low expiry below has in
      let behind = expires_behind run is side there.0 k other there.1 (before-any (is_expiry (opposite side) other) (is_row side own) (handled (is.turns k)) first) in
      true≢false (sym crossed ∙ before-other (is_row (opposite side) other) (is_row side own) (handled (is.turns k)) (before-trans (is_row (opposite side) other) (is_expiry (opposite side) other) (is_row side own) (handled (is.turns k)) behind first))

  -- nor did a right row that is in flight
  flying_lives : (k i j at : ℕ) → k < run.cores → (front : List (Msg P)) → Front (is_R i) (handled (is.turns k)) front → flies j (state_after k run.cores front).in_flight ≡ true
      → Contains run.events (Expire (record { 0 = at }) Right (record { 0 = j })) → at < i → ⊥
  flying_lives k i j at low front here fly expiry below =
      let found = found_flying run is i j k low front here fly in
      let low_below : found.below + 1 < run.cores = omega (arith, found.is_next, low) in
      let has_below : list_any (is_R i) (handled (is.turns found.below)) ≡ true = has_R_below run is i j 1 found.below low_below (subst (λ a. list_any (is_R i) (handled (is.turns a)) ≡ true) (sym found.is_next) here.has) in
      let below_low : found.below < run.cores = omega (arith, low_below) in
      let first = expired run is Left found.below i j at below_low expiry below has_below in
      let behind = expires_behind run is Left found.below found.below j (refl, below_low) (before-any (is_ExpS j) (is_R i) (handled (is.turns found.below)) first) in
      true≢false (sym (before-trans (is_S j) (is_ExpS j) (is_R i) (handled (is.turns found.below)) behind first) ∙ found.not_yet)

  -- so the pair is valid, where neither can have expired before the other came
  live_pair : (pair : Pair P) → Contains run.events (Arrive pair.left_no Left pair.left) → Contains run.events (Arrive pair.right_no Right pair.right)
      → ((at : ℕ) → Contains run.events (Expire (record { 0 = at }) Right (record { 0 = pair.right_no.0 })) → at < pair.left_no.0 → ⊥)
      → ((at : ℕ) → Contains run.events (Expire (record { 0 = at }) Left (record { 0 = pair.left_no.0 })) → at < pair.right_no.0 → ⊥)
      → IsValid run.events pair
  live_pair pair left right no_right no_left = record { left = left; right = right; live = live }
    where
      live : (at : ℕ) → Expires run.events (earlier pair) at → ¬ (at < later pair)
      live at (side, expiry) below = go side expiry (dec_lt pair.left_no.0 pair.right_no.0)
        where
          named : (side : Side) (of : ℕ) → Contains run.events (Expire (record { 0 = at }) side (record { 0 = of })) → (row : P) × Contains run.events (Arrive (record { 0 = of }) side row)
          named side of h =
              let cut = Contains-cut run.events (Expire (record { 0 = at }) side (record { 0 = of })) h in
              let names = (is.well_formed.live cut.0 cut.1 (Expire (record { 0 = at }) side (record { 0 = of })) cut.2).0 in
              (names.0, subst (λ events. Contains events (Arrive (record { 0 = of }) side names.0)) (sym cut.2) (Contains-append_left cut.0 (Expire (record { 0 = at }) side (record { 0 = of }) ∷ cut.1) (Arrive (record { 0 = of }) side names.0) names.1))

          go : (side : Side) → Contains run.events (Expire (record { 0 = at }) side (record { 0 = earlier pair })) → Dec (pair.left_no.0 < pair.right_no.0) → ⊥
          go Left h (yes low) =
              let first : earlier pair ≡ pair.left_no.0 = omega arith in
              let second : later pair ≡ pair.right_no.0 = omega arith in
              no_left at (subst (λ of. Contains run.events (Expire (record { 0 = at }) Left (record { 0 = of }))) first h) (subst (λ n. at < n) second below)
          go Right h (yes low) =
              let first : earlier pair ≡ pair.left_no.0 = omega arith in
              let name = named Right (earlier pair) h in
              let same : Arrive (record { 0 = earlier pair }) Right name.0 ≡ Arrive pair.left_no Left pair.left = same_number run.events (Arrive (record { 0 = earlier pair }) Right name.0) (Arrive pair.left_no Left pair.left) is.well_formed.numbered name.1 left first in
              cc
          go Right h (no high) =
              let first : earlier pair ≡ pair.right_no.0 = omega arith in
              let second : later pair ≡ pair.left_no.0 = omega arith in
              no_right at (subst (λ of. Contains run.events (Expire (record { 0 = at }) Right (record { 0 = of }))) first h) (subst (λ n. at < n) second below)
          go Left h (no high) =
              let first : earlier pair ≡ pair.right_no.0 = omega arith in
              let name = named Left (earlier pair) h in
              let same : Arrive (record { 0 = earlier pair }) Left name.0 ≡ Arrive pair.right_no Right pair.right = same_number run.events (Arrive (record { 0 = earlier pair }) Left name.0) (Arrive pair.right_no Right pair.right) is.well_formed.numbered name.1 right first in
              cc

  -- a report of an arrival lists matches
  front_row : (side : Side) (k : ℕ) (at : EventNo) (row : P) (partners : List (Partner P)) (here : AtRow run is side k at row partners) → Front (is_row side at.0) (handled (is.turns k)) here.front
  front_row side k at row partners here = record { message = row_message side at row; back = here.back; parts = here.parts; order = here.order; has = here.has }

  -- the partner arrived, and came to the core first
  record Origin (side : Side) (k : ℕ) (at : EventNo) (partner : Partner P) : Type 0 where
    arrival : Contains run.events (Arrive partner.no (opposite side) partner.row)
    crossed : before (is_row (opposite side) partner.no.0) (is_row side at.0) (handled (is.turns k)) ≡ true
    has : list_any (is_row (opposite side) partner.no.0) (handled (is.turns k)) ≡ true

  origin_of : (side : Side) (k : ℕ) → k < run.cores → (at : EventNo) (row : P) (partners : List (Partner P)) (here : AtRow run is side k at row partners) (number : ℕ) (other : P) (partner : Partner P)
      → number ≡ partner.no.0 → other ≡ partner.row → Contains here.front (row_message (opposite side) (record { 0 = number }) other) → Origin side k at partner
  origin_of side k low at row partners here number other partner number_is other_is h =
      let message : Msg P = row_message (opposite side) partner.no partner.row in
      let in_front : Contains here.front message = subst (λ m. Contains here.front m) (λ i. row_message (opposite side) (record { 0 = number_is i }) (other_is i)) h in
      let crossed : before (is_row (opposite side) partner.no.0) (is_row side at.0) (handled (is.turns k)) ≡ true
      = here.order (is_row (opposite side) partner.no.0) ∙ any_of (is_row (opposite side) partner.no.0) here.front message in_front (passes_row (opposite side) partner.no partner.row) in
      record {
        arrival = arrived run is (opposite side) k low partner.no partner.row (subst (λ ms. Contains ms message) (sym here.parts) (Contains-append_left here.front (row_message side at row ∷ here.back) message in_front));
        crossed = crossed;
        has = before-any (is_row (opposite side) partner.no.0) (is_row side at.0) (handled (is.turns k)) crossed;
      }

  only_left : (k : ℕ) → k < run.cores → (at : EventNo) (row : P) (partners : List (Partner P)) → Contains (puts (run.queue k).sender) (Handled at Left row partners) → (partner : Partner P) → Contains partners partner
      → IsMatch run.matches run.events (record { left_no = at; right_no = partner.no; left = row; right = partner.row })
  only_left k low at row partners h partner p = go (Contains-append_cases (settled_partners (run.matches row) state.right) (flying_partners (run.matches row) state.in_flight) partner listed)
    where
      here : AtRow run is Left k at row partners
      here = at_row run is Left k low at row partners h

      state : State P
      state = state_after k run.cores here.front

      listed : Contains (settled_partners (run.matches row) state.right ++ flying_partners (run.matches row) state.in_flight) partner
      listed = from_sorted (λ partner other. nat_lt partner.no.0 other.no.0) (settled_partners (run.matches row) state.right ++ flying_partners (run.matches row) state.in_flight) partner (subst (λ ps. Contains ps partner) here.lists p)

      pair : Pair P
      pair = record { left_no = at; right_no = partner.no; left = row; right = partner.row }

      match : Origin Left k at partner → run.matches row partner.row ≡ true → ((num : ℕ) → Contains run.events (Expire (record { 0 = num }) Right (record { 0 = partner.no.0 })) → num < at.0 → ⊥) → IsMatch run.matches run.events pair
      match origin join lives = record {
        valid = live_pair pair here.arrival origin.arrival lives (λ num expiry below. first_lives Right k partner.no.0 at.0 num low origin.crossed origin.has expiry below);
        joined = join;
      }

      go : Contains (settled_partners (run.matches row) state.right) partner ⊎ Contains (flying_partners (run.matches row) state.in_flight) partner → IsMatch run.matches run.events pair
      go (inl there) =
          let kept = kept_settled (run.matches row) state.right partner there in
          let settled : (kept.one.settled && kept.one.no == partner.no.0) ≡ true = grind (arith, nat_tests, kept.passes, kept.number) in
          let join : run.matches row kept.one.row ≡ true = grind (arith, kept.passes) in
          match (origin_of Left k low at row partners here kept.one.no kept.one.row partner kept.number kept.row (rest_origin Right k run.cores here.front kept.one kept.is)) (ap (run.matches row) (sym kept.row) ∙ join)
          (λ num expiry below. settled_lives Left k at.0 partner.no.0 num low here.front (front_row Left k at row partners here) (any_of (λ entry. entry.settled && entry.no == partner.no.0) state.right kept.one kept.is settled) expiry below)
      go (inr there) =
          let kept = kept_flying (run.matches row) state.in_flight partner there in
          let flying : (kept.one.no == partner.no.0) ≡ true = grind (arith, nat_tests, kept.number) in
          match (origin_of Left k low at row partners here kept.one.no kept.one.row partner kept.number kept.row (fly_origin k run.cores here.front kept.one kept.is)) (ap (run.matches row) (sym kept.row) ∙ kept.passes)
          (λ num expiry below. flying_lives k at.0 partner.no.0 num low here.front (front_row Left k at row partners here) (any_of (λ flying. flying.no == partner.no.0) state.in_flight kept.one kept.is flying) expiry below)

  only_right : (k : ℕ) → k < run.cores → (at : EventNo) (row : P) (partners : List (Partner P)) → Contains (puts (run.queue k).sender) (Handled at Right row partners) → (partner : Partner P) → Contains partners partner
      → IsMatch run.matches run.events (record { left_no = partner.no; right_no = at; left = partner.row; right = row })
  only_right k low at row partners h partner p =
      let here = at_row run is Right k low at row partners h in
      let state = state_after k run.cores here.front in
      let listed = from_sorted (λ partner other. nat_lt partner.no.0 other.no.0) (settled_partners (λ other. run.matches other row) state.left) partner (subst (λ ps. Contains ps partner) here.lists p) in
      let kept = kept_settled (λ other. run.matches other row) state.left partner listed in
      let settled : (kept.one.settled && kept.one.no == partner.no.0) ≡ true = grind (arith, nat_tests, kept.passes, kept.number) in
      let join : run.matches kept.one.row row ≡ true = grind (arith, kept.passes) in
      let origin = origin_of Right k low at row partners here kept.one.no kept.one.row partner kept.number kept.row (rest_origin Left k run.cores here.front kept.one kept.is) in
      record {
        valid = live_pair (record { left_no = partner.no; right_no = at; left = partner.row; right = row }) origin.arrival here.arrival
            (λ num expiry below. first_lives Left k partner.no.0 at.0 num low origin.crossed origin.has expiry below)
            (λ num expiry below. settled_lives Right k at.0 partner.no.0 num low here.front (front_row Right k at row partners here) (any_of (λ entry. entry.settled && entry.no == partner.no.0) state.left kept.one kept.is settled) expiry below);
        joined = ap (λ left. run.matches left row) (sym kept.row) ∙ join;
      }

  only_report : (k : ℕ) → k < run.cores → (r : Report P) → Contains (puts (run.queue k).sender) r → (pair : Pair P) → Contains (pairs_of r) pair → IsMatch run.matches run.events pair
  only_report k low (Handled at Left row partners) h pair p =
      let found = Contains-from_map (λ partner. record { left_no = at; right_no = partner.no; left = row; right = partner.row }) partners pair p in
      subst (IsMatch run.matches run.events) found.2 (only_left k low at row partners h found.0 found.1)
  only_report k low (Handled at Right row partners) h pair p =
      let found = Contains-from_map (λ partner. record { left_no = partner.no; right_no = at; left = partner.row; right = row }) partners pair p in
      subst (IsMatch run.matches run.events) found.2 (only_right k low at row partners h found.0 found.1)
  only_report k low (Quiet at side) h pair p = absurd (Contains-nil pair p)
  only_report k low Ended h pair p = absurd (Contains-nil pair p)
  only_report k low NoMemory h pair p = absurd (Contains-nil pair p)

  only_reports : (k : ℕ) → k < run.cores → (rs : List (Report P)) → ((r : Report P) → Contains rs r → Contains (puts (run.queue k).sender) r) → (pair : Pair P) → Contains (flat_map pairs_of rs) pair → IsMatch run.matches run.events pair
  only_reports k low [] each pair h = absurd (Contains-nil pair h)
  only_reports k low (r ∷ rs) each pair h = elim (Contains-append_cases (pairs_of r) (flat_map pairs_of rs) pair h) [
    | inl p ↦ only_report k low r (each r (Contains-head r rs)) pair p
    | inr p ↦ only_reports k low rs (λ other o. each other (Contains-cons r other rs o)) pair p
  ]

  only_lists : (lists : List (List (Report P))) (first : ℕ) → ((k : ℕ) → k < length lists → first + k < run.cores) → ((k : ℕ) → k < length lists → IsPrefix (slice_index_or lists k []) (puts (run.queue (first + k)).sender))
      → (pair : Pair P) → Contains (met lists) pair → IsMatch run.matches run.events pair
  only_lists [] first low each pair h = absurd (Contains-nil pair h)
  only_lists (rs ∷ lists) first low each pair h = elim (Contains-append_cases (flat_map pairs_of rs) (met lists) pair h) [
    | inl p ↦ only_reports (first + 0) (low 0 (omega arith)) rs (λ r c. let prefix : IsPrefix rs (puts (run.queue (first + 0)).sender) = each 0 (omega arith) in subst (λ ys. Contains ys r) (sym prefix.is) (Contains-append_left rs prefix.rest r c)) pair p
    | inr p ↦ only_lists lists (first + 1) (λ k l. omega (arith, low (suc k) (omega arith)))
        (λ k l. let e : first + suc k ≡ (first + 1) + k = omega arith in subst (λ a. IsPrefix (slice_index_or lists k []) (puts (run.queue a).sender)) e (each (suc k) (omega arith))) pair p
  ]

  -- Every pair that was met is a valid one whose rows join.
  pub met_only_matches : (lists : List (List (Report P))) → AreReportsOf run lists → (pair : Pair P) → Contains (met lists) pair → IsMatch run.matches run.events pair
  met_only_matches lists of_run pair h =
      only_lists lists 0 (λ k l. omega (arith, l, of_run.one_each)) (λ k l. let e : k ≡ 0 + k = omega arith in subst (λ a. IsPrefix (slice_index_or lists k []) (puts (run.queue a).sender)) e (of_run.prefixes k (omega (arith, l, of_run.one_each)))) pair h
