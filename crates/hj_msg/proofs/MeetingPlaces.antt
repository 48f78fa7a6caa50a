-- Where the cores meet a valid pair whose rows join.
use Rattle.std.proofs.Common.{◌≡◌, ℕ, zero, suc, ◌+◌, ◌<◌, ◌≤◌, Bool, true, false, ◌&&◌, ◌==◌, nat_lt, List, ◌∷◌, ◌++◌, Contains, refl, ap, ap₂, sym, ◌∙◌, subst, arith}
use Rattle.std.specs.List.{list_any}
use Rattle.std.proofs.lemmas.Bool.Decides.{nat_tests}
use Rattle.std.proofs.lemmas.List.Elements.{Contains-append_left, Contains-append_right}
use Rattle.hj_base.specs.declared.numbers.EventNo.{EventNo}
use Rattle.hj_base.specs.declared.numbers.Side.{Side}
use Rattle.hj_base.specs.declared.numbers.Side.TheVariants.{Left, Right}
use Rattle.hj_base.specs.Journals.{puts}
use Rattle.hj_msg.specs.declared.event.Event.TheVariants.{Arrive}
use Rattle.hj_msg.specs.declared.event.Pair.{Pair}
use Rattle.hj_msg.specs.declared.message.Msg.{Msg}
use Rattle.hj_msg.specs.declared.message.Report.TheVariants.{Handled}
use Rattle.hj_msg.specs.declared.partner.Partner.{Partner}
use Rattle.hj_msg.specs.Messages.{is_R, is_S}
use Rattle.hj_msg.specs.Valid.{IsValid, IsMatch}
use Rattle.hj_msg.specs.Store.{joins, settled_partners}
use Rattle.hj_msg.specs.Core.{State, state_after, is_home, flying_partners}
use Rattle.hj_msg.specs.Turns.{handled}
use Rattle.hj_msg.specs.Run.{Run, IsRun}
use Rattle.hj_msg.specs.Meeting.{number_of}
use Rattle.hj_msg.proofs.Counts.{count}
use Rattle.hj_msg.proofs.Members.{Contains-head, find}
use Rattle.hj_msg.proofs.Numbered.{same_number}
use Rattle.hj_msg.proofs.MarksOnce.{row_once}
use Rattle.hj_msg.proofs.Orders.{before, before-any, front_is, front_has, front_before, front_count}
use Rattle.hj_msg.proofs.Sorting.{sorted}
use Rattle.hj_msg.proofs.Sides.{opposite, row_message, is_row, is_ending, is_expiry, Reaches, resting, partners_of, row_of}
use Rattle.hj_msg.proofs.Directions.{is_AckS, low_of}
use Rattle.hj_msg.proofs.Settling.{at_first, ack_order, ends_behind, settle_order}
use Rattle.hj_msg.proofs.Stores.{rests_settled}
use Rattle.hj_msg.proofs.States.{flies_unacknowledged, settled_after, settled_first}
use Rattle.hj_msg.proofs.Rows.{arrived}
use Rattle.hj_msg.proofs.Origins.{fly_origin, rest_origin}
use Rattle.hj_msg.proofs.Reports.{told_of, tells_row, lists_settled, lists_flying}
use Rattle.hj_msg.proofs.Expiries.{not_expired}

pub passes_row : {P : Type 0} (side : Side) (at : EventNo) (row : P) → is_row side at.0 (row_message side at row) ≡ true
passes_row Left at row = grind (arith, nat_tests)
passes_row Right at row = grind (arith, nat_tests)

valid_row : {P : Type 0} (side : Side) (run : Run P) (pair : Pair P) → IsValid run.events pair → Contains run.events (Arrive (number_of side pair) side (row_of side pair))
valid_row Left run pair valid = valid.left
valid_row Right run pair valid = valid.right

-- what rests there settled and joins is found
found_at_rest : {P : Type 0} (side : Side) (matches : P → P → Bool) (state : State P) (row : P) (partner : Partner P) → Contains (settled_partners (joins matches side row) (resting (opposite side) state)) partner
    → Contains (partners_of side matches state row) partner
found_at_rest Left matches state row partner h =
    sorted (λ partner other. nat_lt partner.no.0 other.no.0) (settled_partners (matches row) state.right ++ flying_partners (matches row) state.in_flight) partner
    (Contains-append_left (settled_partners (matches row) state.right) (flying_partners (matches row) state.in_flight) partner h)
found_at_rest Right matches state row partner h = sorted (λ partner other. nat_lt partner.no.0 other.no.0) (settled_partners (λ other. matches other row) state.left) partner h

pair_joins : {P : Type 0} (side : Side) (matches : P → P → Bool) (pair : Pair P) (row other : P) → matches pair.left pair.right ≡ true → row ≡ row_of side pair → other ≡ row_of (opposite side) pair → joins matches side row other ≡ true
pair_joins Left matches pair row other e own same = ap₂ matches own same ∙ e
pair_joins Right matches pair row other e own same = ap₂ matches same own ∙ e

one_first : (n : ℕ) (side : Side) (k other : ℕ) → Reaches n side 0 k → Reaches n side 0 other → k ≡ other
one_first n Left k other at there = at.0 ∙ sym there.0
one_first n Right k other at there = omega (arith, at.0, there.0)

module _ {P : Type 0} (run : Run P) (is : IsRun run) where
  -- a report of an arrival, with what was handled before
  pub record AtRow (side : Side) (k : ℕ) (at : EventNo) (row : P) (partners : List (Partner P)) : Type 0 where
    pub front : List (Msg P)
    pub back : List (Msg P)
    pub parts : handled (is.turns k) ≡ front ++ row_message side at row ∷ back
    pub lists : partners ≡ partners_of side run.matches (state_after k run.cores front) row
    pub order : (p : Msg P → Bool) → before p (is_row side at.0) (handled (is.turns k)) ≡ list_any p front
    pub has : list_any (is_row side at.0) (handled (is.turns k)) ≡ true
    pub arrival : Contains run.events (Arrive at side row)

  pub at_row : (side : Side) (k : ℕ) → k < run.cores → (at : EventNo) (row : P) (partners : List (Partner P)) → Contains (puts (run.queue k).sender) (Handled at side row partners) → AtRow side k at row partners
  at_row side k low at row partners h =
      let told = told_of (is.steps k low) (Handled at side row partners) (λ e. cc) h in
      let tells = tells_row side run.matches (state_after k run.cores told.front) told.message at row partners told.told in
      let message : Msg P = row_message side at row in
      let parts : handled (is.turns k) ≡ told.front ++ message ∷ told.back = told.is ∙ ap (λ m. told.front ++ m ∷ told.back) tells.message in
      let once : count (is_row side at.0) (told.front ++ message ∷ told.back) ≤ 1 = subst (λ ms. count (is_row side at.0) ms ≤ 1) parts (row_once run is side at.0 k low) in
      record {
        front = told.front;
        back = told.back;
        parts = parts;
        lists = tells.lists;
        order = λ p. ap (before p (is_row side at.0)) parts ∙ front_is p (is_row side at.0) told.front told.back message (passes_row side at row) once;
        has = ap (list_any (is_row side at.0)) parts ∙ front_has (is_row side at.0) told.front told.back message (passes_row side at row);
        arrival = arrived run is side k low at row (subst (λ ms. Contains ms message) (sym parts) (Contains-append_right told.front (message ∷ told.back) message (Contains-head message told.back)));
      }

  -- the row that a number stands for
  row_is : (side : Side) (pair : Pair P) → IsValid run.events pair → (number : ℕ) (row : P) → Contains run.events (Arrive (record { 0 = number }) side row) → number ≡ (number_of side pair).0 → row ≡ row_of side pair
  row_is side pair valid number row there same =
      let one : Arrive (record { 0 = number }) side row ≡ Arrive (number_of side pair) side (row_of side pair)
      = same_number run.events (Arrive (record { 0 = number }) side row) (Arrive (number_of side pair) side (row_of side pair)) is.well_formed.numbered there (valid_row side run pair valid) same in
      cc

  -- the pair is among what a report of its row of this side lists
  pub record Lists (side : Side) (pair : Pair P) (row : P) (partners : List (Partner P)) : Type 0 where
    pub own : row ≡ row_of side pair
    pub other : Contains partners (record { no = number_of (opposite side) pair; row = row_of (opposite side) pair })

  own_row : (side : Side) (k : ℕ) (pair : Pair P) → IsValid run.events pair → (row : P) (partners : List (Partner P)) → AtRow side k (number_of side pair) row partners → row ≡ row_of side pair
  own_row side k pair valid row partners here = row_is side pair valid (number_of side pair).0 row here.arrival refl

  -- the partner that was found is the other row of the pair
  listed : (side : Side) (k : ℕ) → k < run.cores → (pair : Pair P) → IsMatch run.matches run.events pair → (row : P) (partners : List (Partner P)) (here : AtRow side k (number_of side pair) row partners)
      → (number : ℕ) (other : P) → number ≡ (number_of (opposite side) pair).0 → Contains here.front (row_message (opposite side) (record { 0 = number }) other)
      → (joins run.matches side row other ≡ true → Contains (partners_of side run.matches (state_after k run.cores here.front) row) (record { no = record { 0 = number }; row = other }))
      → Lists side pair row partners
  listed side k low pair match row partners here number other same origin found =
      let own : row ≡ row_of side pair = own_row side k pair match.valid row partners here in
      let message : Msg P = row_message (opposite side) (record { 0 = number }) other in
      let came : Contains run.events (Arrive (record { 0 = number }) (opposite side) other)
      = arrived run is (opposite side) k low (record { 0 = number }) other
      (subst (λ ms. Contains ms message) (sym here.parts) (Contains-append_left here.front (row_message side (number_of side pair) row ∷ here.back) message origin)) in
      let other_is : other ≡ row_of (opposite side) pair = row_is (opposite side) pair match.valid number other came same in
      record {
        own = own;
        other = subst (λ ps. Contains ps (record { no = number_of (opposite side) pair; row = row_of (opposite side) pair })) (sym here.lists)
            (subst (λ partner. Contains (partners_of side run.matches (state_after k run.cores here.front) row) partner) (λ i. record { no = record { 0 = same i }; row = other_is i })
            (found (pair_joins side run.matches pair row other match.joined own other_is)));
      }

  -- both rows cross between two cores
  pub met_between : (k : ℕ) → k + 1 < run.cores → (pair : Pair P) → IsMatch run.matches run.events pair → (row : P) (partners : List (Partner P))
      → Contains (puts (run.queue (k + 1)).sender) (Handled pair.left_no Left row partners)
      → before (is_S pair.right_no.0) (is_R pair.left_no.0) (handled (is.turns k)) ≡ false
      → before (is_S pair.right_no.0) (is_R pair.left_no.0) (handled (is.turns (k + 1))) ≡ true → Lists Left pair row partners
  met_between k low pair match row partners h before_k after_k =
      let here = at_row Left (k + 1) low pair.left_no row partners h in
      let came : list_any (is_S pair.right_no.0) here.front ≡ true = sym (here.order (is_S pair.right_no.0)) ∙ after_k in
      let acks = ack_order run is k pair.left_no.0 pair.right_no.0 low here.has in
      let none : list_any (is_AckS pair.right_no.0) here.front ≡ false = sym (here.order (is_AckS pair.right_no.0)) ∙ acks.order ∙ before_k in
      let state = state_after (k + 1) run.cores here.front in
      let flying = find (λ flying. flying.no == pair.right_no.0) state.in_flight (flies_unacknowledged pair.right_no.0 (k + 1) run.cores here.front (omega arith) came none) in
      listed Left (k + 1) low pair match row partners here flying.one.no flying.one.row (grind (arith, nat_tests, flying.passes)) (fly_origin (k + 1) run.cores here.front flying.one flying.is)
      (λ join. sorted (λ partner other. nat_lt partner.no.0 other.no.0) (settled_partners (run.matches row) state.right ++ flying_partners (run.matches row) state.in_flight) (record { no = record { 0 = flying.one.no }; row = flying.one.row })
      (Contains-append_right (settled_partners (run.matches row) state.right) (flying_partners (run.matches row) state.in_flight) (record { no = record { 0 = flying.one.no }; row = flying.one.row })
      (lists_flying (run.matches row) state.in_flight flying.one flying.is join)))

  -- the other row is settled at its home where the first core that a row reaches handled the other one before it
  settled_there : (side : Side) (others k first : ℕ) → Reaches run.cores side others k → Reaches run.cores side 0 first → (pair : Pair P) → IsValid run.events pair → is_home k run.cores (number_of (opposite side) pair).0 ≡ true
      → (row : P) (partners : List (Partner P)) (here : AtRow side k (number_of side pair) row partners)
      → before (is_row (opposite side) (number_of (opposite side) pair).0) (is_row side (number_of side pair).0) (handled (is.turns first)) ≡ true
      → rests_settled (number_of (opposite side) pair).0 (resting (opposite side) (state_after k run.cores here.front)) ≡ true
  settled_there side others k first at at_start pair valid home row partners here crossed = go others at
    where
      i : ℕ
      i = (number_of side pair).0

      j : ℕ
      j = (number_of (opposite side) pair).0

      low : k < run.cores
      low = low_of run is side others k at

      not_yet : list_any (is_expiry (opposite side) j) here.front ≡ false
      not_yet = sym (here.order (is_expiry (opposite side) j)) ∙ not_expired run is side k low pair valid here.has

      once : count (is_row (opposite side) j) here.front ≤ 1
      once =
          front_count (is_row (opposite side) j) here.front (row_message side (number_of side pair) row ∷ here.back) (subst (λ ms. count (is_row (opposite side) j) ms ≤ 1) here.parts (row_once run is (opposite side) j k low))

      go : (others : ℕ) → Reaches run.cores side others k → rests_settled j (resting (opposite side) (state_after k run.cores here.front)) ≡ true
      go zero at =
          settled_first (opposite side) j k run.cores here.front home (at_first run.cores side k at) not_yet once
          (sym (here.order (is_row (opposite side) j)) ∙ subst (λ a. before (is_row (opposite side) j) (is_row side i) (handled (is.turns a)) ≡ true) (one_first run.cores side first k at_start at) crossed)
      go (suc others) at =
          let ends : list_any (is_ending (opposite side) j) here.front ≡ true = sym (here.order (is_ending (opposite side) j)) ∙ (settle_order run is side others k first i j at at_start here.has).order ∙ crossed in
          let has_end : list_any (is_ending (opposite side) j) (handled (is.turns k)) ≡ true = before-any (is_ending (opposite side) j) (is_row side i) (handled (is.turns k)) (here.order (is_ending (opposite side) j) ∙ ends) in
          let behind = ends_behind run is side others k j at has_end in
          settled_after (opposite side) j k run.cores here.front home not_yet once
          (front_before (is_row (opposite side) j) (is_ending (opposite side) j) here.front (row_message side (number_of side pair) row ∷ here.back) ends
          (sym (ap (before (is_row (opposite side) j) (is_ending (opposite side) j)) here.parts) ∙ behind))
          ends

  -- all cores handled the other row first
  pub met_at_home : (side : Side) (others k first : ℕ) → Reaches run.cores side others k → Reaches run.cores side 0 first → (pair : Pair P) → IsMatch run.matches run.events pair → is_home k run.cores (number_of (opposite side) pair).0 ≡ true
      → (row : P) (partners : List (Partner P)) → Contains (puts (run.queue k).sender) (Handled (number_of side pair) side row partners)
      → before (is_row (opposite side) (number_of (opposite side) pair).0) (is_row side (number_of side pair).0) (handled (is.turns first)) ≡ true → Lists side pair row partners
  met_at_home side others k first at at_start pair match home row partners h crossed =
      let low = low_of run is side others k at in
      let here = at_row side k low (number_of side pair) row partners h in
      let state = state_after k run.cores here.front in
      let entry = find (λ entry. entry.settled && entry.no == (number_of (opposite side) pair).0) (resting (opposite side) state) (settled_there side others k first at at_start pair match.valid home row partners here crossed) in
      let settled : entry.one.settled ≡ true = grind (arith, entry.passes) in
      listed side k low pair match row partners here entry.one.no entry.one.row (grind (arith, nat_tests, entry.passes)) (rest_origin (opposite side) k run.cores here.front entry.one entry.is)
      (λ join. found_at_rest side run.matches state row (record { no = record { 0 = entry.one.no }; row = entry.one.row }) (lists_settled (joins run.matches side row) (resting (opposite side) state) entry.one entry.is settled join))
