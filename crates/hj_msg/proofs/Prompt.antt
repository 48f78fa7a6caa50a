-- Where no side is silent for long, few pairs wait for the punctuation.
use Rattle.std.proofs.Common.{◌≡◌, ◌⊎◌, ℕ, ◌+◌, ◌<◌, ◌≤◌, Bool, true, false, cond, ◌||◌, ◌&&◌, List, [], ◌∷◌, ◌++◌, length, Contains, refl, ap, sym, ◌∙◌, subst, arith, append-nil, append_assoc, length-append, Some, inl, inr}
use Rattle.std.specs.Prelude.{slice_index_or, nat_lt, count_by}
use Rattle.std.specs.List.{list_any}
use Rattle.std.proofs.lemmas.Bool.Decides.{nat_tests}
use Rattle.std.proofs.lemmas.List.Elements.{Contains-append_left, Contains-append_right}
use native.Mathlib.Decide.{dec_lt}
use Rattle.hj_base.specs.declared.numbers.EventNo.{EventNo}
use Rattle.hj_base.specs.declared.numbers.Side.{Side}
use Rattle.hj_base.specs.declared.numbers.Side.TheVariants.{Left, Right}
use Rattle.hj_msg.specs.declared.event.Event.{Event}
use Rattle.hj_msg.specs.declared.event.Event.TheVariants.{Arrive, Expire, Quiet}
use Rattle.hj_msg.specs.declared.event.Pair.{Pair}
use Rattle.hj_msg.specs.declared.message.Report.{Report}
use Rattle.hj_msg.specs.Event.{number, NumbersFrom, IsWellFormed}
use Rattle.hj_msg.specs.Kang.{kang, kang_from, windows_after}
use Rattle.hj_msg.specs.Valid.{IsMatch, later}
use Rattle.hj_msg.specs.Run.{Run, IsRun}
use Rattle.hj_msg.specs.Met.{AreReportsOf}
use Rattle.hj_msg.specs.Punctuation.{all, mark_of, punctuation}
use Rattle.hj_msg.specs.Emission.{emitted, is_within}
use Rattle.hj_msg.specs.Quiet.{other_side, arrives_on, tells_of, IsQuietWithin, is_arrival_behind, arrivals_behind, IsAmongLast, events_put, AllTold, EmitsAllButLast}
use Rattle.hj_msg.proofs.Counts.{count, count_is, count-append}
use Rattle.hj_msg.proofs.Members.{Contains-cut, Contains-cons, Contains-cons_cases, Contains-filter, find}
use Rattle.hj_msg.proofs.Marks.{within_marks}
use Rattle.hj_msg.proofs.Numbered.{front_is_well_formed}
use Rattle.hj_msg.proofs.Windows.{join_of_both}
use Rattle.hj_msg.proofs.Joined.{windows_and_join}
use Rattle.hj_msg.proofs.Emitting.{emitted_is}
use Rattle.hj_msg.proofs.Growing.{within_told}

-- of numbered events those behind one are numbered above it, and those before it aren't
none_before : {P : Type 0} (at first : ℕ) (front rest : List (Event P)) → NumbersFrom first (front ++ rest) → first + length front ≤ at + 1 → count (is_arrival_behind at) front ≡ 0
none_before at first [] rest is low = refl
none_before at first (event ∷ front) rest is low = grind (arith, nat_tests, is.0, none_before at (first + 1) front rest is.1)

above : {P : Type 0} (at first : ℕ) (front rest : List (Event P)) (event : Event P) → NumbersFrom first (front ++ event ∷ rest) → at ≡ first + length front → number event ≡ at
above at first [] rest event is e = omega (arith, is.0, e)
above at first (other ∷ front) rest event is e = above at (first + 1) front rest event is.1 (omega (arith, e))

count-one : {P : Type 0} (side : Side) (event : Event P) → cond {A = ℕ} (arrives_on Left event || arrives_on Right event) 1 0 ≤ cond {A = ℕ} (arrives_on side event) 1 0 + cond {A = ℕ} (tells_of (other_side side) event) 1 0
count-one Left (Arrive at Left row) = omega arith
count-one Left (Arrive at Right row) = omega arith
count-one Left (Expire at side of) = omega arith
count-one Left (Quiet at Left) = omega arith
count-one Left (Quiet at Right) = omega arith
count-one Right (Arrive at Left row) = omega arith
count-one Right (Arrive at Right row) = omega arith
count-one Right (Expire at side of) = omega arith
count-one Right (Quiet at Left) = omega arith
count-one Right (Quiet at Right) = omega arith

-- arrivals are of one side, or tell of the other
of_sides : {P : Type 0} (side : Side) (at : ℕ) (events : List (Event P)) → count (is_arrival_behind at) events ≤ count (arrives_on side) events + count (tells_of (other_side side)) events
of_sides side at [] = omega arith
of_sides {P} side at (event ∷ events) =
    let less : cond {A = ℕ} (is_arrival_behind at event) 1 0 ≤ cond {A = ℕ} (arrives_on Left event || arrives_on Right event) 1 0 = both (arrives_on Left event || arrives_on Right event) (nat_lt at (number event)) in
    omega (arith, less, count-one side event, of_sides side at events)
  where
    both : (b c : Bool) → cond {A = ℕ} (b && c) 1 0 ≤ cond {A = ℕ} b 1 0
    both true true = omega arith
    both true false = omega arith
    both false c = omega arith

numbers_behind : {P : Type 0} (at first : ℕ) (front back : List (Event P)) → NumbersFrom first (front ++ back) → at < first + length front → (event : Event P) → Contains back event → at < number event
numbers_behind at first [] [] is low event h = absurd (omega (arith, h.1))
numbers_behind at first [] (x ∷ back) is low event h = elim (Contains-cons_cases x event back h) [
  | inl e ↦ omega (arith, is.0, ap number e, low)
  | inr k ↦ numbers_behind at (first + 1) [] back is.1 (omega (arith, low)) event k
]
numbers_behind at first (x ∷ front) back is low event h = numbers_behind at (first + 1) front back is.1 (omega (arith, low)) event h

tells_of_arrival : {P : Type 0} (side : Side) (at : EventNo) (row : P) → tells_of side (Arrive at side row) ≡ true
tells_of_arrival Left at row = refl
tells_of_arrival Right at row = refl

arrives_on_arrival : {P : Type 0} (side : Side) (at : EventNo) (row : P) → (arrives_on side (Arrive at side row) ≡ true) × (tells_of (other_side side) (Arrive at side row) ≡ false)
arrives_on_arrival Left at row = (refl, refl)
arrives_on_arrival Right at row = (refl, refl)

none_any : {X : Type 0} (p : X → Bool) (xs : List X) → list_any p xs ≡ false → count p xs ≡ 0
none_any p [] h = refl
none_any p (x ∷ xs) h = grind (arith, h, none_any p xs)

-- behind an arrival that is not among the last ones something tells of the other side
pub other_told_of : {P : Type 0} (most : ℕ) (side : Side) (events front back : List (Event P)) (at : EventNo) (row : P) → IsQuietWithin most events → NumbersFrom 0 events → events ≡ front ++ Arrive at side row ∷ back
    → most ≤ arrivals_behind at.0 events → list_any (tells_of (other_side side)) back ≡ true
other_told_of {P} most side events front back at row quiet numbered parts many = go (list_any (tells_of (other_side side)) back) refl
  where
    own : Event P
    own = Arrive at side row

    go : (b : Bool) → list_any (tells_of (other_side side)) back ≡ b → list_any (tells_of (other_side side)) back ≡ true
    go true e = e
    go false e =
        let numbered_parts : NumbersFrom 0 (front ++ own ∷ back) = subst (NumbersFrom 0) parts numbered in
        let place : at.0 ≡ 0 + length front = above (0 + length front) 0 front back own numbered_parts refl in
        let behind : count (is_arrival_behind at.0) events ≡ count (is_arrival_behind at.0) front + (cond {A = ℕ} (is_arrival_behind at.0 own) 1 0 + count (is_arrival_behind at.0) back)
        = ap (count (is_arrival_behind at.0)) parts ∙ count-append (is_arrival_behind at.0) front (own ∷ back) in
        let none : count (tells_of (other_side side)) back ≡ 0 = none_any (tells_of (other_side side)) back e in
        let first = arrives_on_arrival side at row in
        let silent : count_by (tells_of (other_side side)) (own ∷ back) ≡ 0 = sym (count_is (tells_of (other_side side)) (own ∷ back)) ∙ grind (arith, first.1, none) in
        let whole : events ≡ front ++ ((own ∷ back) ++ []) = parts ∙ ap (λ xs. front ++ xs) (sym (append-nil (own ∷ back))) in
        let few : count_by (arrives_on side) (own ∷ back) ≤ most = quiet side front (own ∷ back) [] whole silent in
        let few_counted : count (arrives_on side) (own ∷ back) ≤ most = subst (λ n. n ≤ most) (sym (count_is (arrives_on side) (own ∷ back))) few in
        let counted : count (arrives_on side) (own ∷ back) ≡ 1 + count (arrives_on side) back = ap (λ b. cond {A = ℕ} b 1 0 + count (arrives_on side) back) first.0 in
        let here : cond {A = ℕ} (is_arrival_behind at.0 own) 1 0 ≡ 0 = not_behind (arrives_on Left own || arrives_on Right own) in
        absurd (omega (
          arith,
          few_counted,
          counted,
          behind,
          here,
          none,
          none_before at.0 0 front (own ∷ back) numbered_parts (omega (arith, place)),
          of_sides side at.0 back,
          subst (λ n. most ≤ n) (sym (count_is (is_arrival_behind at.0) events)) many,
        ))
      where
        not_behind : (b : Bool) → cond {A = ℕ} (b && nat_lt at.0 at.0) 1 0 ≡ 0
        not_behind true = grind (arith, nat_tests)
        not_behind false = refl

module _ {P : Type 0} (run : Run P) (is : IsRun run) where
  -- where all was told, each mark is at the number of such an arrival at least
  marked : (lists : List (List (Report P))) → AreReportsOf run lists → AllTold is lists → (side : Side) (at : EventNo) (row : P) → Contains (events_put is) (Arrive at side row)
      → (other : Event P) → Contains (events_put is) other → tells_of (other_side side) other ≡ true → at.0 < number other → is_within (punctuation lists) at.0 ≡ true
  marked lists of_run told side at row arrival other there speaks above =
      within_marks at.0 (Some all) lists refl (λ k low. let within : k < run.cores = omega (arith, low, of_run.one_each) in both side k within (own k within) (others k within))
    where
      own : (k : ℕ) → k < run.cores → is_within (mark_of side (slice_index_or lists k [])) at.0 ≡ true
      own k low = within_told run is k low side at.0 at.0 (slice_index_or lists k []) (of_run.prefixes k low) (told (Arrive at side row) arrival side (tells_of_arrival side at row) k low) (omega arith)

      others : (k : ℕ) → k < run.cores → is_within (mark_of (other_side side) (slice_index_or lists k [])) at.0 ≡ true
      others k low = within_told run is k low (other_side side) at.0 (number other) (slice_index_or lists k []) (of_run.prefixes k low) (told other there (other_side side) speaks k low) (omega (arith, above))

      both : (side : Side) (k : ℕ) → k < run.cores → is_within (mark_of side (slice_index_or lists k [])) at.0 ≡ true → is_within (mark_of (other_side side) (slice_index_or lists k [])) at.0 ≡ true
          → (is_within (mark_of Left (slice_index_or lists k [])) at.0 ≡ true) × (is_within (mark_of Right (slice_index_or lists k [])) at.0 ≡ true)
      both Left k low h o = (h, o)
      both Right k low h o = (o, h)

  within_by : (most : ℕ) → IsQuietWithin most (events_put is) → (lists : List (List (Report P))) → AreReportsOf run lists → AllTold is lists → IsWellFormed (events_put is)
      → (side : Side) (at : EventNo) (row : P) → Contains (events_put is) (Arrive at side row) → most ≤ arrivals_behind at.0 (events_put is) → is_within (punctuation lists) at.0 ≡ true
  within_by most quiet lists of_run told well side at row arrival many =
      let cut = Contains-cut (events_put is) (Arrive at side row) arrival in
      let speaks = other_told_of most side (events_put is) cut.0 cut.1 at row quiet well.numbered cut.2 many in
      let found = find (tells_of (other_side side)) cut.1 speaks in
      let parts : NumbersFrom 0 (cut.0 ++ Arrive at side row ∷ cut.1) = subst (NumbersFrom 0) cut.2 well.numbered in
      let place : at.0 ≡ 0 + length cut.0 = above (0 + length cut.0) 0 cut.0 cut.1 (Arrive at side row) parts refl in
      let apart : cut.0 ++ Arrive at side row ∷ cut.1 ≡ (cut.0 ++ Arrive at side row ∷ []) ++ cut.1 = sym (append_assoc cut.0 (Arrive at side row ∷ []) cut.1) in
      let higher : at.0 < number found.one
      = numbers_behind at.0 0 (cut.0 ++ Arrive at side row ∷ []) cut.1 (subst (NumbersFrom 0) apart parts) (omega (arith, place, length-append cut.0 (Arrive at side row ∷ []))) found.one found.is in
      marked lists of_run told side at row arrival found.one
      (subst (λ events. Contains events found.one) (sym cut.2) (Contains-append_right cut.0 (Arrive at side row ∷ cut.1) found.one (Contains-cons (Arrive at side row) found.one cut.1 found.is)))
      found.passes higher

  all_but_last : (most : ℕ) → IsQuietWithin most (events_put is) → (lists : List (List (Report P))) → AreReportsOf run lists → AllTold is lists
      → (pair : Pair P) → Contains (kang run.matches (events_put is)) pair → most ≤ arrivals_behind (later pair) (events_put is) → Contains (emitted lists) pair
  all_but_last most quiet lists of_run told pair joined many =
      let prefix = is.lawful.in_order in
      let well : IsWellFormed (events_put is) = front_is_well_formed (events_put is) prefix.rest (subst IsWellFormed prefix.is is.well_formed) in
      let match : IsMatch run.matches (events_put is) pair = ((windows_and_join run.matches (events_put is) well).each pair).0 joined in
      let all_joined : kang run.matches run.events ≡ kang run.matches (events_put is) ++ kang_from run.matches (windows_after (events_put is)) prefix.rest = ap (kang run.matches) prefix.is ∙ join_of_both run.matches (events_put is) prefix.rest in
      let there : Contains (kang run.matches run.events) pair = subst (λ pairs. Contains pairs pair) (sym all_joined) (Contains-append_left (kang run.matches (events_put is)) (kang_from run.matches (windows_after (events_put is)) prefix.rest) pair joined) in
      subst (λ pairs. Contains pairs pair) (sym (emitted_is run is lists of_run)) (Contains-filter (λ pair. is_within (punctuation lists) (later pair)) (kang run.matches run.events) pair there (within well match (dec_lt pair.left_no.0 pair.right_no.0)))
    where
      within : IsWellFormed (events_put is) → IsMatch run.matches (events_put is) pair → Dec (pair.left_no.0 < pair.right_no.0) → is_within (punctuation lists) (later pair) ≡ true
      within well match (yes low) =
          let last : later pair ≡ pair.right_no.0 = omega arith in
          ap (is_within (punctuation lists)) last ∙ within_by most quiet lists of_run told well Right pair.right_no pair.right match.valid.right (subst (λ n. most ≤ arrivals_behind n (events_put is)) last many)
      within well match (no high) =
          let last : later pair ≡ pair.left_no.0 = omega arith in
          ap (is_within (punctuation lists)) last ∙ within_by most quiet lists of_run told well Left pair.left_no pair.left match.valid.left (subst (λ n. most ≤ arrivals_behind n (events_put is)) last many)

  pub emits_all_but_last : EmitsAllButLast is
  emits_all_but_last most quiet lists of_run told pair joined = go (dec_lt (arrivals_behind (later pair) (events_put is)) most)
    where
      go : Dec (IsAmongLast most (later pair) (events_put is)) → Contains (emitted lists) pair ⊎ IsAmongLast most (later pair) (events_put is)
      go (yes last) = inr last
      go (no behind) = inl (all_but_last most quiet lists of_run told pair joined (omega arith))
