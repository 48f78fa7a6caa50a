-- Arrivals with rising numbers, where one of them is found, changes or leaves.
use Rattle.std.proofs.Common.{◌≡◌, ℕ, zero, suc, ◌+◌, ◌<◌, ◌≤◌, Bool, true, false, not, ◌&&◌, ◌||◌, ◌==◌, cond, List, [], ◌∷◌, ◌++◌, length, get_or, set, take, drop, Some, None, Option, Ok, Err, Result, IfOk, IfErr, All, Contains, refl, ap, sym, ◌∙◌, arith, inl, inr, eqb-true, eq-eqb, ne_eqb, lt-ltb, ◌⊎◌}
use Rattle.std.specs.List.{filter_map, filter, remove, cons_option, position, position_or_len, list_any}
use Rattle.std.specs.List.Sorted.{IsSearchInRange, IsBinarySearchResult, IsNonDecreasingBy}
use Rattle.std.specs.Ordering.{nat_cmp, ordering_index}
use Rattle.std.proofs.Math.Bool.{or-false}
use Rattle.std.proofs.lemmas.Cmp.{ranked}
use Rattle.std.proofs.lemmas.List.Sorted.{IsNonDecreasingBy-from_default}
use Rattle.std.proofs.lemmas.List.Elements.{All-cons, All-head, All-tail, All-nil, All-push, All-from_get_or, Contains-push_cases, Contains-append_right}
use Rattle.std.proofs.lemmas.Bool.{cases_lt}
use Rattle.std.proofs.lemmas.List.{set_split, get_or_default}
use Rattle.std.proofs.lemmas.Bool.Decides.{nat_tests}
use Rattle.hj_base.specs.declared.numbers.EventNo.{EventNo}
use Rattle.hj_driver.specs.declared.lane.OutstandingArrival.{OutstandingArrival}
use Rattle.hj_driver.specs.declared.lane.Departure.{Departure}
use Rattle.hj_driver.specs.declared.lane.Departure.TheVariants.{Row, End}
use Rattle.std.proofs.lemmas.List.Folds.{list_any_none}
use Rattle.std.proofs.lemmas.List.Quantifiers.{position-Some}
use Rattle.hj_msg.proofs.Members.{Contains-from_filter}
use Rattle.hj_driver.specs.Leaving.{LeavingState}
use Rattle.hj_driver.specs.Lane.{LaneState, IsRising, AreDistinct, IsAt, IsAbsent, after_departure, is_other, with_departure, is_taken, waits_for}

abbrev any_arrival : OutstandingArrival
any_arrival = record { no = record { 0 = 0 }; taken = None }

abbrev number_at : List OutstandingArrival → ℕ → ℕ
number_at l i = (get_or l i any_arrival).no.0

-- the numbers rise from each place to any later one
pub rising_at : (l : List OutstandingArrival) → IsRising l → (i j : ℕ) (d : OutstandingArrival) → i < j → j < length l
    → (get_or l i d).no.0 < (get_or l j d).no.0
rising_at [] rising i j d lt within = absurd (omega arith)
rising_at (x ∷ xs) rising i zero d lt within = absurd (omega arith)
rising_at (x ∷ xs) rising zero (suc j) d lt within = rising.0 j d (omega arith)
rising_at (x ∷ xs) rising (suc i) (suc j) d lt within = rising_at xs rising.1 i j d (omega arith) (omega arith)

module _ (l : List OutstandingArrival) (rising : IsRising l) (number : ℕ) where
  comparisons_rise : IsNonDecreasingBy (λ (a : OutstandingArrival). ordering_index (nat_cmp a.no.0 number)) l
  comparisons_rise = IsNonDecreasingBy-from_default (λ (a : OutstandingArrival). ordering_index (nat_cmp a.no.0 number)) l any_arrival (λ i j le within.
      let rise : number_at l i ≤ number_at l j = grind (arith, rising_at l rising i j any_arrival, λ (same : i ≡ j). ap (number_at l) same) in
      grind (arith, nat_tests))

  -- a binary search by number ends at the arrival of that number, or there is none
  pub searched : (r : Result ℕ ℕ) (size : ℕ) → size ≡ length l → IsSearchInRange r size → IsBinarySearchResult (λ (a : OutstandingArrival). nat_cmp a.no.0 number) l r
      → record { found : IfOk r (IsAt l number); absent : IfErr r (λ _. IsAbsent l number) }
  searched (Ok at) size is within equal = record { found = record { in_range = omega (arith, within); has_number = λ d. ranked _ number _ (sym (equal d)) }; absent = tt }
  searched (Err at) size is within parted = record {
    found = tt;
    absent = λ k d lt same. elim (cases_lt k at) [
      | inl below ↦ let less : (get_or l k d).no.0 < number = ranked _ number _ (sym ((parted comparisons_rise).0 k d (omega arith) below)) in omega arith
      | inr above ↦ let more : number < (get_or l k d).no.0 = ranked _ number _ (sym ((parted comparisons_rise).1 k d above lt)) in omega arith
    ];
  }

pub filter_map-same : {X : Type 0} (f : X → Option X) (l : List X) → All (λ x. f x ≡ Some x) l → filter_map f l ≡ l
filter_map-same f [] all = refl
filter_map-same {X} f (x ∷ xs) all =
    ap (λ o. cons_option o (filter_map f xs)) (All-head (λ (y : X). f y ≡ Some y) x xs all) ∙ ap (λ ys. x ∷ ys) (filter_map-same f xs (All-tail (λ (y : X). f y ≡ Some y) x xs all))

filter-all : {X : Type 0} (p : X → Bool) (l : List X) → All (λ x. p x ≡ true) l → filter p l ≡ l
filter-all p [] all = refl
filter-all {X} p (x ∷ xs) all = rw (All-head (λ (y : X). p y ≡ true) x xs all) (ap (λ (ys : List X). x ∷ ys) (filter-all p xs (All-tail (λ (y : X). p y ≡ true) x xs all)))

-- where all elements but one stay
pub filter_map-at : {X : Type 0} (f : X → Option X) (l : List X) (at : ℕ) (d : X) → at < length l → ((k : ℕ) → k < length l → (k ≡ at → ⊥) → f (get_or l k d) ≡ Some (get_or l k d))
    → filter_map f l ≡ take at l ++ cons_option (f (get_or l at d)) (drop (suc at) l)
filter_map-at f [] at d within others = absurd (omega arith)
filter_map-at f (x ∷ xs) zero d within others =
    ap (cons_option (f x)) (filter_map-same f xs (All-from_get_or (λ y. f y ≡ Some y) xs d (λ k lt. others (suc k) (omega arith) (λ same. omega arith))))
filter_map-at {X} f (x ∷ xs) (suc at) d within others =
    ap (λ o. cons_option o (filter_map f xs)) (others 0 (omega arith) (λ same. omega arith))
    ∙ ap (λ ys. x ∷ ys) (filter_map-at f xs at d (omega arith) (λ k lt differs. others (suc k) (omega arith) (λ same. differs (omega arith))))

-- what a search found leaves, or changes
module _ (l : List OutstandingArrival) (rising : IsRising l) (number at : ℕ) (is : IsAt l number at) (departure : Departure) where
  others_stay : (d : OutstandingArrival) (k : ℕ) → k < length l → (k ≡ at → ⊥)
      → after_departure number departure (get_or l k d) ≡ Some (get_or l k d)
  others_stay d k lt differs =
      let here : (get_or l at d).no.0 ≡ number = is.has_number d in
      let other : (number ≡ (get_or l k d).no.0) → ⊥ = λ same. elim (cases_lt k at) [
        | inl below ↦ let less = rising_at l rising k at d below is.in_range in omega arith
        | inr above ↦ let more = rising_at l rising at k d (omega arith) lt in omega arith
      ] in
      rw (ne_eqb number (get_or l k d).no.0 other) refl

  this_one : (d : OutstandingArrival) → after_departure number departure (get_or l at d) ≡ with_departure departure (get_or l at d) (get_or l at d).taken
  this_one d = rw (eq-eqb number (get_or l at d).no.0 (sym (is.has_number d))) refl

  whole : (d : OutstandingArrival) → filter_map (after_departure number departure) l ≡ take at l ++ cons_option (with_departure departure (get_or l at d) (get_or l at d).taken) (drop (suc at) l)
  whole d = filter_map-at (after_departure number departure) l at d is.in_range (others_stay d) ∙ ap (λ o. take at l ++ cons_option o (drop (suc at) l)) (this_one d)

  -- the arrival stays, with what was taken; x is a read of it
  pub marked : (x y : OutstandingArrival) → x ≡ get_or l at x → with_departure departure x x.taken ≡ Some y → set l at y ≡ filter_map (after_departure number departure) l
  marked x y read stays =
      set_split l at y is.in_range ∙ sym (whole x ∙ ap (λ (a : OutstandingArrival). take at l ++ cons_option (with_departure departure a a.taken) (drop (suc at) l)) (sym read) ∙ ap (λ o. take at l ++ cons_option o (drop (suc at) l)) stays)

  -- the arrival leaves
  pub removed : (x : OutstandingArrival) → x ≡ get_or l at x → with_departure departure x x.taken ≡ None → remove l at ≡ filter_map (after_departure number departure) l
  removed x read leaves =
      sym (whole x ∙ ap (λ (a : OutstandingArrival). take at l ++ cons_option (with_departure departure a a.taken) (drop (suc at) l)) (sym read) ∙ ap (λ o. take at l ++ cons_option o (drop (suc at) l)) leaves)

-- where none has the number, all stay
pub none_changes : (l : List OutstandingArrival) (number : ℕ) (departure : Departure) → IsAbsent l number → l ≡ filter_map (after_departure number departure) l
none_changes l number departure absent = sym (filter_map-same (after_departure number departure) l (λ k d lt. rw (ne_eqb number (get_or l k d).no.0 (λ same. absent k d lt (sym same))) refl))

-- the numbers rise where one changes or leaves
abbrev changed : Bool → Departure → OutstandingArrival → Option Departure → Option OutstandingArrival
changed same departure x taken = cond same (with_departure departure x taken) (Some x)

keeps_number : (P : ℕ → Type 0) (same : Bool) (departure : Departure) (x : OutstandingArrival) (taken : Option Departure) (rest : List OutstandingArrival) → P x.no.0 → All (λ (a : OutstandingArrival). P a.no.0) rest
    → All (λ (a : OutstandingArrival). P a.no.0) (cons_option (changed same departure x taken) rest)
keeps_number P false departure x taken rest here all = All-cons (λ (a : OutstandingArrival). P a.no.0) x rest here all
keeps_number P true departure x None rest here all = All-cons (λ (a : OutstandingArrival). P a.no.0) (record { no = x.no; taken = Some departure }) rest here all
keeps_number P true Row x (Some Row) rest here all = All-cons (λ (a : OutstandingArrival). P a.no.0) x rest here all
keeps_number P true Row x (Some End) rest here all = all
keeps_number P true End x (Some Row) rest here all = all
keeps_number P true End x (Some End) rest here all = All-cons (λ (a : OutstandingArrival). P a.no.0) x rest here all

above_after : (number : ℕ) (departure : Departure) (low : ℕ) (l : List OutstandingArrival) → All (λ (a : OutstandingArrival). low < a.no.0) l → All (λ (a : OutstandingArrival). low < a.no.0) (filter_map (after_departure number departure) l)
above_after number departure low [] all = All-nil (λ (a : OutstandingArrival). low < a.no.0)
above_after number departure low (x ∷ xs) all =
    keeps_number (λ n. low < n) (number == x.no.0) departure x x.taken _ (All-head (λ (a : OutstandingArrival). low < a.no.0) x xs all) (above_after number departure low xs (All-tail (λ (a : OutstandingArrival). low < a.no.0) x xs all))

rising_first : (same : Bool) (departure : Departure) (x : OutstandingArrival) (taken : Option Departure) (rest : List OutstandingArrival) → All (λ (a : OutstandingArrival). x.no.0 < a.no.0) rest → IsRising rest → IsRising (cons_option (changed same departure x taken) rest)
rising_first false departure x taken rest above rising = (above, rising)
rising_first true departure x None rest above rising = (above, rising)
rising_first true Row x (Some Row) rest above rising = (above, rising)
rising_first true Row x (Some End) rest above rising = rising
rising_first true End x (Some Row) rest above rising = rising
rising_first true End x (Some End) rest above rising = (above, rising)

pub rising_after : (number : ℕ) (departure : Departure) (l : List OutstandingArrival) → IsRising l → IsRising (filter_map (after_departure number departure) l)
rising_after number departure [] rising = tt
rising_after number departure (x ∷ xs) rising =
    rising_first (number == x.no.0) departure x x.taken _ (above_after number departure x.no.0 xs rising.0) (rising_after number departure xs rising.1)

-- the numbers rise with a greater one behind
pub rising_push : (l : List OutstandingArrival) (a : OutstandingArrival) → IsRising l
    → All (λ (other : OutstandingArrival). other.no.0 < a.no.0) l → IsRising (l ++ a ∷ [])
rising_push [] a rising below = (All-nil _, tt)
rising_push (x ∷ xs) a rising below =
    (All-push (λ (other : OutstandingArrival). x.no.0 < other.no.0) xs a rising.0 (All-head (λ (other : OutstandingArrival). other.no.0 < a.no.0) x xs below), rising_push xs a rising.1 (All-tail (λ (other : OutstandingArrival). other.no.0 < a.no.0) x xs below))

-- what is found of an arrival whose message is awaited
pub waits-at : (l : List OutstandingArrival) → IsRising l → (number at : ℕ) → IsAt l number at → (departure : Departure) (d : OutstandingArrival) → list_any (waits_for number departure) l ≡ not (is_taken departure (get_or l at d).taken)
waits-at [] rising number at is departure d = absurd (omega (arith, is.in_range))
waits-at (x ∷ xs) rising number zero is departure d =
    let here : x.no.0 ≡ number = is.has_number d in
    ap (λ b. (b && not (is_taken departure x.taken)) || list_any (waits_for number departure) xs) (eq-eqb number x.no.0 (sym here))
    ∙ ap (λ b. not (is_taken departure x.taken) || b) (list_any_none (waits_for number departure) xs (λ k e lt. let above = rising.0 k e lt in rw (ne_eqb number (get_or xs k e).no.0 (λ same. omega arith)) refl))
    ∙ or-false (not (is_taken departure x.taken))
waits-at (x ∷ xs) rising number (suc at) is departure d =
    let here : (get_or xs at d).no.0 ≡ number = is.has_number d in
    let within : at < length xs = omega (arith, is.in_range) in
    let below = rising.0 at d within in
    ap (λ b. (b && not (is_taken departure x.taken)) || list_any (waits_for number departure) xs) (ne_eqb number x.no.0 (λ same. omega arith))
    ∙ waits-at xs rising.1 number at (record { in_range = within; has_number = is.has_number }) departure d

pub waits-absent : (l : List OutstandingArrival) (number : ℕ) (departure : Departure) → IsAbsent l number → list_any (waits_for number departure) l ≡ false
waits-absent l number departure absent = list_any_none (waits_for number departure) l (λ k d lt. rw (ne_eqb number (get_or l k d).no.0 (λ same. absent k d lt (sym same))) refl)

abbrev lane : List OutstandingArrival → List EventNo → ℕ → LaneState
lane arrivals expiries room = record { arrivals = arrivals; expiries = expiries; room = room }

-- a lane with other arrivals, or with other expiries
pub lane_with : (s : LaneState) (before after : List OutstandingArrival) (expiries : List EventNo) (room : ℕ) (f : List OutstandingArrival → List OutstandingArrival) → lane before expiries room ≡ s → after ≡ f before
    → lane after expiries room ≡ lane (f s.arrivals) s.expiries s.room
lane_with s before after expiries room f is e = ap (λ l. lane l expiries room) e ∙ ap (λ (t : LaneState). lane (f t.arrivals) t.expiries t.room) is

pub lane_with_expiries : (s : LaneState) (arrivals : List OutstandingArrival) (before after : List EventNo) (room : ℕ) (f : List EventNo → List EventNo) → lane arrivals before room ≡ s → after ≡ f before
    → lane arrivals after room ≡ lane s.arrivals (f s.expiries) s.room
lane_with_expiries s arrivals before after room f is e = ap (λ l. lane arrivals l room) e ∙ ap (λ (t : LaneState). lane t.arrivals (f t.expiries) t.room) is

abbrev leaving : List EventNo → ℕ → LeavingState
leaving numbers room = record { numbers = numbers; room = room }

pub leaving_with : (s : LeavingState) (before after : List EventNo) (room : ℕ) (f : List EventNo → List EventNo) → leaving before room ≡ s → after ≡ f before → leaving after room ≡ leaving (f s.numbers) s.room
leaving_with s before after room f is e = ap (λ l. leaving l room) e ∙ ap (λ (t : LeavingState). leaving (f t.numbers) t.room) is

some≢none : {X : Type 0} {x : X} → Some x ≡ None → ⊥
some≢none same = cc

-- distinct expiries, where one is found and leaves
distinct_at : (l : List EventNo) → AreDistinct l → (i j : ℕ) (d : EventNo) → i < j → j < length l → get_or l i d ≡ get_or l j d → ⊥
distinct_at [] distinct i j d lt within same = omega arith
distinct_at (x ∷ xs) distinct i zero d lt within same = omega arith
distinct_at (x ∷ xs) distinct zero (suc j) d lt within same = distinct.0 (j, omega arith, get_or_default xs j x d (omega arith) ∙ sym same)
distinct_at (x ∷ xs) distinct (suc i) (suc j) d lt within same = distinct_at xs distinct.1 i j d (omega arith) (omega arith) same

filter-cut : {X : Type 0} (p : X → Bool) (l : List X) (at : ℕ) (d : X) → at < length l → p (get_or l at d) ≡ false → ((k : ℕ) → k < length l → (k ≡ at → ⊥) → p (get_or l k d) ≡ true) → remove l at ≡ filter p l
filter-cut p [] at d within this others = absurd (omega arith)
filter-cut p (x ∷ xs) zero d within this others =
    rw this (sym (filter-all p xs (λ k e lt. rw (get_or_default xs k e d lt) (others (suc k) (omega arith) (λ same. omega arith)))))
filter-cut {X} p (x ∷ xs) (suc at) d within this others =
    rw (others 0 (omega arith) (λ same. omega arith)) (ap (λ (ys : List X). x ∷ ys) (filter-cut p xs at d (omega arith) this (λ k lt differs. others (suc k) (omega arith) (λ same. differs (omega arith)))))

pub filter-at : (l : List EventNo) (number at : ℕ) → AreDistinct l → position (λ (of : EventNo). number == of.0) l ≡ Some at → remove l at ≡ filter (is_other number) l
filter-at l number at distinct found =
    let d : EventNo = record { 0 = 0 } in
    let w = position-Some (λ (of : EventNo). number == of.0) l at d found in
    let here : number ≡ (get_or l at d).0 = eqb-true number (get_or l at d).0 w.1 in
    filter-cut (is_other number) l at d w.0 (ap not w.1)
    (λ k lt differs. ap not (elim (cases_lt k at) [
      | inl below ↦ w.2 k below
      | inr above ↦ ne_eqb number (get_or l k d).0 (λ same. distinct_at l distinct at k d (omega arith) lt (let both : (get_or l at d).0 ≡ (get_or l k d).0 = sym here ∙ same in ap (λ n. let of : EventNo = record { 0 = n } in of) both))
    ]))

bool_cases : (b : Bool) → (b ≡ true) ⊎ (b ≡ false)
bool_cases true = inl refl
bool_cases false = inr refl

none_passes : {X : Type 0} (p : X → Bool) (l : List X) → length l ≤ position_or_len p l → All (λ x. p x ≡ false) l
none_passes p [] far = All-nil (λ x. p x ≡ false)
none_passes {X} p (x ∷ xs) far = elim (bool_cases (p x)) [
  | inl passes ↦ absurd (let first : position_or_len p (x ∷ xs) ≡ 0 = rw passes refl in omega arith)
  | inr fails ↦ let later : position_or_len p (x ∷ xs) ≡ 1 + position_or_len p xs = rw fails refl in All-cons (λ (y : X). p y ≡ false) x xs fails (none_passes p xs (omega arith))
]

pub filter-none : (l : List EventNo) (number : ℕ) → position (λ (of : EventNo). number == of.0) l ≡ None → l ≡ filter (is_other number) l
filter-none l number none =
    let p : EventNo → Bool = λ of. number == of.0 in
    let far : length l ≤ position_or_len p l = elim (cases_lt (position_or_len p l) (length l)) [
      | inl near ↦ absurd (some≢none (rw (lt-ltb (position_or_len p l) (length l) near) at none))
      | inr far ↦ far
    ] in
    sym (filter-all (is_other number) l (λ k d lt. ap not (none_passes p l far k d lt)))

distinct_first : (kept : Bool) (x : EventNo) (l : List EventNo) → (Contains l x → ⊥) → AreDistinct l → AreDistinct (cond kept (x ∷ l) l)
distinct_first true x l absent distinct = (absent, distinct)
distinct_first false x l absent distinct = distinct

pub distinct_after : (l : List EventNo) (number : ℕ) → AreDistinct l → AreDistinct (filter (is_other number) l)
distinct_after [] number distinct = tt
distinct_after (x ∷ xs) number distinct = distinct_first (is_other number x) x (filter (is_other number) xs) (λ has. distinct.0 (Contains-from_filter (is_other number) xs x has).0) (distinct_after xs number distinct.1)

pub distinct_push : (l : List EventNo) (of : EventNo) → AreDistinct l → (Contains l of → ⊥) → AreDistinct (l ++ of ∷ [])
distinct_push [] of distinct absent = (λ has. absurd (omega (arith, has.1)), tt)
distinct_push (x ∷ xs) of distinct absent =
    (λ has. elim (Contains-push_cases xs of x has) [ inl old ↦ distinct.0 old | inr same ↦ absent (0, omega arith, sym same) ], distinct_push xs of distinct.1 (λ has. absent (Contains-append_right (x ∷ []) xs of has)))
