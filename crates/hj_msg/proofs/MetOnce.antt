-- Of all reports, at most one lists a pair, and that once.
use Rattle.std.proofs.Common.{◌≡◌, ℕ, suc, ◌+◌, ◌-◌, ◌<◌, ◌≤◌, Bool, true, false, cond, not, ◌&&◌, ◌==◌, ◌⊎◌, inl, inr, List, [], ◌∷◌, ◌++◌, map, fold, length, Some, None, Option, refl, ap, sym, ◌∙◌, subst, arith, append_assoc}
use Rattle.std.specs.Prelude.{slice_index_or}
use Rattle.std.specs.List.{list_any, flat_map, count_by}
use Rattle.std.specs.Option.{IfSome, option_to_list}
use Rattle.std.proofs.lemmas.List.{map-append}
use Rattle.std.proofs.lemmas.List.Concat.{flat_map-append}
use native.Mathlib.Decide.{dec_lt}
use Rattle.std.proofs.lemmas.Bool.Decides.{nat_tests}
use Rattle.hj_base.specs.declared.numbers.EventNo.{EventNo}
use Rattle.hj_base.specs.declared.numbers.Side.{Side}
use Rattle.hj_base.specs.declared.numbers.Side.TheVariants.{Left, Right}
use Rattle.hj_base.specs.Journals.{IsPrefix, puts}
use Rattle.hj_msg.specs.declared.event.Pair.{Pair}
use Rattle.hj_msg.specs.declared.message.Msg.{Msg}
use Rattle.hj_msg.specs.declared.message.Msg.TheVariants.{R, CloseL, S, CloseR}
use Rattle.hj_msg.specs.declared.message.Report.{Report}
use Rattle.hj_msg.specs.declared.message.Report.TheVariants.{Handled, Quiet, Ended, NoMemory}
use Rattle.hj_msg.specs.declared.partner.Partner.{Partner}
use Rattle.hj_msg.specs.Core.{State, empty_state, after, is_home, report, state_after, partners_of_left, partners_of_right}
use Rattle.hj_msg.specs.Turns.{Turn, AreWhole, IsCut, all_of, handled}
use Rattle.hj_msg.specs.Run.{Run, IsRun}
use Rattle.hj_msg.specs.Met.{AreReportsOf, pairs_of, met}
use Rattle.hj_msg.specs.Meeting.{is_pair}
use Rattle.hj_msg.proofs.Counts.{count, count_is, count-append}
use Rattle.hj_msg.proofs.Orders.{before, front_is, front_has}
use Rattle.hj_msg.proofs.Reports.{puts-reports}
use Rattle.hj_msg.proofs.ListedOnce.{Front, Flying, SettledRight, SettledLeft, count_left, why_left, count_right, why_right, flying_settled, flying_flying, left_right}
use Rattle.hj_msg.proofs.Sides.{is_row, partners_of}
use Rattle.hj_msg.proofs.MarksOnce.{row_once}

-- how often a report lists the pair of i and j, where it is a report of the row of this side
abbrev lists_by : {P : Type 0} → Side → ℕ → ℕ → Report P → ℕ
lists_by Left i j (Handled at Left row partners) = cond (at.0 == i) (count (λ partner. partner.no.0 == j) partners) 0
lists_by Right i j (Handled at Right row partners) = cond (at.0 == j) (count (λ partner. partner.no.0 == i) partners) 0
lists_by side i j other = 0

pairs_left : {P : Type 0} (i j : ℕ) (at : EventNo) (row : P) (partners : List (Partner P)) → count (is_pair i j) (pairs_of (Handled at Left row partners)) ≡ cond (at.0 == i) (count (λ partner. partner.no.0 == j) partners) 0
pairs_left i j at row [] = grind arith
pairs_left i j at row (partner ∷ partners) = grind (arith, pairs_left i j at row partners)

pairs_right : {P : Type 0} (i j : ℕ) (at : EventNo) (row : P) (partners : List (Partner P)) → count (is_pair i j) (pairs_of (Handled at Right row partners)) ≡ cond (at.0 == j) (count (λ partner. partner.no.0 == i) partners) 0
pairs_right i j at row [] = grind arith
pairs_right i j at row (partner ∷ partners) = grind (arith, pairs_right i j at row partners)

pairs_are : {P : Type 0} (i j : ℕ) (r : Report P) → count (is_pair i j) (pairs_of r) ≡ lists_by Left i j r + lists_by Right i j r
pairs_are i j (Handled at Left row partners) = omega (arith, pairs_left i j at row partners)
pairs_are i j (Handled at Right row partners) = omega (arith, pairs_right i j at row partners)
pairs_are i j (Quiet at side) = refl
pairs_are i j Ended = refl
pairs_are i j NoMemory = refl

abbrev total : {P : Type 0} → (Report P → ℕ) → List (Report P) → ℕ
total w [] = 0
total w (r ∷ rs) = w r + total w rs

total-append : {P : Type 0} (w : Report P → ℕ) (xs ys : List (Report P)) → total w (xs ++ ys) ≡ total w xs + total w ys
total-append w [] ys = omega arith
total-append w (x ∷ xs) ys = omega (arith, total-append w xs ys)

total_pairs : {P : Type 0} (i j : ℕ) (rs : List (Report P)) → count (is_pair i j) (flat_map pairs_of rs) ≡ total (lists_by Left i j) rs + total (lists_by Right i j) rs
total_pairs i j [] = refl
total_pairs i j (r ∷ rs) = omega (arith, count-append (is_pair i j) (pairs_of r) (flat_map pairs_of rs), pairs_are i j r, total_pairs i j rs)

abbrev of_option : {P : Type 0} → (Report P → ℕ) → Option (Report P) → ℕ
of_option w None = 0
of_option w (Some r) = w r

-- the whole turns, each by its message
bounded : {P : Type 0} (matches : P → P → Bool) (place n : ℕ) (w : Report P → ℕ) (q : Msg P → Bool) (state : State P) (turns : List (Turn P)) → AreWhole matches place n state turns
    → ((front back : List (Msg P)) (m : Msg P) → map (λ turn. turn.message) turns ≡ front ++ m ∷ back → of_option w (report matches (fold (after place n) state front) m) ≤ cond (q m) 1 0)
    → total w (flat_map (λ turn. turn.reports) turns) ≤ count q (map (λ turn. turn.message) turns)
bounded matches place n w q state [] whole each = omega arith
bounded {P} matches place n w q state (turn ∷ turns) whole each =
    let later = bounded matches place n w q (after place n state turn.message) turns whole.1 (λ front back m e. each (turn.message ∷ front) back m (ap (λ ms. turn.message ∷ ms) e)) in
    let here = each [] (map (λ turn. turn.message) turns) turn.message refl in
    omega (arith, later, here, total-append w turn.reports (flat_map (λ turn. turn.reports) turns), ap (total w) whole.0.reports, one (report matches state turn.message))
  where
    one : (o : Option (Report P)) → total w (option_to_list o) ≡ of_option w o
    one None = refl
    one (Some r) = omega arith

-- a message whose report counts
record Counts {P : Type 0} (matches : P → P → Bool) (place n : ℕ) (w : Report P → ℕ) (state : State P) (messages : List (Msg P)) : Type 0 where
  front : List (Msg P)
  back : List (Msg P)
  message : Msg P
  is : messages ≡ front ++ message ∷ back
  some : 1 ≤ of_option w (report matches (fold (after place n) state front) message)

counted : {P : Type 0} (matches : P → P → Bool) (place n : ℕ) (w : Report P → ℕ) (state : State P) (turns : List (Turn P)) → AreWhole matches place n state turns
    → 1 ≤ total w (flat_map (λ turn. turn.reports) turns) → Counts matches place n w state (map (λ turn. turn.message) turns)
counted matches place n w state [] whole some = absurd (omega (arith, some))
counted {P} matches place n w state (turn ∷ turns) whole some = go (dec_lt 0 (of_option w (report matches state turn.message))) (counted matches place n w (after place n state turn.message) turns whole.1)
  where
    one : (o : Option (Report P)) → total w (option_to_list o) ≡ of_option w o
    one None = refl
    one (Some r) = omega arith

    go : Dec (0 < of_option w (report matches state turn.message)) → (1 ≤ total w (flat_map (λ turn. turn.reports) turns) → Counts matches place n w (after place n state turn.message) (map (λ turn. turn.message) turns))
        → Counts matches place n w state (map (λ turn. turn.message) (turn ∷ turns))
    go (yes low) deeper = record { front = []; back = map (λ turn. turn.message) turns; message = turn.message; is = refl; some = low }
    go (no high) deeper =
        let rest : 1 ≤ total w (flat_map (λ (turn : Turn P). turn.reports) turns)
        = omega (arith, some, high, total-append w turn.reports (flat_map (λ turn. turn.reports) turns), ap (total w) whole.0.reports, one (report matches state turn.message)) in
        let found = deeper rest in
        record { front = turn.message ∷ found.front; back = found.back; message = found.message; is = ap (λ ms. turn.message ∷ ms) found.is; some = found.some }

-- a cut turn lists nothing
total_cut : {P : Type 0} (w : Report P → ℕ) → w NoMemory ≡ 0 → (place n : ℕ) (cut : Option (Turn P)) → IfSome cut (IsCut place n) → total w (flat_map (λ turn. turn.reports) (option_to_list cut)) ≡ 0
total_cut w none place n None is = refl
total_cut {P} w none place n (Some turn) is = elim is.reports [
  | inl e ↦ ap (λ rs. total w (rs ++ [])) e
  | inr e ↦ (ap (λ rs. total w (rs ++ [])) e ∙ omega (arith, none))
]

-- lists of which each holds at most one, and no two hold one
total-prefix : {P : Type 0} (w : Report P → ℕ) (xs ys : List (Report P)) → IsPrefix xs ys → total w xs ≤ total w ys
total-prefix w xs ys prefix = omega (arith, ap (total w) prefix.is, total-append w xs prefix.rest)

none_in : {P : Type 0} (t : Pair P → Bool) (lists : List (List (Report P))) → ((k : ℕ) → k < length lists → count t (flat_map pairs_of (slice_index_or lists k [])) ≡ 0) → count t (met lists) ≡ 0
none_in t [] each = refl
none_in {P} t (rs ∷ lists) each =
    let first : count t (flat_map pairs_of rs) ≡ 0 = each 0 (omega arith) in
    let rest : count t (met lists) ≡ 0 = none_in t lists (λ k low. each (suc k) (omega arith)) in
    omega (arith, first, rest, count-append t (flat_map pairs_of rs) (met lists))

one_in : {P : Type 0} (t : Pair P → Bool) (lists : List (List (Report P))) → ((k : ℕ) → k < length lists → count t (flat_map pairs_of (slice_index_or lists k [])) ≤ 1)
    → ((k m : ℕ) → k < m → m < length lists → 1 ≤ count t (flat_map pairs_of (slice_index_or lists k [])) → 1 ≤ count t (flat_map pairs_of (slice_index_or lists m [])) → ⊥)
    → count t (met lists) ≤ 1
one_in t [] each two = omega arith
one_in {P} t (rs ∷ lists) each two = go (dec_lt 0 (count t (flat_map pairs_of rs))) (one_in t lists (λ k low. each (suc k) (omega arith)) (λ k m below low. two (suc k) (suc m) (omega arith) (omega arith)))
  where
    go : Dec (0 < count t (flat_map pairs_of rs)) → count t (met lists) ≤ 1 → count t (met (rs ∷ lists)) ≤ 1
    go (no high) rest = omega (arith, high, rest, count-append t (flat_map pairs_of rs) (met lists))
    go (yes low) rest =
        let others : count t (met lists) ≡ 0 = none_in t lists (λ k within. zero_or (count t (flat_map pairs_of (slice_index_or lists k []))) (λ some. two 0 (suc k) (omega arith) (omega arith) low some)) in
        let first : count t (flat_map pairs_of rs) ≤ 1 = each 0 (omega arith) in
        omega (arith, first, others, count-append t (flat_map pairs_of rs) (met lists))
      where
        zero_or : (n : ℕ) → (1 ≤ n → ⊥) → n ≡ 0
        zero_or n never = zero_case (dec_lt 0 n)
          where
            zero_case : Dec (0 < n) → n ≡ 0
            zero_case (yes some) = absurd (never some)
            zero_case (no none) = omega (arith, none)

ended_none : {P : Type 0} (w : Report P → ℕ) (b : Bool) → w Ended ≡ 0 → of_option w (cond b (Some Ended) None) ≡ 0
ended_none w true e = e
ended_none w false e = refl

-- the numbers of the row of a side, and of the other row
abbrev own : ℕ → ℕ → Side → ℕ
own i j Left = i
own i j Right = j

abbrev other : ℕ → ℕ → Side → ℕ
other i j Left = j
other i j Right = i

-- only the report of the row of the side lists it
record OfRow {P : Type 0} (matches : P → P → Bool) (side : Side) (i j : ℕ) (state : State P) (m : Msg P) : Type 0 where
  row : P
  passes : is_row side (own i j side) m ≡ true
  amount : of_option (lists_by side i j) (report matches state m) ≡ count (λ partner. partner.no.0 == other i j side) (partners_of side matches state row)

of_row : {P : Type 0} (matches : P → P → Bool) (side : Side) (i j : ℕ) (state : State P) (m : Msg P) → (of_option (lists_by side i j) (report matches state m) ≡ 0) ⊎ OfRow matches side i j state m
of_row {P} matches Left i j state (R at row) = go (at.0 == i) refl
  where
    found : List (Partner P)
    found = partners_of_left matches state row

    go : (b : Bool) → (at.0 == i) ≡ b → (cond (at.0 == i) (count (λ partner. partner.no.0 == j) found) 0 ≡ 0) ⊎ OfRow matches Left i j state (R at row)
    go true e = inr (record { row = row; passes = e; amount = ap (λ b. cond b (count (λ partner. partner.no.0 == j) found) 0) e })
    go false e = inl (ap (λ b. cond b (count (λ partner. partner.no.0 == j) found) 0) e)
of_row {P} matches Right i j state (S at row) = go (at.0 == j) refl
  where
    found : List (Partner P)
    found = partners_of_right matches state row

    go : (b : Bool) → (at.0 == j) ≡ b → (cond (at.0 == j) (count (λ partner. partner.no.0 == i) found) 0 ≡ 0) ⊎ OfRow matches Right i j state (S at row)
    go true e = inr (record { row = row; passes = e; amount = ap (λ b. cond b (count (λ partner. partner.no.0 == i) found) 0) e })
    go false e = inl (ap (λ b. cond b (count (λ partner. partner.no.0 == i) found) 0) e)
of_row matches Left i j state CloseL = inl (ended_none (lists_by Left i j) (not state.closed_left && state.closed_right) refl)
of_row matches Left i j state CloseR = inl (ended_none (lists_by Left i j) (not state.closed_right && state.closed_left) refl)
of_row matches Right i j state CloseL = inl (ended_none (lists_by Right i j) (not state.closed_left && state.closed_right) refl)
of_row matches Right i j state CloseR = inl (ended_none (lists_by Right i j) (not state.closed_right && state.closed_left) refl)
of_row matches Left i j state message = inl refl
of_row matches Right i j state message = inl refl

front_at : {P : Type 0} (q : Msg P → Bool) (messages front back : List (Msg P)) (m : Msg P) → q m ≡ true → count q messages ≤ 1 → messages ≡ front ++ m ∷ back → Front q messages front
front_at q messages front back m is_q once parts =
    let there : count q (front ++ m ∷ back) ≤ 1 = subst (λ ms. count q ms ≤ 1) parts once in
    record {
      message = m;
      back = back;
      parts = parts;
      order = λ p. ap (before p q) parts ∙ front_is p q front back m is_q there;
      has = ap (list_any q) parts ∙ front_has q front back m is_q;
    }

no_memory : (P : Type 0) (side : Side) (i j : ℕ) → lists_by {P = P} side i j NoMemory ≡ 0
no_memory P Left i j = refl
no_memory P Right i j = refl

module _ {P : Type 0} (run : Run P) (is : IsRun run) (i j : ℕ) where
  all_messages : (k : ℕ) (front back : List (Msg P)) (m : Msg P) → map (λ turn. turn.message) (is.turns k).whole ≡ front ++ m ∷ back → handled (is.turns k) ≡ front ++ m ∷ (back ++ map (λ turn. turn.message) (option_to_list (is.turns k).cut))
  all_messages k front back m e =
      map-append (λ turn. turn.message) (is.turns k).whole (option_to_list (is.turns k).cut) ∙ ap (λ ms. ms ++ map (λ turn. turn.message) (option_to_list (is.turns k).cut)) e
      ∙ append_assoc front (m ∷ back) (map (λ turn. turn.message) (option_to_list (is.turns k).cut))

  -- why a core lists the pair under the row of a side
  abbrev Cause : Side → ℕ → Type 0
  Cause Left k = Flying run is i j k ⊎ SettledRight run is i j k
  Cause Right k = SettledLeft run is i j k

  count_of : (side : Side) (k : ℕ) → k < run.cores → (front : List (Msg P)) → Front (is_row side (own i j side)) (handled (is.turns k)) front → (row : P)
      → count (λ partner. partner.no.0 == other i j side) (partners_of side run.matches (state_after k run.cores front) row) ≤ 1
  count_of Left k low front at row = count_left run is i j k low front at row
  count_of Right k low front at row = count_right run is i j k front row

  why_of : (side : Side) (k : ℕ) → k < run.cores → (front : List (Msg P)) → Front (is_row side (own i j side)) (handled (is.turns k)) front → (row : P)
      → 1 ≤ count (λ partner. partner.no.0 == other i j side) (partners_of side run.matches (state_after k run.cores front) row) → Cause side k
  why_of Left k low front at row some = why_left run is i j k low front at row some
  why_of Right k low front at row some = why_right run is i j k low front at row some

  at_message : (side : Side) (k : ℕ) → k < run.cores → (front back : List (Msg P)) (m : Msg P) → is_row side (own i j side) m ≡ true → map (λ turn. turn.message) (is.turns k).whole ≡ front ++ m ∷ back → Front (is_row side (own i j side)) (handled (is.turns k)) front
  at_message side k low front back m passes parts =
      front_at (is_row side (own i j side)) (handled (is.turns k)) front (back ++ map (λ turn. turn.message) (option_to_list (is.turns k).cut)) m passes (row_once run is side (own i j side) k low) (all_messages k front back m parts)

  each : (side : Side) (k : ℕ) → k < run.cores → (front back : List (Msg P)) (m : Msg P) → map (λ turn. turn.message) (is.turns k).whole ≡ front ++ m ∷ back
      → of_option (lists_by side i j) (report run.matches (state_after k run.cores front) m) ≤ cond (is_row side (own i j side) m) 1 0
  each side k low front back m parts = elim (of_row run.matches side i j (state_after k run.cores front) m) [
    | inl none ↦ omega (arith, none)
    | inr found ↦
        let one : cond {A = ℕ} (is_row side (own i j side) m) 1 0 ≡ 1 = ap (λ b. cond {A = ℕ} b 1 0) found.passes in
        omega (arith, one, found.amount, count_of side k low front (at_message side k low front back m found.passes parts) found.row)
  ]

  -- all reports of a core
  whole_total : (w : Report P → ℕ) → w NoMemory ≡ 0 → (k : ℕ) → k < run.cores → total w (puts (run.queue k).sender) ≡ total w (flat_map (λ turn. turn.reports) (is.turns k).whole)
  whole_total w none k low =
      let parts : puts (run.queue k).sender ≡ flat_map (λ turn. turn.reports) (is.turns k).whole ++ flat_map (λ turn. turn.reports) (option_to_list (is.turns k).cut)
      = ap puts (is.steps k low).reports ∙ puts-reports (all_of (is.turns k)) ∙ flat_map-append (λ turn. turn.reports) (is.turns k).whole (option_to_list (is.turns k).cut) in
      omega (
        arith,
        ap (total w) parts,
        total-append w (flat_map (λ turn. turn.reports) (is.turns k).whole) (flat_map (λ turn. turn.reports) (option_to_list (is.turns k).cut)),
        total_cut w none k run.cores (is.turns k).cut (is.steps k low).cut,
      )

  whole_count : (q : Msg P → Bool) (k : ℕ) → count q (map (λ turn. turn.message) (is.turns k).whole) ≤ count q (handled (is.turns k))
  whole_count q k =
      omega (
        arith,
        ap (count q) (map-append (λ turn. turn.message) (is.turns k).whole (option_to_list (is.turns k).cut)),
        count-append q (map (λ turn. turn.message) (is.turns k).whole) (map (λ turn. turn.message) (option_to_list (is.turns k).cut)),
      )

  listed_once : (side : Side) (k : ℕ) → k < run.cores → total (lists_by side i j) (puts (run.queue k).sender) ≤ 1
  listed_once side k low = omega (
    arith,
    whole_total (lists_by side i j) (no_memory P side i j) k low,
    bounded run.matches k run.cores (lists_by side i j) (is_row side (own i j side)) empty_state (is.turns k).whole (is.steps k low).whole (each side k low),
    whole_count (is_row side (own i j side)) k,
    row_once run is side (own i j side) k low,
  )

  -- a core that lists the pair under the row of a side handled that row, and has a cause
  record Listed (side : Side) (k : ℕ) : Type 0 where
    has : list_any (is_row side (own i j side)) (handled (is.turns k)) ≡ true
    why : Cause side k

  listed : (side : Side) (k : ℕ) → k < run.cores → 1 ≤ total (lists_by side i j) (puts (run.queue k).sender) → Listed side k
  listed side k low some =
      let found = counted run.matches k run.cores (lists_by side i j) empty_state (is.turns k).whole (is.steps k low).whole (omega (arith, some, whole_total (lists_by side i j) (no_memory P side i j) k low)) in
      from found.front found.back found.message found.is found.some (of_row run.matches side i j (state_after k run.cores found.front) found.message)
    where
      from : (front back : List (Msg P)) (m : Msg P) → map (λ turn. turn.message) (is.turns k).whole ≡ front ++ m ∷ back → 1 ≤ of_option (lists_by side i j) (report run.matches (state_after k run.cores front) m)
          → (of_option (lists_by side i j) (report run.matches (state_after k run.cores front) m) ≡ 0) ⊎ OfRow run.matches side i j (state_after k run.cores front) m → Listed side k
      from front back m parts some (inl none) = absurd (omega (arith, some, none))
      from front back m parts some (inr found) =
          let here = at_message side k low front back m found.passes parts in
          record { has = here.has; why = why_of side k low front here found.row (omega (arith, some, found.amount)) }

  -- no core lists the pair for both rows, and no two cores list it
  left_and_right : (k : ℕ) → k < run.cores → Listed Left k → (m : ℕ) → SettledLeft run is i j m → ⊥
  left_and_right k low left m right = elim left.why [
    | inl fly ↦ left_right run is i j (run.cores - (k + 1)) k (omega arith) fly.crossed m right
    | inr settled ↦ left_right run is i j (run.cores - 1) 0 (omega (arith, low)) settled.first m right
  ]

  same_home : (at k m : ℕ) → is_home k run.cores at ≡ true → is_home m run.cores at ≡ true → k ≡ m
  same_home at k m e f = grind (arith, nat_tests, e, f)

  left_and_left : (d k : ℕ) → k + (d + 1) < run.cores → Listed Left k → Listed Left (k + (d + 1)) → ⊥
  left_and_left d k low one other = elim one.why [
    | inl fly ↦ elim other.why [
      | inl next ↦ flying_flying run is i j d k low other.has fly next
      | inr settled ↦ flying_settled run is i j k (omega arith) one.has fly settled.first
    ]
    | inr here ↦ elim other.why [
      | inl fly ↦ flying_settled run is i j (k + (d + 1)) low other.has fly here.first
      | inr there ↦ omega (arith, same_home j k (k + (d + 1)) here.home there.home)
    ]
  ]

  core_once : (k : ℕ) → k < run.cores → total (lists_by Left i j) (puts (run.queue k).sender) + total (lists_by Right i j) (puts (run.queue k).sender) ≤ 1
  core_once k low = go (dec_lt 0 (total (lists_by Left i j) (puts (run.queue k).sender))) (dec_lt 0 (total (lists_by Right i j) (puts (run.queue k).sender)))
    where
      go : Dec (0 < total (lists_by Left i j) (puts (run.queue k).sender)) → Dec (0 < total (lists_by Right i j) (puts (run.queue k).sender)) → total (lists_by Left i j) (puts (run.queue k).sender) + total (lists_by Right i j) (puts (run.queue k).sender) ≤ 1
      go (yes left) (yes right) = absurd (left_and_right k low (listed Left k low left) k (listed Right k low right).why)
      go (no left) right = omega (arith, left, listed_once Right k low)
      go left (no right) = omega (arith, right, listed_once Left k low)

  cores_apart : (d k : ℕ) → k + (d + 1) < run.cores → 1 ≤ total (lists_by Left i j) (puts (run.queue k).sender) + total (lists_by Right i j) (puts (run.queue k).sender)
      → 1 ≤ total (lists_by Left i j) (puts (run.queue (k + (d + 1))).sender) + total (lists_by Right i j) (puts (run.queue (k + (d + 1))).sender) → ⊥
  cores_apart d k low one other = go (dec_lt 0 (total (lists_by Left i j) (puts (run.queue k).sender))) (dec_lt 0 (total (lists_by Left i j) (puts (run.queue (k + (d + 1))).sender)))
    where
      low_k : k < run.cores
      low_k = omega arith

      go : Dec (0 < total (lists_by Left i j) (puts (run.queue k).sender)) → Dec (0 < total (lists_by Left i j) (puts (run.queue (k + (d + 1))).sender)) → ⊥
      go (yes a) (yes b) = left_and_left d k low (listed Left k low_k a) (listed Left (k + (d + 1)) low b)
      go (yes a) (no b) = left_and_right k low_k (listed Left k low_k a) (k + (d + 1)) (listed Right (k + (d + 1)) low (omega (arith, other, b))).why
      go (no a) (yes b) = left_and_right (k + (d + 1)) low (listed Left (k + (d + 1)) low b) k (listed Right k low_k (omega (arith, one, a))).why
      go (no a) (no b) = omega (arith, same_home i k (k + (d + 1)) (listed Right k low_k (omega (arith, one, a))).why.home (listed Right (k + (d + 1)) low (omega (arith, other, b))).why.home)

  -- Of all reports, at most one lists the pair, and that once.
  pub met_once : (lists : List (List (Report P))) → AreReportsOf run lists → count_by (is_pair i j) (met lists) ≤ 1
  met_once lists of_run = subst (λ n. n ≤ 1) (count_is (is_pair i j) (met lists)) (one_in (is_pair i j) lists
      (λ k low. omega (arith, at_most k low, core_once k (omega (arith, low, of_run.one_each))))
      (λ k m below low one other.
      let e : k + ((m - (k + 1)) + 1) ≡ m = omega arith in
      let some_m : 1 ≤ total (lists_by Left i j) (puts (run.queue m).sender) + total (lists_by Right i j) (puts (run.queue m).sender) = omega (arith, other, at_most m low) in
      cores_apart (m - (k + 1)) k (omega (arith, e, low, of_run.one_each)) (omega (arith, one, at_most k (omega arith)))
      (subst (λ a. 1 ≤ total (lists_by Left i j) (puts (run.queue a).sender) + total (lists_by Right i j) (puts (run.queue a).sender)) (sym e) some_m)))
    where
      at_most : (k : ℕ) → k < length lists → count (is_pair i j) (flat_map pairs_of (slice_index_or lists k [])) ≤ total (lists_by Left i j) (puts (run.queue k).sender) + total (lists_by Right i j) (puts (run.queue k).sender)
      at_most k low =
          let prefix : IsPrefix (slice_index_or lists k []) (puts (run.queue k).sender) = of_run.prefixes k (omega (arith, low, of_run.one_each)) in
          omega (
            arith,
            total_pairs i j (slice_index_or lists k []),
            total-prefix (lists_by Left i j) (slice_index_or lists k []) (puts (run.queue k).sender) prefix,
            total-prefix (lists_by Right i j) (slice_index_or lists k []) (puts (run.queue k).sender) prefix,
          )
