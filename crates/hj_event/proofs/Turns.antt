-- The events of arrivals, moment by moment.
use Rattle.std.proofs.Common.{◌≡◌, ℕ, suc, ◌+◌, ◌<◌, ◌≤◌, inl, inr, Bool, true, false, not, cond, ◌&&◌, ◌||◌, ◌==◌, ℤ, pos, ◌-ℤ◌, List, [], ◌∷◌, ◌++◌, length, length-append, map, filter, Contains, Some, None, append_assoc, arith, refl, sym, ap, subst, ◌∙◌}
use Rattle.std.specs.Prelude.{int_le, nat_lt}
use Rattle.std.specs.List.{list_any}
use Rattle.std.specs.Option.{option_to_list}
use Rattle.std.specs.declared.option.Option.{Option}
use Rattle.std.proofs.lemmas.Bool.{eq-eqb, eqb-true, ne_eqb, ltb-true, ltb-false, false≢true, false_from_ne_true, not-true}
use Rattle.std.proofs.lemmas.List.{length-map}
use Rattle.std.proofs.lemmas.List.Elements.{filter_agree}
use Rattle.std.proofs.lemmas.List.Filters.{length-filter_both}
use Rattle.hj_value.specs.declared.field.Field.{Field}
use Rattle.hj_value.specs.Row.{time_of}
use Rattle.hj_base.specs.declared.numbers.EventNo.{EventNo}
use Rattle.hj_base.specs.declared.numbers.Side.{Side}
use Rattle.hj_base.specs.declared.numbers.Side.TheVariants.{Left, Right}
use Rattle.hj_base.specs.declared.numbers.Window.{Window}
use Rattle.hj_base.specs.declared.numbers.Window.TheVariants.{Rows, Time}
use Rattle.hj_msg.specs.declared.event.Event.TheVariants.{Arrive, Expire, Quiet}
use Rattle.hj_msg.specs.Event.{Arrives}
use Rattle.hj_msg.proofs.Members.{Contains-nil, Contains-head, Contains-cons, Contains-cons_cases, Contains-map, Contains-from_map, Contains-filter, Contains-from_filter, Ranked, Ranked-filter, any_of, find}
use Rattle.hj_query.specs.QueryParts.{QueryParts}
use Rattle.hj_window.specs.LiveRows.{LiveRow, LiveRows, Arrived, window_of, is_same_side, of_side, is_gone_at, is_gone, one_too_many, without, arrive}
use Rattle.hj_event.specs.Arrivals.{Arrival}
use Rattle.hj_event.specs.Events.{Silence, no_silence, silence_at, quiet_side, silence_behind, quiet_event, expiries, events_at, number_from}
use Rattle.hj_event.specs.Windows.{live_rows, ArrivesNext, window_at, is_aged}
use Rattle.hj_event.proofs.LiveRows.{cases_side, filter_both}
use Rattle.hj_event.proofs.Moments.{AtEach}
use Rattle.hj_event.proofs.Stands.{Events, Stands, Stands-none, Stands-arrival, Stands-expiry, Stands-quiet, no_of, removed, filter_swap, same_self, same_other, of_side-push, of_side-other}

-- No side has more live rows than its window of rows holds.
abbrev pub Within : QueryParts → Events → Type 0
Within query before = (side : Side) (count : ℕ) → window_at query side ≡ Rows count → length (live_rows side before) ≤ count

-- A row arrives next, where no live row is too old for its window of time.
pub record AtArrival (query : QueryParts) (before : Events) (at : EventNo) (later : List Field) : Type 0 where
  pub numbered : at.0 ≡ length before
  pub within : Within query before
  pub young : (side : Side) (span came : ℕ) (row : List Field) → window_at query side ≡ Time span → Arrives before side came row → Contains (live_rows side before) came → is_aged span row later ≡ false

-- A live row expires next: the oldest of a window of rows that has one too many, or one that is too old for its window of time.
pub record AtExpiry (query : QueryParts) (before behind : Events) (at : EventNo) (side : Side) (of : EventNo) : Type 0 where
  pub numbered : at.0 ≡ length before
  pub is_live : Contains (live_rows side before) of.0
  pub rest : (other : Side) (count : ℕ) → (other ≡ side → ⊥) → window_at query other ≡ Rows count → length (live_rows other before) ≤ count
  pub counted : (count : ℕ) → window_at query side ≡ Rows count → (others : List ℕ) × (live_rows side before ≡ of.0 ∷ others) × (length others ≡ count)
  pub aged : (span : ℕ) (row : List Field) → window_at query side ≡ Time span → Arrives before side of.0 row → (later : List Field) × ArrivesNext behind later × (is_aged span row later ≡ true)

-- A side has a quiet event next.
pub record AtQuiet (query : QueryParts) (before : Events) (at : EventNo) : Type 0 where
  pub numbered : at.0 ≡ length before
  pub within : Within query before

abbrev pub Moment : QueryParts → Events → Events → Type 0
Moment query before [] = Within query before
Moment query before (Arrive at side row ∷ behind) = AtArrival query before at row
Moment query before (Expire at side of ∷ behind) = AtExpiry query before behind at side of
Moment query before (Quiet at side ∷ behind) = AtQuiet query before at

-- ---- rows by their numbers

abbrev Rising : List LiveRow → Type 0
Rising rows = Ranked (λ one other. one.no < other.no) rows

-- two tests that agree on the members of a list keep the same ones
filter_same : {X : Type 0} (p q : X → Bool) (xs : List X) → ((x : X) → Contains xs x → p x ≡ q x) → filter p xs ≡ filter q xs
filter_same p q [] h = refl
filter_same {X} p q (x ∷ xs) h =
    ap (λ (b : Bool). cond b (x ∷ filter p xs) (filter p xs)) (h x (Contains-head x xs))
    ∙ ap (λ (ys : List X). cond (q x) (x ∷ ys) ys) (filter_same p q xs (λ y k. h y (Contains-cons x y xs k)))

same_row : (rows : List LiveRow) (one other : LiveRow) → Rising rows → Contains rows one → Contains rows other → one.no ≡ other.no → one ≡ other
same_row [] one other rising h k e = absurd (Contains-nil one h)
same_row (row ∷ rows) one other rising h k e = elim (Contains-cons_cases row one rows h) [
  | inl a ↦ elim (Contains-cons_cases row other rows k) [
    | inl b ↦ sym a ∙ b
    | inr b ↦ absurd (let l = rising.0 other b in let n : row.no ≡ one.no = ap no_of a in omega arith)
  ]
  | inr a ↦ elim (Contains-cons_cases row other rows k) [
    | inl b ↦ absurd (let l = rising.0 one a in let n : row.no ≡ other.no = ap no_of b in omega arith)
    | inr b ↦ same_row rows one other rising.1 a b e
  ]
]

-- the rows but these
abbrev without_all : List LiveRow → List LiveRow → List LiveRow
without_all [] rows = rows
without_all (one ∷ gone) rows = without_all gone (removed one.no rows)

abbrev has_number : LiveRow → LiveRow → Bool
has_number row one = one.no == row.no

not-or : (one other : Bool) → not (one || other) ≡ (not one && not other)
not-or true other = refl
not-or false other = refl

not-none : (rows : List LiveRow) → filter (λ (row : LiveRow). not false) rows ≡ rows
not-none [] = refl
not-none (row ∷ rows) = ap (λ (others : List LiveRow). row ∷ others) (not-none rows)

without_all-filter : (gone rows : List LiveRow) → without_all gone rows ≡ filter (λ row. not (list_any (has_number row) gone)) rows
without_all-filter [] rows = sym (not-none rows)
without_all-filter (one ∷ gone) rows =
    without_all-filter gone (removed one.no rows)
    ∙ sym (filter_both (λ (row : LiveRow). not (one.no == row.no)) (λ (row : LiveRow). not (list_any (has_number row) gone)) (λ (row : LiveRow). not (list_any (has_number row) (one ∷ gone)))
    (λ row. not-or (one.no == row.no) (list_any (has_number row) gone)) rows)

-- a row is among those that a test keeps, by its number, where it passes the test
found_by_number : (test : LiveRow → Bool) (rows : List LiveRow) (row : LiveRow) → Rising rows → Contains rows row → list_any (has_number row) (filter test rows) ≡ test row
found_by_number test rows row rising h = by (test row) refl
  where
    by : (b : Bool) → test row ≡ b → list_any (has_number row) (filter test rows) ≡ test row
    by true e = any_of (has_number row) (filter test rows) row (Contains-filter test rows row h e) (eq-eqb row.no row.no refl) ∙ sym e
    by false e = false_from_ne_true (list_any (has_number row) (filter test rows)) (λ some.
        let found = find (has_number row) (filter test rows) some in
        let kept = Contains-from_filter test rows found.one found.is in
        let same = same_row rows found.one row rising kept.0 h (eqb-true found.one.no row.no found.passes) in
        false≢true (sym e ∙ (ap test (sym same) ∙ kept.1))) ∙ sym e

removes_all : (test : LiveRow → Bool) (rows : List LiveRow) → Rising rows → without_all (filter test rows) rows ≡ filter (λ row. not (test row)) rows
removes_all test rows rising =
    without_all-filter (filter test rows) rows
    ∙ filter_same (λ (row : LiveRow). not (list_any (has_number row) (filter test rows))) (λ (row : LiveRow). not (test row)) rows
    (λ row h. ap not (found_by_number test rows row rising h))

and-side : (side other : Side) (b : Bool) → (b ≡ true → side ≡ other) → (is_same_side side other && b) ≡ b
and-side side other true same = subst (λ (o : Side). (is_same_side side o && true) ≡ true) (same refl) (ap (λ (t : Bool). t && true) (same_self side))
and-side Left Left false same = refl
and-side Left Right false same = refl
and-side Right Left false same = refl
and-side Right Right false same = refl

without_one : (one : LiveRow) (rows : List LiveRow) → Rising rows → Contains rows one → without (Some one) rows ≡ removed one.no rows
without_one one rows rising h =
    filter_same (λ (row : LiveRow). not (is_same_side one.side row.side && one.no == row.no)) (λ (row : LiveRow). not (one.no == row.no)) rows
    (λ row k. ap not (and-side one.side row.side (one.no == row.no) (λ e. ap (λ (r : LiveRow). r.side) (same_row rows one row rising h k (eqb-true one.no row.no e)))))

length-filter_most : {X : Type 0} (p : X → Bool) (xs : List X) → length (filter p xs) ≤ length xs
length-filter_most p xs = omega (arith, length-filter_both p (λ x. not (p x)) (λ x. refl) xs)

side_from : (side other : Side) → is_same_side side other ≡ true → side ≡ other
side_from Left Left e = refl
side_from Left Right e = cc
side_from Right Left e = cc
side_from Right Right e = refl

length-expiries : (at : ℕ) (rows : List LiveRow) → length (expiries at rows) ≡ length rows
length-expiries at [] = refl
length-expiries at (row ∷ rows) = ap suc (length-expiries (at + 1) rows)

arrives_behind : (rows : List LiveRow) (at : ℕ) (tail : Events) (later : List Field) → ArrivesNext tail later → ArrivesNext (expiries at rows ++ tail) later
arrives_behind [] at tail later h = h
arrives_behind (row ∷ rows) at tail later h = arrives_behind rows (at + 1) tail later h

-- ---- the moments

module _ (query : QueryParts) where
  abbrev lives : List LiveRow → LiveRows
  lives rows = record { left = query.left_window; right = query.right_window; rows = rows }

  -- each side's rows fit in its window
  abbrev Fit : List LiveRow → Type 0
  Fit rows = (side : Side) (count : ℕ) → window_at query side ≡ Rows count → length (of_side side rows) ≤ count

  within_of : (before : Events) (at : ℕ) (rows : List LiveRow) → Stands before at rows → Fit rows → Within query before
  within_of before at rows s fit side count is = omega (arith, ap length (s.shown side), length-map (of_side side rows) no_of, fit side count is)

  fit_removed : (gone : ℕ) (rows : List LiveRow) → Fit rows → Fit (removed gone rows)
  fit_removed gone rows fit side count is =
      omega (arith, fit side count is, ap length (filter_swap (λ (row : LiveRow). is_same_side side row.side) (λ (row : LiveRow). not (gone == row.no)) rows), length-filter_most (λ (row : LiveRow). not (gone == row.no)) (of_side side rows))

  -- gone at this time, by its age
  abbrev aged_at : ℤ → LiveRow → Bool
  aged_at now row = is_gone_at (window_at query row.side) (now -ℤ row.time)

  is_shown : (before : Events) (at : ℕ) (rows : List LiveRow) (one : LiveRow) → Stands before at rows → Contains rows one → Contains (live_rows one.side before) one.no
  is_shown before at rows one s h =
      subst (λ (numbers : List ℕ). Contains numbers one.no) (sym (s.shown one.side))
      (Contains-map no_of (of_side one.side rows) one (Contains-filter (λ (row : LiveRow). is_same_side one.side row.side) rows one h (same_self one.side)))

  -- Rows that are gone by their age expire one by one, before a row arrives.
  age_out : (later : List Field) (gone : List LiveRow) (at : ℕ) (rows : List LiveRow) (before tail : Events) → Stands before at rows → Fit rows
      → ((one : LiveRow) → Contains gone one → Contains rows one × (aged_at (time_of later) one ≡ true)) → Rising gone → ArrivesNext tail later
      → ((next : Events) (n : ℕ) → n ≡ at + length gone → Stands next n (without_all gone rows) → Fit (without_all gone rows) → AtEach (Moment query) next tail)
      → AtEach (Moment query) before (expiries at gone ++ tail)
  age_out later [] at rows before tail s fit among rising arrives goes = goes before at (omega arith) s fit
  age_out later (one ∷ gone) at rows before tail s fit among rising arrives goes =
      let this = among one (Contains-head one gone) in
      let no_count : (count : ℕ) → window_at query one.side ≡ Rows count → ⊥ = λ count e. false≢true (subst (λ (w : Window). is_gone_at w (time_of later -ℤ one.time) ≡ true) e this.1) in (
        record {
          numbered = sym s.count;
          is_live = is_shown before at rows one s this.0;
          rest = λ other count differs e. within_of before at rows s fit other count e;
          counted = λ count e. absurd (no_count count e);
          aged = λ span row e h. (
            later,
            arrives_behind gone (at + 1) tail later arrives,
            ap (λ (t : ℤ). int_le (pos span) (time_of later -ℤ t)) (sym (s.timed one.side one.no row one h this.0 refl)) ∙ subst (λ (w : Window). is_gone_at w (time_of later -ℤ one.time) ≡ true) e this.1,
          );
        },
        age_out later gone (at + 1) (removed one.no rows) (before ++ Expire (record { 0 = at }) one.side (record { 0 = one.no }) ∷ []) tail
            (Stands-expiry before at one.side (record { 0 = one.no }) rows (s.below one this.0) s)
            (fit_removed one.no rows fit)
            (λ other h.
            let that = among other (Contains-cons one other gone h) in (
              Contains-filter (λ (row : LiveRow). not (one.no == row.no)) rows other that.0 (ap not (ne_eqb one.no other.no (λ e. let l = rising.0 other h in omega arith))),
              that.1,
            ))
            rising.1 arrives
            (λ next n e t f. goes next n (omega (arith, e)) t f),
      )

  -- An arrival, and the expiry that may follow it, in front of what goes on behind them.
  module _ (side : Side) (row : List Field) (rest : ℕ → List LiveRow → Events) (goes : (next : Events) (n : ℕ) (rows : List LiveRow) → Stands next n rows → Fit rows → AtEach (Moment query) next (rest n rows)) where
    abbrev newest : ℕ → LiveRow
    newest at = record { no = at; side = side; time = time_of row }

    module _ (before : Events) (no : ℕ) (kept : List LiveRow) (s : Stands before no kept) (fit : Fit kept) where
      abbrev entered : List LiveRow
      entered = kept ++ newest no ∷ []

      abbrev behind_arrival : Events
      behind_arrival = before ++ Arrive (record { 0 = no }) side row ∷ []

      stands : Stands behind_arrival (no + 1) entered
      stands = Stands-arrival before no side row kept s

      fit_other : (other : Side) (count : ℕ) → (other ≡ side → ⊥) → window_at query other ≡ Rows count → length (of_side other entered) ≤ count
      fit_other other count differs e = omega (arith, fit other count e, ap length (of_side-other other kept (newest no) (same_other other side differs)))

      side_length : length (of_side side entered) ≡ length (of_side side kept) + 1
      side_length = omega (arith, ap length (of_side-push side kept (newest no) (same_self side)), length-append (of_side side kept) (newest no ∷ []))

      fit_if : (rows : List LiveRow) → ((count : ℕ) → window_at query side ≡ Rows count → length (of_side side rows) ≤ count) → ((other : Side) (count : ℕ) → (other ≡ side → ⊥) → window_at query other ≡ Rows count → length (of_side other rows) ≤ count) → Fit rows
      fit_if rows this others other count e = elim (cases_side other side) [
        | inl same ↦ subst (λ (o : Side). length (of_side o rows) ≤ count) (sym same) (this count (subst (λ (o : Side). window_at query o ≡ Rows count) same e))
        | inr differs ↦ others other count differs e
      ]

      -- no row expires behind it
      stays : Fit entered → AtEach (Moment query) behind_arrival (rest (no + 1 + 0) entered)
      stays fits = goes behind_arrival (no + 1 + 0) entered (subst (λ (n : ℕ). Stands behind_arrival n entered) (omega arith) stands) fits

      module _ (count : ℕ) (is : window_at query side ≡ Rows count) (oldest : LiveRow) (others : List LiveRow) (are : of_side side entered ≡ oldest ∷ others) where
        among : Contains entered oldest × (is_same_side side oldest.side ≡ true)
        among = Contains-from_filter (λ (r : LiveRow). is_same_side side r.side) entered oldest (subst (λ (rows : List LiveRow). Contains rows oldest) (sym are) (Contains-head oldest others))

        shown : live_rows side behind_arrival ≡ oldest.no ∷ map no_of others
        shown = stands.shown side ∙ ap (map no_of) are

        full : count < length (oldest ∷ others) → length others ≡ count
        full over = omega (arith, over, side_length, ap length are, fit side count is)

        gone_out : of_side side (removed oldest.no entered) ≡ filter (λ (r : LiveRow). not (oldest.no == r.no)) others
        gone_out =
            filter_swap (λ (r : LiveRow). is_same_side side r.side) (λ (r : LiveRow). not (oldest.no == r.no)) entered
            ∙ (ap (λ (rows : List LiveRow). filter (λ (r : LiveRow). not (oldest.no == r.no)) rows) are
            ∙ ap (λ (b : Bool). cond (not b) (oldest ∷ filter (λ (r : LiveRow). not (oldest.no == r.no)) others) (filter (λ (r : LiveRow). not (oldest.no == r.no)) others)) (eq-eqb oldest.no oldest.no refl))

        expires : count < length (oldest ∷ others) → (behind : Events) → AtExpiry query behind_arrival behind (record { 0 = no + 1 }) side (record { 0 = oldest.no })
        expires over behind = record {
          numbered = sym stands.count;
          is_live = subst (λ (numbers : List ℕ). Contains numbers oldest.no) (sym shown) (Contains-head oldest.no (map no_of others));
          rest = λ other c differs e. omega (arith, fit_other other c differs e, ap length (stands.shown other), length-map (of_side other entered) no_of);
          counted = λ c e. let same : count ≡ c = cc in (map no_of others, shown, omega (arith, length-map others no_of, full over));
          aged = λ span r e h. cc;
        }

        goes_behind : count < length (oldest ∷ others) → AtEach (Moment query) behind_arrival (expiries (no + 1) (oldest ∷ []) ++ rest (no + 1 + 1) (without (Some oldest) entered))
        goes_behind over =
            let of_side_is : side ≡ oldest.side = side_from side oldest.side among.1 in (
              subst (λ (o : Side). AtExpiry query behind_arrival (rest (no + 1 + 1) (without (Some oldest) entered)) (record { 0 = no + 1 }) o (record { 0 = oldest.no })) of_side_is (expires over (rest (no + 1 + 1) (without (Some oldest) entered))),
              goes (behind_arrival ++ Expire (record { 0 = no + 1 }) oldest.side (record { 0 = oldest.no }) ∷ []) (no + 1 + 1) (without (Some oldest) entered)
                  (subst (λ (rows : List LiveRow). Stands (behind_arrival ++ Expire (record { 0 = no + 1 }) oldest.side (record { 0 = oldest.no }) ∷ []) (no + 1 + 1) rows) (sym (without_one oldest entered stands.rising among.0))
                  (Stands-expiry behind_arrival (no + 1) oldest.side (record { 0 = oldest.no }) entered (stands.below oldest among.0) stands))
                  (subst (λ (rows : List LiveRow). Fit rows) (sym (without_one oldest entered stands.rising among.0))
                  (fit_if (removed oldest.no entered)
                  (λ c e. let same : count ≡ c = cc in omega (arith, ap length gone_out, length-filter_most (λ (r : LiveRow). not (oldest.no == r.no)) others, full over))
                  (λ other c differs e. omega (arith, fit_other other c differs e, ap length (filter_swap (λ (r : LiveRow). is_same_side other r.side) (λ (r : LiveRow). not (oldest.no == r.no)) entered), length-filter_most (λ (r : LiveRow). not (oldest.no == r.no)) (of_side other entered))))),
            )

      over : (window : Window) (found : List LiveRow) → window_at query side ≡ window → of_side side entered ≡ found
          → AtEach (Moment query) behind_arrival (expiries (no + 1) (option_to_list (one_too_many window found)) ++ rest (no + 1 + length (option_to_list (one_too_many window found))) (without (one_too_many window found) entered))
      over (Time span) found is are = stays (fit_if entered (λ c e. cc) fit_other)
      over (Rows count) [] is are = stays (fit_if entered (λ c e. omega (arith, ap length are)) fit_other)
      over (Rows count) (oldest ∷ others) is are = by (nat_lt count (length (oldest ∷ others))) refl
        where
          by : (b : Bool) → nat_lt count (length (oldest ∷ others)) ≡ b
              → AtEach (Moment query) behind_arrival (expiries (no + 1) (option_to_list (cond b (Some oldest) None)) ++ rest (no + 1 + length (option_to_list (cond b (Some oldest) None))) (without (cond b (Some oldest) None) entered))
          by true e = goes_behind count is oldest others are (ltb-true count (length (oldest ∷ others)) e)
          by false e = stays (fit_if entered (λ c f. let same : count ≡ c = cc in omega (arith, ap length are, ltb-false count (length (oldest ∷ others)) e)) fit_other)

      pub arrives : ((one : LiveRow) → Contains kept one → aged_at (time_of row) one ≡ false)
          → AtEach (Moment query) before (Arrive (record { 0 = no }) side row ∷ (expiries (no + 1) (option_to_list (one_too_many (window_at query side) (of_side side entered)))
          ++ rest (no + 1 + length (option_to_list (one_too_many (window_at query side) (of_side side entered)))) (without (one_too_many (window_at query side) (of_side side entered)) entered)))
      arrives young = (
        record {
          numbered = sym s.count;
          within = within_of before no kept s fit;
          young = λ own span came older e h live.
              let found = Contains-from_map no_of (of_side own kept) came (subst (λ (numbers : List ℕ). Contains numbers came) (s.shown own) live) in
              let one = Contains-from_filter (λ (r : LiveRow). is_same_side own r.side) kept found.0 found.1 in
              ap (λ (t : ℤ). int_le (pos span) (time_of row -ℤ t)) (sym (s.timed own came older found.0 h one.0 found.2))
              ∙ subst (λ (w : Window). is_gone_at w (time_of row -ℤ found.0.time) ≡ false) (ap (window_at query) (sym (side_from own found.0.side one.1)) ∙ e) (young found.0 one.0);
        },
        over (window_at query side) (of_side side entered) refl refl,
      )

  window_same : (rows : List LiveRow) (side : Side) → window_of (lives rows) side ≡ window_at query side
  window_same rows Left = refl
  window_same rows Right = refl

  gone_same : (rows : List LiveRow) (now : ℤ) (row : LiveRow) → is_gone (lives rows) now row ≡ aged_at now row
  gone_same rows now row = ap (λ (w : Window). is_gone_at w (now -ℤ row.time)) (window_same rows row.side)

  abbrev came_of : ℕ → Side → ℤ → List LiveRow → List LiveRow → Window → Arrived
  came_of at side time gone kept window =
      let row : LiveRow = record { no = at + length gone; side = side; time = time } in
      let entered = kept ++ row ∷ [] in
      let after = one_too_many window (of_side side entered) in
      record { before = gone; after = after; live = lives (without after entered) }

  abbrev aged_rows : ℤ → List LiveRow → List LiveRow
  aged_rows now rows = filter (aged_at now) rows

  abbrev kept_rows : ℤ → List LiveRow → List LiveRow
  kept_rows now rows = filter (λ row. not (aged_at now row)) rows

  arrive_is : (rows : List LiveRow) (side : Side) (time : ℤ) (at : ℕ) → arrive (lives rows) side time at ≡ came_of at side time (aged_rows time rows) (kept_rows time rows) (window_at query side)
  arrive_is rows side time at =
      ap (λ (gone : List LiveRow). came_of at side time gone (filter (λ row. not (is_gone (lives rows) time row)) rows) (window_of (lives rows) side)) (filter_agree (is_gone (lives rows) time) (aged_at time) (gone_same rows time) rows)
      ∙ (ap (λ (kept : List LiveRow). came_of at side time (aged_rows time rows) kept (window_of (lives rows) side))
      (filter_agree (λ (row : LiveRow). not (is_gone (lives rows) time row)) (λ (row : LiveRow). not (aged_at time row)) (λ row. ap not (gone_same rows time row)) rows)
      ∙ ap (came_of at side time (aged_rows time rows) (kept_rows time rows)) (window_same rows side))

  abbrev arrived_at : Arrival → ℕ → List LiveRow → Arrived
  arrived_at arrival at rows = came_of at arrival.side (time_of arrival.row) (aged_rows (time_of arrival.row) rows) (kept_rows (time_of arrival.row) rows) (window_at query arrival.side)

  -- the quiet event of a side, in front of what goes on behind it
  abbrev with_quiet : Option Side → (ℕ → List LiveRow → Events) → ℕ → List LiveRow → Events
  with_quiet told rest n rows = quiet_event n told ++ rest (n + length (option_to_list told)) rows

  goes_quiet : (told : Option Side) (rest : ℕ → List LiveRow → Events) → ((next : Events) (n : ℕ) (rows : List LiveRow) → Stands next n rows → Fit rows → AtEach (Moment query) next (rest n rows))
      → (next : Events) (n : ℕ) (rows : List LiveRow) → Stands next n rows → Fit rows → AtEach (Moment query) next (with_quiet told rest n rows)
  goes_quiet None rest goes next n rows s fit = goes next (n + 0) rows (subst (λ (k : ℕ). Stands next k rows) (omega arith) s) fit
  goes_quiet (Some side) rest goes next n rows s fit = (
    record { numbered = sym s.count; within = within_of next n rows s fit },
    goes (next ++ Quiet (record { 0 = n }) side ∷ []) (n + 1) rows (Stands-quiet next n side rows s) fit,
  )

  length-quiet_event : (at : ℕ) (told : Option Side) → length (quiet_event at told) ≡ length (option_to_list told)
  length-quiet_event at None = refl
  length-quiet_event at (Some side) = refl

  turn : (arrival : Arrival) (told : Option Side) (at : ℕ) (rows : List LiveRow) (before : Events) (rest : ℕ → List LiveRow → Events) → ((next : Events) (n : ℕ) (rows : List LiveRow) → Stands next n rows → Fit rows → AtEach (Moment query) next (rest n rows)) → Stands before at rows → Fit rows
      → AtEach (Moment query) before (events_at at arrival (arrived_at arrival at rows) told ++ rest (at + length (events_at at arrival (arrived_at arrival at rows) told)) (arrived_at arrival at rows).live.rows)
  turn arrival told at rows before rest goes s fit =
      let side = arrival.side in
      let row = arrival.row in
      let gone = aged_rows (time_of row) rows in
      let kept = kept_rows (time_of row) rows in
      let n = at + length gone in
      let came = arrived_at arrival at rows in
      let after = expiries (n + 1) (option_to_list came.after) in
      let quiet = quiet_event (n + 1 + length (option_to_list came.after)) told in
      let behind = Arrive (record { 0 = n }) side row ∷ (after ++ quiet) in
      let total = n + 1 + length (option_to_list came.after) + length (option_to_list told) in
      let is : without_all gone rows ≡ kept = removes_all (aged_at (time_of row)) rows s.rising in
      let count : total ≡ at + length (events_at at arrival came told) = omega (arith, length-append (expiries at gone) behind, length-append after quiet, length-expiries at gone, length-expiries (n + 1) (option_to_list came.after), length-quiet_event (n + 1 + length (option_to_list came.after)) told) in
      let goes_on : AtEach (Moment query) before (expiries at gone ++ (Arrive (record { 0 = n }) side row ∷ (after ++ (quiet ++ rest total came.live.rows)))) =
      age_out row gone at rows before (Arrive (record { 0 = n }) side row ∷ (after ++ (quiet ++ rest total came.live.rows))) s fit (λ one h. Contains-from_filter (aged_at (time_of row)) rows one h)
      (Ranked-filter (λ one other. one.no < other.no) (aged_at (time_of row)) rows s.rising) refl
      (λ next m e t f. arrives side row (with_quiet told rest) (goes_quiet told rest goes) next n kept
      (subst (λ (rs : List LiveRow). Stands next n rs) is (subst (λ (k : ℕ). Stands next k (without_all gone rows)) e t))
      (subst (λ (rs : List LiveRow). Fit rs) is f)
      (λ one h. not-true (aged_at (time_of row) one) (Contains-from_filter (λ (r : LiveRow). not (aged_at (time_of row) r)) rows one h).1)) in
      let grouped : expiries at gone ++ (Arrive (record { 0 = n }) side row ∷ (after ++ (quiet ++ rest total came.live.rows))) ≡ events_at at arrival came told ++ rest total came.live.rows =
      ap (λ (events : Events). expiries at gone ++ (Arrive (record { 0 = n }) side row ∷ events)) (sym (append_assoc after quiet (rest total came.live.rows)))
      ∙ sym (append_assoc (expiries at gone) behind (rest total came.live.rows)) in
      subst (λ (k : ℕ). AtEach (Moment query) before (events_at at arrival came told ++ rest k came.live.rows)) count
      (subst (λ (events : Events). AtEach (Moment query) before events) grouped goes_on)

  turns_from : (quiet at : ℕ) (rows : List LiveRow) (silence : Silence) (arrivals : List Arrival) (before : Events) → Stands before at rows → Fit rows → AtEach (Moment query) before (number_from quiet at (lives rows) silence arrivals)
  turns_from quiet at rows silence [] before s fit = within_of before at rows s fit
  turns_from quiet at rows silence (arrival ∷ arrivals) before s fit =
      let told = quiet_side quiet (silence_at silence arrival.side) in
      let silent = silence_behind told (silence_at silence arrival.side) in
      subst (λ (came : Arrived). AtEach (Moment query) before (events_at at arrival came told ++ number_from quiet (at + length (events_at at arrival came told)) came.live silent arrivals)) (sym (arrive_is rows arrival.side (time_of arrival.row) at))
      (turn arrival told at rows before (λ n rs. number_from quiet n (lives rs) silent arrivals) (λ next n rs t f. turns_from quiet n rs silent arrivals next t f) s fit)

  -- the events of any arrivals, at each moment
  pub turns : (quiet : ℕ) (arrivals : List Arrival) → AtEach (Moment query) [] (number_from quiet 0 (record { left = query.left_window; right = query.right_window; rows = [] }) no_silence arrivals)
  turns quiet arrivals = turns_from quiet 0 [] no_silence arrivals [] Stands-none (λ side count e. omega arith)
