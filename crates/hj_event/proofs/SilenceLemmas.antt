-- How many rows of a side arrive in the silence of the other one, event by event.
use Rattle.std.proofs.Common.{◌≡◌, ℕ, ◌+◌, ◌<◌, ◌≤◌, Bool, true, false, cond, ◌==◌, List, [], ◌∷◌, ◌++◌, length, take, drop, None, Some, append_assoc, append-nil, arith, refl, sym, ap, subst, ◌∙◌}
use Rattle.std.specs.Prelude.{count_by}
use Rattle.std.specs.Option.{option_to_list}
use Rattle.std.proofs.lemmas.Bool.{eqb-true, eqb-false}
use Rattle.std.proofs.lemmas.List.{take-append-drop}
use Rattle.std.proofs.lemmas.List.Sums.{sum_by-append}
use Rattle.hj_value.specs.declared.field.Field.{Field}
use Rattle.hj_value.specs.Row.{time_of}
use Rattle.hj_base.specs.declared.numbers.EventNo.{EventNo}
use Rattle.hj_base.specs.declared.numbers.Side.{Side}
use Rattle.hj_base.specs.declared.numbers.Side.TheVariants.{Left, Right}
use Rattle.hj_msg.specs.declared.event.Event.{Event}
use Rattle.hj_msg.specs.declared.event.Event.TheVariants.{Arrive, Expire, Quiet}
use Rattle.hj_msg.specs.Quiet.{other_side, arrives_on, tells_of, IsQuietWithin}
use Rattle.hj_window.specs.LiveRows.{LiveRow, LiveRows, arrive, is_same_side}
use Rattle.hj_event.specs.Arrivals.{Arrival}
use Rattle.hj_event.specs.Events.{Silence, no_silence, rows_in_silence, silence_at, quiet_side, silence_behind, quiet_event, expiries, events_at, number_from}
use Rattle.hj_event.specs.Silences.{IsSilentFor, IsQuietOnlyAfter}
use Rattle.hj_event.proofs.Moments.{AtEach, AtEach-cut}
use Rattle.hj_event.proofs.Stands.{Events}

-- ---- a count that some members of a list set to 0

abbrev count_on : {X : Type 0} → (X → Bool) → (X → Bool) → ℕ → X → ℕ
count_on resets counts n x = cond (resets x) 0 (cond (counts x) (n + 1) n)

abbrev since : {X : Type 0} → (X → Bool) → (X → Bool) → ℕ → List X → ℕ
since resets counts n [] = n
since resets counts n (x ∷ xs) = since resets counts (count_on resets counts n x) xs

since-append : {X : Type 0} (resets counts : X → Bool) (n : ℕ) (xs ys : List X) → since resets counts n (xs ++ ys) ≡ since resets counts (since resets counts n xs) ys
since-append resets counts n [] ys = refl
since-append resets counts n (x ∷ xs) ys = since-append resets counts (count_on resets counts n x) xs ys

count-cons : {X : Type 0} (test : X → Bool) (x : X) (xs : List X) → count_by test (x ∷ xs) ≡ cond (test x) 1 0 + count_by test xs
count-cons test x xs = omega (arith, sum_by-append (λ y. cond {A = ℕ} (test y) 1 0) (x ∷ []) xs)

count-push : {X : Type 0} (test : X → Bool) (xs : List X) (x : X) → count_by test (xs ++ x ∷ []) ≡ count_by test xs + cond (test x) 1 0
count-push test xs x = omega (arith, sum_by-append (λ y. cond {A = ℕ} (test y) 1 0) xs (x ∷ []))

none-step : {X : Type 0} (resets counts : X → Bool) (n : ℕ) (xs : List X) (reset count : Bool) → ((m : ℕ) → count_by resets xs ≡ 0 → since resets counts m xs ≡ m + count_by counts xs)
    → cond reset 1 0 + count_by resets xs ≡ 0 → since resets counts (cond reset 0 (cond count (n + 1) n)) xs ≡ n + (cond count 1 0 + count_by counts xs)
none-step resets counts n xs true count h e = absurd (omega arith)
none-step resets counts n xs false true h e = omega (arith, h (n + 1) (omega arith))
none-step resets counts n xs false false h e = omega (arith, h n (omega arith))

-- where none sets it to 0, all are counted
since-none : {X : Type 0} (resets counts : X → Bool) (n : ℕ) (xs : List X) → count_by resets xs ≡ 0 → since resets counts n xs ≡ n + count_by counts xs
since-none resets counts n [] none = omega arith
since-none resets counts n (x ∷ xs) none =
    none-step resets counts n xs (resets x) (counts x) (λ m e. since-none resets counts m xs e) (sym (count-cons resets x xs) ∙ none)
    ∙ ap (λ (k : ℕ). n + k) (sym (count-cons counts x xs))

-- the end of a list in which none sets it to 0, and in which so many are counted
record Uncut {X : Type 0} (resets counts : X → Bool) (n : ℕ) (xs : List X) : Type 0 where
  before : List X
  behind : List X
  is : xs ≡ before ++ behind
  none : count_by resets behind ≡ 0
  count : count_by counts behind ≡ n

uncut_from : {X : Type 0} (resets counts : X → Bool) (n : ℕ) (front xs : List X) → Uncut resets counts n front → Uncut resets counts (since resets counts n xs) (front ++ xs)
uncut_from resets counts n front [] u = subst (λ ys. Uncut resets counts n ys) (sym (append-nil front)) u
uncut_from {X} resets counts n front (x ∷ xs) u =
    subst (λ ys. Uncut resets counts (since resets counts (count_on resets counts n x) xs) ys) (append_assoc front (x ∷ []) xs)
    (uncut_from resets counts (count_on resets counts n x) (front ++ x ∷ []) xs (by (resets x) refl))
  where
    counted : (b : Bool) → cond b 1 0 + n ≡ cond b (n + 1) n
    counted true = omega arith
    counted false = omega arith

    by : (reset : Bool) → resets x ≡ reset → Uncut resets counts (cond reset 0 (cond (counts x) (n + 1) n)) (front ++ x ∷ [])
    by true e = record { before = front ++ x ∷ []; behind = []; is = sym (append-nil (front ++ x ∷ [])); none = refl; count = refl }
    by false e = record {
      before = u.before;
      behind = u.behind ++ x ∷ [];
      is = ap (λ ys. ys ++ x ∷ []) u.is ∙ append_assoc u.before u.behind (x ∷ []);
      none = omega (arith, count-push resets u.behind x, u.none, ap (λ (b : Bool). cond {A = ℕ} b 1 0) e);
      count = omega (arith, count-push counts u.behind x, u.count, counted (counts x));
    }

-- ---- rows in a silence

-- how many rows of a side arrive at the end of these events, behind the last arrival or quiet event of the other one
abbrev rows_since : Side → Events → ℕ
rows_since side events = since (tells_of (other_side side)) (arrives_on side) 0 events

expiry_changes_none : (before : Events) (at of : EventNo) (own side : Side) → rows_since side (before ++ Expire at own of ∷ []) ≡ rows_since side before
expiry_changes_none before at of own Left = since-append (tells_of Right) (arrives_on Left) 0 before (Expire at own of ∷ [])
expiry_changes_none before at of own Right = since-append (tells_of Left) (arrives_on Right) 0 before (Expire at own of ∷ [])

row_counts : (before : Events) (at : EventNo) (own side : Side) (row : List Field) → rows_since side (before ++ Arrive at own row ∷ []) ≡ cond (is_same_side own side) (rows_since side before + 1) 0
row_counts before at Left Left row = since-append (tells_of Right) (arrives_on Left) 0 before (Arrive at Left row ∷ [])
row_counts before at Right Left row = since-append (tells_of Right) (arrives_on Left) 0 before (Arrive at Right row ∷ [])
row_counts before at Left Right row = since-append (tells_of Left) (arrives_on Right) 0 before (Arrive at Left row ∷ [])
row_counts before at Right Right row = since-append (tells_of Left) (arrives_on Right) 0 before (Arrive at Right row ∷ [])

quiet_ends : (before : Events) (at : EventNo) (own side : Side) → rows_since side (before ++ Quiet at own ∷ []) ≡ cond (is_same_side own side) (rows_since side before) 0
quiet_ends before at Left Left = since-append (tells_of Right) (arrives_on Left) 0 before (Quiet at Left ∷ [])
quiet_ends before at Right Left = since-append (tells_of Right) (arrives_on Left) 0 before (Quiet at Right ∷ [])
quiet_ends before at Left Right = since-append (tells_of Left) (arrives_on Right) 0 before (Quiet at Left ∷ [])
quiet_ends before at Right Right = since-append (tells_of Left) (arrives_on Right) 0 before (Quiet at Right ∷ [])

-- The silence is that behind these events.
abbrev Follows : Events → Silence → Type 0
Follows before silence = (side : Side) → rows_since side before ≡ rows_in_silence silence side

rows_in-arrival : (silence : Silence) (own side : Side) → cond (is_same_side own side) (rows_in_silence silence side + 1) 0 ≡ rows_in_silence (silence_at silence own) side
rows_in-arrival silence Left Left = refl
rows_in-arrival silence Left Right = refl
rows_in-arrival silence Right Left = refl
rows_in-arrival silence Right Right = refl

follows-arrival : (before : Events) (at : EventNo) (own : Side) (row : List Field) (silence : Silence) → Follows before silence → Follows (before ++ Arrive at own row ∷ []) (silence_at silence own)
follows-arrival before at own row silence f side =
    row_counts before at own side row ∙ (ap (λ (n : ℕ). cond (is_same_side own side) (n + 1) 0) (f side) ∙ rows_in-arrival silence own side)

rows_in-quiet : (own side : Side) (rows : ℕ) → cond (is_same_side own side) (cond (is_same_side own side) 0 rows) 0 ≡ cond (is_same_side own side) 0 0
rows_in-quiet Left Left rows = refl
rows_in-quiet Left Right rows = refl
rows_in-quiet Right Left rows = refl
rows_in-quiet Right Right rows = refl

follows-quiet : (before : Events) (at : EventNo) (silence : Silence) → Follows before silence → Follows (before ++ Quiet at silence.side ∷ []) (record { side = silence.side; rows = 0 })
follows-quiet before at silence f side =
    quiet_ends before at silence.side side ∙ (ap (λ (n : ℕ). cond (is_same_side silence.side side) n 0) (f side) ∙ rows_in-quiet silence.side side silence.rows)

rows_in-most : (silence : Silence) (side : Side) → rows_in_silence silence side ≤ silence.rows
rows_in-most silence side = by (is_same_side silence.side side)
  where
    by : (same : Bool) → cond same 0 silence.rows ≤ silence.rows
    by true = omega arith
    by false = omega arith

rows_in-other : (side : Side) (rows : ℕ) → rows_in_silence (record { side = side; rows = rows }) (other_side side) ≡ rows
rows_in-other Left rows = refl
rows_in-other Right rows = refl

-- ---- the moments

module _ (quiet : ℕ) where
  -- no side was silent for too long
  abbrev Fits : Events → Type 0
  Fits before = 1 ≤ quiet → (side : Side) → rows_since side before ≤ quiet

  abbrev Spoken : Events → Events → Type 0
  Spoken before [] = Fits before
  Spoken before (Arrive at side row ∷ behind) = Fits before
  Spoken before (Expire at side of ∷ behind) = Fits before
  Spoken before (Quiet at side ∷ behind) = Fits before × (1 ≤ quiet) × (rows_since (other_side side) before ≡ quiet)

  spoken_fits : (before behind : Events) → Spoken before behind → Fits before
  spoken_fits before [] s = s
  spoken_fits before (Arrive at side row ∷ behind) s = s
  spoken_fits before (Expire at side of ∷ behind) s = s
  spoken_fits before (Quiet at side ∷ behind) s = s.0

  abbrev Below : Silence → Type 0
  Below silence = 1 ≤ quiet → silence.rows < quiet

  fits_from : (before : Events) (silence : Silence) → Follows before silence → (1 ≤ quiet → silence.rows ≤ quiet) → Fits before
  fits_from before silence f most some side = omega (arith, f side, rows_in-most silence side, most some)

  -- Expiries stand in front of what goes on behind them.
  over_expiries : (rows : List LiveRow) (at : ℕ) (silence : Silence) (before tail : Events) → Follows before silence → (1 ≤ quiet → silence.rows ≤ quiet)
      → ((next : Events) → Follows next silence → AtEach Spoken next tail) → AtEach Spoken before (expiries at rows ++ tail)
  over_expiries [] at silence before tail f most goes = goes before f
  over_expiries (row ∷ rows) at silence before tail f most goes = (
    fits_from before silence f most,
    over_expiries rows (at + 1) silence (before ++ Expire (record { 0 = at }) row.side (record { 0 = row.no }) ∷ []) tail
        (λ side. expiry_changes_none before (record { 0 = at }) (record { 0 = row.no }) row.side side ∙ f side) most goes,
  )

  -- So does the quiet event of a side.
  over_quiet : (at : ℕ) (silence : Silence) (before : Events) (rest : Silence → Events) → Follows before silence → 1 ≤ silence.rows → (1 ≤ quiet → silence.rows ≤ quiet)
      → ((next : Events) (silent : Silence) → Follows next silent → Below silent → AtEach Spoken next (rest silent))
      → AtEach Spoken before (quiet_event at (quiet_side quiet silence) ++ rest (silence_behind (quiet_side quiet silence) silence))
  over_quiet at silence before rest f some most goes = by (silence.rows == quiet) refl
    where
      by : (told : Bool) → (silence.rows == quiet) ≡ told
          → AtEach Spoken before (quiet_event at (cond told (Some silence.side) None) ++ rest (silence_behind (cond told (Some silence.side) None) silence))
      by true e =
          let met : silence.rows ≡ quiet = eqb-true silence.rows quiet e in (
            (
              fits_from before silence f most,
              omega (arith, met, some),
              f (other_side silence.side) ∙ (rows_in-other silence.side silence.rows ∙ met),
            ),
            goes (before ++ Quiet (record { 0 = at }) silence.side ∷ []) (record { side = silence.side; rows = 0 }) (follows-quiet before (record { 0 = at }) silence f) (λ one. omega arith),
          )
      by false e = goes before silence f (λ one. let unmet = eqb-false silence.rows quiet e in let l = most one in omega arith)

  spoken_from : (at : ℕ) (live : LiveRows) (silence : Silence) (arrivals : List Arrival) (before : Events) → Follows before silence → Below silence → AtEach Spoken before (number_from quiet at live silence arrivals)
  spoken_from at live silence [] before f below = fits_from before silence f (λ one. let l = below one in omega arith)
  spoken_from at live silence (arrival ∷ arrivals) before f below =
      let came = arrive live arrival.side (time_of arrival.row) at in
      let silent = silence_at silence arrival.side in
      let told = quiet_side quiet silent in
      let no = at + length came.before in
      let after = expiries (no + 1) (option_to_list came.after) in
      let last = no + 1 + length (option_to_list came.after) in
      let events = events_at at arrival came told in
      let rest = number_from quiet (at + length events) came.live (silence_behind told silent) arrivals in
      let here = Arrive (record { 0 = no }) arrival.side arrival.row in
      let most : 1 ≤ quiet → silent.rows ≤ quiet = λ one. omega (arith, below one, rows_in-most silence arrival.side) in
      let grouped : expiries at came.before ++ (here ∷ (after ++ (quiet_event last told ++ rest))) ≡ events ++ rest =
      ap (λ (es : Events). expiries at came.before ++ (here ∷ es)) (sym (append_assoc after (quiet_event last told) rest))
      ∙ sym (append_assoc (expiries at came.before) (here ∷ (after ++ quiet_event last told)) rest) in
      subst (λ (es : Events). AtEach Spoken before es) grouped
      (over_expiries came.before at silence before (here ∷ (after ++ (quiet_event last told ++ rest))) f (λ one. let l = below one in omega arith) (λ next g. (
        fits_from next silence g (λ one. let l = below one in omega arith),
        over_expiries (option_to_list came.after) (no + 1) silent (next ++ here ∷ []) (quiet_event last told ++ rest) (follows-arrival next (record { 0 = no }) arrival.side arrival.row silence g) most (λ later h.
            over_quiet last silent later (λ s. number_from quiet (at + length events) came.live s arrivals) h (omega arith) most
            (λ latest s i b. spoken_from (at + length events) came.live s arrivals latest i b)),
      )))

  follows_none : Follows [] no_silence
  follows_none Left = refl
  follows_none Right = refl

  -- ---- of the events as a whole

  within : (events : Events) → AtEach Spoken [] events → 1 ≤ quiet → IsQuietWithin quiet events
  within events h some side before middle behind e none =
      let here = spoken_fits (before ++ middle) behind (AtEach-cut Spoken events (before ++ middle) behind h (e ∙ sym (append_assoc before middle behind))) some side in
      omega (arith, here, since-append (tells_of (other_side side)) (arrives_on side) 0 before middle, since-none (tells_of (other_side side)) (arrives_on side) (rows_since side before) middle none)

  silent_for : (side own : Side) (events : Events) → own ≡ side → rows_since (other_side side) events ≡ quiet → other_side (other_side side) ≡ own → IsSilentFor side quiet events
  silent_for side own events same count other =
      let end = uncut_from (tells_of (other_side (other_side side))) (arrives_on (other_side side)) 0 [] events (record { before = []; behind = []; is = refl; none = refl; count = refl }) in
      record {
        before = end.before;
        behind = end.behind;
        is = end.is;
        silent = ap (λ (s : Side). count_by (tells_of s) end.behind) (sym (other ∙ same)) ∙ end.none;
        arrive = end.count ∙ count;
      }

  other_twice : (side : Side) → other_side (other_side side) ≡ side
  other_twice Left = refl
  other_twice Right = refl

  only_after : (events : Events) → AtEach Spoken [] events → IsQuietOnlyAfter quiet events
  only_after events h before behind at side e =
      let here = AtEach-cut Spoken events before (Quiet at side ∷ behind) h e in
      (here.1, silent_for side side before refl here.2 (other_twice side))

  module _ (live : LiveRows) (arrivals : List Arrival) where
    spoken : AtEach Spoken [] (number_from quiet 0 live no_silence arrivals)
    spoken = spoken_from 0 live no_silence arrivals [] follows_none (λ one. omega arith)

    pub is_quiet_within : 1 ≤ quiet → IsQuietWithin quiet (number_from quiet 0 live no_silence arrivals)
    is_quiet_within some = within (number_from quiet 0 live no_silence arrivals) spoken some

    pub is_quiet_only_after : IsQuietOnlyAfter quiet (number_from quiet 0 live no_silence arrivals)
    is_quiet_only_after = only_after (number_from quiet 0 live no_silence arrivals) spoken

-- ---- of the first events

cut_longer : {P : Type 0} (n : ℕ) (events front back : List (Event P)) → take n events ≡ front ++ back → events ≡ front ++ (back ++ drop n events)
cut_longer n events front back e = sym (take-append-drop n events) ∙ (ap (λ es. es ++ drop n events) e ∙ append_assoc front back (drop n events))

pub is_quiet_within-first : {P : Type 0} (n quiet : ℕ) (events : List (Event P)) → IsQuietWithin quiet events → IsQuietWithin quiet (take n events)
is_quiet_within-first n quiet events h side before middle behind e none =
    h side before middle (behind ++ drop n events) (cut_longer n events before (middle ++ behind) e ∙ ap (λ es. before ++ es) (append_assoc middle behind (drop n events))) none

pub is_quiet_only_after-first : {P : Type 0} (n quiet : ℕ) (events : List (Event P)) → IsQuietOnlyAfter quiet events → IsQuietOnlyAfter quiet (take n events)
is_quiet_only_after-first n quiet events h before behind at side e = h before (behind ++ drop n events) at side (cut_longer n events before (Quiet at side ∷ behind) e)
