-- The numbered events that are to come, one after another.
use Rattle.std.proofs.Common.{◌≡◌, ℕ, suc, ◌+◌, ◌-◌, ◌<◌, ◌≤◌, ◌==◌, Bool, true, false, cond, ltb, List, [], ◌∷◌, ◌++◌, length, length-append, take, drop, ℤ, None, Some, sym, refl, ap, subst, ◌∙◌, arith}
use Rattle.std.specs.Option.{option_map, option_to_list}
use Rattle.std.specs.List.{filter, slice_get}
use Rattle.std.proofs.lemmas.Option.{get_or_from_slice_get}
use Rattle.std.proofs.lemmas.List.{nil_from_length, length-map, drop_more}
use Rattle.std.proofs.lemmas.Bool.{lt-ltb, le-ltb, eqb-true, not-false}
use Rattle.std.proofs.lemmas.Bool.Decides.{nat_tests}
use Rattle.std.specs.declared.option.Option.{Option}
use Rattle.hj_value.specs.declared.field.Field.{Field}
use Rattle.hj_value.specs.Row.{time_of}
use Rattle.hj_base.specs.declared.numbers.EventNo.{EventNo}
use Rattle.hj_base.specs.declared.numbers.Side.{Side}
use Rattle.hj_base.specs.declared.numbers.Side.TheVariants.{Left, Right}
use Rattle.hj_base.specs.declared.numbers.Window.{Window}
use Rattle.hj_base.specs.declared.numbers.Window.TheVariants.{Rows, Time}
use Rattle.hj_msg.specs.declared.event.Event.{Event}
use Rattle.hj_msg.specs.declared.event.Event.TheVariants.{Arrive, Expire}
use Rattle.hj_window.specs.LiveRows.{LiveRow, LiveRows, AllBelow, arrive, is_same_side, of_side, one_too_many, window_of}
use Rattle.hj_window.specs.Numbers.{numbers_of, number_of_some}
use Rattle.hj_window.proofs.Order.{live_below}
use Rattle.hj_event.specs.Arrivals.{Arrivals, Ending, then_arrivals, no_arrival, too_many}
use Rattle.hj_event.specs.Events.{NumberedEvents, Silence, rows_in_silence, silence_at, quiet_side, silence_behind, quiet_event, expiries, events_at, number_from, numbered, up_to}
use Rattle.hj_event.specs.Numbering.{DueState, NumberingState, expiries_of, arrival_at, due_count, due_events, has_due, due_of, numbered_ahead, no_event, TakesDue, IsCounted}

-- ---- a limit

pub up_to-none : (room : ℕ) (ending : Ending) → up_to room (no_event ending) ≡ no_event ending
up_to-none room ending = ap (λ (t : Bool). cond t (record { events = take room []; ending = too_many }) (no_event ending)) (le-ltb room 0 (omega arith))

pub up_to-zero : (room : ℕ) (all : NumberedEvents) → room ≡ 0 → 0 < length all.events → up_to room all ≡ no_event too_many
up_to-zero room all none some =
    ap (λ (k : ℕ). up_to k all) none
    ∙ ap (λ (t : Bool). cond t (no_event too_many) all) (lt-ltb 0 (length all.events) some)

-- ---- what is due

length-expiries_of : (at : ℕ) (rows : List (Side × EventNo)) → length (expiries_of at rows) ≡ length rows
length-expiries_of at [] = refl
length-expiries_of at (row ∷ rows) = ap suc (length-expiries_of (at + 1) rows)

length-arrival_at : (at : ℕ) (arrival : Option (Side × List Field)) → length (arrival_at at arrival) ≡ length (option_to_list arrival)
length-arrival_at at None = refl
length-arrival_at at (Some arrival) = refl

length-quiet_event : (at : ℕ) (quiet : Option Side) → length (quiet_event at quiet) ≡ length (option_to_list quiet)
length-quiet_event at None = refl
length-quiet_event at (Some side) = refl

pub length-due_events : (at : ℕ) (due : DueState) → length (due_events at due) ≡ due_count due
length-due_events at due =
    let no = at + length due.before in
    let next = no + length (option_to_list due.arrival) in
    let after = option_to_list due.after in
    let first = expiries_of at due.before in
    let middle = arrival_at no due.arrival in
    let last = expiries_of next after in
    let quiet = quiet_event (next + length after) due.quiet in
    omega (arith, length-append first (middle ++ (last ++ quiet)), length-append middle (last ++ quiet), length-append last quiet, length-expiries_of at due.before, length-arrival_at no due.arrival, length-expiries_of next after, length-quiet_event (next + length after) due.quiet)

pub due-first : (at : ℕ) (row : Side × EventNo) (rows : List (Side × EventNo)) (arrival : Option (Side × List Field)) (after : Option (Side × EventNo)) (quiet : Option Side)
    → due_events at (record { before = row ∷ rows; arrival = arrival; after = after; quiet = quiet }) ≡ Expire (record { 0 = at }) row.0 row.1 ∷ due_events (at + 1) (record { before = rows; arrival = arrival; after = after; quiet = quiet })
due-first at row rows arrival after quiet =
    let e : at + length (row ∷ rows) ≡ at + 1 + length rows = omega arith in
    ap (λ (no : ℕ). Expire (record { 0 = at }) row.0 row.1 ∷ (expiries_of (at + 1) rows ++ (arrival_at no arrival ++ (expiries_of (no + length (option_to_list arrival)) (option_to_list after) ++ quiet_event (no + length (option_to_list arrival) + length (option_to_list after)) quiet)))) e

-- ---- giving

some-due : (at : ℕ) (due : DueState) → has_due due ≡ true → 0 < length (due_events at due)
some-due at due some =
    let e = length-due_events at due in
    grind (arith, nat_tests)

pub nothing-due : (at : ℕ) (due : DueState) → has_due due ≡ false → due_count due ≡ 0
nothing-due at due none = eqb-true (due_count due) 0 (not-false (due_count due == 0) none)

pub gives-too_many : (state : NumberingState) (arrivals : Arrivals) → has_due state.due ≡ true → state.limit ≤ state.next → numbered_ahead state arrivals ≡ no_event too_many
gives-too_many state arrivals some over =
    let behind = numbered state.quiet (state.next + due_count state.due) state.live state.silence arrivals in
    let none : state.limit - state.next ≡ 0 = omega arith in
    up_to-zero (state.limit - state.next) (record { events = due_events state.next state.due ++ behind.events; ending = behind.ending }) none
    (omega (arith, some-due state.next state.due some, length-append (due_events state.next state.due) behind.events))

-- ---- an arrival

expiries-same : (at : ℕ) (rows : List LiveRow) → expiries_of at (numbers_of rows) ≡ expiries at rows
expiries-same at [] = refl
expiries-same at (row ∷ rows) = ap (λ (es : List (Event (List Field))). Expire (record { 0 = at }) row.side (record { 0 = row.no }) ∷ es) (expiries-same (at + 1) rows)

same_side : (side other : Side) → is_same_side side other ≡ true → other ≡ side
same_side Left Left e = refl
same_side Left Right e = cc
same_side Right Left e = cc
same_side Right Right e = refl

-- the rows that a test lets through pass it, the first one too
first_passes : (test : LiveRow → Bool) (rows : List LiveRow) (first : LiveRow) (others : List LiveRow) → filter test rows ≡ first ∷ others → test first ≡ true
first_passes test [] first others e = cc
first_passes test (row ∷ rows) first others e =
    let step : (t : Bool) → test row ≡ t → cond t (row ∷ filter test rows) (filter test rows) ≡ first ∷ others → test first ≡ true = λ t. elim t as (λ u. test row ≡ u → cond u (row ∷ filter test rows) (filter test rows) ≡ first ∷ others → test first ≡ true) [
      | true ↦ λ passes is. let same : row ≡ first = cc in ap test (sym same) ∙ passes
      | false ↦ λ fails is. first_passes test rows first others is
    ] in
    step (test row) refl e

oldest_side : (count : ℕ) (side : Side) (rows found : List LiveRow) (gone : LiveRow) → of_side side rows ≡ found → one_too_many (Rows count) found ≡ Some gone → gone.side ≡ side
oldest_side count side rows [] gone is e = cc
oldest_side count side rows (oldest ∷ others) gone is e =
    let passes = first_passes (λ (row : LiveRow). is_same_side side row.side) rows oldest others is in
    let step : (t : Bool) → cond t (Some oldest) None ≡ Some gone → gone.side ≡ side = λ t. elim t as (λ u. cond u (Some oldest) None ≡ Some gone → gone.side ≡ side) [
      | true ↦ λ f. let same : oldest ≡ gone = cc in ap (λ (row : LiveRow). row.side) (sym same) ∙ same_side side oldest.side passes
      | false ↦ λ f. cc
    ] in
    step (ltb count (length (oldest ∷ others))) e

-- the row that is one too many is of the side whose rows were looked at
gone_side : (window : Window) (side : Side) (rows : List LiveRow) (gone : LiveRow) → one_too_many window (of_side side rows) ≡ Some gone → gone.side ≡ side
gone_side (Time span) side rows gone e = cc
gone_side (Rows count) side rows gone e = oldest_side count side rows (of_side side rows) gone refl e

after-same : (at : ℕ) (side : Side) (after : Option LiveRow) → ((gone : LiveRow) → after ≡ Some gone → gone.side ≡ side) → expiries_of at (option_to_list (option_map (λ (of : EventNo). (side, of)) (number_of_some after))) ≡ expiries at (option_to_list after)
after-same at side None is = refl
after-same at side (Some gone) is = ap (λ (s : Side). Expire (record { 0 = at }) s (record { 0 = gone.no }) ∷ []) (sym (is gone refl))

after-count : (side : Side) (after : Option LiveRow) → length {A = Side × EventNo} (option_to_list (option_map (λ (of : EventNo). (side, of)) (number_of_some after))) ≡ length (option_to_list after)
after-count side None = refl
after-count side (Some gone) = refl

module _ (live : LiveRows) (side : Side) (row : List Field) (at : ℕ) (quiet : Option Side) where
  pub due_of-events : due_events at (due_of side row (numbers_of (arrive live side (time_of row) at).before) (number_of_some (arrive live side (time_of row) at).after) quiet) ≡ events_at at (record { side = side; row = row }) (arrive live side (time_of row) at) quiet
  due_of-events =
      let before = (arrive live side (time_of row) at).before in
      let after = (arrive live side (time_of row) at).after in
      let numbers : List (Side × EventNo) = option_to_list (option_map (λ (of : EventNo). (side, of)) (number_of_some after)) in
      let count : length (numbers_of before) ≡ length before = length-map _ _ in
      ap (λ (es : List (Event (List Field))). es ++ (Arrive (record { 0 = at + length (numbers_of before) }) side row ∷ (expiries_of (at + length (numbers_of before) + 1) numbers ++ quiet_event (at + length (numbers_of before) + 1 + length numbers) quiet))) (expiries-same at before)
      ∙ (ap (λ (n : ℕ). expiries at before ++ (Arrive (record { 0 = at + n }) side row ∷ (expiries_of (at + n + 1) numbers ++ quiet_event (at + n + 1 + length numbers) quiet))) count
      ∙ (ap (λ (n : ℕ). expiries at before ++ (Arrive (record { 0 = at + length before }) side row ∷ (expiries_of (at + length before + 1) numbers ++ quiet_event (at + length before + 1 + n) quiet))) (after-count side after)
      ∙ ap (λ (es : List (Event (List Field))). expiries at before ++ (Arrive (record { 0 = at + length before }) side row ∷ (es ++ quiet_event (at + length before + 1 + length (option_to_list after)) quiet)))
      (after-same (at + length before + 1) side after (λ gone e. gone_side (window_of live side) side _ gone e))))

-- What is to come at an arrival is what is due of it, and then what comes of the others.
pub arrives-due : (old new : NumberingState) (side : Side) (row : List Field) (arrivals : Arrivals) → has_due old.due ≡ false → new.limit ≡ old.limit → new.next ≡ old.next
    → new.quiet ≡ old.quiet → new.live ≡ (arrive old.live side (time_of row) old.next).live
    → new.silence ≡ silence_behind (quiet_side old.quiet (silence_at old.silence side)) (silence_at old.silence side)
    → new.due ≡ due_of side row (numbers_of (arrive old.live side (time_of row) old.next).before) (number_of_some (arrive old.live side (time_of row) old.next).after) (quiet_side old.quiet (silence_at old.silence side))
    → numbered_ahead old (then_arrivals side row arrivals) ≡ numbered_ahead new arrivals
arrives-due old new side row arrivals none limit next quiet live silence due =
    let came = arrive old.live side (time_of row) old.next in
    let told = quiet_side old.quiet (silence_at old.silence side) in
    let silent = silence_behind told (silence_at old.silence side) in
    let events = events_at old.next (record { side = side; row = row }) came told in
    let zero = nothing-due old.next old.due none in
    let no_events : due_events old.next old.due ≡ [] = nil_from_length (due_events old.next old.due) (length-due_events old.next old.due ∙ zero) in
    let at : old.next + due_count old.due ≡ old.next = omega (arith, zero) in
    let of_arrival = due_of side row (numbers_of came.before) (number_of_some came.after) told in
    let are = due_of-events old.live side row old.next told in
    let count : length events ≡ due_count of_arrival = sym (ap length are) ∙ length-due_events old.next of_arrival in
    ap (λ (es : List (Event (List Field))). up_to (old.limit - old.next) (record { events = es ++ number_from old.quiet (old.next + due_count old.due) old.live old.silence (then_arrivals side row arrivals).rows; ending = arrivals.ending })) no_events
    ∙ (ap (λ (k : ℕ). up_to (old.limit - old.next) (record { events = number_from old.quiet k old.live old.silence (then_arrivals side row arrivals).rows; ending = arrivals.ending })) at
    ∙ (ap (λ (k : ℕ). up_to (old.limit - old.next) (record { events = events ++ number_from old.quiet (old.next + k) came.live silent arrivals.rows; ending = arrivals.ending })) count
    ∙ (ap (λ (es : List (Event (List Field))). up_to (old.limit - old.next) (record { events = es ++ number_from old.quiet (old.next + due_count of_arrival) came.live silent arrivals.rows; ending = arrivals.ending })) (sym are)
    ∙ (ap (λ (d : DueState). numbered_ahead (record { live = came.live; silence = silent; quiet = old.quiet; due = d; next = old.next; limit = old.limit }) arrivals) (sym due)
    ∙ (ap (λ (l : LiveRows). numbered_ahead (record { live = l; silence = silent; quiet = old.quiet; due = new.due; next = old.next; limit = old.limit }) arrivals) (sym live)
    ∙ (ap (λ (s : Silence). numbered_ahead (record { live = new.live; silence = s; quiet = old.quiet; due = new.due; next = old.next; limit = old.limit }) arrivals) (sym silence)
    ∙ (ap (λ (n : ℕ). numbered_ahead (record { live = new.live; silence = new.silence; quiet = n; due = new.due; next = old.next; limit = old.limit }) arrivals) (sym quiet)
    ∙ (ap (λ (n : ℕ). numbered_ahead (record { live = new.live; silence = new.silence; quiet = new.quiet; due = new.due; next = n; limit = old.limit }) arrivals) (sym next)
    ∙ ap (λ (n : ℕ). numbered_ahead (record { live = new.live; silence = new.silence; quiet = new.quiet; due = new.due; next = new.next; limit = n }) arrivals) (sym limit)))))))))

-- Where nothing is due and no arrival comes, there is no event.
pub ends-with : (state : NumberingState) (ending : Ending) → has_due state.due ≡ false → numbered_ahead state (no_arrival ending) ≡ no_event ending
ends-with state ending none =
    let zero = nothing-due state.next state.due none in
    let no_events : due_events state.next state.due ≡ [] = nil_from_length (due_events state.next state.due) (length-due_events state.next state.due ∙ zero) in
    ap (λ (es : List (Event (List Field))). up_to (state.limit - state.next) (record { events = es ++ []; ending = ending })) no_events
    ∙ up_to-none (state.limit - state.next) ending

-- ---- what is due, as it is kept

module _ (before : List (Side × EventNo)) (given : ℕ) (arrival : Option (Side × List Field)) (after : Option (Side × EventNo)) (quiet : Option Side) (no : ℕ) where
  pub takes-before : (row : Side × EventNo) → given < length before → slice_get before given ≡ Some row
      → TakesDue (Some (Expire (record { 0 = no }) row.0 row.1)) no (record { before = drop given before; arrival = arrival; after = after; quiet = quiet }) (record { before = drop (given + 1) before; arrival = arrival; after = after; quiet = quiet })
  takes-before row within found =
      let first : drop given before ≡ row ∷ drop (given + 1) before = drop_more before given row within ∙ ap (λ (x : Side × EventNo). x ∷ drop (given + 1) before) (get_or_from_slice_get before given row row found) in (
        ap (λ (rows : List (Side × EventNo)). due_events no (record { before = rows; arrival = arrival; after = after; quiet = quiet })) first ∙ due-first no row (drop (given + 1) before) arrival after quiet,
        omega (arith, ap (λ (rows : List (Side × EventNo)). length rows) first),
      )

-- ---- silence

rows-most : (silence : Silence) (side : Side) → rows_in_silence silence side ≤ silence.rows
rows-most silence side = by (is_same_side silence.side side)
  where
    by : (same : Bool) → cond same 0 silence.rows ≤ silence.rows
    by true = omega arith
    by false = omega arith

behind-most : (quiet : ℕ) (silence : Silence) → (silence_behind (quiet_side quiet silence) silence).rows ≤ silence.rows
behind-most quiet silence = by (silence.rows == quiet)
  where
    by : (told : Bool) → (silence_behind (cond told (Some silence.side) None) silence).rows ≤ silence.rows
    by true = omega arith
    by false = omega arith

-- What is kept of the live rows, and of a silence, once a row arrived.
pub counted_after : (live after : LiveRows) (silence silent : Silence) (quiet : ℕ) (old new : DueState) (side : Side) (row : List Field) (time : ℤ) (next limit : ℕ) (before : List (Side × EventNo)) (oldest : Option EventNo) (told : Option Side)
    → IsCounted live silence old next limit → has_due old ≡ false → before ≡ numbers_of (arrive live side time next).before → after ≡ (arrive live side time next).live
    → silent ≡ silence_behind (quiet_side quiet (silence_at silence side)) (silence_at silence side) → new ≡ due_of side row before oldest told → IsCounted after silent new next limit
counted_after live after silence silent quiet old new side row time next limit before oldest told counted none expired is behind due =
    let zero = nothing-due next old none in
    let below : AllBelow next live.rows = subst (λ (n : ℕ). AllBelow n live.rows) (omega (arith, zero)) counted.below in
    record {
      below = live_below live after side time next (next + due_count new) before below expired is (omega (arith, ap due_count due));
      silent = omega (arith, ap (λ (s : Silence). s.rows) behind, behind-most quiet (silence_at silence side), rows-most silence side, counted.silent, zero, ap due_count due);
      within = counted.within;
    }
