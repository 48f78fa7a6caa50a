-- Streams that are made end well: their rows are rows, in time, and give few events.
use Rattle.std.proofs.Common.{◌≡◌, ℕ, zero, suc, ◌+◌, ◌*◌, ◌%◌, ◌<◌, ◌≤◌, ◌^◌, ℤ, ◌-ℤ◌, Bool, true, false, cond, int_le, List, [], ◌∷◌, ◌++◌, length, filter, Some, None, Option, refl, sym, ap, ap₂, subst, ◌∙◌, arith, length-append}
use Rattle.std.proofs.lemmas.Bool.{le-ltb}
use Rattle.std.proofs.lemmas.List.{length-map}
use Rattle.std.proofs.Math.Nat.{mod-lt}
use Rattle.std.specs.Prelude.{option_to_list}
use Rattle.hj_base.specs.declared.numbers.Side.{Side}
use Rattle.hj_base.specs.declared.numbers.Side.TheVariants.{Left, Right}
use Rattle.hj_base.specs.declared.numbers.Window.TheVariants.{Rows}
use Rattle.hj_base.specs.Lcg.{next, drawn}
use Rattle.hj_event.specs.Arrivals.{Arrival, Arrivals, arrivals_of, clean, left_among, merge, right_only, then_arrivals}
use Rattle.hj_event.specs.Events.{NumberedEvents, Silence, no_silence, silence_at, quiet_side, silence_behind, quiet_event, all_events_of, events_at, expiries, none_live, number_from, up_to}
use Rattle.hj_event.specs.Rows.{rows_of, clean as rows_clean}
use Rattle.hj_event.specs.Rows as event_rows
use Rattle.hj_gen.specs.Streams.{draws_of, right_seed, rows_of as made_rows, stream_of}
use Rattle.hj_msg.specs.declared.event.Event.TheVariants.{Arrive}
use Rattle.hj_query.specs.Keyed.{IsEquiQuery, keyed_columns}
use Rattle.hj_query.specs.QueryParts.{QueryParts}
use Rattle.hj_value.specs.declared.column.Column.{Column}
use Rattle.hj_value.specs.declared.field.Field.{Field}
use Rattle.hj_value.specs.Row.{time_of}
use Rattle.hj_window.specs.LiveRows.{LiveRow, LiveRows, arrive, is_gone, is_gone_at, window_of}
use Rattle.hj_relay.specs.Relay.{whole}
use Rattle.hj_opening.specs.Generating.{join_made, left_stream, right_stream}
use Rattle.hj_opening.specs.Words.{Recipe, most_events}
use Rattle.hj_opening.proofs.MadeLines.{AreMade, fields_of, rows_of-lines}

-- ---- the rows that are made

two_more : (more : ℕ) → 2 * suc more ≡ suc (suc (2 * more))
two_more more = omega arith

are_made : (n time keys held : ℕ) → 0 < keys → keys ≤ 2 ^ 32 → time + 2 * n < 2 ^ 32 → AreMade time (made_rows time keys (draws_of held (2 * n)))
are_made zero time keys held some few small = tt
are_made (suc n) time keys held some few small =
    let first = next held in
    let second = next first in
    let grown = time + drawn first % 3 in
    let growth : drawn first % 3 < 3 = mod-lt (drawn first) (omega arith) in
    let key : drawn second % keys < keys = mod-lt (drawn second) some in
    rw (two_more n) (omega arith, omega (arith, growth, small), omega (arith, key, few), are_made n grown keys second some few (omega (arith, growth, small)))

length-made : (n time keys held : ℕ) → length (made_rows time keys (draws_of held (2 * n))) ≡ n
length-made zero time keys held = refl
length-made (suc n) time keys held = rw (two_more n) (ap suc (length-made n (time + drawn (next held) % 3) keys (next (next held))))

-- the rows of the stream of a seed
pub record AreRows (n : ℕ) (rows : event_rows.Rows) : Type 0 where
  pub ending : rows.ending ≡ rows_clean
  pub count : length rows.rows ≡ n

pub rows_of-stream : (n keys seed : ℕ) → n ≤ 100000 → 0 < keys → keys ≤ 2 ^ 32 → AreRows n (rows_of keyed_columns 0 (whole (stream_of n keys seed)))
rows_of-stream n keys seed few some few_keys =
    let rows = made_rows 0 keys (draws_of seed (2 * n)) in
    let count : length rows ≡ n = length-made n 0 keys seed in
    let is = rows_of-lines rows (are_made n 0 keys seed some few_keys (omega (arith, few))) (omega (arith, few, count)) in
    subst (λ (found : event_rows.Rows). AreRows n found) (sym is) (record { ending = refl; count = length-map rows fields_of ∙ count })

-- ---- their arrivals

record AreArrivals (n : ℕ) (arrivals : Arrivals) : Type 0 where
  pub ending : arrivals.ending ≡ clean
  pub count : length arrivals.rows ≡ n

one_more : (n : ℕ) (side : Side) (row : List Field) (others : Arrivals) → AreArrivals n others → AreArrivals (suc n) (then_arrivals side row others)
one_more n side row others are = record { ending = are.ending; count = ap suc are.count }

right_rows : (rows : List (List Field)) → AreArrivals (length rows) (right_only rows rows_clean)
right_rows [] = record { ending = refl; count = refl }
right_rows (row ∷ rows) = one_more (length rows) Right row (right_only rows rows_clean) (right_rows rows)

counted : (m n : ℕ) (arrivals : Arrivals) → m ≡ n → AreArrivals m arrivals → AreArrivals n arrivals
counted m n arrivals e are = subst (λ (k : ℕ). AreArrivals k arrivals) e are

left_row : (n : ℕ) (row : List Field) (behind : List (List Field) → Arrivals) → ((others : List (List Field)) → AreArrivals (n + length others) (behind others))
    → (right : List (List Field)) → AreArrivals (suc (n + length right)) (left_among row behind right rows_clean)
left_row n row behind are [] = one_more (n + 0) Left row (behind []) (are [])
left_row n row behind are (other ∷ others) = elim (int_le (time_of row) (time_of other)) as (λ first.
    AreArrivals (suc (n + suc (length others))) (cond {A = Arrivals} first (then_arrivals Left row (behind (other ∷ others))) (then_arrivals Right other (left_among row behind others rows_clean)))) [
      | true ↦ one_more (n + suc (length others)) Left row (behind (other ∷ others)) (are (other ∷ others))
      | false ↦ one_more (n + suc (length others)) Right other (left_among row behind others rows_clean)
          (counted (suc (n + length others)) (n + suc (length others)) (left_among row behind others rows_clean) (omega arith) (left_row n row behind are others))
    ]

merged : (left right : List (List Field)) → AreArrivals (length left + length right) (merge left rows_clean right rows_clean)
merged [] right = counted (length right) (0 + length right) (merge [] rows_clean right rows_clean) (omega arith) (right_rows right)
merged (row ∷ rows) right =
    let behind : List (List Field) → Arrivals = λ others. merge rows rows_clean others rows_clean in
    counted (suc (length rows + length right)) (suc (length rows) + length right) (left_among row behind right rows_clean) (omega arith)
    (left_row (length rows) row behind (λ others. merged rows others) right)

arrivals_from : (left right : event_rows.Rows) (m n : ℕ) → AreRows m left → AreRows n right → AreArrivals (m + n) (arrivals_of left right)
arrivals_from left right m n l r =
    rw (l.ending, r.ending) (counted (length left.rows + length right.rows) (m + n) (merge left.rows rows_clean right.rows rows_clean) (ap₂ (λ a b. a + b) l.count r.count) (merged left.rows right.rows))

-- ---- their events

gone_by_none : (test : LiveRow → Bool) (rows : List LiveRow) → ((row : LiveRow) → test row ≡ false) → filter test rows ≡ []
gone_by_none test [] none = refl
gone_by_none test (row ∷ rows) none = rw (none row) (gone_by_none test rows none)

-- both windows are of rows
abbrev HasRows : ℕ → LiveRows → Type 0
HasRows window live = (live.left ≡ Rows window) × (live.right ≡ Rows window)

never_gone : (window : ℕ) (live : LiveRows) (now : ℤ) → HasRows window live → (row : LiveRow) → is_gone live now row ≡ false
never_gone window live now has row = by_side row.side
  where
    by_side : (side : Side) → is_gone_at (window_of live side) (now -ℤ row.time) ≡ false
    by_side Left = rw (has.0) refl
    by_side Right = rw (has.1) refl

at_most_one : (at : ℕ) (after : Option LiveRow) → length (expiries at (option_to_list after)) ≤ 1
at_most_one at None = omega arith
at_most_one at (Some row) = omega arith

at_most_one_quiet : (at : ℕ) (told : Option Side) → length (quiet_event at told) ≤ 1
at_most_one_quiet at None = omega arith
at_most_one_quiet at (Some side) = omega arith

three_a_row : (window quiet at : ℕ) (live : LiveRows) (silence : Silence) (rows : List Arrival) → HasRows window live → length (number_from quiet at live silence rows) ≤ 3 * length rows
three_a_row window quiet at live silence [] has = omega arith
three_a_row window quiet at live silence (arrival ∷ rows) has =
    let came = arrive live arrival.side (time_of arrival.row) at in
    let told = quiet_side quiet (silence_at silence arrival.side) in
    let silent = silence_behind told (silence_at silence arrival.side) in
    let events = events_at at arrival came told in
    let no = at + length came.before in
    let after = expiries (no + 1) (option_to_list came.after) in
    let quiet_one = quiet_event (no + 1 + length (option_to_list came.after)) told in
    let before : came.before ≡ [] = gone_by_none (is_gone live (time_of arrival.row)) live.rows (never_gone window live (time_of arrival.row) has) in
    let first : length (expiries at came.before) ≡ 0 = ap (λ (gone : List LiveRow). length (expiries at gone)) before in
    let last = at_most_one (no + 1) came.after in
    let told_one = at_most_one_quiet (no + 1 + length (option_to_list came.after)) told in
    let here = length-append (expiries at came.before) (Arrive (record { 0 = no }) arrival.side arrival.row ∷ (after ++ quiet_one)) in
    let behind = length-append after quiet_one in
    let all = length-append events (number_from quiet (at + length events) came.live silent rows) in
    let others = three_a_row window quiet (at + length events) came.live silent rows has in
    omega (arith, first, last, told_one, here, behind, all, others)

within : (limit : ℕ) (all : NumberedEvents) → length all.events ≤ limit → up_to limit all ≡ all
within limit all few = rw (le-ltb limit (length all.events) few) refl

few_enough : (events arrivals rows : ℕ) → events ≤ 3 * arrivals → arrivals ≡ rows + rows → rows ≤ 100000 → events ≤ 4294967295
few_enough events arrivals rows three sum few = omega (arith, three, sum, few)

-- The events of both streams end with them.
pub ends_clean : (recipe : Recipe) (query : QueryParts) → recipe.rows ≤ 100000 → 0 < recipe.keys → recipe.keys ≤ 2 ^ 32 → IsEquiQuery recipe.window query → (join_made recipe query most_events).ending ≡ clean
unfolding most_events
ends_clean recipe query few some few_keys keyed =
    let left = rows_of-stream recipe.rows recipe.keys recipe.seed few some few_keys in
    let right = rows_of-stream recipe.rows recipe.keys (right_seed recipe.seed) few some few_keys in
    let left_rows : AreRows recipe.rows (rows_of query.left.columns query.slack (left_stream recipe)) =
    subst (λ (slack : ℕ). AreRows recipe.rows (rows_of query.left.columns slack (left_stream recipe))) (sym keyed.slack) (subst (λ (columns : List Column). AreRows recipe.rows (rows_of columns 0 (left_stream recipe))) (sym keyed.left) left) in
    let right_rows : AreRows recipe.rows (rows_of query.right.columns query.slack (right_stream recipe)) =
    subst (λ (slack : ℕ). AreRows recipe.rows (rows_of query.right.columns slack (right_stream recipe))) (sym keyed.slack) (subst (λ (columns : List Column). AreRows recipe.rows (rows_of columns 0 (right_stream recipe))) (sym keyed.right) right) in
    let arrivals = arrivals_of (rows_of query.left.columns query.slack (left_stream recipe)) (rows_of query.right.columns query.slack (right_stream recipe)) in
    let are : AreArrivals (recipe.rows + recipe.rows) arrivals = arrivals_from _ _ recipe.rows recipe.rows left_rows right_rows in
    let events = three_a_row recipe.window query.quiet 0 (none_live query) no_silence arrivals.rows (keyed.left_window, keyed.right_window) in
    let count : length arrivals.rows ≡ recipe.rows + recipe.rows = are.count in
    ap (λ (all : NumberedEvents). all.ending) (within 4294967295 (all_events_of query (left_stream recipe) (right_stream recipe)) (few_enough (length (all_events_of query (left_stream recipe) (right_stream recipe)).events) (length arrivals.rows) recipe.rows events count few)) ∙ are.ending
