-- The rows that arrive, and the events by which they do: each row is of the kinds of its side's columns, and times never fall.
use Rattle.std.proofs.Common.{◌≡◌, ℕ, zero, suc, ◌+◌, ℤ, Bool, true, false, cond, ltb, List, [], ◌∷◌, ◌++◌, length, take, None, Some, refl, sym, subst, arith, append_assoc}
use Rattle.std.specs.Prelude.{int_le, int_lt, option_to_list}
use Rattle.std.specs.declared.option.Option.{Option}
use Rattle.std.proofs.lemmas.Int.{ints}
use Rattle.hj_base.specs.declared.numbers.Side.{Side}
use Rattle.hj_base.specs.declared.numbers.Side.TheVariants.{Left, Right}
use Rattle.hj_value.specs.declared.field.Field.{Field}
use Rattle.hj_value.specs.Row.{time_of}
use Rattle.hj_msg.specs.declared.event.Event.{Event}
use Rattle.hj_msg.specs.declared.event.Event.TheVariants.{Arrive, Expire, Quiet}
use Rattle.hj_query.specs.QueryParts.{QueryParts}
use Rattle.hj_record.specs.Pieces.{Stream}
use Rattle.hj_window.specs.LiveRows.{Arrived, LiveRow, LiveRows, arrive}
use Rattle.hj_event.specs.Arrivals.{Arrival, Arrivals, arrivals_of, left_among, merge, right_only, stop_or, then_arrivals, too_many}
use Rattle.hj_event.specs.Events.{NumberedEvents, Silence, all_events_of, events_at, events_of, expiries, no_silence, none_live, number_from, quiet_event, quiet_side, silence_at, silence_behind}
use Rattle.hj_event.specs.Rows.{RowsEnd, bad as rows_bad, clean as rows_clean, rows_of, unread as rows_unread}
use Rattle.hj_relay.specs.Fits.{kinds}
use Rattle.hj_relay.proofs.FieldKinds.{AreOfKinds}
use Rattle.hj_relay.proofs.Rows.{AreTimely, IsNotBefore, rows_are_timely}

module _ (P Q : List Field → Type 0) where
  -- a row of a side
  abbrev pub IsOfSide : Side → List Field → Type 0
  IsOfSide Left row = P row
  IsOfSide Right row = Q row

  abbrev pub Arrive-timely : Option ℤ → List Arrival → Type 0
  Arrive-timely from [] = Unit {0}
  Arrive-timely from (arrival ∷ arrivals) = IsOfSide arrival.side arrival.row × IsNotBefore from (time_of arrival.row) × Arrive-timely (Some (time_of arrival.row)) arrivals

  -- ---- the merge

  stop_timely : (from : Option ℤ) (side : Side) (ending : RowsEnd) (others : Arrivals) → Arrive-timely from others.rows → Arrive-timely from (stop_or side ending others).rows
  stop_timely from side rows_clean others h = h
  stop_timely from side (rows_bad record_no found) others h = tt
  stop_timely from side rows_unread others h = tt

  right_timely : (from : Option ℤ) (rows : List (List Field)) (ending : RowsEnd) → AreTimely Q from rows → Arrive-timely from (right_only rows ending).rows
  right_timely from [] rows_clean h = tt
  right_timely from [] (rows_bad record_no found) h = tt
  right_timely from [] rows_unread h = tt
  right_timely from (row ∷ rows) ending h = (h.0, h.1, right_timely (Some (time_of row)) rows ending h.2)

  -- rows whose first one isn't before another time
  from_time : (from : Option ℤ) (time : ℤ) (row : List Field) (rows : List (List Field)) → AreTimely Q from (row ∷ rows) → IsNotBefore (Some time) (time_of row) → AreTimely Q (Some time) (row ∷ rows)
  from_time from time row rows h k = (h.0, k, h.2)

  not_after : (one other : ℤ) → int_le one other ≡ true → int_lt other one ≡ false
  not_after one other le = grind (arith, ints)

  after : (one other : ℤ) → int_le one other ≡ false → int_lt one other ≡ false
  after one other gt = grind (arith, ints)

  among_timely : (from : Option ℤ) (row : List Field) (behind : List (List Field) → Arrivals) (right : List (List Field)) (ending : RowsEnd) → P row → IsNotBefore from (time_of row)
      → ((others : List (List Field)) → AreTimely Q (Some (time_of row)) others → Arrive-timely (Some (time_of row)) (behind others).rows)
      → AreTimely Q from right → Arrive-timely from (left_among row behind right ending).rows
  among_timely from row behind [] ending is late h right = stop_timely from Right ending (then_arrivals Left row (behind [])) (is, late, h [] tt)
  among_timely from row behind (other ∷ others) ending is late h right =
      by_test (int_le (time_of row) (time_of other)) refl (λ late. among_timely (Some (time_of other)) row behind others ending is late h right.2)
    where
      by_test : (le : Bool) → int_le (time_of row) (time_of other) ≡ le → (IsNotBefore (Some (time_of other)) (time_of row) → Arrive-timely (Some (time_of other)) (left_among row behind others ending).rows)
          → Arrive-timely from (cond {A = Arrivals} le (then_arrivals Left row (behind (other ∷ others))) (then_arrivals Right other (left_among row behind others ending))).rows
      by_test true le later = (is, late, h (other ∷ others) (from_time from (time_of row) other others right (not_after (time_of row) (time_of other) le)))
      by_test false gt later = (right.0, right.1, later (after (time_of row) (time_of other) gt))

  merge_timely : (from : Option ℤ) (left : List (List Field)) (left_end : RowsEnd) (right : List (List Field)) (right_end : RowsEnd) → AreTimely P from left → AreTimely Q from right → Arrive-timely from (merge left left_end right right_end).rows
  merge_timely from [] left_end right right_end h k = stop_timely from Left left_end (right_only right right_end) (right_timely from right right_end k)
  merge_timely from (row ∷ rows) left_end right right_end h k =
      among_timely from row (λ others. merge rows left_end others right_end) right right_end h.0 h.1
      (λ others o. merge_timely (Some (time_of row)) rows left_end others right_end h.2 o) k

  -- ---- the events

  -- Arrivals of rows that are so, whose times never fall.
  abbrev pub Come-timely : Option ℤ → List (Event (List Field)) → Type 0
  Come-timely from [] = Unit {0}
  Come-timely from (Arrive at side row ∷ events) = IsOfSide side row × IsNotBefore from (time_of row) × Come-timely (Some (time_of row)) events
  Come-timely from (Expire at side of ∷ events) = Come-timely from events
  Come-timely from (Quiet at side ∷ events) = Come-timely from events

  expiries_timely : (from : Option ℤ) (at : ℕ) (rows : List LiveRow) (events : List (Event (List Field))) → Come-timely from events → Come-timely from (expiries at rows ++ events)
  expiries_timely from at [] events h = h
  expiries_timely from at (row ∷ rows) events h = expiries_timely from (at + 1) rows events h

  quiet_timely : (from : Option ℤ) (at : ℕ) (told : Option Side) (events : List (Event (List Field))) → Come-timely from events → Come-timely from (quiet_event at told ++ events)
  quiet_timely from at None events h = h
  quiet_timely from at (Some side) events h = h

  at_timely : (from : Option ℤ) (at : ℕ) (arrival : Arrival) (came : Arrived) (told : Option Side) (events : List (Event (List Field))) → IsOfSide arrival.side arrival.row → IsNotBefore from (time_of arrival.row)
      → Come-timely (Some (time_of arrival.row)) events → Come-timely from (events_at at arrival came told ++ events)
  at_timely from at arrival came told events is late h =
      let no = at + length came.before in
      let gone = option_to_list came.after in
      let quiet = quiet_event (no + 1 + length gone) told in
      let behind = expiries (no + 1) gone ++ quiet in
      let time = Some (time_of arrival.row) in
      subst (Come-timely from) (sym (append_assoc (expiries at came.before) (Arrive (record { 0 = no }) arrival.side arrival.row ∷ behind) events))
      (expiries_timely from at came.before (Arrive (record { 0 = no }) arrival.side arrival.row ∷ (behind ++ events)) (
        is,
        late,
        subst (Come-timely time) (sym (append_assoc (expiries (no + 1) gone) quiet events))
            (expiries_timely time (no + 1) gone (quiet ++ events) (quiet_timely time (no + 1 + length gone) told events h)),
      ))

  number_timely : (quiet : ℕ) (from : Option ℤ) (at : ℕ) (live : LiveRows) (silence : Silence) (arrivals : List Arrival) → Arrive-timely from arrivals → Come-timely from (number_from quiet at live silence arrivals)
  number_timely quiet from at live silence [] h = tt
  number_timely quiet from at live silence (arrival ∷ arrivals) h =
      let came = arrive live arrival.side (time_of arrival.row) at in
      let silent = silence_at silence arrival.side in
      let told = quiet_side quiet silent in
      let next = at + length (events_at at arrival came told) in
      at_timely from at arrival came told (number_from quiet next came.live (silence_behind told silent) arrivals) h.0 h.1
      (number_timely quiet (Some (time_of arrival.row)) next came.live (silence_behind told silent) arrivals h.2)

  first_timely : (n : ℕ) (from : Option ℤ) (events : List (Event (List Field))) → Come-timely from events → Come-timely from (take n events)
  first_timely zero from events h = tt
  first_timely (suc n) from [] h = tt
  first_timely (suc n) from (Arrive at side row ∷ events) h = (h.0, h.1, first_timely n (Some (time_of row)) events h.2)
  first_timely (suc n) from (Expire at side of ∷ events) h = first_timely n from events h
  first_timely (suc n) from (Quiet at side ∷ events) h = first_timely n from events h

  up_to_timely : (limit : ℕ) (all : NumberedEvents) (over : Bool) → Come-timely None all.events → Come-timely None (cond {A = NumberedEvents} over (record { events = take limit all.events; ending = too_many }) all).events
  up_to_timely limit all true h = first_timely limit None all.events h
  up_to_timely limit all false h = h

-- a row of these columns' kinds
abbrev pub IsLeft : QueryParts → List Field → Type 0
IsLeft query row = AreOfKinds (kinds query.left.columns) row

abbrev pub IsRight : QueryParts → List Field → Type 0
IsRight query row = AreOfKinds (kinds query.right.columns) row

-- The events of two streams.
pub events_are_timely : (query : QueryParts) (left right : Stream) (limit : ℕ) → Come-timely (IsLeft query) (IsRight query) None (events_of query left right limit).events
events_are_timely query left right limit =
    let all = all_events_of query left right in
    let left_rows = rows_of query.left.columns query.slack left in
    let right_rows = rows_of query.right.columns query.slack right in
    up_to_timely (IsLeft query) (IsRight query) limit all (ltb limit (length all.events))
    (number_timely (IsLeft query) (IsRight query) query.quiet None 0 (none_live query) no_silence (arrivals_of left_rows right_rows).rows
    (merge_timely (IsLeft query) (IsRight query) None left_rows.rows left_rows.ending right_rows.rows right_rows.ending
    (rows_are_timely query.left.columns query.slack left) (rows_are_timely query.right.columns query.slack right)))
