-- Where the events of two streams end in a bad record of the left one, its rows do.
use Rattle.std.proofs.Common.{◌≡◌, ℕ, Bool, true, false, cond, ltb, List, [], ◌∷◌, length, take}
use Rattle.std.specs.Prelude.{int_le}
use Rattle.hj_base.specs.declared.numbers.Side.TheVariants.{Left, Right}
use Rattle.hj_value.specs.declared.field.Field.{Field}
use Rattle.hj_value.specs.Row.{time_of}
use Rattle.hj_query.specs.QueryParts.{QueryParts}
use Rattle.hj_record.specs.Pieces.{Stream}
use Rattle.hj_event.specs.declared.fault.RecordFault.{RecordFault}
use Rattle.hj_event.specs.Arrivals.{Arrivals, bad, left_among, merge, right_only, stop_or, then_arrivals, too_many}
use Rattle.hj_event.specs.Events.{NumberedEvents, all_events_of, events_of}
use Rattle.hj_event.specs.Rows.{RowsEnd, bad as rows_bad, clean as rows_clean, rows_of, unread as rows_unread}

module _ (at : ℕ) (found : RecordFault) where
  right_alone : (rows : List (List Field)) (ending : RowsEnd) → (right_only rows ending).ending ≡ bad Left at found → ⊥
  right_alone [] rows_clean e = cc
  right_alone [] (rows_bad record_no why) e = cc
  right_alone [] rows_unread e = cc
  right_alone (row ∷ rows) ending e = right_alone rows ending e

  right_stop : (ending : RowsEnd) (others : Arrivals) → (stop_or Right ending others).ending ≡ bad Left at found → others.ending ≡ bad Left at found
  right_stop rows_clean others e = e
  right_stop (rows_bad record_no why) others e = cc
  right_stop rows_unread others e = cc

  left_stop : (ending : RowsEnd) (others : Arrivals) → (others.ending ≡ bad Left at found → ⊥) → (stop_or Left ending others).ending ≡ bad Left at found → ending ≡ rows_bad at found
  left_stop rows_clean others never e = absurd (never e)
  left_stop (rows_bad record_no why) others never e =
      let number : record_no ≡ at = cc in
      let fault : why ≡ found = cc in
      cc
  left_stop rows_unread others never e = cc

  among : (row : List Field) (behind : List (List Field) → Arrivals) (right : List (List Field)) (right_end left_end : RowsEnd)
      → ((others : List (List Field)) → (behind others).ending ≡ bad Left at found → left_end ≡ rows_bad at found) → (left_among row behind right right_end).ending ≡ bad Left at found → left_end ≡ rows_bad at found
  among row behind [] right_end left_end h e = h [] (right_stop right_end (then_arrivals Left row (behind [])) e)
  among row behind (other ∷ others) right_end left_end h e = by_test (int_le (time_of row) (time_of other)) (among row behind others right_end left_end h) e
    where
      by_test : (le : Bool) → ((left_among row behind others right_end).ending ≡ bad Left at found → left_end ≡ rows_bad at found) → (cond {A = Arrivals} le (then_arrivals Left row (behind (other ∷ others))) (then_arrivals Right other (left_among row behind others right_end))).ending ≡ bad Left at found → left_end ≡ rows_bad at found
      by_test true later e = h (other ∷ others) e
      by_test false later e = later e

  merged : (left : List (List Field)) (left_end : RowsEnd) (right : List (List Field)) (right_end : RowsEnd) → (merge left left_end right right_end).ending ≡ bad Left at found → left_end ≡ rows_bad at found
  merged [] left_end right right_end e = left_stop left_end (right_only right right_end) (right_alone right right_end) e
  merged (row ∷ rows) left_end right right_end e = among row (λ others. merge rows left_end others right_end) right right_end left_end (λ others e. merged rows left_end others right_end e) e

  up_to_same : (limit : ℕ) (all : NumberedEvents) (over : Bool) → (cond {A = NumberedEvents} over (record { events = take limit all.events; ending = too_many }) all).ending ≡ bad Left at found → all.ending ≡ bad Left at found
  up_to_same limit all true e = cc
  up_to_same limit all false e = e

  pub left_rows_end : (query : QueryParts) (left right : Stream) (limit : ℕ) → (events_of query left right limit).ending ≡ bad Left at found → (rows_of query.left.columns query.slack left).ending ≡ rows_bad at found
  left_rows_end query left right limit e =
      let all = all_events_of query left right in
      let left_rows = rows_of query.left.columns query.slack left in
      let right_rows = rows_of query.right.columns query.slack right in
      merged left_rows.rows left_rows.ending right_rows.rows right_rows.ending (up_to_same limit all (ltb limit (length all.events)) e)
