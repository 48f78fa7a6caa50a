-- Rows beside their times: the first, the last, one more, and all but the first.
use Rattle.std.proofs.Common.{◌≡◌, ℕ, ◌-◌, ◌<◌, length, get_or, false, List, [], ◌∷◌, ◌++◌, Some, sym, ap, subst, ◌∙◌, arith}
use Rattle.std.proofs.lemmas.List.{get_or-map, length-map, map-append}
use Rattle.std.proofs.lemmas.List.Elements.{All-get_or, All-head, All-push, All-tail}
use Rattle.hj_value.specs.declared.field.Field.{Field}
use Rattle.hj_value.specs.Row.{time_of}
use Rattle.hj_event.specs.declared.waiting.TimedRow.{TimedRow}
use Rattle.hj_event.specs.Rows.{put_all}
use Rattle.hj_event.specs.Timed.{timed_rows, AreTimed}
use Rattle.hj_event.specs.Waiting.{AreWaiting, first_time, is_before, last_time}
use Rattle.hj_event.proofs.WaitingLemmas.{first_queued, last_at, push_waiting}

pub first_timed : (rows : List TimedRow) (first : TimedRow) → AreTimed rows → 0 < length rows → first ≡ get_or rows 0 first → Some first.time ≡ first_time (timed_rows rows)
first_timed [] first are some is = absurd (omega (arith, some))
first_timed (one ∷ rows) first are some is =
    ap (λ (r : TimedRow). Some r.time) is ∙ ap Some (All-head (λ one. one.time ≡ time_of one.row) one rows are)

pub last_timed : (rows : List TimedRow) (last : TimedRow) → AreTimed rows → 0 < length rows → last ≡ get_or rows (length rows - 1) last → Some last.time ≡ last_time (timed_rows rows)
last_timed rows last are some is =
    let within : length rows - 1 < length rows = omega (arith, some) in
    let count : length (timed_rows rows) ≡ length rows = length-map rows (λ one. one.row) in
    let own : last.time ≡ time_of last.row = subst (λ (r : TimedRow). r.time ≡ time_of r.row) (sym is) (All-get_or (λ one. one.time ≡ time_of one.row) rows (length rows - 1) last within are) in
    let at : get_or (timed_rows rows) (length rows - 1) last.row ≡ last.row = get_or-map (λ one. one.row) rows (length rows - 1) last last.row within ∙ ap (λ (r : TimedRow). r.row) (sym is) in
    ap Some own
    ∙ sym (last_at (timed_rows rows) last.row (omega (arith, some, count)) ∙ ap Some (ap (λ (k : ℕ). time_of (get_or (timed_rows rows) (k - 1) last.row)) count ∙ ap time_of at))

-- one more at the back
pub push_rows : (rows : List TimedRow) (new : TimedRow) → timed_rows (rows ++ new ∷ []) ≡ timed_rows rows ++ new.row ∷ []
push_rows rows new = map-append (λ one. one.row) rows (new ∷ [])

pub push_timed : (queue : List TimedRow) (late : List (List Field)) (new : TimedRow) → new.time ≡ time_of new.row → AreTimed queue → AreWaiting (timed_rows queue) late → is_before (Some (time_of new.row)) (last_time (timed_rows queue)) ≡ false
    → AreTimed (queue ++ new ∷ []) × AreWaiting (timed_rows (queue ++ new ∷ [])) late
push_timed queue late new is are waiting ge = (
  All-push (λ one. one.time ≡ time_of one.row) queue new are is,
  subst (λ (rows : List (List Field)). AreWaiting rows late) (sym (push_rows queue new)) (push_waiting (timed_rows queue) late new.row waiting ge),
)

-- all but the first
pub pop_timed : (queue rest : List TimedRow) (late : List (List Field)) (first : TimedRow) → queue ≡ first ∷ rest → AreTimed queue → AreWaiting (timed_rows queue) late → is_before (first_time late) (first_time (timed_rows queue)) ≡ false
    → (AreTimed rest × AreWaiting (timed_rows rest) late) × (put_all (timed_rows queue) late ≡ first.row ∷ put_all (timed_rows rest) late)
pop_timed queue rest late first is are waiting ge =
    let queued = first_queued (timed_rows queue) (timed_rows rest) late first.row waiting ge (ap timed_rows is) in
    ((All-tail (λ one. one.time ≡ time_of one.row) first rest (subst AreTimed is are), queued.1), queued.0)
