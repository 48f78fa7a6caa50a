-- The pairs of a join: their rows are of the kinds of their sides' columns, and their times never fall.
use Rattle.std.proofs.Common.{◌≡◌, ℕ, ◌+◌, ◌<◌, ◌==◌, ℤ, Bool, true, false, not, cond, List, [], ◌∷◌, ◌++◌, map, None, Some, refl, sym, ap, subst, ◌∙◌, arith}
use Rattle.std.specs.Prelude.{int_le, int_lt}
use Rattle.std.specs.List.{filter}
use Rattle.std.specs.declared.option.Option.{Option}
use Rattle.std.proofs.lemmas.Bool.{lt-ltb, le-ltb}
use Rattle.std.proofs.lemmas.Int.{ints}
use Rattle.hj_base.specs.declared.numbers.Side.TheVariants.{Left, Right}
use Rattle.hj_value.specs.declared.field.Field.{Field}
use Rattle.hj_value.specs.Row.{time_of}
use Rattle.hj_msg.specs.declared.event.Event.{Event}
use Rattle.hj_msg.specs.declared.event.Event.TheVariants.{Arrive, Expire, Quiet}
use Rattle.hj_msg.specs.declared.event.Pair.{Pair}
use Rattle.hj_msg.specs.Event.{NumbersFrom}
use Rattle.hj_msg.specs.Kang.{Held, Windows, after, kang_from, listed, no_rows, pair, without}
use Rattle.hj_query.specs.QueryParts.{QueryParts}
use Rattle.hj_record.specs.Pieces.{Stream}
use Rattle.hj_eval.specs.Holds.{holds}
use Rattle.hj_event.specs.Events.{events_of}
use Rattle.hj_event.proofs.Whole.{are_well_formed}
use Rattle.hj_relay.specs.Relay.{relay_pairs}
use Rattle.hj_relay.specs.Rows.{TimesNeverFall, time_at}
use Rattle.hj_relay.proofs.Arriving.{Come-timely, IsLeft, IsRight, events_are_timely}
use Rattle.hj_relay.proofs.Each.{Each, each-both, each-filter, each-weaker}
use Rattle.hj_relay.proofs.Rows.{IsNotBefore, never_before_itself, not_before-past}

module _ (P Q : List Field → Type 0) where
  -- Pairs of rows that are so, whose times never fall.
  abbrev pub Joined-timely : Option ℤ → List (Pair (List Field)) → Type 0
  Joined-timely from [] = Unit {0}
  Joined-timely from (one ∷ pairs) = P one.left × Q one.right × IsNotBefore from (time_at one) × Joined-timely (Some (time_at one)) pairs

  earlier_too : (from : Option ℤ) (time : ℤ) (pairs : List (Pair (List Field))) → IsNotBefore from time → Joined-timely (Some time) pairs → Joined-timely from pairs
  earlier_too from time [] late h = tt
  earlier_too from time (one ∷ pairs) late h = (h.0, h.1, not_before-past from time (time_at one) late h.2, h.3)

  -- a pair of this time
  abbrev IsAt : ℤ → Pair (List Field) → Type 0
  IsAt time one = P one.left × Q one.right × (time_at one ≡ time)

  -- pairs of one time, and later ones behind them
  at_once : (from : Option ℤ) (time : ℤ) (pairs others : List (Pair (List Field))) → IsNotBefore from time → Each (IsAt time) pairs → Joined-timely (Some time) others → Joined-timely from (pairs ++ others)
  at_once from time [] others late each h = earlier_too from time others late h
  at_once from time (one ∷ pairs) others late each h = (
    each.0.0,
    each.0.1,
    subst (IsNotBefore from) (sym each.0.2) late,
    subst (λ (t : ℤ). Joined-timely (Some t) (pairs ++ others)) (sym each.0.2) (at_once (Some time) time pairs others (never_before_itself time) each.1 h),
  )

  -- ---- the windows

  -- a row in a window that came before this number
  abbrev IsHeld : (List Field → Type 0) → ℕ → Held (List Field) → Type 0
  IsHeld R number held = (held.no < number) × R held.row

  record AreHeld (number : ℕ) (windows : Windows (List Field)) : Type 0 where
    left : Each (IsHeld P number) windows.left
    right : Each (IsHeld Q number) windows.right

  longer : (R : List Field → Type 0) (number : ℕ) (window : List (Held (List Field))) → Each (IsHeld R number) window → Each (IsHeld R (number + 1)) window
  longer R number window h = each-weaker (IsHeld R number) (IsHeld R (number + 1)) window (λ held is. (omega (arith, is.0), is.1)) h

  entered : (R : List Field → Type 0) (number at : ℕ) (row : List Field) (window : List (Held (List Field))) → at ≡ number → R row → Each (IsHeld R number) window → Each (IsHeld R (number + 1)) (window ++ record { no = at; row = row } ∷ [])
  entered R number at row window is so h = each-both (IsHeld R (number + 1)) window (record { no = at; row = row } ∷ []) (longer R number window h) ((omega (arith, is), so), tt)

  left_gone : (R : List Field → Type 0) (number of : ℕ) (window : List (Held (List Field))) → Each (IsHeld R number) window → Each (IsHeld R (number + 1)) (without of window)
  left_gone R number of window h = each-filter (IsHeld R (number + 1)) (λ held. not (held.no == of)) window (longer R number window h)

  -- ---- the pairs that an arrival lists

  by_right : (left right : Held (List Field)) (time : ℤ) → left.no < right.no → time_of right.row ≡ time → time_at (pair left right) ≡ time
  by_right left right time lt is = ap (λ (t : Bool). time_of (cond t right.row left.row)) (lt-ltb left.no right.no lt) ∙ is

  by_left : (left right : Held (List Field)) (time : ℤ) → right.no < left.no → time_of left.row ≡ time → time_at (pair left right) ≡ time
  by_left left right time lt is = ap (λ (t : Bool). time_of (cond t right.row left.row)) (le-ltb left.no right.no (omega arith)) ∙ is

  module _ (matches : List Field → List Field → Bool) where
    left_listed : (number at : ℕ) (row : List Field) (window : List (Held (List Field))) → at ≡ number → P row → Each (IsHeld Q number) window
        → Each (IsAt (time_of row)) (map (λ held. pair (record { no = at; row = row }) held) window)
    left_listed number at row [] is so h = tt
    left_listed number at row (held ∷ window) is so h = ((so, h.0.1, by_left (record { no = at; row = row }) held (time_of row) (omega (arith, h.0.0, is)) refl), left_listed number at row window is so h.1)

    right_listed : (number at : ℕ) (row : List Field) (window : List (Held (List Field))) → at ≡ number → Q row → Each (IsHeld P number) window
        → Each (IsAt (time_of row)) (map (λ held. pair held (record { no = at; row = row })) window)
    right_listed number at row [] is so h = tt
    right_listed number at row (held ∷ window) is so h = ((h.0.1, so, by_right held (record { no = at; row = row }) (time_of row) (omega (arith, h.0.0, is)) refl), right_listed number at row window is so h.1)

    joined : (number : ℕ) (from : Option ℤ) (windows : Windows (List Field)) (events : List (Event (List Field))) → NumbersFrom number events → Come-timely P Q from events → AreHeld number windows
        → Joined-timely from (kang_from matches windows events)
    joined number from windows [] numbers come held = tt
    joined number from windows (Arrive at Left row ∷ events) numbers come held =
        let found = filter (λ other. matches row other.row) windows.right in
        at_once from (time_of row) (listed matches windows (Arrive at Left row)) (kang_from matches (after windows (Arrive at Left row)) events) come.1
        (left_listed number at.0 row found numbers.0 come.0 (each-filter (IsHeld Q number) (λ other. matches row other.row) windows.right held.right))
        (joined (number + 1) (Some (time_of row)) (after windows (Arrive at Left row)) events numbers.1 come.2
        (record { left = entered P number at.0 row windows.left numbers.0 come.0 held.left; right = longer Q number windows.right held.right }))
    joined number from windows (Arrive at Right row ∷ events) numbers come held =
        let found = filter (λ other. matches other.row row) windows.left in
        at_once from (time_of row) (listed matches windows (Arrive at Right row)) (kang_from matches (after windows (Arrive at Right row)) events) come.1
        (right_listed number at.0 row found numbers.0 come.0 (each-filter (IsHeld P number) (λ other. matches other.row row) windows.left held.left))
        (joined (number + 1) (Some (time_of row)) (after windows (Arrive at Right row)) events numbers.1 come.2
        (record { left = longer P number windows.left held.left; right = entered Q number at.0 row windows.right numbers.0 come.0 held.right }))
    joined number from windows (Expire at Left of ∷ events) numbers come held =
        joined (number + 1) from (after windows (Expire at Left of)) events numbers.1 come (record { left = left_gone P number of.0 windows.left held.left; right = longer Q number windows.right held.right })
    joined number from windows (Expire at Right of ∷ events) numbers come held =
        joined (number + 1) from (after windows (Expire at Right of)) events numbers.1 come (record { left = longer P number windows.left held.left; right = left_gone Q number of.0 windows.right held.right })
    joined number from windows (Quiet at side ∷ events) numbers come held =
        joined (number + 1) from windows events numbers.1 come (record { left = longer P number windows.left held.left; right = longer Q number windows.right held.right })

  -- ---- times of pairs that stand apart

  behind_front : (from : Option ℤ) (front pairs : List (Pair (List Field))) → Joined-timely from (front ++ pairs) → (since : Option ℤ) × Joined-timely since pairs
  behind_front from [] pairs h = (from, h)
  behind_front from (one ∷ front) pairs h = behind_front (Some (time_at one)) front pairs h.3

  later_one : (time : ℤ) (between behind : List (Pair (List Field))) (other : Pair (List Field)) → Joined-timely (Some time) (between ++ other ∷ behind) → int_lt (time_at other) time ≡ false
  later_one time [] behind other h = h.2
  later_one time (one ∷ between) behind other h = not_before-past (Some time) (time_at one) (time_at other) h.2 (later_one (time_at one) between behind other h.3)

  at_most : (one other : ℤ) → int_lt other one ≡ false → int_le one other ≡ true
  at_most one other h = grind (arith, ints)

  pub never_fall : (pairs : List (Pair (List Field))) → Joined-timely None pairs → TimesNeverFall pairs
  never_fall pairs h before between behind one other is =
      let rest = behind_front None before (one ∷ (between ++ other ∷ behind)) (subst (Joined-timely None) is h) in
      at_most (time_at one) (time_at other) (later_one (time_at one) between behind other rest.1.3)

-- The pairs of the join of two streams.
pub pairs_are_timely : (query : QueryParts) (left right : Stream) (limit : ℕ) → Joined-timely (IsLeft query) (IsRight query) None (relay_pairs query left right limit)
pairs_are_timely query left right limit =
    joined (IsLeft query) (IsRight query) (holds query) 0 None no_rows (events_of query left right limit).events (are_well_formed query left right limit).numbered
    (events_are_timely query left right limit) (record { left = tt; right = tt })

pub times_never_fall : (query : QueryParts) (left right : Stream) (limit : ℕ) → TimesNeverFall (relay_pairs query left right limit)
times_never_fall query left right limit = never_fall (IsLeft query) (IsRight query) (relay_pairs query left right limit) (pairs_are_timely query left right limit)
