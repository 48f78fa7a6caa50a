-- What a driver keeps, where a message is taken.
use Rattle.std.proofs.Common.{◌≡◌, ℕ, suc, ◌+◌, ◌≤◌, Bool, true, false, not, ◌==◌, ◌&&◌, ◌||◌, IsTrue, cond, List, [], ◌∷◌, length, Some, None, Option, refl, ap, sym, ◌∙◌, arith}
use Rattle.std.specs.List.{filter_map, filter, cons_option, list_any}
use Rattle.std.proofs.lemmas.Bool.{false≢true}
use Rattle.hj_base.specs.declared.numbers.EventNo.{EventNo}
use Rattle.hj_base.specs.declared.numbers.Side.{Side}
use Rattle.hj_base.specs.declared.numbers.Side.TheVariants.{Left, Right}
use Rattle.hj_msg.specs.declared.message.Msg.{Msg}
use Rattle.hj_msg.specs.declared.message.Msg.TheVariants.{R, EndS, ExpS, QuietL, CloseL, S, EndR, ExpR, QuietR, CloseR}
use Rattle.hj_driver.specs.declared.closes.Closes.{Closes}
use Rattle.hj_driver.specs.declared.closes.Closes.TheVariants.{Unsent, Sent}
use Rattle.hj_driver.specs.declared.lane.Departure.{Departure}
use Rattle.hj_driver.specs.declared.lane.Departure.TheVariants.{Row, End}
use Rattle.hj_driver.specs.declared.lane.OutstandingArrival.{OutstandingArrival}
use Rattle.hj_driver.specs.Leaving.{LeavingState}
use Rattle.hj_driver.specs.Lane.{LaneState, after_departure, is_other, with_departure, is_taken, waits_for}
use Rattle.hj_driver.specs.Driver.{DriverState, HasRoom, after_take, after_close_taken, awaits, awaits_close, is_awaited}

abbrev pub state : ℕ → List OutstandingArrival → List EventNo → List OutstandingArrival → List EventNo → List EventNo → List EventNo
    → Closes → DriverState
state flight la le ra re lq rq closes = record { flight = flight; left_arrivals = la; left_expiries = le; right_arrivals = ra; right_expiries = re; left_quiets = lq; right_quiets = rq; closes = closes }

pub filter_map-some : {X : Type 0} (l : List X) → filter_map (λ x. Some x) l ≡ l
filter_map-some [] = refl
filter_map-some {X} (x ∷ xs) = ap (λ (ys : List X). x ∷ ys) (filter_map-some xs)

pub filter-true : {X : Type 0} (l : List X) → filter (λ x. true) l ≡ l
filter-true [] = refl
filter-true {X} (x ∷ xs) = ap (λ (ys : List X). x ∷ ys) (filter-true xs)

fewer : {X : Type 0} (o : Option X) (l : List X) (n : ℕ) → length l ≤ n → length (cons_option o l) ≤ suc n
fewer None l n low = omega arith
fewer (Some x) l n low = omega arith

kept : {X : Type 0} (b : Bool) (x : X) (l : List X) (n : ℕ) → length l ≤ n → length (cond b (x ∷ l) l) ≤ suc n
kept true x l n low = omega arith
kept false x l n low = omega arith

abbrev pub with_arrivals : (List OutstandingArrival → List OutstandingArrival) → LaneState → LaneState
with_arrivals f lane = record lane { arrivals = f lane.arrivals }

abbrev pub with_expiries : (List EventNo → List EventNo) → LaneState → LaneState
with_expiries f lane = record lane { expiries = f lane.expiries }

abbrev pub with_numbers : (List EventNo → List EventNo) → LeavingState → LeavingState
with_numbers f leaving = record leaving { numbers = f leaving.numbers }

-- what a message changes, where it and what was kept before it are known by equations
pub taken : {P : Type 0} {m known : Msg P} {old kept new : DriverState} (port : Side) → m ≡ known → kept ≡ old
    → new ≡ after_take port known kept → new ≡ after_take port m old
taken {P} {known = known} {old = old} port is_known is_old is =
    is ∙ ap (λ (d : DriverState). after_take port known d) is_old ∙ ap (λ (x : Msg P). after_take port x old) (sym is_known)

-- no other message changes anything
idle : (d : DriverState) → d ≡ state d.flight (filter_map (λ x. Some x) d.left_arrivals) (filter (λ x. true) d.left_expiries) (filter_map (λ x. Some x) d.right_arrivals) (filter (λ x. true) d.right_expiries) (filter (λ x. true) d.left_quiets) (filter (λ x. true) d.right_quiets) d.closes
idle d = simp (filter-true, filter_map-some) refl

pub at_left-other : {P : Type 0} (m : Msg P) (d : DriverState) → ((at : EventNo) (row : P) → m ≡ S at row → ⊥) → ((at : EventNo) → m ≡ EndR at → ⊥) → ((of : EventNo) → m ≡ ExpR of → ⊥) → ((at : EventNo) → m ≡ QuietR at → ⊥) → (m ≡ CloseR → ⊥) → d ≡ after_take Left m d
at_left-other (S at row) d no_S no_EndR no_ExpR no_QuietR no_CloseR = absurd (no_S at row refl)
at_left-other (EndR at) d no_S no_EndR no_ExpR no_QuietR no_CloseR = absurd (no_EndR at refl)
at_left-other (ExpR of) d no_S no_EndR no_ExpR no_QuietR no_CloseR = absurd (no_ExpR of refl)
at_left-other (QuietR at) d no_S no_EndR no_ExpR no_QuietR no_CloseR = absurd (no_QuietR at refl)
at_left-other CloseR d no_S no_EndR no_ExpR no_QuietR no_CloseR = absurd (no_CloseR refl)
at_left-other m d no_S no_EndR no_ExpR no_QuietR no_CloseR = idle d

pub at_right-other : {P : Type 0} (m : Msg P) (d : DriverState) → ((at : EventNo) (row : P) → m ≡ R at row → ⊥) → ((at : EventNo) → m ≡ EndS at → ⊥) → ((of : EventNo) → m ≡ ExpS of → ⊥) → ((at : EventNo) → m ≡ QuietL at → ⊥) → (m ≡ CloseL → ⊥) → d ≡ after_take Right m d
at_right-other (R at row) d no_R no_EndS no_ExpS no_QuietL no_CloseL = absurd (no_R at row refl)
at_right-other (EndS at) d no_R no_EndS no_ExpS no_QuietL no_CloseL = absurd (no_EndS at refl)
at_right-other (ExpS of) d no_R no_EndS no_ExpS no_QuietL no_CloseL = absurd (no_ExpS of refl)
at_right-other (QuietL at) d no_R no_EndS no_ExpS no_QuietL no_CloseL = absurd (no_QuietL at refl)
at_right-other CloseL d no_R no_EndS no_ExpS no_QuietL no_CloseL = absurd (no_CloseL refl)
at_right-other m d no_R no_EndS no_ExpS no_QuietL no_CloseL = idle d

-- nothing becomes more
pub length-filter_map : {X : Type 0} (f : X → Option X) (l : List X) → length (filter_map f l) ≤ length l
length-filter_map f [] = omega arith
length-filter_map f (x ∷ xs) = fewer (f x) (filter_map f xs) (length xs) (length-filter_map f xs)

pub length-filter : {X : Type 0} (p : X → Bool) (l : List X) → length (filter p l) ≤ length l
length-filter p [] = omega arith
length-filter {X} p (x ∷ xs) = kept (p x) x (filter p xs) (length xs) (length-filter p xs)

-- so a lane has no more events than before, and as much room
pub record HasNoMore (before after : LaneState) : Type 0 where
  pub fewer : length after.arrivals + length after.expiries ≤ length before.arrivals + length before.expiries
  pub room : after.room ≡ before.room

pub fewer_arrivals : (f : OutstandingArrival → Option OutstandingArrival) (before after : LaneState) → after ≡ with_arrivals (filter_map f) before → HasNoMore before after
fewer_arrivals f before after e = record {
  fewer = omega (arith, ap (λ (l : LaneState). length l.arrivals) e, ap (λ (l : LaneState). length l.expiries) e, length-filter_map f before.arrivals);
  room = ap (λ (l : LaneState). l.room) e;
}

pub fewer_expiries : (p : EventNo → Bool) (before after : LaneState) → after ≡ with_expiries (filter p) before → HasNoMore before after
fewer_expiries p before after e = record {
  fewer = omega (arith, ap (λ (l : LaneState). length l.arrivals) e, ap (λ (l : LaneState). length l.expiries) e, length-filter p before.expiries);
  room = ap (λ (l : LaneState). l.room) e;
}

pub record LeavesNoMore (before after : LeavingState) : Type 0 where
  pub fewer : length after.numbers ≤ length before.numbers
  pub room : after.room ≡ before.room

pub fewer_numbers : (p : EventNo → Bool) (before after : LeavingState) → after ≡ with_numbers (filter p) before → LeavesNoMore before after
fewer_numbers p before after e = record {
  fewer = omega (arith, ap (λ (l : LeavingState). length l.numbers) e, length-filter p before.numbers);
  room = ap (λ (l : LeavingState). l.room) e;
}

pub same_lane : {lane : LaneState} → HasNoMore lane lane
same_lane = record { fewer = omega arith; room = refl }

pub same_leaving : {leaving : LeavingState} → LeavesNoMore leaving leaving
same_leaving = record { fewer = omega arith; room = refl }

pub room_stays : {flight : ℕ} {l r l2 r2 : LaneState} {lq rq lq2 rq2 : LeavingState} → HasRoom flight l r lq rq → HasNoMore l l2
    → HasNoMore r r2 → LeavesNoMore lq lq2 → LeavesNoMore rq rq2 → HasRoom flight l2 r2 lq2 rq2
room_stays room left right left_quiets right_quiets = record {
  left_room = left.room ∙ room.left_room;
  right_room = right.room ∙ room.right_room;
  left_quiets_room = left_quiets.room ∙ room.left_quiets_room;
  right_quiets_room = right_quiets.room ∙ room.right_quiets_room;
  few = omega arith;
  small = room.small;
}

-- a message that isn't awaited changes nothing
neither : (a b : Bool) → a || b ≡ false → (a ≡ false) × (b ≡ false)
neither true b none = absurd (false≢true (sym none))
neither false b none = (refl, none)

not_waited-if : (same : Bool) (departure : Departure) (a : OutstandingArrival) (taken : Option Departure) → same && not (is_taken departure taken) ≡ false → cond same (with_departure departure a taken) (Some a) ≡ Some a
not_waited-if false departure a taken unwaited = refl
not_waited-if true departure a None unwaited = absurd (false≢true (sym unwaited))
not_waited-if true Row a (Some Row) unwaited = refl
not_waited-if true Row a (Some End) unwaited = absurd (false≢true (sym unwaited))
not_waited-if true End a (Some Row) unwaited = absurd (false≢true (sym unwaited))
not_waited-if true End a (Some End) unwaited = refl

not_waited : (number : ℕ) (departure : Departure) (a : OutstandingArrival) → waits_for number departure a ≡ false → after_departure number departure a ≡ Some a
not_waited number departure a unwaited = not_waited-if (number == a.no.0) departure a a.taken unwaited

unwaited_arrivals : (number : ℕ) (departure : Departure) (l : List OutstandingArrival) → list_any (waits_for number departure) l ≡ false → filter_map (after_departure number departure) l ≡ l
unwaited_arrivals number departure [] none = refl
unwaited_arrivals number departure (a ∷ l) none =
    let w = neither (waits_for number departure a) (list_any (waits_for number departure) l) none in
    ap (λ o. cons_option o (filter_map (after_departure number departure) l)) (not_waited number departure a w.0) ∙ ap (λ (ys : List OutstandingArrival). a ∷ ys) (unwaited_arrivals number departure l w.1)

unwaited_numbers : (number : ℕ) (l : List EventNo) → is_awaited number l ≡ false → filter (is_other number) l ≡ l
unwaited_numbers number [] none = refl
unwaited_numbers number (of ∷ l) none =
    let w = neither (number == of.0) (is_awaited number l) none in
    ap (λ b. cond (not b) (of ∷ filter (is_other number) l) (filter (is_other number) l)) w.0 ∙ ap (λ (ys : List EventNo). of ∷ ys) (unwaited_numbers number l w.1)

unwaited_close : (end : Side) (c : Closes) → awaits_close end c ≡ false → after_close_taken end c ≡ c
unwaited_close Left Unsent none = refl
unwaited_close Right Unsent none = refl
unwaited_close Left (Sent true right) none = refl
unwaited_close Left (Sent false right) none = absurd (false≢true (sym none))
unwaited_close Right (Sent left true) none = refl
unwaited_close Right (Sent left false) none = absurd (false≢true (sym none))

is_false : (b : Bool) → (IsTrue b → ⊥) → b ≡ false
is_false true never = absurd (never refl)
is_false false never = refl

pub unawaited : {P : Type 0} (port : Side) (m : Msg P) (d : DriverState) → (IsTrue (awaits port m d) → ⊥) → after_take port m d ≡ d
unawaited Left (S at row) d never = simp (filter-true, filter_map-some) (ap (λ x. let changed : DriverState = record d { right_arrivals = x } in changed) (unwaited_arrivals at.0 Row d.right_arrivals (is_false _ never)))
unawaited Left (EndR at) d never = simp (filter-true, filter_map-some) (ap (λ x. let changed : DriverState = record d { left_arrivals = x } in changed) (unwaited_arrivals at.0 End d.left_arrivals (is_false _ never)))
unawaited Left (ExpR of) d never = simp (filter-true, filter_map-some) (ap (λ x. let changed : DriverState = record d { left_expiries = x } in changed) (unwaited_numbers of.0 d.left_expiries (is_false _ never)))
unawaited Left (QuietR at) d never = simp (filter-true, filter_map-some) (ap (λ x. let changed : DriverState = record d { right_quiets = x } in changed) (unwaited_numbers at.0 d.right_quiets (is_false _ never)))
unawaited Left CloseR d never = simp (filter-true, filter_map-some) (ap (λ x. let changed : DriverState = record d { closes = x } in changed) (unwaited_close Right d.closes (is_false _ never)))
unawaited Right (R at row) d never = simp (filter-true, filter_map-some) (ap (λ x. let changed : DriverState = record d { left_arrivals = x } in changed) (unwaited_arrivals at.0 Row d.left_arrivals (is_false _ never)))
unawaited Right (EndS at) d never = simp (filter-true, filter_map-some) (ap (λ x. let changed : DriverState = record d { right_arrivals = x } in changed) (unwaited_arrivals at.0 End d.right_arrivals (is_false _ never)))
unawaited Right (ExpS of) d never = simp (filter-true, filter_map-some) (ap (λ x. let changed : DriverState = record d { right_expiries = x } in changed) (unwaited_numbers of.0 d.right_expiries (is_false _ never)))
unawaited Right (QuietL at) d never = simp (filter-true, filter_map-some) (ap (λ x. let changed : DriverState = record d { left_quiets = x } in changed) (unwaited_numbers at.0 d.left_quiets (is_false _ never)))
unawaited Right CloseL d never = simp (filter-true, filter_map-some) (ap (λ x. let changed : DriverState = record d { closes = x } in changed) (unwaited_close Left d.closes (is_false _ never)))
unawaited port m d never = sym (idle d)
