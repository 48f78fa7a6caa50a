-- The windows of the sequential join: each has the rows of its side that arrived and haven't expired, by ascending number.
use Rattle.std.proofs.Common.{◌≡◌, ℕ, ◌<◌, ◌↔◌, inl, inr, Bool, true, not, ◌==◌, List, [], ◌∷◌, ◌++◌, length, append_assoc, append-nil, Contains, arith, refl, sym, ap, ap₂, subst, ◌∙◌, tests}
use Rattle.std.proofs.lemmas.List.Elements.{Contains-append_left, Contains-push, Contains-push_cases}
use Rattle.hj_base.specs.declared.numbers.EventNo.{EventNo}
use Rattle.hj_base.specs.declared.numbers.Side.{Side}
use Rattle.hj_base.specs.declared.numbers.Side.TheVariants.{Left, Right}
use Rattle.hj_msg.specs.declared.event.Event.{Event}
use Rattle.hj_msg.specs.declared.event.Event.TheVariants.{Arrive, Expire, Quiet}
use Rattle.hj_msg.specs.Event.{number, Arrives, Expires, IsWellFormed}
use Rattle.hj_msg.specs.Kang.{Held, Windows, no_rows, without, after, windows_from, windows_after, listed, kang_from, kang}
use Rattle.hj_msg.proofs.Members.{Contains-nil, Contains-filter, Contains-from_filter, Ranked, Ranked-push, Ranked-filter}
use Rattle.hj_msg.proofs.Numbered.{number_below, same_number, number-last, NamesLive-last, front_is_well_formed, Expires-below}

-- the join over the first events begins the join over all
pub kang_from-append : {P : Type 0} (matches : P → P → Bool) (windows : Windows P) (front rest : List (Event P)) → kang_from matches windows (front ++ rest) ≡ kang_from matches windows front ++ kang_from matches (windows_from windows front) rest
kang_from-append matches windows [] rest = refl
kang_from-append matches windows (event ∷ front) rest =
    ap (λ pairs. listed matches windows event ++ pairs) (kang_from-append matches (after windows event) front rest)
    ∙ sym (append_assoc (listed matches windows event) (kang_from matches (after windows event) front) (kang_from matches (windows_from (after windows event) front) rest))

pub join_of_both : {P : Type 0} (matches : P → P → Bool) (front rest : List (Event P)) → kang matches (front ++ rest) ≡ kang matches front ++ kang_from matches (windows_after front) rest
join_of_both matches front rest = kang_from-append matches no_rows front rest

pub windows_from-append : {P : Type 0} (windows : Windows P) (front rest : List (Event P)) → windows_from windows (front ++ rest) ≡ windows_from (windows_from windows front) rest
windows_from-append windows [] rest = refl
windows_from-append windows (event ∷ front) rest = windows_from-append (after windows event) front rest

-- what the join lists at one event more
pub kang-push : {P : Type 0} (matches : P → P → Bool) (front : List (Event P)) (event : Event P) → kang matches (front ++ event ∷ []) ≡ kang matches front ++ listed matches (windows_after front) event
kang-push matches front event = join_of_both matches front (event ∷ []) ∙ ap (λ pairs. kang matches front ++ pairs) (append-nil (listed matches (windows_after front) event))

-- an event whose number is below that of the last one is among those before it
pub among_front : {P : Type 0} (front : List (Event P)) (event found : Event P) → IsWellFormed (front ++ event ∷ []) → Contains (front ++ event ∷ []) found → number found < length front → Contains front found
among_front front event found h k below = elim (Contains-push_cases front event found k) [ inl m ↦ m | inr e ↦ absurd (omega (arith, number-last front event h, ap number e)) ]

-- an event that differs from the last one is among those before it
pub before_last : {X : Type 0} (front : List X) (last found : X) → (last ≡ found → ⊥) → Contains (front ++ last ∷ []) found → Contains front found
before_last front last found differs h = elim (Contains-push_cases front last found h) [ inl k ↦ k | inr e ↦ absurd (differs e) ]

-- a row that arrived and hasn't expired
abbrev pub IsLive : {P : Type 0} → List (Event P) → Side → Held P → Type 0
IsLive events side held = Arrives events side held.no held.row × ((at : ℕ) → ¬ (Expires events held.no at))

-- a window of a side has exactly the side's live rows, by ascending number
pub record IsWindow {P : Type 0} (events : List (Event P)) (side : Side) (window : List (Held P)) : Type 0 where
  pub exact : (held : Held P) → Contains window held ↔ IsLive events side held
  pub rising : Ranked (λ (x y : Held P). x.no < y.no) window

pub IsWindow-none : {P : Type 0} (side : Side) → IsWindow {P = P} [] side []
IsWindow-none side = record { exact = λ held. (λ h. absurd (Contains-nil held h), λ h. absurd (Contains-nil _ h.0)); rising = tt }

-- a row that is live stays so at an event that isn't its expiry
live_on : {P : Type 0} (front : List (Event P)) (event : Event P) (side : Side) (held : Held P) → ((at : ℕ) (gone : Side) → event ≡ Expire (record { 0 = at }) gone (record { 0 = held.no }) → ⊥) → IsLive front side held → IsLive (front ++ event ∷ []) side held
live_on front event side held stays h = (
  Contains-append_left front (event ∷ []) (Arrive (record { 0 = held.no }) side held.row) h.0,
  λ at expiry. h.1 at (expiry.0, before_last front event (Expire (record { 0 = at }) expiry.0 (record { 0 = held.no })) (stays at expiry.0) expiry.1),
)

-- a row that is live was so before an event that isn't its arrival
live_before : {P : Type 0} (front : List (Event P)) (event : Event P) (side : Side) (held : Held P) → (event ≡ Arrive (record { 0 = held.no }) side held.row → ⊥) → IsLive (front ++ event ∷ []) side held → IsLive front side held
live_before front event side held differs h = (
  before_last front event (Arrive (record { 0 = held.no }) side held.row) differs h.0,
  λ at expiry. h.1 at (expiry.0, Contains-append_left front (event ∷ []) (Expire (record { 0 = at }) expiry.0 (record { 0 = held.no })) expiry.1),
)

pub IsWindow-below : {P : Type 0} (front : List (Event P)) (side : Side) (window : List (Held P)) (held : Held P) → IsWellFormed front → IsWindow front side window → Contains window held → held.no < length front
IsWindow-below front side window held h w k = number_below front (Arrive (record { 0 = held.no }) side held.row) h.numbered ((w.exact held).0 k).0

-- an arrival at the other side leaves a window as it is
IsWindow-other_arrival : {P : Type 0} (front : List (Event P)) (at : EventNo) (other side : Side) (row : P) (window : List (Held P)) → (other ≡ side → ⊥) → IsWindow front side window → IsWindow (front ++ Arrive at other row ∷ []) side window
IsWindow-other_arrival front at other side row window differs w = record {
  exact = λ held. (
    λ k. live_on front (Arrive at other row) side held (λ x gone e. cc) ((w.exact held).0 k),
    λ live. (w.exact held).1 (live_before front (Arrive at other row) side held (λ e. differs (cc)) live),
  );
  rising = w.rising;
}

-- a row that arrives is live
live_first : {P : Type 0} (front : List (Event P)) (at : EventNo) (side : Side) (row : P) → IsWellFormed (front ++ Arrive at side row ∷ []) → IsLive (front ++ Arrive at side row ∷ []) side (record { no = at.0; row = row })
live_first front at side row h = (
  Contains-push front (Arrive at side row),
  λ x expiry. let before = before_last front (Arrive at side row) (Expire (record { 0 = x }) expiry.0 at) (λ e. cc) expiry.1 in
      omega (arith, Expires-below front at.0 x (front_is_well_formed front (Arrive at side row ∷ []) h) (expiry.0, before), number-last front (Arrive at side row) h),
)

abbrev held_at : {P : Type 0} → EventNo → P → Held P
held_at at row = record { no = at.0; row = row }

-- equal arrivals hold the same row under the same number
held_is : {P : Type 0} (at : EventNo) (side : Side) (row : P) (held : Held P) → Arrive at side row ≡ Arrive (record { 0 = held.no }) side held.row → record { no = at.0; row = row } ≡ held
held_is at side row held e =
    let same_at : at ≡ record { 0 = held.no } = cc in
    let same_row : row ≡ held.row = cc in
    ap₂ held_at same_at same_row

-- equal expiries name the same number
named : {P : Type 0} (at of : EventNo) (side gone : Side) (x y : ℕ) → ◌≡◌ {A = Event P} (Expire at side of) (Expire (record { 0 = x }) gone (record { 0 = y })) → of.0 ≡ y
named at of side gone x y e = cc

differ : (a b : ℕ) → not (a == b) ≡ true → a ≡ b → ⊥
differ a b t e = grind (arith, tests)

differ_test : (a b : ℕ) → (a ≡ b → ⊥) → not (a == b) ≡ true
differ_test a b e = grind (arith, tests)

-- an expiry at the other side isn't that of a row of this one
other_side : {P : Type 0} (front : List (Event P)) (at of : EventNo) (other side : Side) (held : Held P) (gone : Side) (x : ℕ) → (other ≡ side → ⊥) → IsWellFormed (front ++ Expire at other of ∷ []) → ◌≡◌ {A = Event P} (Expire at other of) (Expire (record { 0 = x }) gone (record { 0 = held.no })) → Arrives front side held.no held.row → ⊥
other_side {P} front at of other side held gone x differs h e arrived =
    let named_row = (NamesLive-last front (Expire at other of) h).0 in
    let same = same_number front (Arrive of other named_row.0) (Arrive (record { 0 = held.no }) side held.row) (front_is_well_formed front (Expire at other of ∷ []) h).numbered named_row.1 arrived (named {P = P} at of other gone x held.no e) in
    differs (cc)

-- an arrival comes in last
IsWindow-arrival : {P : Type 0} (front : List (Event P)) (at : EventNo) (side : Side) (row : P) (window : List (Held P)) → IsWellFormed (front ++ Arrive at side row ∷ []) → IsWindow front side window → IsWindow (front ++ Arrive at side row ∷ []) side (window ++ record { no = at.0; row = row } ∷ [])
IsWindow-arrival front at side row window h w = record {
  exact = λ held. (
    λ k. elim (Contains-push_cases window (record { no = at.0; row = row }) held k) [
      | inl m ↦ live_on front (Arrive at side row) side held (λ x gone e. cc) ((w.exact held).0 m)
      | inr e ↦ subst (λ x. IsLive (front ++ Arrive at side row ∷ []) side x) e (live_first front at side row h)
    ],
    λ live. elim (Contains-push_cases front (Arrive at side row) (Arrive (record { 0 = held.no }) side held.row) live.0) [
      | inl m ↦ Contains-append_left window (record { no = at.0; row = row } ∷ []) held ((w.exact held).1 (m, λ x expiry. live.1 x (expiry.0, Contains-append_left front (Arrive at side row ∷ []) (Expire (record { 0 = x }) expiry.0 (record { 0 = held.no })) expiry.1)))
      | inr e ↦ subst (λ x. Contains (window ++ record { no = at.0; row = row } ∷ []) x) (held_is at side row held e) (Contains-push window (record { no = at.0; row = row }))
    ],
  );
  rising = Ranked-push (λ x y. x.no < y.no) window (record { no = at.0; row = row }) w.rising
      (λ x k. omega (arith, IsWindow-below front side window x (front_is_well_formed front (Arrive at side row ∷ []) h) w k, number-last front (Arrive at side row) h));
}

-- an expiry at the other side leaves a window as it is
IsWindow-other_expiry : {P : Type 0} (front : List (Event P)) (at of : EventNo) (other side : Side) (window : List (Held P)) → (other ≡ side → ⊥) → IsWellFormed (front ++ Expire at other of ∷ []) → IsWindow front side window → IsWindow (front ++ Expire at other of ∷ []) side window
IsWindow-other_expiry front at of other side window differs h w = record {
  exact = λ held. (
    λ k. live_on front (Expire at other of) side held (λ x gone e. other_side front at of other side held gone x differs h e ((w.exact held).0 k).0) ((w.exact held).0 k),
    λ live. (w.exact held).1 (live_before front (Expire at other of) side held (λ e. cc) live),
  );
  rising = w.rising;
}

-- an expiry takes its row out
IsWindow-expiry : {P : Type 0} (front : List (Event P)) (at of : EventNo) (side : Side) (window : List (Held P)) → IsWindow front side window → IsWindow (front ++ Expire at side of ∷ []) side (without of.0 window)
IsWindow-expiry front at of side window w = record {
  exact = λ held. (
    λ k. let kept = Contains-from_filter (λ x. not (x.no == of.0)) window held k in
        live_on front (Expire at side of) side held (λ x gone e. differ (held.no) of.0 kept.1 (sym (named at of side gone x held.no e))) ((w.exact held).0 kept.0),
    λ live. Contains-filter (λ x. not (x.no == of.0)) window held ((w.exact held).1 (live_before front (Expire at side of) side held (λ e. cc) live))
        (differ_test held.no of.0 (λ e. live.1 at.0 (side, subst (λ x. Contains (front ++ Expire at side of ∷ []) (Expire at side (record { 0 = x }))) (sym e) (Contains-push front (Expire at side of))))),
  );
  rising = Ranked-filter (λ x y. x.no < y.no) (λ x. not (x.no == of.0)) window w.rising;
}

-- a quiet event leaves a window as it is
IsWindow-quiet : {P : Type 0} (front : List (Event P)) (at : EventNo) (other side : Side) (window : List (Held P)) → IsWindow front side window → IsWindow (front ++ Quiet at other ∷ []) side window
IsWindow-quiet front at other side window w = record {
  exact = λ held. (
    λ k. live_on front (Quiet at other) side held (λ x gone e. cc) ((w.exact held).0 k),
    λ live. (w.exact held).1 (live_before front (Quiet at other) side held (λ e. cc) live),
  );
  rising = w.rising;
}

-- both windows have the live rows of their sides
pub record AreWindows {P : Type 0} (events : List (Event P)) (windows : Windows P) : Type 0 where
  pub left : IsWindow events Left windows.left
  pub right : IsWindow events Right windows.right

pub AreWindows-after : {P : Type 0} (front : List (Event P)) (windows : Windows P) (event : Event P) → IsWellFormed (front ++ event ∷ []) → AreWindows front windows → AreWindows (front ++ event ∷ []) (after windows event)
AreWindows-after front windows (Arrive at Left row) h w = record {
  left = IsWindow-arrival front at Left row windows.left h w.left;
  right = IsWindow-other_arrival front at Left Right row windows.right (λ e. cc) w.right;
}
AreWindows-after front windows (Arrive at Right row) h w = record {
  left = IsWindow-other_arrival front at Right Left row windows.left (λ e. cc) w.left;
  right = IsWindow-arrival front at Right row windows.right h w.right;
}
AreWindows-after front windows (Expire at Left of) h w = record {
  left = IsWindow-expiry front at of Left windows.left w.left;
  right = IsWindow-other_expiry front at of Left Right windows.right (λ e. cc) h w.right;
}
AreWindows-after front windows (Expire at Right of) h w = record {
  left = IsWindow-other_expiry front at of Right Left windows.left (λ e. cc) h w.left;
  right = IsWindow-expiry front at of Right windows.right w.right;
}
AreWindows-after front windows (Quiet at side) h w = record {
  left = IsWindow-quiet front at side Left windows.left w.left;
  right = IsWindow-quiet front at side Right windows.right w.right;
}
