-- What a core keeps, it was handed.
use Rattle.std.proofs.Common.{◌≡◌, ℕ, Bool, true, false, cond, not, ◌==◌, ◌⊎◌, inl, inr, List, [], ◌∷◌, fold, Contains, ap, subst}
use Rattle.hj_base.specs.declared.numbers.Side.{Side}
use Rattle.hj_base.specs.declared.numbers.Side.TheVariants.{Left, Right}
use Rattle.hj_msg.specs.declared.message.Msg.{Msg}
use Rattle.hj_msg.specs.declared.message.Msg.TheVariants.{R, AckS, EndS, ExpS, S, EndR, ExpR}
use Rattle.hj_msg.specs.Store.{Resting, with_element, with_settled, without_entry, settled_if}
use Rattle.hj_msg.specs.Core.{State, InFlight, empty_state, after, is_home, is_last, with_home_row, state_after}
use Rattle.hj_msg.proofs.Members.{Contains-nil, Contains-head, Contains-cons, Contains-cons_cases, Contains-from_filter, Contains-from_map}
use Rattle.hj_msg.proofs.Sides.{row_message, resting}

element_origin : {X : Type 0} (of : X → ℕ) (x y : X) (rows : List X) → Contains (with_element of x rows) y → (x ≡ y) ⊎ Contains rows y
element_origin of x y [] h = elim (Contains-cons_cases x y [] h) [ inl e ↦ inl e | inr k ↦ absurd (Contains-nil y k) ]
element_origin {X} of x y (z ∷ rows) h = go (of z == of x) h (element_origin of x y rows)
  where
    go : (b : Bool) → Contains (cond b (x ∷ rows) (z ∷ with_element of x rows)) y → (Contains (with_element of x rows) y → (x ≡ y) ⊎ Contains rows y) → (x ≡ y) ⊎ Contains (z ∷ rows) y
    go true h deeper = elim (Contains-cons_cases x y rows h) [ inl e ↦ inl e | inr k ↦ inr (Contains-cons z y rows k) ]
    go false h deeper = elim (Contains-cons_cases z y (with_element of x rows) h) [
      | inl e ↦ inr (subst (λ w. Contains (z ∷ rows) w) e (Contains-head z rows))
      | inr k ↦ elim (deeper k) [ inl e ↦ inl e | inr l ↦ inr (Contains-cons z y rows l) ]
    ]

fly_origin_step : {P : Type 0} (place n : ℕ) (state : State P) (m : Msg P) (x : InFlight P) → Contains (after place n state m).in_flight x → Contains state.in_flight x ⊎ (m ≡ S (record { 0 = x.no }) x.row)
fly_origin_step {P} place n state (S at row) x h = go (place == 0) h
  where
    go : (b : Bool) → Contains (cond b state.in_flight (with_element (λ flying. flying.no) (record { no = at.0; row = row }) state.in_flight)) x → Contains state.in_flight x ⊎ (S at row ≡ S (record { 0 = x.no }) x.row)
    go true h = inl h
    go false h = elim (element_origin (λ flying. flying.no) (record { no = at.0; row = row }) x state.in_flight h) [
      | inl e ↦ inr (ap (λ (flying : InFlight P). S (record { 0 = flying.no }) flying.row) e)
      | inr k ↦ inl k
    ]
fly_origin_step place n state (AckS at) x h = inl (Contains-from_filter (λ flying. not (flying.no == at.0)) state.in_flight x h).0
fly_origin_step place n state other x h = inl h

fly_origin_from : {P : Type 0} (place n : ℕ) (state : State P) (ms : List (Msg P)) (x : InFlight P) → Contains (fold (after place n) state ms).in_flight x → Contains state.in_flight x ⊎ Contains ms (S (record { 0 = x.no }) x.row)
fly_origin_from place n state [] x h = inl h
fly_origin_from place n state (m ∷ ms) x h = elim (fly_origin_from place n (after place n state m) ms x h) [
  | inr k ↦ inr (Contains-cons m (S (record { 0 = x.no }) x.row) ms k)
  | inl k ↦ elim (fly_origin_step place n state m x k) [
    | inl l ↦ inl l
    | inr e ↦ inr (subst (λ w. Contains (m ∷ ms) w) e (Contains-head m ms))
  ]
]

pub fly_origin : {P : Type 0} (place n : ℕ) (ms : List (Msg P)) (x : InFlight P) → Contains (state_after place n ms).in_flight x → Contains ms (S (record { 0 = x.no }) x.row)
fly_origin place n ms x h = elim (fly_origin_from place n empty_state ms x h) [ inl k ↦ absurd (Contains-nil x k) | inr k ↦ k ]

-- a row of this number rests here, settled or not
abbrev Rests : {P : Type 0} → ℕ → P → List (Resting P) → Type 0
Rests at row rows = (settled : Bool) × Contains rows (record { no = at; row = row; settled = settled })

-- the rows at rest
rest_settled : {P : Type 0} (at num : ℕ) (row : P) (rows : List (Resting P)) → Rests num row (with_settled at rows) → Rests num row rows
rest_settled {P} at num row rows h =
    let found = Contains-from_map (settled_if at) rows (record { no = num; row = row; settled = h.0 }) h.1 in
    let same : Rests (settled_if at found.0).no (settled_if at found.0).row rows = (found.0.settled, found.1) in
    subst (λ (entry : Resting P). Rests entry.no entry.row rows) found.2 same

rest_without : {P : Type 0} (at num : ℕ) (row : P) (rows : List (Resting P)) → Rests num row (without_entry at rows) → Rests num row rows
rest_without at num row rows h = (h.0, (Contains-from_filter (λ entry. not (entry.no == at)) rows (record { no = num; row = row; settled = h.0 }) h.1).0)

rest_home : {P : Type 0} (home : Bool) (entry : Resting P) (num : ℕ) (row : P) (rows : List (Resting P)) → Rests num row (with_home_row home entry rows) → Rests num row rows ⊎ (entry.no ≡ num) × (entry.row ≡ row)
rest_home true entry num row rows h = elim (element_origin (λ other. other.no) entry (record { no = num; row = row; settled = h.0 }) rows h.1) [
  | inl e ↦ inr (ap (λ entry. entry.no) e, ap (λ entry. entry.row) e)
  | inr k ↦ inl (h.0, k)
]
rest_home false entry num row rows h = inl h

rest_origin_step : {P : Type 0} (side : Side) (place n : ℕ) (state : State P) (m : Msg P) (num : ℕ) (row : P) → Rests num row (resting side (after place n state m)) → Rests num row (resting side state) ⊎ (m ≡ row_message side (record { 0 = num }) row)
rest_origin_step Left place n state (R at other) num row h = elim (rest_home (is_home place n at.0) (record { no = at.0; row = other; settled = is_last place n }) num row state.left h) [
  | inl k ↦ inl k
  | inr k ↦ inr (λ i. R (record { 0 = k.0 i }) (k.1 i))
]
rest_origin_step Left place n state (EndR at) num row h = inl (rest_settled at.0 num row state.left h)
rest_origin_step Left place n state (ExpR at) num row h = inl (rest_without at.0 num row state.left h)
rest_origin_step Left place n state other num row h = inl h
rest_origin_step Right place n state (S at other) num row h = elim (rest_home (is_home place n at.0) (record { no = at.0; row = other; settled = place == 0 }) num row state.right h) [
  | inl k ↦ inl k
  | inr k ↦ inr (λ i. S (record { 0 = k.0 i }) (k.1 i))
]
rest_origin_step Right place n state (EndS at) num row h = inl (rest_settled at.0 num row state.right h)
rest_origin_step Right place n state (ExpS at) num row h = inl (rest_without at.0 num row state.right h)
rest_origin_step Right place n state other num row h = inl h

rest_origin_from : {P : Type 0} (side : Side) (place n : ℕ) (state : State P) (ms : List (Msg P)) (num : ℕ) (row : P) → Rests num row (resting side (fold (after place n) state ms)) → Rests num row (resting side state) ⊎ Contains ms (row_message side (record { 0 = num }) row)
rest_origin_from side place n state [] num row h = inl h
rest_origin_from side place n state (m ∷ ms) num row h = elim (rest_origin_from side place n (after place n state m) ms num row h) [
  | inr k ↦ inr (Contains-cons m (row_message side (record { 0 = num }) row) ms k)
  | inl k ↦ elim (rest_origin_step side place n state m num row k) [
    | inl l ↦ inl l
    | inr e ↦ inr (subst (λ w. Contains (m ∷ ms) w) e (Contains-head m ms))
  ]
]

nothing_rests : {P : Type 0} (side : Side) (num : ℕ) (row : P) → Rests num row (resting side (empty_state {P = P})) → ⊥
nothing_rests Left num row h = Contains-nil (record { no = num; row = row; settled = h.0 }) h.1
nothing_rests Right num row h = Contains-nil (record { no = num; row = row; settled = h.0 }) h.1

pub rest_origin : {P : Type 0} (side : Side) (place n : ℕ) (ms : List (Msg P)) (entry : Resting P) → Contains (resting side (state_after place n ms)) entry → Contains ms (row_message side (record { 0 = entry.no }) entry.row)
rest_origin side place n ms entry h = elim (rest_origin_from side place n empty_state ms entry.no entry.row (entry.settled, h)) [ inl k ↦ absurd (nothing_rests side entry.no entry.row k) | inr k ↦ k ]
