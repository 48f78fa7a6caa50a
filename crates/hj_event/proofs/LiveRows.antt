-- The live rows of a side: what an event does to them, and what stands of each in the events.
use Rattle.std.proofs.Common.{◌≡◌, ℕ, ◌⊎◌, inl, inr, Bool, true, false, not, cond, ◌&&◌, ◌||◌, ◌==◌, List, [], ◌∷◌, ◌++◌, filter, filter_map, Option, append-nil, Contains, Some, None, refl, sym, ap, subst, ◌∙◌}
use Rattle.std.specs.List.{list_any, cons_option}
use Rattle.std.proofs.lemmas.Bool.{eq-eqb, eqb-true, or_cases, false≢true, not-true, cases_Bool}
use Rattle.std.proofs.lemmas.List.Elements.{filter_map-append, filter-append, filter_agree}
use Rattle.std.proofs.lemmas.List.Folds.{list_any-append, list_any_at}
use Rattle.hj_base.specs.declared.numbers.EventNo.{EventNo}
use Rattle.hj_base.specs.declared.numbers.Side.{Side}
use Rattle.hj_base.specs.declared.numbers.Side.TheVariants.{Left, Right}
use Rattle.hj_msg.specs.declared.event.Event.{Event}
use Rattle.hj_msg.specs.declared.event.Event.TheVariants.{Arrive, Expire, Quiet}
use Rattle.hj_msg.specs.Event.{Arrives, Expires}
use Rattle.hj_msg.proofs.Members.{Contains-nil, Contains-head, Contains-cons, Contains-cons_cases, Contains-filter, Contains-from_filter}
use Rattle.hj_event.specs.Windows.{arrival_no, is_expiry_of, live_rows}

-- two sides are one, or differ
pub cases_side : (one other : Side) → (one ≡ other) ⊎ (one ≡ other → ⊥)
cases_side Left Left = inl refl
cases_side Left Right = inr (λ e. cc)
cases_side Right Left = inr (λ e. cc)
cases_side Right Right = inl refl

filter_both-head : {X : Type 0} (other : X → Bool) (x : X) (one : Bool) (kept both : List X) → both ≡ filter other kept → cond (one && other x) (x ∷ both) both ≡ filter other (cond one (x ∷ kept) kept)
filter_both-head other x true kept both e = ap (λ ys. cond (other x) (x ∷ ys) ys) e
filter_both-head other x false kept both e = e

pub filter_both : {X : Type 0} (one other both : X → Bool) → ((x : X) → both x ≡ (one x && other x)) → (xs : List X) → filter both xs ≡ filter other (filter one xs)
filter_both one other both is [] = refl
filter_both one other both is (x ∷ xs) = rw (is x) (filter_both-head other x (one x) (filter one xs) (filter both xs) (filter_both one other both is xs))

-- one of these events is the expiry of this number's row
abbrev pub has_expired : {P : Type 0} → List (Event P) → ℕ → Bool
has_expired events number = list_any (is_expiry_of number) events

-- the numbers under which rows of this side arrive
abbrev pub arrived : {P : Type 0} → Side → List (Event P) → List ℕ
arrived side events = filter_map (arrival_no side) events

arrival_no-same : {P : Type 0} (side : Side) (at : EventNo) (row : P) → arrival_no side (Arrive at side row) ≡ Some at.0
arrival_no-same Left at row = refl
arrival_no-same Right at row = refl

arrival_no-other : {P : Type 0} (side other : Side) (at : EventNo) (row : P) → (other ≡ side → ⊥) → arrival_no other (Arrive at side row) ≡ None
arrival_no-other Left Left at row h = absurd (h refl)
arrival_no-other Left Right at row h = refl
arrival_no-other Right Left at row h = refl
arrival_no-other Right Right at row h = absurd (h refl)

arrival_no-expiry : (P : Type 0) (side other : Side) (at of : EventNo) → arrival_no {P = P} other (Expire at side of) ≡ None
arrival_no-expiry P side Left at of = refl
arrival_no-expiry P side Right at of = refl

arrival_no-quiet : (P : Type 0) (side other : Side) (at : EventNo) → arrival_no {P = P} other (Quiet at side) ≡ None
arrival_no-quiet P side Left at = refl
arrival_no-quiet P side Right at = refl

arrived-none : {P : Type 0} (side : Side) (before : List (Event P)) (event : Event P) → arrival_no side event ≡ None → arrived side (before ++ event ∷ []) ≡ arrived side before
arrived-none side before event e = filter_map-append (arrival_no side) before (event ∷ []) ∙ rw e (append-nil (arrived side before))

or-last : (one other : Bool) → (one || (other || false)) ≡ (one || other)
or-last one true = refl
or-last one false = refl

pub has_expired-push : {P : Type 0} (before : List (Event P)) (event : Event P) (number : ℕ) → has_expired (before ++ event ∷ []) number ≡ (has_expired before number || is_expiry_of number event)
has_expired-push before event number = list_any-append (is_expiry_of number) before (event ∷ []) ∙ or-last (has_expired before number) (is_expiry_of number event)

or-false : (test : Bool) → (test || false) ≡ test
or-false true = refl
or-false false = refl

-- an arrival is the expiry of no row
pub has_expired-arrival : {P : Type 0} (before : List (Event P)) (at : EventNo) (side : Side) (row : P) (number : ℕ) → has_expired (before ++ Arrive at side row ∷ []) number ≡ has_expired before number
has_expired-arrival before at side row number = has_expired-push before (Arrive at side row) number ∙ or-false (has_expired before number)

-- nor is a quiet event
pub has_expired-quiet : {P : Type 0} (before : List (Event P)) (at : EventNo) (side : Side) (number : ℕ) → has_expired (before ++ Quiet at side ∷ []) number ≡ has_expired before number
has_expired-quiet before at side number = has_expired-push before (Quiet at side) number ∙ or-false (has_expired before number)

-- a row that arrives comes last, where no earlier expiry has its number
pub live_rows-arrival : {P : Type 0} (before : List (Event P)) (at : EventNo) (side : Side) (row : P) → has_expired before at.0 ≡ false → live_rows side (before ++ Arrive at side row ∷ []) ≡ live_rows side before ++ at.0 ∷ []
live_rows-arrival before at side row fresh =
    filter_agree _ (λ number. not (has_expired before number)) (λ number. ap not (has_expired-arrival before at side row number)) (arrived side (before ++ Arrive at side row ∷ []))
    ∙ (ap (λ numbers. filter (λ number. not (has_expired before number)) numbers) (filter_map-append (arrival_no side) before (Arrive at side row ∷ []) ∙ rw (arrival_no-same side at row) refl)
    ∙ (filter-append (λ number. not (has_expired before number)) (arrived side before) (at.0 ∷ []) ∙ rw fresh refl))

pub live_rows-other_arrival : {P : Type 0} (before : List (Event P)) (at : EventNo) (side other : Side) (row : P) → (other ≡ side → ⊥) → live_rows other (before ++ Arrive at side row ∷ []) ≡ live_rows other before
live_rows-other_arrival before at side other row differs =
    filter_agree _ (λ number. not (has_expired before number)) (λ number. ap not (has_expired-arrival before at side row number)) (arrived other (before ++ Arrive at side row ∷ []))
    ∙ ap (λ numbers. filter (λ number. not (has_expired before number)) numbers) (arrived-none other before (Arrive at side row) (arrival_no-other side other at row differs))

-- a quiet event changes no live row
pub live_rows-quiet : {P : Type 0} (before : List (Event P)) (at : EventNo) (side other : Side) → live_rows other (before ++ Quiet at side ∷ []) ≡ live_rows other before
live_rows-quiet {P} before at side other =
    filter_agree _ (λ number. not (has_expired before number)) (λ number. ap not (has_expired-quiet before at side number)) (arrived other (before ++ Quiet at side ∷ []))
    ∙ ap (λ numbers. filter (λ number. not (has_expired before number)) numbers) (arrived-none other before (Quiet at side) (arrival_no-quiet P side other at))

not-or : (one other : Bool) → not (one || other) ≡ (not one && not other)
not-or true other = refl
not-or false other = refl

-- an expiry takes out the number that it names
pub live_rows-expiry : {P : Type 0} (before : List (Event P)) (at of : EventNo) (side other : Side) → live_rows other (before ++ Expire at side of ∷ []) ≡ filter (λ number. not (of.0 == number)) (live_rows other before)
live_rows-expiry {P} before at of side other =
    ap (λ numbers. filter (λ number. not (has_expired (before ++ Expire at side of ∷ []) number)) numbers) (arrived-none other before (Expire at side of) (arrival_no-expiry P side other at of))
    ∙ filter_both (λ number. not (has_expired before number)) (λ number. not (of.0 == number)) _
    (λ number. ap not (has_expired-push before (Expire at side of) number) ∙ not-or (has_expired before number) (of.0 == number)) (arrived other before)

-- what is told to have expired after one expiry more
pub has_expired-cases : {P : Type 0} (before : List (Event P)) (at of : EventNo) (side : Side) (number : ℕ) → has_expired (before ++ Expire at side of ∷ []) number ≡ true → (has_expired before number ≡ true) ⊎ (of.0 ≡ number)
has_expired-cases before at of side number h = elim (or_cases (has_expired before number) (of.0 == number) (sym (has_expired-push before (Expire at side of) number) ∙ h)) [ inl e ↦ inl e | inr e ↦ inr (eqb-true of.0 number e) ]

-- an arrived number is that of an arrival
arrived-arrives : {P : Type 0} (side : Side) (events : List (Event P)) (number : ℕ) → Contains (arrived side events) number → (row : P) × Arrives events side number row
arrived-arrives side [] number h = absurd (Contains-nil number h)
arrived-arrives Left (Arrive at Left row ∷ events) number h = elim (Contains-cons_cases at.0 number (arrived Left events) h) [
  | inl e ↦ (row, subst (λ n. Contains (Arrive at Left row ∷ events) (Arrive (record { 0 = n }) Left row)) e (Contains-head (Arrive at Left row) events))
  | inr k ↦ let found = arrived-arrives Left events number k in (found.0, Contains-cons (Arrive at Left row) (Arrive (record { 0 = number }) Left found.0) events found.1)
]
arrived-arrives Right (Arrive at Right row ∷ events) number h = elim (Contains-cons_cases at.0 number (arrived Right events) h) [
  | inl e ↦ (row, subst (λ n. Contains (Arrive at Right row ∷ events) (Arrive (record { 0 = n }) Right row)) e (Contains-head (Arrive at Right row) events))
  | inr k ↦ let found = arrived-arrives Right events number k in (found.0, Contains-cons (Arrive at Right row) (Arrive (record { 0 = number }) Right found.0) events found.1)
]
arrived-arrives side (event ∷ events) number h = let found = arrived-arrives side events number h in (found.0, Contains-cons event (Arrive (record { 0 = number }) side found.0) events found.1)

behind_option : {X : Type 0} (o : Option X) (xs : List X) (x : X) → Contains xs x → Contains (cons_option o xs) x
behind_option None xs x h = h
behind_option (Some y) xs x h = Contains-cons y x xs h

-- and that of an arrival is an arrived number
arrives-arrived : {P : Type 0} (side : Side) (events : List (Event P)) (number : ℕ) (row : P) → Arrives events side number row → Contains (arrived side events) number
arrives-arrived side [] number row h = absurd (Contains-nil (Arrive (record { 0 = number }) side row) h)
arrives-arrived side (event ∷ events) number row h = elim (Contains-cons_cases event (Arrive (record { 0 = number }) side row) events h) [
  | inl e ↦ subst (λ e. Contains (cons_option (arrival_no side e) (arrived side events)) number) (sym e) (rw (arrival_no-same side (record { 0 = number }) row) (Contains-head number (arrived side events)))
  | inr k ↦ behind_option (arrival_no side event) (arrived side events) number (arrives-arrived side events number row k)
]

expired-told : {P : Type 0} (events : List (Event P)) (number at : ℕ) → Expires events number at → has_expired events number ≡ true
expired-told events number at h = list_any_at (is_expiry_of number) events h.1.0 (Expire (record { 0 = at }) h.0 (record { 0 = number })) h.1.1 (rw h.1.2 (eq-eqb number number refl))

told-expired : {P : Type 0} (events : List (Event P)) (number : ℕ) → has_expired events number ≡ true → (at : ℕ) × Expires events number at
told-expired [] number h = absurd (false≢true h)
told-expired (Arrive at side row ∷ events) number h = let found = told-expired events number h in (found.0, (found.1.0, Contains-cons _ _ events found.1.1))
told-expired (Expire at side of ∷ events) number h = elim (or_cases (of.0 == number) (has_expired events number) h) [
  | inl e ↦ (at.0, (side, subst (λ n. Contains (Expire at side of ∷ events) (Expire at side (record { 0 = n }))) (eqb-true of.0 number e) (Contains-head (Expire at side of) events)))
  | inr k ↦ let found = told-expired events number k in (found.0, (found.1.0, Contains-cons _ _ events found.1.1))
]
told-expired (Quiet at side ∷ events) number h = let found = told-expired events number h in (found.0, (found.1.0, Contains-cons _ _ events found.1.1))

-- a live row arrived, and hasn't expired
pub live_rows-live : {P : Type 0} (side : Side) (events : List (Event P)) (number : ℕ) → Contains (live_rows side events) number → ((row : P) × Arrives events side number row) × ((at : ℕ) → ¬ (Expires events number at))
live_rows-live side events number h =
    let found = Contains-from_filter (λ x. not (has_expired events x)) (arrived side events) number h in
    (arrived-arrives side events number found.0, λ at expiry. false≢true (sym (not-true (has_expired events number) found.1) ∙ expired-told events number at expiry))

-- a row that arrived and isn't live has expired
pub live_rows-rest : {P : Type 0} (side : Side) (events : List (Event P)) (number : ℕ) (row : P) → Arrives events side number row → (Contains (live_rows side events) number → ⊥) → (at : ℕ) × Expires events number at
live_rows-rest side events number row arrival absent = elim (cases_Bool (has_expired events number)) [
  | inl e ↦ told-expired events number e
  | inr e ↦ absurd (absent (Contains-filter (λ x. not (has_expired events x)) (arrived side events) number (arrives-arrived side events number row arrival) (ap not e)))
]
