-- What the marks of the cores say of their reports.
use Rattle.std.proofs.Common.{◌≡◌, ℕ, zero, suc, ◌<◌, ◌≤◌, Bool, true, false, cond, not, ◌||◌, ◌&&◌, ◌==◌, ◌⊎◌, inl, inr, List, [], ◌∷◌, fold, length, Some, None, Option, refl, ap, sym, ◌∙◌, arith, true≢false}
use Rattle.std.specs.Prelude.{slice_index_or}
use Rattle.std.specs.Option.{option_to_list}
use Rattle.std.specs.List.{list_any, flat_map, filter_map, last_or}
use Rattle.std.proofs.lemmas.Bool.Decides.{nat_tests}
use Rattle.hj_base.specs.declared.numbers.Side.{Side}
use Rattle.hj_base.specs.declared.numbers.Side.TheVariants.{Left, Right}
use Rattle.hj_msg.specs.declared.message.Msg.{Msg}
use Rattle.hj_msg.specs.declared.message.Msg.TheVariants.{R, QuietL, CloseL, S, QuietR, CloseR}
use Rattle.hj_msg.specs.declared.message.Report.{Report}
use Rattle.hj_msg.specs.declared.message.Report.TheVariants.{Handled, Quiet, Ended, NoMemory}
use Rattle.hj_msg.specs.Punctuation.{Mark, up_to, all, told_up_to, tells, is_end, mark_of, lesser}
use Rattle.hj_msg.specs.Emission.{is_within}
use Rattle.hj_msg.specs.Core.{State, report}
use Rattle.hj_msg.proofs.Sides.{is_quiet, is_mark}

lesser_within : (a b : Option Mark) (n : ℕ) → is_within (lesser a b) n ≡ true → (is_within a n ≡ true) × (is_within b n ≡ true)
lesser_within (Some (up_to a)) (Some (up_to b)) n h = (grind (arith, nat_tests, h), grind (arith, nat_tests, h))
lesser_within (Some (up_to a)) (Some all) n h = (h, refl)
lesser_within (Some all) (Some (up_to b)) n h = (refl, h)
lesser_within (Some all) (Some all) n h = (refl, refl)
lesser_within None b n h = absurd (true≢false (sym h))
lesser_within (Some (up_to a)) None n h = absurd (true≢false (sym h))
lesser_within (Some all) None n h = absurd (true≢false (sym h))

-- what is within the punctuation is within each mark
pub marks_from : {P : Type 0} (n : ℕ) (mark : Option Mark) (lists : List (List (Report P)))
    → is_within (fold lesser mark (flat_map (λ reports. mark_of Left reports ∷ mark_of Right reports ∷ []) lists)) n ≡ true
    → (is_within mark n ≡ true) × ((k : ℕ) → k < length lists → (is_within (mark_of Left (slice_index_or lists k [])) n ≡ true) × (is_within (mark_of Right (slice_index_or lists k [])) n ≡ true))
marks_from n mark [] h = (h, λ k low. absurd (omega (arith, low)))
marks_from {P} n mark (rs ∷ lists) h =
    let later = marks_from n (lesser (lesser mark (mark_of Left rs)) (mark_of Right rs)) lists h in
    let right = lesser_within (lesser mark (mark_of Left rs)) (mark_of Right rs) n later.0 in
    let left = lesser_within mark (mark_of Left rs) n right.0 in
    (left.0, each left.1 right.1 later.1)
  where
    each : is_within (mark_of Left rs) n ≡ true → is_within (mark_of Right rs) n ≡ true
        → ((k : ℕ) → k < length lists → (is_within (mark_of Left (slice_index_or lists k [])) n ≡ true) × (is_within (mark_of Right (slice_index_or lists k [])) n ≡ true))
        → (k : ℕ) → k < length (rs ∷ lists) → (is_within (mark_of Left (slice_index_or (rs ∷ lists) k [])) n ≡ true) × (is_within (mark_of Right (slice_index_or (rs ∷ lists) k [])) n ≡ true)
    each l r more zero low = (l, r)
    each l r more (suc k) low = more k (omega arith)

lesser_both : (a b : Option Mark) (n : ℕ) → is_within a n ≡ true → is_within b n ≡ true → is_within (lesser a b) n ≡ true
lesser_both (Some (up_to a)) (Some (up_to b)) n h k = grind (arith, nat_tests, h, k)
lesser_both (Some (up_to a)) (Some all) n h k = h
lesser_both (Some all) (Some (up_to b)) n h k = k
lesser_both (Some all) (Some all) n h k = refl
lesser_both None b n h k = absurd (true≢false (sym h))
lesser_both (Some a) None n h k = absurd (true≢false (sym k))

-- what is within each mark is within the punctuation
pub within_marks : {P : Type 0} (n : ℕ) (mark : Option Mark) (lists : List (List (Report P))) → is_within mark n ≡ true
    → ((k : ℕ) → k < length lists → (is_within (mark_of Left (slice_index_or lists k [])) n ≡ true) × (is_within (mark_of Right (slice_index_or lists k [])) n ≡ true))
    → is_within (fold lesser mark (flat_map (λ reports. mark_of Left reports ∷ mark_of Right reports ∷ []) lists)) n ≡ true
within_marks n mark [] h each = h
within_marks n mark (rs ∷ lists) h each =
    let first = each 0 (omega arith) in
    within_marks n (lesser (lesser mark (mark_of Left rs)) (mark_of Right rs)) lists (lesser_both (lesser mark (mark_of Left rs)) (mark_of Right rs) n (lesser_both mark (mark_of Left rs) n h first.0) first.1)
    (λ k low. each (suc k) (omega arith))

pub end_mark : {P : Type 0} (side : Side) (rs : List (Report P)) (n : ℕ) → list_any is_end rs ≡ true → is_within (mark_of side rs) n ≡ true
end_mark side rs n e = rw e refl

-- a report of a quiet event
abbrev pub tells_quiet : {P : Type 0} → Side → ℕ → Report P → Bool
tells_quiet Left n (Quiet at Left) = at.0 == n
tells_quiet Right n (Quiet at Right) = at.0 == n
tells_quiet side n report = false

pub last_told : {P : Type 0} (side : Side) (rs : List (Report P)) (o : Option ℕ) (number : ℕ) → last_or o (filter_map (told_up_to side) rs) ≡ Some number → (o ≡ Some number) ⊎ (list_any (tells side number) rs ≡ true)
last_told side [] o number e = inl e
last_told {P} side (r ∷ rs) o number e = go side r e (last_told side rs)
  where
    behind : (b : Bool) (told : Bool) → told ≡ true → (b || told) ≡ true
    behind true told e = refl
    behind false told e = e

    front : (at : ℕ) → Some at ≡ Some number → (b : Bool) → ((at == number) || b) ≡ true
    front at e b = let same : at ≡ number = cc in grind (arith, nat_tests, same)

    passed : (side : Side) (told : Bool) → (o ≡ Some number) ⊎ (told ≡ true) → (b : Bool) → (o ≡ Some number) ⊎ ((b || told) ≡ true)
    passed side told (inl k) b = inl k
    passed side told (inr k) b = inr (behind b told k)

    go : (side : Side) (r : Report P) → last_or o (filter_map (told_up_to side) (r ∷ rs)) ≡ Some number
        → ((o : Option ℕ) (number : ℕ) → last_or o (filter_map (told_up_to side) rs) ≡ Some number → (o ≡ Some number) ⊎ (list_any (tells side number) rs ≡ true))
        → (o ≡ Some number) ⊎ (list_any (tells side number) (r ∷ rs) ≡ true)
    go Left (Handled at Left row partners) e deeper = elim (deeper (Some at.0) number e) [ inl k ↦ inr (front at.0 k (list_any (tells Left number) rs)) | inr k ↦ inr (behind (at.0 == number) (list_any (tells Left number) rs) k) ]
    go Right (Handled at Right row partners) e deeper = elim (deeper (Some at.0) number e) [ inl k ↦ inr (front at.0 k (list_any (tells Right number) rs)) | inr k ↦ inr (behind (at.0 == number) (list_any (tells Right number) rs) k) ]
    go Left (Handled at Right row partners) e deeper = deeper o number e
    go Right (Handled at Left row partners) e deeper = deeper o number e
    go Left (Quiet at Left) e deeper = elim (deeper (Some at.0) number e) [ inl k ↦ inr (front at.0 k (list_any (tells Left number) rs)) | inr k ↦ inr (behind (at.0 == number) (list_any (tells Left number) rs) k) ]
    go Right (Quiet at Right) e deeper = elim (deeper (Some at.0) number e) [ inl k ↦ inr (front at.0 k (list_any (tells Right number) rs)) | inr k ↦ inr (behind (at.0 == number) (list_any (tells Right number) rs) k) ]
    go Left (Quiet at Right) e deeper = deeper o number e
    go Right (Quiet at Left) e deeper = deeper o number e
    go Left Ended e deeper = deeper o number e
    go Right Ended e deeper = deeper o number e
    go Left NoMemory e deeper = deeper o number e
    go Right NoMemory e deeper = deeper o number e

-- where a number is within a core's mark, that core reported an arrival at least as late, or its end
pub record Reached {P : Type 0} (side : Side) (n : ℕ) (rs : List (Report P)) : Type 0 where
  pub number : ℕ
  pub above : n ≤ number
  pub told : list_any (tells side number) rs ≡ true

pub reached : {P : Type 0} (side : Side) (n : ℕ) (rs : List (Report P)) → is_within (mark_of side rs) n ≡ true → (list_any is_end rs ≡ true) ⊎ Reached side n rs
reached {P} side n rs h = go (list_any is_end rs) refl (last_or None (filter_map (told_up_to side) rs)) refl h
  where
    go : (b : Bool) → list_any is_end rs ≡ b → (o : Option ℕ) → last_or None (filter_map (told_up_to side) rs) ≡ o → is_within (mark_of side rs) n ≡ true → (list_any is_end rs ≡ true) ⊎ Reached side n rs
    go true e o f h = inl e
    go false e (Some number) f h =
        let marked : mark_of side rs ≡ Some (up_to number) = rw (e, f) refl in
        let within : is_within (Some (up_to number)) n ≡ true = ap (λ mark. is_within mark n) (sym marked) ∙ h in
        elim (last_told side rs None number f) [ inl k ↦ absurd (cc) | inr k ↦ inr (record { number = number; above = grind (arith, nat_tests, within); told = k }) ]
    go false e None f h =
        let marked : mark_of side rs ≡ None = rw (e, f) refl in
        absurd (true≢false (sym h ∙ ap (λ mark. is_within mark n) marked))

end_tells : {P : Type 0} (p : Report P → Bool) (b : Bool) → p Ended ≡ false → list_any p (option_to_list (cond b (Some Ended) None)) ≡ false
end_tells p true e = rw e refl
end_tells p false e = refl

-- the report of a whole turn tells of an arrival or a quiet event where the turn handled it
pub told_option : {P : Type 0} (matches : P → P → Bool) (side : Side) (a : ℕ) (state : State P) (m : Msg P) → list_any (tells side a) (option_to_list (report matches state m)) ≡ is_mark side a m
told_option matches Left a state (R at row) = grind arith
told_option matches Left a state (QuietL at) = grind arith
told_option matches Left a state CloseL = end_tells (tells Left a) (not state.closed_left && state.closed_right) refl
told_option matches Left a state CloseR = end_tells (tells Left a) (not state.closed_right && state.closed_left) refl
told_option matches Left a state other = refl
told_option matches Right a state (S at row) = grind arith
told_option matches Right a state (QuietR at) = grind arith
told_option matches Right a state CloseL = end_tells (tells Right a) (not state.closed_left && state.closed_right) refl
told_option matches Right a state CloseR = end_tells (tells Right a) (not state.closed_right && state.closed_left) refl
told_option matches Right a state other = refl

pub quiet_option : {P : Type 0} (matches : P → P → Bool) (side : Side) (a : ℕ) (state : State P) (m : Msg P) → list_any (tells_quiet side a) (option_to_list (report matches state m)) ≡ is_quiet side a m
quiet_option matches Left a state (QuietL at) = grind arith
quiet_option matches Left a state CloseL = end_tells (tells_quiet Left a) (not state.closed_left && state.closed_right) refl
quiet_option matches Left a state CloseR = end_tells (tells_quiet Left a) (not state.closed_right && state.closed_left) refl
quiet_option matches Left a state other = refl
quiet_option matches Right a state (QuietR at) = grind arith
quiet_option matches Right a state CloseL = end_tells (tells_quiet Right a) (not state.closed_left && state.closed_right) refl
quiet_option matches Right a state CloseR = end_tells (tells_quiet Right a) (not state.closed_right && state.closed_left) refl
quiet_option matches Right a state other = refl
