-- The place at which two rows cross that every core handled.
use Rattle.std.proofs.Common.{◌≡◌, ℕ, zero, suc, ◌+◌, ◌-◌, ◌<◌, ◌≤◌, Bool, true, false, cond, ◌||◌, List, [], ◌∷◌, refl, ap, sym, subst, arith, eq-or-lt_of_le, inl, inr, true≢false}
use Rattle.std.specs.List.{list_any}
use Rattle.hj_msg.specs.declared.message.Msg.{Msg}
use Rattle.hj_msg.specs.declared.message.Msg.TheVariants.{S}
use Rattle.hj_msg.specs.Messages.{is_R, is_S}
use Rattle.hj_msg.specs.Turns.{handled}
use Rattle.hj_msg.specs.Run.{Run, IsRun}
use Rattle.hj_msg.specs.Crossing.{HasBefore}
use Rattle.hj_msg.specs.Meeting.{CrossAt}
use Rattle.hj_msg.proofs.Members.{Contains-cut, find}
use Rattle.hj_msg.proofs.Orders.{before, before-either}
use Rattle.hj_msg.proofs.ListedOnce.{crossed_on}

-- the first place below `last` at which a test holds, or else `last`
record FirstPlace (test : ℕ → Bool) (last : ℕ) : Type 0 where
  at : ℕ
  within : at ≤ last
  none : (k : ℕ) → k < at → test k ≡ false
  holds : at < last → test at ≡ true

first_place : (test : ℕ → Bool) (last : ℕ) → FirstPlace test last
first_place test zero = record { at = 0; within = omega arith; none = λ k low. absurd (omega (arith, low)); holds = λ low. absurd (omega (arith, low)) }
first_place test (suc last) = go (first_place test last)
  where
    here : (found : FirstPlace test last) → found.at ≡ last → (b : Bool) → test last ≡ b → FirstPlace test (suc last)
    here found e true holds = record { at = last; within = omega arith; none = λ k low. found.none k (omega (arith, low, e)); holds = λ low. holds }
    here found e false holds = record { at = suc last; within = omega arith; none = none; holds = λ low. absurd (omega (arith, low)) }
      where
        none : (k : ℕ) → k < suc last → test k ≡ false
        none k low = elim (eq-or-lt_of_le (let at_most : k ≤ last = omega (arith, low) in at_most)) [
          | inl same ↦ subst (λ n. test n ≡ false) (sym same) holds
          | inr less ↦ found.none k (omega (arith, less, e))
        ]

    go : FirstPlace test last → FirstPlace test (suc last)
    go found = elim (eq-or-lt_of_le found.within) [
      | inl same ↦ here found same (test last) refl
      | inr less ↦ record { at = found.at; within = omega (arith, less); none = found.none; holds = λ low. found.holds less }
    ]

-- what stands before, shown by the two messages
pub has_before : {P : Type 0} (p q : Msg P → Bool) (ms : List (Msg P)) → before p q ms ≡ true → list_any q ms ≡ true → HasBefore p q ms
has_before p q [] h has = absurd (true≢false (sym h))
has_before {P} p q (m ∷ ms) h has = go (q m) (p m) refl refl h has (has_before p q ms)
  where
    go : (b c : Bool) → q m ≡ b → p m ≡ c → cond b false (c || before p q ms) ≡ true → (b || list_any q ms) ≡ true → (before p q ms ≡ true → list_any q ms ≡ true → HasBefore p q ms) → HasBefore p q (m ∷ ms)
    go true c e f h has deeper = absurd (true≢false (sym h))
    go false true e f h has deeper =
        let found = find q ms has in
        let cut = Contains-cut ms found.one found.is in
        record { before = []; between = cut.0; behind = cut.1; one = m; other = found.one; is = ap (λ xs. m ∷ xs) cut.2; is_first = f; is_second = found.passes }
    go false false e f h has deeper =
        let rest = deeper h has in
        record { before = m ∷ rest.before; between = rest.between; behind = rest.behind; one = rest.one; other = rest.other; is = ap (λ xs. m ∷ xs) rest.is; is_first = rest.is_first; is_second = rest.is_second }

S_or_R : {P : Type 0} (i j : ℕ) (m : Msg P) → is_S j m ≡ true → is_R i m ≡ false
S_or_R i j (S at row) e = refl
S_or_R i j other e = absurd (true≢false (sym e))

module _ {P : Type 0} (run : Run P) (is : IsRun run) (i j : ℕ) where
  -- a place below which no core handled S j before R i, and from which on each did
  pub record Place : Type 0 where
    pub at : ℕ
    pub within : at ≤ run.cores
    pub below : (k : ℕ) → k < at → before (is_S j) (is_R i) (handled (is.turns k)) ≡ false
    pub from : (k : ℕ) → at ≤ k → k < run.cores → before (is_S j) (is_R i) (handled (is.turns k)) ≡ true

  abbrev pub AllHandle : (Msg P → Bool) → Type 0
  AllHandle test = (k : ℕ) → k < run.cores → list_any test (handled (is.turns k)) ≡ true

  -- where the cores handle both, one of them does so before the other
  pub left_first : AllHandle (is_S j) → (k : ℕ) → k < run.cores → before (is_S j) (is_R i) (handled (is.turns k)) ≡ false → before (is_R i) (is_S j) (handled (is.turns k)) ≡ true
  left_first has_S k low e = go (before (is_R i) (is_S j) (handled (is.turns k))) refl
    where
      go : (b : Bool) → before (is_R i) (is_S j) (handled (is.turns k)) ≡ b → before (is_R i) (is_S j) (handled (is.turns k)) ≡ true
      go true f = f
      go false f = absurd (before-either (is_S j) (is_R i) (handled (is.turns k)) (S_or_R i j) (has_S k low) e f)

  pub crossing_place : AllHandle (is_R i) → Place
  crossing_place has_R =
      let first = first_place (λ k. before (is_S j) (is_R i) (handled (is.turns k))) run.cores in
      record {
        at = first.at;
        within = first.within;
        below = first.none;
        from = λ k high low.
            let e : first.at + (k - first.at) ≡ k = omega (arith, high) in
            subst (λ a. before (is_S j) (is_R i) (handled (is.turns a)) ≡ true) e
            (crossed_on run is i j (k - first.at) first.at (omega (arith, e, low)) (first.holds (omega (arith, high, low))) (subst (λ a. list_any (is_R i) (handled (is.turns a)) ≡ true) (sym e) (has_R k low)));
      }

  pub cross_at : AllHandle (is_R i) → AllHandle (is_S j) → (place : Place) → CrossAt is i j place.at
  cross_at has_R has_S place = record {
    within = place.within;
    left_first = λ k below.
        let low : k < run.cores = omega (arith, below, place.within) in
        has_before (is_R i) (is_S j) (handled (is.turns k)) (left_first has_S k low (place.below k below)) (has_S k low);
    right_first = λ k from low. has_before (is_S j) (is_R i) (handled (is.turns k)) (place.from k from low) (has_R k low);
  }
