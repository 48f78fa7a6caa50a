-- The rows of a core's stores are at their home.
use Rattle.std.proofs.Common.{◌≡◌, ℕ, ◌==◌, Bool, true, false, cond, not, ◌||◌, List, [], ◌∷◌, nat_eq, refl, ap, ap₂, sym, ◌∙◌, true≢false}
use Rattle.std.proofs.lemmas.List.Elements.{All-cons, All-filter, All-head, All-tail}
use Rattle.hj_msg.specs.Core.{is_home}
use Rattle.hj_msg.specs.Store.{Resting, settled_if, with_entry, with_settled, without_entry}
use Rattle.hj_core.specs.Homes.{AreAtHome}
use Rattle.std.proofs.lemmas.Bool.{eqb-true}

or-false : (b : Bool) → (b || false) ≡ b
or-false true = refl
or-false false = refl

module _ {P : Type 0} (place n : ℕ) where
  abbrev Home : Resting P → Type 0
  Home entry = is_home place n entry.no ≡ true

  -- a number whose home is elsewhere is none of theirs
  other-number : (at : ℕ) → is_home place n at ≡ false → (entry : Resting P) → Home entry → (entry.no == at) ≡ false
  other-number at elsewhere entry home = go (entry.no == at) refl
    where
      go : (b : Bool) → (entry.no == at) ≡ b → b ≡ false
      go false is = refl
      go true is = absurd (true≢false (sym home ∙ ap (is_home place n) (eqb-true entry.no at is) ∙ elsewhere))

  same-settled : (entry : Resting P) (at : ℕ) → (entry.no == at) ≡ false → settled_if at entry ≡ entry
  same-settled entry at other = ap (λ (b : Bool). record entry { settled = entry.settled || b }) other ∙ ap (λ (b : Bool). record entry { settled = b }) (or-false entry.settled)

  pub settled-elsewhere : (at : ℕ) → is_home place n at ≡ false → (entries : List (Resting P)) → AreAtHome place n entries → with_settled at entries ≡ entries
  settled-elsewhere at elsewhere [] home = refl
  settled-elsewhere at elsewhere (entry ∷ entries) home =
      ap₂ (λ (e : Resting P) (es : List (Resting P)). e ∷ es) (same-settled entry at (other-number at elsewhere entry (All-head Home entry entries home))) (settled-elsewhere at elsewhere entries (All-tail Home entry entries home))

  pub removed-elsewhere : (at : ℕ) → is_home place n at ≡ false → (entries : List (Resting P)) → AreAtHome place n entries → without_entry at entries ≡ entries
  removed-elsewhere at elsewhere [] home = refl
  removed-elsewhere at elsewhere (entry ∷ entries) home =
      ap (λ (b : Bool). cond (not b) (entry ∷ without_entry at entries) (without_entry at entries)) (other-number at elsewhere entry (All-head Home entry entries home))
      ∙ ap (λ (es : List (Resting P)). entry ∷ es) (removed-elsewhere at elsewhere entries (All-tail Home entry entries home))

  pub entered-home : (entry : Resting P) → Home entry → (entries : List (Resting P)) → AreAtHome place n entries → AreAtHome place n (with_entry entry entries)
  entered-home entry here [] home = All-cons Home entry [] here home
  entered-home entry here (other ∷ entries) home = go (other.no == entry.no) (entered-home entry here entries (All-tail Home other entries home))
    where
      go : (b : Bool) → AreAtHome place n (with_entry entry entries) → AreAtHome place n (cond b (entry ∷ entries) (other ∷ with_entry entry entries))
      go true later = All-cons Home entry entries here (All-tail Home other entries home)
      go false later = All-cons Home other (with_entry entry entries) (All-head Home other entries home) later

  pub settled-home : (at : ℕ) (entries : List (Resting P)) → AreAtHome place n entries → AreAtHome place n (with_settled at entries)
  settled-home at [] home = home
  settled-home at (entry ∷ entries) home = All-cons Home (settled_if at entry) (with_settled at entries) (All-head Home entry entries home) (settled-home at entries (All-tail Home entry entries home))

  pub removed-home : (at : ℕ) (entries : List (Resting P)) → AreAtHome place n entries → AreAtHome place n (without_entry at entries)
  removed-home at entries home = All-filter (λ entry. not (nat_eq entry.no at)) Home entries home
