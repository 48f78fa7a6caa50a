-- Who leaves what is told under the names as it is, leaves the outside that is referred to, and all roles but that of the third stream.
use Rattle.std.proofs.Common.{◌≡◌, ◌≢◌, ℕ, zero, suc, true, false, List, [], ◌∷◌, refl, ap}
use Rattle.std.specs.declared.option.Option.{Option}
use Rattle.hj_base.specs.declared.outside.Role.{Role}
use Rattle.hj_base.specs.declared.outside.Role.TheVariants as role
use Rattle.hj_base.specs.Outside.{ChangesOnly, Phase, RoleState, opened, refused, unbegun}
use Rattle.hj_twice.specs.Relayed.{kept_told, phase_told, role_numbered, role_told}

-- ---- what is told says all

same_phase : (one other : Phase) → phase_told one ≡ phase_told other → one ≡ other
same_phase unbegun unbegun e = refl
same_phase unbegun (opened name true) e = cc
same_phase unbegun (opened name false) e = cc
same_phase unbegun (refused name) e = cc
same_phase (opened name true) unbegun e = cc
same_phase (opened name false) unbegun e = cc
same_phase (opened name true) (opened other true) e = let same : name ≡ other = cc in ap (λ n. opened n true) same
same_phase (opened name true) (opened other false) e = cc
same_phase (opened name false) (opened other true) e = cc
same_phase (opened name false) (opened other false) e = let same : name ≡ other = cc in ap (λ n. opened n false) same
same_phase (opened name true) (refused other) e = cc
same_phase (opened name false) (refused other) e = cc
same_phase (refused name) unbegun e = cc
same_phase (refused name) (opened other true) e = cc
same_phase (refused name) (opened other false) e = cc
same_phase (refused name) (refused other) e = let same : name ≡ other = cc in ap refused same

same_role : (one other : RoleState) → ((name : List ℕ) → role_told one name ≡ role_told other name) → one ≡ other
same_role one other told =
    let left : one.left ≡ other.left = told [] in
    let faults : one.faults ≡ other.faults = let is = told (0 ∷ []) in cc in
    let phases : phase_told one.phase ≡ phase_told other.phase = let is = told (1 ∷ []) in cc in
    let phase : one.phase ≡ other.phase = same_phase one.phase other.phase phases in
    λ i. record { phase = phase i; faults = faults i; left = left i }

-- ---- what is kept

module _ (old new : ℕ) (under under' : List ℕ → Option (List ℕ)) (roles roles' : Role → RoleState)
    (kept : (name : List ℕ) → kept_told new under' roles' name ≡ kept_told old under roles name) where
  pub same_reference : new ≡ old
  same_reference = let is = kept [] in cc

  pub same_names : (name : List ℕ) → under' name ≡ under name
  same_names name = kept (0 ∷ name)

  same_numbered : (n : ℕ) → roles' (role_numbered n) ≡ roles (role_numbered n)
  same_numbered n = same_role (roles' (role_numbered n)) (roles (role_numbered n)) (λ name. kept (suc n ∷ name))

  pub same_others : ChangesOnly role.Third roles roles'
  same_others role.Query other = same_numbered 0
  same_others role.SecondQuery other = same_numbered 1
  same_others role.Left other = same_numbered 2
  same_others role.Right other = same_numbered 3
  same_others role.Third other = absurd (other refl)
  same_others role.Trace other = same_numbered 4
  same_others role.Output other = same_numbered 5

-- ---- the third stream is read

numbered_other : (n : ℕ) → role_numbered n ≢ role.Third
numbered_other zero = λ e. cc
numbered_other (suc zero) = λ e. cc
numbered_other (suc (suc zero)) = λ e. cc
numbered_other (suc (suc (suc zero))) = λ e. cc
numbered_other (suc (suc (suc (suc zero)))) = λ e. cc
numbered_other (suc (suc (suc (suc (suc n))))) = λ e. cc

-- Reading the third stream leaves what is told under the names.
pub third_kept : (reference : ℕ) (under under' : List ℕ → Option (List ℕ)) (roles roles' : Role → RoleState) → ((name : List ℕ) → under' name ≡ under name) → ChangesOnly role.Third roles roles'
    → (name : List ℕ) → kept_told reference under' roles' name ≡ kept_told reference under roles name
third_kept reference under under' roles roles' names others [] = refl
third_kept reference under under' roles roles' names others (zero ∷ name) = names name
third_kept reference under under' roles roles' names others (suc n ∷ name) = ap (λ (state : RoleState). role_told state name) (others (role_numbered n) (numbered_other n))
