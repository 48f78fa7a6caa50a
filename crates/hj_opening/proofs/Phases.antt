-- Phases of a role, and the faults of one that failed.
use Rattle.std.proofs.Common.{◌≡◌, ℕ, Bool, List, sym, subst, refl}
use Rattle.hj_base.specs.declared.outside.Role.{Role}
use Rattle.hj_base.specs.Counts.{Rose}
use Rattle.hj_base.specs.Outside.{RoleState, Phase, IsOpen, opened, refused, unbegun}
use Rattle.hj_opening.specs.Streams.{Fails, IsBegunUnder}

abbrev pub Roles : Type 0
Roles = Role → RoleState

pub not_open-unbegun : (phase : Phase) → phase ≡ unbegun → ¬ (IsOpen phase)
not_open-unbegun phase e o = subst IsOpen e o

pub not_open-refused : (name : List ℕ) (phase : Phase) → phase ≡ refused name → ¬ (IsOpen phase)
not_open-refused name phase e o = subst IsOpen e o

pub open-opened : (name : List ℕ) (ended : Bool) (phase : Phase) → phase ≡ opened name ended → IsOpen phase
open-opened name ended phase e = subst IsOpen (sym e) tt

pub begun-unbegun : (name : List ℕ) (phase : Phase) → phase ≡ unbegun → IsBegunUnder name phase
begun-unbegun name phase e = subst (λ (p : Phase). IsBegunUnder name p) (sym e) tt

pub begun-refused : (name : List ℕ) (phase : Phase) → phase ≡ refused name → IsBegunUnder name phase
begun-refused name phase e = subst (λ (p : Phase). IsBegunUnder name p) (sym e) refl

pub begun-opened : (name : List ℕ) (ended : Bool) (phase : Phase) → phase ≡ opened name ended → IsBegunUnder name phase
begun-opened name ended phase e = subst (λ (p : Phase). IsBegunUnder name p) (sym e) refl

pub fails_as : (of other : Role) (before now : Roles) → of ≡ other → Rose (before other).faults (now other).faults → Fails of before now
fails_as of other before now e rose = subst (λ (r : Role). Fails r before now) (sym e) rose
