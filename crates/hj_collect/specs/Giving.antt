-- Pairs that are given of those that are kept: each the first one that is due.
use Rattle.std.specs.Prelude.{◌≡◌, true, false, List, [], ◌∷◌, All, IfSome, IfNone, IsNone, IsPermutation}
use Rattle.std.specs.declared.option.Option.{Option}
use Rattle.hj_msg.specs.declared.drain.Drained.{Drained}
use Rattle.hj_msg.specs.declared.drain.Drained.TheVariants.{Kept, Refused}
use Rattle.hj_msg.specs.declared.event.Pair.{Pair}
use Rattle.hj_msg.specs.Drain.{AreKept, Drainage, IsLastRefused, TakesAll, pairs_in}
use Rattle.hj_msg.specs.Emission.{comes_before, is_within}
use Rattle.hj_msg.specs.Punctuation.{Mark}
use Rattle.hj_msg.specs.Valid.{later}

-- no pair is within the mark
abbrev pub NoneDue : {P : Type 0} → Option Mark → List (Pair P) → Type 0
NoneDue mark kept = All (λ pair. is_within mark (later pair) ≡ false) kept

-- a pair that is taken out of those that are kept: one that is within the mark, and that none of these comes before
pub record IsTakenOut {P : Type 0} (mark : Option Mark) (kept left : List (Pair P)) (pair : Pair P) : Type 0 where
  pub taken : IsPermutation kept (pair ∷ left)
  pub first : All (λ other. comes_before other pair ≡ false) kept
  pub due : is_within mark (later pair) ≡ true

-- such a pair, if one is within the mark
pub record Releases {P : Type 0} (mark : Option Mark) (kept : List (Pair P)) (released : Option (Pair P)) (left : List (Pair P)) : Type 0 where
  pub out : IfSome released (λ pair. IsTakenOut mark kept left pair)
  pub none : IsNone released → NoneDue mark kept
  pub unchanged : IfNone released (left ≡ kept)

-- pairs that are taken out so, one after another
abbrev pub AreTakenOut : {P : Type 0} → Option Mark → List (Pair P) → List (Pair P) → List (Pair P) → Type 0
AreTakenOut mark kept [] left = left ≡ kept
AreTakenOut {P} mark kept (pair ∷ pairs) left = (others : List (Pair P)) × IsTakenOut mark kept others pair × AreTakenOut mark others pairs left

-- How pairs were answered: each one was kept; or the last one was refused, and each other one kept.
abbrev pub AreAnswered : {P : Type 0} → Drained → List (Drainage P) → Type 0
AreAnswered Kept pairs = AreKept pairs
AreAnswered Refused pairs = IsLastRefused pairs

-- pairs that are taken out so, and given to a drain
pub record Gives {P D : Type 0} (takes : D → Pair P → Drained → D → Type 0) (mark : Option Mark) (kept : List (Pair P)) (unfilled : D) (answer : Drained) (left : List (Pair P)) (filled : D) : Type 0 where
  pub pairs : List (Drainage P)
  pub drain : TakesAll takes unfilled pairs filled
  pub out : AreTakenOut mark kept (pairs_in pairs) left
  pub answered : AreAnswered answer pairs

-- all that are due, up to the first one that is refused
pub record GivesDue {P D : Type 0} (takes : D → Pair P → Drained → D → Type 0) (mark : Option Mark) (kept : List (Pair P)) (unfilled : D) (answer : Drained) (left : List (Pair P)) (filled : D) : Type 0 where
  pub gives : Gives takes mark kept unfilled answer left filled
  pub rest : answer ≡ Kept → NoneDue mark left
