-- A number below which is no later number of the pairs that are kept.
use Rattle.std.proofs.Common.{◌≡◌, ◌≤◌, ℕ, false, List, ◌∷◌, ◌++◌, All, Some, subst, arith}
use Rattle.std.specs.List.Sorted.{IsPermutation}
use Rattle.std.proofs.lemmas.Bool.Decides.{nat_tests}
use Rattle.std.proofs.lemmas.List.Sorted.{IsPermutation-middle, IsPermutation-append_left, All-permutation}
use Rattle.std.proofs.lemmas.List.Elements.{All-cons, All-tail, All-weaker, All-map}
use Rattle.hj_msg.specs.Valid.{later}
use Rattle.hj_msg.specs.Emission.{is_within}
use Rattle.hj_msg.specs.Punctuation.{Mark, up_to, all}
use Rattle.hj_collect.specs.declared.kept.KeptPair.{KeptPair}
use Rattle.hj_collect.specs.Due.{pairs_in, NoneSooner}

past : (mark : Mark) (n m : ℕ) → n ≤ m → is_within (Some mark) n ≡ false → is_within (Some mark) m ≡ false
past (up_to number) n m le beyond = grind (arith, nat_tests, le, beyond)
past all n m le beyond = beyond

module _ {P : Type 0} where
  -- where one comes, a number that isn't above its own either
  pub one_more : (n m : ℕ) (one : KeptPair P) (old new : List (KeptPair P)) → IsPermutation (one ∷ old) new → m ≤ n → m ≤ later one.pair → NoneSooner n old → NoneSooner m new
  one_more n m one old new is below own none =
      All-permutation (λ (k : KeptPair P). m ≤ later k.pair) (one ∷ old) new is
      (All-cons (λ (k : KeptPair P). m ≤ later k.pair) one old own (All-weaker (λ (k : KeptPair P). n ≤ later k.pair) (λ (k : KeptPair P). m ≤ later k.pair) (λ k e. omega (arith, below, e)) old none))

  -- where one is taken out
  pub fewer_late : (n : ℕ) (one : KeptPair P) (late left ordered : List (KeptPair P)) → IsPermutation late (one ∷ left) → NoneSooner n (late ++ ordered) → NoneSooner n (left ++ ordered)
  fewer_late n one late left ordered is none =
      All-tail (λ (k : KeptPair P). n ≤ later k.pair) one (left ++ ordered) (All-permutation (λ (k : KeptPair P). n ≤ later k.pair) (late ++ ordered) (one ∷ (left ++ ordered)) (IsPermutation-append_left ordered late (one ∷ left) is) none)

  pub fewer_ordered : (n : ℕ) (one : KeptPair P) (late ordered rest : List (KeptPair P)) → ordered ≡ one ∷ rest → NoneSooner n (late ++ ordered) → NoneSooner n (late ++ rest)
  fewer_ordered n one late ordered rest is none =
      All-tail (λ (k : KeptPair P). n ≤ later k.pair) one (late ++ rest)
      (All-permutation (λ (k : KeptPair P). n ≤ later k.pair) (late ++ one ∷ rest) (one ∷ (late ++ rest)) (IsPermutation-middle late one rest) (subst (λ ones. NoneSooner n (late ++ ones)) is none))

  -- a mark below it lets none out
  pub none_sooner : (mark : Mark) (n : ℕ) (ones : List (KeptPair P)) → NoneSooner n ones → is_within (Some mark) n ≡ false → All (λ other. is_within (Some mark) (later other) ≡ false) (pairs_in ones)
  none_sooner mark n ones each beyond =
      All-map (λ other. is_within (Some mark) (later other) ≡ false) (λ (one : KeptPair P). one.pair) ones
      (All-weaker (λ (one : KeptPair P). n ≤ later one.pair) (λ (one : KeptPair P). is_within (Some mark) (later one.pair) ≡ false) (λ one h. past mark n (later one.pair) h beyond) ones each)
