-- Pairs that are taken out of those that are kept, and given to a drain, one after another.
use Rattle.std.proofs.Common.{◌≡◌, ℕ, zero, suc, ◌+◌, ◌≤◌, true, false, List, [], ◌∷◌, ◌++◌, length, map, replicate, take, drop, slice_get, All, Contains, Some, None, Option, refl, ap, ap₂, sym, ◌∙◌, subst, arith, append_assoc, length-append}
use Rattle.std.specs.Option.{IfSome, IfNone, IsNone}
use Rattle.std.specs.List.Sorted.{IsPermutation}
use Rattle.std.proofs.lemmas.List.{map-append, replicate-append-replicate}
use Rattle.std.proofs.lemmas.List.Elements.{All-contains}
use Rattle.std.proofs.lemmas.List.Sorted.{Contains-permutation, IsPermutation-sym}
use Rattle.hj_msg.specs.declared.drain.Drained.{Drained}
use Rattle.hj_msg.specs.declared.drain.Drained.TheVariants.{Kept, Refused}
use Rattle.hj_msg.specs.declared.event.Pair.{Pair}
use Rattle.hj_msg.specs.Drain.{AreKept, Drainage, TakesAll, pairs_in}
use Rattle.hj_msg.specs.Emission.{comes_before, is_within}
use Rattle.hj_msg.specs.Punctuation.{Mark}
use Rattle.hj_msg.specs.Valid.{later}
use Rattle.hj_msg.proofs.Members.{Contains-cons}
use Rattle.hj_collect.specs.Giving.{AreAnswered, AreTakenOut, Gives, IsTakenOut, NoneDue, Releases}
use Rattle.hj_collect.proofs.Due.{AreApart, one-due, one-more, still-released}
use Rattle.hj_collect.proofs.Emissions.{emits}

-- ---- the list of what a drain took

pub takes-both : {D P : Type 0} (takes : D → Pair P → Drained → D → Type 0) (xs ys : List (Drainage P)) (old mid new : D) → TakesAll takes old xs mid → TakesAll takes mid ys new → TakesAll takes old (xs ++ ys) new
takes-both {D} takes [] ys old mid new first rest = subst (λ (d : D). TakesAll takes d ys new) first rest
takes-both takes (x ∷ xs) ys old mid new first rest = (first.0, first.1, takes-both takes xs ys first.0 mid new first.2 rest)

-- the answers of what was given, of any kind
module _ {X : Type 0} (answer_in : X → Drained) (xs ys : List X) (first : map answer_in xs ≡ replicate (length xs) Kept) where
  pub all-kept : map answer_in ys ≡ replicate (length ys) Kept → map answer_in (xs ++ ys) ≡ replicate (length (xs ++ ys)) Kept
  all-kept later =
      map-append answer_in xs ys ∙ ap₂ (λ (l m : List Drained). l ++ m) first later ∙ replicate-append-replicate (length xs) (length ys) Kept ∙ ap (λ (n : ℕ). replicate n Kept) (sym (length-append xs ys))

  pub last-refused : (kept : ℕ) × (map answer_in ys ≡ replicate kept Kept ++ Refused ∷ []) → (kept : ℕ) × (map answer_in (xs ++ ys) ≡ replicate kept Kept ++ Refused ∷ [])
  last-refused later = (
    length xs + later.0,
    map-append answer_in xs ys ∙ ap₂ (λ (l m : List Drained). l ++ m) first later.1 ∙ sym (append_assoc (replicate (length xs) Kept) (replicate later.0 Kept) (Refused ∷ []))
        ∙ ap (λ (l : List Drained). l ++ Refused ∷ []) (replicate-append-replicate (length xs) later.0 Kept),
  )

pub answered-both : {P : Type 0} (answer : Drained) (xs ys : List (Drainage P)) → AreKept xs → AreAnswered answer ys → AreAnswered answer (xs ++ ys)
answered-both {P} Kept xs ys first later = all-kept (λ (one : Drainage P). one.answer) xs ys first later
answered-both {P} Refused xs ys first later = last-refused (λ (one : Drainage P). one.answer) xs ys first later

one-answered : {P : Type 0} (pair : Pair P) (answer : Drained) → AreAnswered answer (record { pair = pair; answer = answer } ∷ [])
one-answered pair Kept = refl
one-answered pair Refused = (0, refl)

pub was-kept : (answer : Drained) → (answer ≡ Refused → ⊥) → answer ≡ Kept
was-kept Kept other = refl
was-kept Refused other = absurd (other refl)

-- ---- pairs that are taken out

module _ {P : Type 0} (mark : Option Mark) where
  out-both : (xs ys kept mid left : List (Pair P)) → AreTakenOut mark kept xs mid → AreTakenOut mark mid ys left → AreTakenOut mark kept (xs ++ ys) left
  out-both [] ys kept mid left first later = subst (λ (l : List (Pair P)). AreTakenOut mark l ys left) first later
  out-both (x ∷ xs) ys kept mid left first later = (first.0, first.1, out-both xs ys first.0 mid left first.2 later)

  -- what is said of the pair that is released
  pub releases : (kept left : List (Pair P)) (result : Option (Pair P)) → IfSome result (λ pair. IsPermutation kept (pair ∷ left)) → IfSome result (λ pair. All (λ other. comes_before other pair ≡ false) kept)
      → IfSome result (λ pair. is_within mark (later pair) ≡ true) → (IsNone result → NoneDue mark kept) → IfNone result (left ≡ kept) → Releases mark kept result left
  releases kept left None taken first due none same = record { out = tt; none = none; unchanged = same }
  releases kept left (Some pair) taken first due none same = record { out = record { taken = taken; first = first; due = due }; none = none; unchanged = same }

-- no pair is due where there is no mark
pub no-mark : {P : Type 0} (kept : List (Pair P)) → Releases None kept None kept
no-mark kept = record { out = tt; none = λ _ k d within. refl; unchanged = refl }

-- ---- pairs that are given to a drain

module _ {P D : Type 0} (takes : D → Pair P → Drained → D → Type 0) (mark : Option Mark) (kept : List (Pair P)) (unfilled : D) where
  pub gives-nothing : Gives takes mark kept unfilled Kept kept unfilled
  gives-nothing = record { pairs = []; drain = refl; out = refl; answered = refl }

  pub gives-more : (now left : List (Pair P)) (filled more : D) → Gives takes mark kept unfilled Kept now filled → (pair : Pair P) → IsTakenOut mark now left pair → (answer : Drained) → takes filled pair answer more
      → Gives takes mark kept unfilled answer left more
  gives-more now left filled more so_far pair out answer took =
      let one : Drainage P = record { pair = pair; answer = answer } in
      record {
        pairs = so_far.pairs ++ one ∷ [];
        drain = takes-both takes so_far.pairs (one ∷ []) unfilled filled more so_far.drain (more, took, refl);
        out =
            subst (λ (pairs : List (Pair P)). AreTakenOut mark kept pairs left) (sym (map-append (λ (o : Drainage P). o.pair) so_far.pairs (one ∷ [])))
            (out-both mark (pairs_in so_far.pairs) (pair ∷ []) kept now left so_far.out (left, out, refl));
        answered = answered-both answer so_far.pairs (one ∷ []) so_far.answered (one-answered pair answer);
      }

-- ---- the pairs that are taken out are the next ones of those that are emitted, and all others are still kept

drop-at : {X : Type 0} (xs : List X) (i : ℕ) (x : X) → slice_get xs i ≡ Some x → drop i xs ≡ x ∷ drop (suc i) xs
drop-at [] i x is = absurd (cc)
drop-at (y ∷ xs) zero x is = let same : y ≡ x = cc in ap (λ z. z ∷ xs) same
drop-at (y ∷ xs) (suc i) x is = drop-at xs i x is

apart-left : {P : Type 0} (mark : Option Mark) (kept left : List (Pair P)) (pair : Pair P) → IsPermutation kept (pair ∷ left) → AreApart mark kept → AreApart mark left
apart-left {P} mark kept left pair taken apart p q h k = apart p q (there p h) (there q k)
  where
    there : (r : Pair P) → Contains left r → Contains kept r
    there r h = Contains-permutation (pair ∷ left) kept r (IsPermutation-sym kept (pair ∷ left) taken) (Contains-cons pair r left h)

module _ {P : Type 0} (mark : Option Mark) (pairs : List (Pair P)) where
  abbrev all : List (Pair P)
  all = emits mark pairs

  pub record AreNext (given : ℕ) (out left : List (Pair P)) : Type 0 where
    pub next : out ≡ take (length out) (drop given all)
    pub within : given + length out ≤ length all
    pub released : IsPermutation (take (given + length out) all ++ left) pairs

  pub are-next : (out kept left : List (Pair P)) (given : ℕ) → given ≤ length all → IsPermutation (take given all ++ kept) pairs → AreApart mark kept → AreTakenOut mark kept out left → AreNext given out left
  are-next [] kept left given within released apart same =
      let here : given ≡ given + 0 = omega arith in
      record {
        next = refl;
        within = omega (arith, within);
        released = subst (λ (n : ℕ). IsPermutation (take n all ++ left) pairs) here (subst (λ (l : List (Pair P)). IsPermutation (take given all ++ l) pairs) (sym same) released);
      }
  are-next (pair ∷ out) kept left given within released apart taken =
      let one = taken.1 in
      let first : (other : Pair P) → Contains kept other → comes_before other pair ≡ false = λ other h. All-contains (λ other. comes_before other pair ≡ false) kept other one.first h in
      let here : slice_get all given ≡ Some pair = one-due mark pairs kept given released pair taken.0 one.taken one.due first apart in
      let low : suc given ≤ length all = omega (arith, one-more mark pairs kept given released pair taken.0 one.taken one.due first apart) in
      let later = are-next out taken.0 left (suc given) low (still-released mark pairs kept given released pair taken.0 one.taken one.due first apart) (apart-left mark kept taken.0 pair one.taken apart) taken.2 in
      let sum : suc given + length out ≡ given + suc (length out) = omega arith in
      record {
        next = ap (λ (l : List (Pair P)). pair ∷ l) later.next ∙ sym (ap (take (suc (length out))) (drop-at all given pair here));
        within = omega (arith, later.within);
        released = subst (λ (n : ℕ). IsPermutation (take n all ++ left) pairs) sum later.released;
      }
