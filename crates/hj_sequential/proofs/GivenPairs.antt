-- Pairs that are given to a drain, one after another.
use Rattle.std.proofs.Common.{◌≡◌, ℕ, zero, suc, ◌+◌, true, List, [], ◌∷◌, ◌++◌, length, map, take, drop, replicate, slice_get, Some, refl, ap, ap₂, sym, ◌∙◌, subst, subst₂, arith, append-nil, append_assoc, length-append}
use Rattle.std.proofs.lemmas.List.{map-append, replicate-append-replicate}
use Rattle.hj_base.specs.declared.numbers.EventNo.{EventNo}
use Rattle.hj_base.specs.declared.numbers.Side.{Side}
use Rattle.hj_base.specs.Journals.{IsPrefix}
use Rattle.hj_msg.specs.declared.drain.Drained.{Drained}
use Rattle.hj_msg.specs.declared.drain.Drained.TheVariants.{Kept, Refused}
use Rattle.hj_msg.specs.declared.event.Pair.{Pair}
use Rattle.hj_msg.specs.declared.fin.Fin.{Fin}
use Rattle.hj_msg.specs.declared.fin.Fin.TheVariants as fin
use Rattle.hj_msg.specs.declared.message.Report.TheVariants.{Handled}
use Rattle.hj_msg.specs.declared.partner.Partner.{Partner}
use Rattle.hj_msg.specs.Drain.{AreKept, Drainage, TakesAll, pairs_in}
use Rattle.hj_msg.specs.Met.{pair_of, pairs_of}
use Rattle.hj_msg.specs.RunsJoin.{EndsJoin}
use Rattle.hj_sequential.specs.Giving.{GivesListed}

abbrev pair_in : {P : Type 0} → Drainage P → Pair P
pair_in one = one.pair

abbrev answer_in : {P : Type 0} → Drainage P → Drained
answer_in one = one.answer

takes-both : {D P : Type 0} (takes : D → Pair P → Drained → D → Type 0) (xs ys : List (Drainage P)) (old mid new : D) → TakesAll takes old xs mid → TakesAll takes mid ys new → TakesAll takes old (xs ++ ys) new
takes-both {D} takes [] ys old mid new first rest = subst (λ (d : D). TakesAll takes d ys new) first rest
takes-both takes (x ∷ xs) ys old mid new first rest = (first.0, first.1, takes-both takes xs ys first.0 mid new first.2 rest)

-- the answers to pairs that were kept, with those behind them
answers-both : {P : Type 0} (first later : List (Drainage P)) (count : ℕ) (last : List Drained) → AreKept first → map answer_in later ≡ replicate count Kept ++ last
    → map answer_in (first ++ later) ≡ replicate (length first + count) Kept ++ last
answers-both first later count last kept are =
    map-append answer_in first later ∙ ap₂ (λ xs ys. xs ++ ys) kept are ∙ sym (append_assoc (replicate (length first) Kept) (replicate count Kept) last)
    ∙ ap (λ xs. xs ++ last) (replicate-append-replicate (length first) count Kept)

kept-both : {P : Type 0} (first later : List (Drainage P)) → AreKept first → AreKept later → AreKept (first ++ later)
kept-both first later kept are =
    map-append answer_in first later ∙ ap₂ (λ xs ys. xs ++ ys) kept are ∙ replicate-append-replicate (length first) (length later) Kept
    ∙ ap (λ (n : ℕ). replicate n Kept) (sym (length-append first later))

pairs-both : {P : Type 0} (first later : List (Drainage P)) (front back : List (Pair P)) → pairs_in first ≡ front → pairs_in later ≡ back → pairs_in (first ++ later) ≡ front ++ back
pairs-both first later front back one other = map-append pair_in first later ∙ ap₂ (λ xs ys. xs ++ ys) one other

begins-both : {P : Type 0} (first later : List (Drainage P)) (front back : List (Pair P)) → pairs_in first ≡ front → IsPrefix (pairs_in later) back → IsPrefix (pairs_in (first ++ later)) (front ++ back)
begins-both first later front back one begins = record {
  rest = begins.rest;
  is =
      ap (λ xs. front ++ xs) begins.is ∙ sym (append_assoc front (pairs_in later) begins.rest)
      ∙ ap (λ xs. xs ++ begins.rest) (sym (pairs-both first later front (pairs_in later) one refl));
}

ends-both : {P : Type 0} (ended : Fin) (first later : List (Drainage P)) (front back : List (Pair P)) → EndsJoin fin.Done true first front → EndsJoin ended true later back → EndsJoin ended true (first ++ later) (front ++ back)
ends-both fin.Done first later front back one other = (refl, kept-both first later one.1 other.1, pairs-both first later front back one.2 other.2)
ends-both fin.Refused first later front back one other =
    ((length first + other.0.0, answers-both first later other.0.0 (Refused ∷ []) one.1 other.0.1), begins-both first later front back one.2 other.1)
ends-both fin.Memory first later front back one other = (kept-both first later one.1 other.0, begins-both first later front back one.2 other.1)

module _ {P D : Type 0} (takes : D → Pair P → Drained → D → Type 0) where
  -- pairs are given behind others, which were kept
  pub gives-both : (ended : Fin) (front back : List (Pair P)) (unfilled mid filled : D) → GivesListed takes front fin.Done unfilled mid → GivesListed takes back ended mid filled → GivesListed takes (front ++ back) ended unfilled filled
  gives-both ended front back unfilled mid filled first later = record {
    taken = first.taken ++ later.taken;
    drain = takes-both takes first.taken later.taken unfilled mid filled first.drain later.drain;
    ends = ends-both ended first.taken later.taken front back first.ends later.ends;
  }

  -- none is given, of none that are to be given, or where memory runs out
  pub gives_nothing : (unfilled : D) → GivesListed takes [] fin.Done unfilled unfilled
  gives_nothing unfilled = record { taken = []; drain = refl; ends = (refl, refl, refl) }

  pub gives_none : (pairs : List (Pair P)) (unfilled : D) → GivesListed takes pairs fin.Memory unfilled unfilled
  gives_none pairs unfilled = record { taken = []; drain = refl; ends = (refl, record { rest = pairs; is = refl }) }

  -- one is given and kept
  pub gives_one : (pair : Pair P) (unfilled filled : D) → takes unfilled pair Kept filled
      → GivesListed takes (pair ∷ []) fin.Done unfilled filled
  gives_one pair unfilled filled took = record { taken = record { pair = pair; answer = Kept } ∷ []; drain = (filled, took, refl); ends = (refl, refl, refl) }

  -- one is given and refused
  pub gives_refused : (pair : Pair P) (pairs : List (Pair P)) (unfilled filled : D) → takes unfilled pair Refused filled → GivesListed takes (pair ∷ pairs) fin.Refused unfilled filled
  gives_refused pair pairs unfilled filled took = record {
    taken = record { pair = pair; answer = Refused } ∷ [];
    drain = (filled, took, refl);
    ends = ((0, refl), record { rest = pairs; is = refl });
  }

-- an element of a list cuts it in two
cut-at : {X : Type 0} (xs : List X) (i : ℕ) (x : X) → slice_get xs i ≡ Some x → xs ≡ take i xs ++ x ∷ drop (suc i) xs
cut-at [] i x e = absurd (cc)
cut-at (y ∷ ys) zero x e = let same : y ≡ x = cc in ap (λ z. z ∷ ys) same
cut-at (y ∷ ys) (suc i) x e = ap (λ zs. y ∷ zs) (cut-at ys i x e)

taken-one : {X : Type 0} (xs : List X) (i : ℕ) (x : X) → slice_get xs i ≡ Some x → take (suc i) xs ≡ take i xs ++ x ∷ []
taken-one [] i x e = absurd (cc)
taken-one (y ∷ ys) zero x e = let same : y ≡ x = cc in ap (λ z. z ∷ []) same
taken-one (y ∷ ys) (suc i) x e = ap (λ zs. y ∷ zs) (taken-one ys i x e)

module _ {P D : Type 0} (takes : D → Pair P → Drained → D → Type 0) (side : Side) (at : EventNo) (row : P) (partners : List (Partner P)) (unfilled : D) where
  -- the pairs with the first partners were given, and kept
  abbrev pub GaveFirst : ℕ → D → Type 0
  GaveFirst count filled = GivesListed takes (map (pair_of side at row) (take count partners)) fin.Done unfilled filled

  module _ (count : ℕ) (filled : D) (gave : GaveFirst count filled) (partner : Partner P) (is : Some partner ≡ slice_get partners count) where
    pairs_cut : map (pair_of side at row) (take count partners) ++ pair_of side at row partner ∷ map (pair_of side at row) (drop (suc count) partners) ≡ pairs_of (Handled at side row partners)
    pairs_cut =
        sym (map-append (pair_of side at row) (take count partners) (partner ∷ drop (suc count) partners))
        ∙ ap (λ (ps : List (Partner P)). map (pair_of side at row) ps) (sym (cut-at partners count partner (sym is)))

    -- memory runs out before the next one
    pub gave-memory : GivesListed takes (pairs_of (Handled at side row partners)) fin.Memory unfilled filled
    gave-memory =
        subst (λ (pairs : List (Pair P)). GivesListed takes pairs fin.Memory unfilled filled) pairs_cut
        (gives-both takes fin.Memory _ _ unfilled filled filled gave (gives_none takes (pair_of side at row partner ∷ map (pair_of side at row) (drop (suc count) partners)) filled))

    module _ (pair : Pair P) (made : pair ≡ pair_of side at row partner) (more : D) where
      -- the next one is refused
      pub gave-refused : takes filled pair Refused more
          → GivesListed takes (pairs_of (Handled at side row partners)) fin.Refused unfilled more
      gave-refused took =
          subst (λ (pairs : List (Pair P)). GivesListed takes pairs fin.Refused unfilled more) pairs_cut
          (gives-both takes fin.Refused _ _ unfilled filled more gave
          (gives_refused takes (pair_of side at row partner) (map (pair_of side at row) (drop (suc count) partners)) filled more (subst (λ (p : Pair P). takes filled p Refused more) made took)))

      -- the next one is kept
      pub gave-one : takes filled pair Kept more → GaveFirst (count + 1) more
      gave-one took =
          let next : count + 1 ≡ suc count = omega arith in
          let whole : map (pair_of side at row) (take count partners) ++ pair_of side at row partner ∷ [] ≡ map (pair_of side at row) (take (count + 1) partners) =
          sym (map-append (pair_of side at row) (take count partners) (partner ∷ []))
          ∙ ap (λ (ps : List (Partner P)). map (pair_of side at row) ps) (sym (ap (λ (n : ℕ). take n partners) next ∙ taken-one partners count partner (sym is))) in
          subst (λ (pairs : List (Pair P)). GivesListed takes pairs fin.Done unfilled more) whole
          (gives-both takes fin.Done _ _ unfilled filled more gave (gives_one takes (pair_of side at row partner) filled more (subst (λ (p : Pair P). takes filled p Kept more) made took)))

  -- no partner is left
  pub gave-all : (count : ℕ) (filled : D) → take count partners ≡ partners → GaveFirst count filled → GivesListed takes (pairs_of (Handled at side row partners)) fin.Done unfilled filled
  gave-all count filled all gave =
      subst (λ (pairs : List (Pair P)). GivesListed takes pairs fin.Done unfilled filled) (ap (λ (ps : List (Partner P)). map (pair_of side at row) ps) all) gave

pub was_kept : (answer : Drained) → (answer ≡ Refused → ⊥) → answer ≡ Kept
was_kept Kept other = refl
was_kept Refused other = absurd (other refl)

-- where all pairs were given, memory may run out behind them
gives-still : {P D : Type 0} (takes : D → Pair P → Drained → D → Type 0) (pairs : List (Pair P)) (ended : Fin) (unfilled filled : D) → (ended ≡ fin.Refused → ⊥) → GivesListed takes pairs fin.Done unfilled filled → GivesListed takes pairs ended unfilled filled
gives-still takes pairs fin.Done unfilled filled other gave = gave
gives-still takes pairs fin.Refused unfilled filled other gave = absurd (other refl)
gives-still takes pairs fin.Memory unfilled filled other gave = record {
  taken = gave.taken;
  drain = gave.drain;
  ends = (gave.ends.1, record { rest = []; is = sym gave.ends.2 ∙ sym (append-nil (pairs_in gave.taken)) });
}

-- the pairs with the partners that were found were given, before memory ran out or not
pub arrived : {P D : Type 0} (takes : D → Pair P → Drained → D → Type 0) (side : Side) (at : EventNo) (row : P) (found partners : List (Partner P)) (given ended : Fin) (unfilled filled : D) → found ≡ partners → given ≡ fin.Done → (ended ≡ fin.Refused → ⊥)
    → GivesListed takes (pairs_of (Handled at side row found)) given unfilled filled → GivesListed takes (pairs_of (Handled at side row partners)) ended unfilled filled
arrived takes side at row found partners given ended unfilled filled same all other gave =
    gives-still takes (pairs_of (Handled at side row partners)) ended unfilled filled other
    (subst₂ (λ (ps : List (Partner _)) (how : Fin). GivesListed takes (pairs_of (Handled at side row ps)) how unfilled filled) same all gave)
