-- What hands hold of the items that were dealt to them.
use Rattle.std.proofs.Common.{◌≡◌, ℕ, zero, suc, ◌+◌, ◌*◌, ◌/◌, ◌<◌, ◌≤◌, List, [], ◌∷◌, ◌++◌, length, replicate, reverse, get_or, set, take, refl, ap, ap₂, sym, subst, arith}
use Rattle.std.specs.List.{AllZip}
use Rattle.std.proofs.Math.Nat.{div-lt_iff_lt-mul, div-mul-le_self}
use Rattle.std.proofs.lemmas.List.{reverse-append}
use Rattle.std.proofs.lemmas.Nat.{le-div, mul-le}
use Rattle.hj_crew.specs.Deal.{AreEmpty, gathered}

-- ---- whose turn it is

module _ (place cores hands : ℕ) (low : place < cores) (some : 0 < hands) where
  next-less : place * hands + hands ≤ cores * hands
  next-less = omega (arith, mul-le (place + 1) hands cores hands (omega (arith, low)) (omega arith))

  pub hand-in_range : place * hands / cores < hands
  hand-in_range = (div-lt_iff_lt-mul {k = cores} {x = place * hands} {y = hands} (omega (arith, low))).1 (omega (arith, next-less, some))

  -- an earlier item goes to no later hand
  pub hand-before : place * hands / cores ≤ (place + 1) * hands / cores
  hand-before = le-div (place * hands / cores) ((place + 1) * hands) cores (omega (arith, low)) (omega (arith, div-mul-le_self (place * hands) cores))

-- ---- hands

module _ {A : Type 0} where
  pub none-gathered : (count : ℕ) → gathered (replicate {A = List A} count []) ≡ []
  none-gathered zero = refl
  none-gathered (suc count) = none-gathered count

  -- fewer hands are empty too
  pub fewer-empty : (few many : ℕ) (hands : List (List A)) → few ≤ many → AreEmpty many hands → AreEmpty few hands
  fewer-empty zero many hands less empty = refl
  fewer-empty (suc few) zero hands less empty = absurd (omega (arith, less))
  fewer-empty (suc few) (suc many) [] less empty = absurd (cc)
  fewer-empty (suc few) (suc many) (hand ∷ hands) less empty =
      let first : hand ≡ [] = cc in
      let others : take many hands ≡ replicate many [] = cc in
      ap₂ (λ (h : List A) (hs : List (List A)). h ∷ hs) first (fewer-empty few many hands (omega (arith, less)) others)

  -- an item more behind those of a hand, before which all are empty, comes first
  pub gathered-with : (hands : List (List A)) (at : ℕ) (item : A) → at < length hands → AreEmpty at hands → gathered (set hands at (get_or hands at [] ++ item ∷ [])) ≡ item ∷ gathered hands
  gathered-with [] at item low empty = absurd (omega (arith, low))
  gathered-with (hand ∷ hands) zero item low empty = ap (λ (l : List A). l ++ gathered hands) (reverse-append hand (item ∷ []))
  gathered-with (hand ∷ hands) (suc at) item low empty =
      let first : hand ≡ [] = cc in
      let others : take at hands ≡ replicate at [] = cc in
      subst (λ (h : List A). reverse h ++ gathered (set hands at (get_or hands at [] ++ item ∷ [])) ≡ item ∷ (reverse h ++ gathered hands)) (sym first) (gathered-with hands at item (omega (arith, low)) others)

-- ---- two lists of the same length, whose items are related

module _ {A B : Type 0} (R : A → B → Type 0) where
  -- what is related to a list with one item more behind
  pub record EndsRelated (xs : List A) (x : A) (ys : List B) : Type 0 where
    pub front : List B
    pub last : B
    pub is : ys ≡ front ++ last ∷ []
    pub fronts : AllZip R xs front
    pub lasts : R x last

  pub ends_related : (xs : List A) (x : A) (ys : List B) → AllZip R (xs ++ x ∷ []) ys → EndsRelated xs x ys
  ends_related [] x [] related = absurd related
  ends_related [] x (y ∷ []) related = record { front = []; last = y; is = refl; fronts = tt; lasts = related.0 }
  ends_related [] x (y ∷ z ∷ ys) related = absurd related.1
  ends_related (a ∷ xs) x [] related = absurd related
  ends_related (a ∷ xs) x (y ∷ ys) related =
      let later = ends_related xs x ys related.1 in
      record { front = y ∷ later.front; last = later.last; is = ap (λ l. y ∷ l) later.is; fronts = (related.0, later.fronts); lasts = later.lasts }

  related-append : (xs zs : List A) (ys ws : List B) → AllZip R xs ys → AllZip R zs ws → AllZip R (xs ++ zs) (ys ++ ws)
  related-append [] zs [] ws first second = second
  related-append [] zs (y ∷ ys) ws first second = absurd first
  related-append (x ∷ xs) zs [] ws first second = absurd first
  related-append (x ∷ xs) zs (y ∷ ys) ws first second = (first.0, related-append xs zs ys ws first.1 second)

  related-reverse : (xs : List A) (ys : List B) → AllZip R xs ys → AllZip R (reverse xs) (reverse ys)
  related-reverse [] [] related = tt
  related-reverse [] (y ∷ ys) related = absurd related
  related-reverse (x ∷ xs) [] related = absurd related
  related-reverse (x ∷ xs) (y ∷ ys) related =
      let both : AllZip R (reverse xs ++ x ∷ []) (reverse ys ++ y ∷ []) = related-append (reverse xs) (x ∷ []) (reverse ys) (y ∷ []) (related-reverse xs ys related.1) (related.0, tt) in
      subst (λ (l : List B). AllZip R (reverse (x ∷ xs)) l) (sym (reverse-append (y ∷ []) ys)) (subst (λ (l : List A). AllZip R l (reverse ys ++ y ∷ [])) (sym (reverse-append (x ∷ []) xs)) both)

  -- what hands hold that are related item by item
  pub related-gathered : (hands : List (List A)) (others : List (List B)) → AllZip (AllZip R) hands others → AllZip R (gathered hands) (gathered others)
  related-gathered [] [] related = tt
  related-gathered [] (other ∷ others) related = absurd related
  related-gathered (hand ∷ hands) [] related = absurd related
  related-gathered (hand ∷ hands) (other ∷ others) related =
      related-append (reverse hand) (gathered hands) (reverse other) (gathered others) (related-reverse hand other related.0) (related-gathered hands others related.1)
