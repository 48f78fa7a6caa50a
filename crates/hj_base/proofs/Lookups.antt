-- What a look-up finds once bytes were put under a name.
use Rattle.std.proofs.Common.{◌≡◌, ◌≢◌, ℕ, Bool, List, [], ◌∷◌, ◌++◌, true, false, set, get_or, refl, sym, ◌∙◌, ap, cond, arith, Some, None, position, find, bytes_eq, option_map, Option}
use Rattle.std.proofs.lemmas.List.Folds.{find-set, find_past, find-append, find_at}
use Rattle.std.specs.List.{position_or_len}
use Rattle.std.specs.Option.{option_or}
use Rattle.std.proofs.lemmas.List.Sums.{position_or_len_is}
use Rattle.std.proofs.lemmas.Option.{slice_get_past}
use Rattle.std.proofs.lemmas.List.Quantifiers.{position-Some}
use Rattle.std.proofs.lemmas.Slice.Eq.{bytes_eq-Decides}
use Rattle.std.proofs.lemmas.Bool.{false_from_ne_true}
use Rattle.std.proofs.lemmas.Grind.{common_steps}
use Rattle.hj_base.specs.MemOutside.{lookup}

-- Names that differ fail the test.
pub differs : (other name : List ℕ) → other ≢ name → bytes_eq name other ≡ false
differs other name ne = false_from_ne_true _ (λ e. ne (sym ((bytes_eq-Decides name other).0 e)))

pub same_name : (name : List ℕ) → bytes_eq name name ≡ true
same_name name = (bytes_eq-Decides name name).1 refl

-- the first element that passes a test is none where it has no position
pub find_none : {X : Type 0} (p : X → Bool) (xs : List X) → position p xs ≡ None → find p xs ≡ None
find_none p xs missing = find_at p xs ∙ slice_get_past xs (position_or_len p xs) (grind (arith, common_steps))

pub find_push : {X : Type 0} (p : X → Bool) (xs : List X) (x : X) → find p (xs ++ x ∷ []) ≡ option_or (find p xs) (cond (p x) (Some x) None)
find_push p xs x = find-append p xs (x ∷ [])

pub or_none : {X : Type 0} (found : Option X) → option_or found None ≡ found
or_none None = refl
or_none (Some x) = refl

pub lookup_set_same : (contents : List (List ℕ × List ℕ)) (name bytes : List ℕ) (i : ℕ) → position (λ content. bytes_eq content.0 name) contents ≡ Some i → lookup (set contents i (name, bytes)) name ≡ Some bytes
lookup_set_same contents name bytes i found =
    let facts = position-Some (λ (content : List ℕ × List ℕ). bytes_eq content.0 name) contents i ([], []) found in
    let first : position_or_len (λ (content : List ℕ × List ℕ). bytes_eq content.0 name) contents ≡ i = position_or_len_is _ contents i ([], []) (omega (arith, facts.0)) facts.2 (λ _. facts.1) in
    ap (option_map (λ (content : List ℕ × List ℕ). content.1)) (find-set _ contents i (name, bytes) (sym first) facts.0 (same_name name))

pub lookup_set_other : (contents : List (List ℕ × List ℕ)) (name bytes other : List ℕ) (i : ℕ) → position (λ content. bytes_eq content.0 name) contents ≡ Some i → other ≢ name → lookup (set contents i (name, bytes)) other ≡ lookup contents other
lookup_set_other contents name bytes other i found ne =
    let facts = position-Some (λ (content : List ℕ × List ℕ). bytes_eq content.0 name) contents i ([], []) found in
    let here : (get_or contents i ([], [])).0 ≡ name = (bytes_eq-Decides _ name).0 facts.1 in
    let past : bytes_eq (get_or contents i ([], [])).0 other ≡ false = rw here (differs other name ne) in
    ap (option_map (λ (content : List ℕ × List ℕ). content.1)) (find_past (λ (content : List ℕ × List ℕ). bytes_eq content.0 other) contents i (name, bytes) ([], []) past (differs other name ne))

pub lookup_push_same : (contents : List (List ℕ × List ℕ)) (name bytes : List ℕ) → position (λ content. bytes_eq content.0 name) contents ≡ None → lookup (contents ++ (name, bytes) ∷ []) name ≡ Some bytes
lookup_push_same contents name bytes missing =
    rw (find_push (λ (content : List ℕ × List ℕ). bytes_eq content.0 name) contents (name, bytes), find_none (λ (content : List ℕ × List ℕ). bytes_eq content.0 name) contents missing, same_name name) refl

pub lookup_push_other : (contents : List (List ℕ × List ℕ)) (name bytes other : List ℕ) → other ≢ name → lookup (contents ++ (name, bytes) ∷ []) other ≡ lookup contents other
lookup_push_other contents name bytes other ne =
    rw (find_push (λ (content : List ℕ × List ℕ). bytes_eq content.0 other) contents (name, bytes), differs other name ne, or_none (find (λ (content : List ℕ × List ℕ). bytes_eq content.0 other) contents)) refl
