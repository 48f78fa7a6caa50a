-- Which rows stay in their places, through the changes of a list of places.
use Rattle.std.proofs.Common.{◌≡◌, ℕ, zero, suc, Bool, true, false, cond, nat_eq, List, [], ◌∷◌, ◌++◌, map, None, Some, Option, filter, option_map, slice_get, length, ◌≤◌, ◌+◌, arith, refl, sym, ap, subst, ◌∙◌}
use Rattle.std.specs.Map.{lookup, set_value, remove_entry}
use Rattle.indexmap.specs.IndexMap.{insert_entry}
use Rattle.hj_rows.specs.declared.place.RestingRow.{RestingRow}
use Rattle.hj_rows.specs.Places.{place_rows, settled_place, StayInPlace}
use Rattle.hj_rows.proofs.Rows.{inserted-removed, Places}

abbrev row_in : {P : Type 0} → Option (RestingRow P) → Option P
row_in place = option_map (λ rest. rest.row) place

settled_row : {P : Type 0} (place : Option (RestingRow P)) → row_in (settled_place place) ≡ row_in place
settled_row None = refl
settled_row (Some rest) = refl

-- a place that is settled
pub settled-stays : {P : Type 0} (k : ℕ) (place : Option (RestingRow P)) (es : Places P) → lookup (nat_eq k) es ≡ Some place → place_rows (set_value (nat_eq k) es (settled_place place)) ≡ place_rows es
settled-stays k place [] at = refl
settled-stays {P = P} k place ((n, other) ∷ es) at = by (nat_eq k n) refl at (settled-stays k place es)
  where
    by : (b : Bool) → nat_eq k n ≡ b → cond b (Some other) (lookup (nat_eq k) es) ≡ Some place → (lookup (nat_eq k) es ≡ Some place → place_rows (set_value (nat_eq k) es (settled_place place)) ≡ place_rows es)
        → place_rows (cond (nat_eq k n) ((n, settled_place place) ∷ es) ((n, other) ∷ set_value (nat_eq k) es (settled_place place))) ≡ row_in other ∷ place_rows es
    by true p h later = let same : other ≡ place = cc in rw (p, same) (ap (λ row. row ∷ place_rows es) (settled_row place))
    by false p h later = rw p (ap (λ rows. row_in other ∷ rows) (later h))

-- a place that is emptied
pub emptied-stays : {P : Type 0} (k : ℕ) (es : Places P) → StayInPlace (place_rows es) (place_rows (set_value (nat_eq k) es None))
emptied-stays k [] at row e = e
emptied-stays {P = P} k ((n, other) ∷ es) at row e = by (nat_eq k n) at e (emptied-stays k es)
  where
    by : (b : Bool) (at : ℕ) → slice_get (place_rows (cond b ((n, None) ∷ es) ((n, other) ∷ set_value (nat_eq k) es None))) at ≡ Some (Some row) → StayInPlace (place_rows es) (place_rows (set_value (nat_eq k) es None))
        → slice_get (row_in other ∷ place_rows es) at ≡ Some (Some row)
    by true zero e later = absurd cc
    by true (suc at) e later = e
    by false zero e later = e
    by false (suc at) e later = later at row e

pub kept-le : {A : Type 0} (p : A → Bool) (xs : List A) → length (filter p xs) ≤ length xs
kept-le p [] = omega arith
kept-le {A} p (x ∷ xs) = by (p x) (kept-le p xs)
  where
    by : (b : Bool) → length (filter p xs) ≤ length xs → length (cond b (x ∷ filter p xs) (filter p xs)) ≤ length (x ∷ xs)
    by true h = omega arith
    by false h = omega arith

-- where as many are kept as there were, all are kept
pub all-kept : {A : Type 0} (p : A → Bool) (xs : List A) → length (filter p xs) ≡ length xs → filter p xs ≡ xs
all-kept p [] e = refl
all-kept {A} p (x ∷ xs) e = by (p x) e (all-kept p xs)
  where
    by : (b : Bool) → length (cond b (x ∷ filter p xs) (filter p xs)) ≡ length (x ∷ xs) → (length (filter p xs) ≡ length xs → filter p xs ≡ xs) → cond b (x ∷ filter p xs) (filter p xs) ≡ x ∷ xs
    by true e later = ap (λ ys. x ∷ ys) (later (omega arith))
    by false e later = absurd (omega (arith, kept-le p xs))

-- where an insert makes the list longer, it adds to its end
pub inserted-last : {X : Type 0} (k : ℕ) (v : X) (es : List (ℕ × X)) → length (insert_entry nat_eq es k v) ≡ length es + 1 → insert_entry nat_eq es k v ≡ es ++ (k, v) ∷ []
inserted-last k v [] e = refl
inserted-last {X} k v ((n, w) ∷ es) e = by (nat_eq k n) e (inserted-last k v es)
  where
    by : (b : Bool) → length (cond b ((n, v) ∷ es) ((n, w) ∷ insert_entry nat_eq es k v)) ≡ length ((n, w) ∷ es) + 1 → (length (insert_entry nat_eq es k v) ≡ length es + 1 → insert_entry nat_eq es k v ≡ es ++ (k, v) ∷ [])
        → cond b ((n, v) ∷ es) ((n, w) ∷ insert_entry nat_eq es k v) ≡ (n, w) ∷ (es ++ (k, v) ∷ [])
    by true e later = absurd (omega arith)
    by false e later = ap (λ ys. (n, w) ∷ ys) (later (omega arith))

pub inserted-le : {X : Type 0} (k : ℕ) (v : X) (es : List (ℕ × X)) → length (insert_entry nat_eq es k v) ≤ length es + 1
inserted-le k v [] = omega arith
inserted-le {X} k v ((n, w) ∷ es) = by (nat_eq k n) (inserted-le k v es)
  where
    by : (b : Bool) → length (insert_entry nat_eq es k v) ≤ length es + 1 → length (cond b ((n, v) ∷ es) ((n, w) ∷ insert_entry nat_eq es k v)) ≤ length ((n, w) ∷ es) + 1
    by true h = omega arith
    by false h = omega arith

removed-fewer : {X : Type 0} (k : ℕ) (v : X) (es : List (ℕ × X)) → lookup (nat_eq k) es ≡ Some v → length (remove_entry (nat_eq k) es) + 1 ≤ length es
removed-fewer k v [] at = absurd cc
removed-fewer {X} k v ((n, w) ∷ es) at = by (nat_eq k n) at (removed-fewer k v es)
  where
    by : (b : Bool) → cond b (Some w) (lookup (nat_eq k) es) ≡ Some v → (lookup (nat_eq k) es ≡ Some v → length (remove_entry (nat_eq k) es) + 1 ≤ length es)
        → length (cond b es ((n, w) ∷ remove_entry (nat_eq k) es)) + 1 ≤ length ((n, w) ∷ es)
    by true at later = omega arith
    by false at later = let h = later at in omega (arith, h)

-- an entry that is taken out and put in again makes the list no longer
pub moved-le : {X : Type 0} (k : ℕ) (v w : X) (es : List (ℕ × X)) → lookup (nat_eq k) es ≡ Some v → length (insert_entry nat_eq (remove_entry (nat_eq k) es) k w) ≤ length es
moved-le k v w es at = omega (arith, inserted-le k w (remove_entry (nat_eq k) es), removed-fewer k v es at)

-- a row that is put under a number which had an empty place, behind all others
pub put-again : {P : Type 0} (k : ℕ) (place : Option (RestingRow P)) (es new last : Places P) (v : Option (RestingRow P)) → lookup (nat_eq k) es ≡ Some v → new ≡ insert_entry nat_eq es k place
    → last ≡ insert_entry nat_eq (remove_entry (nat_eq k) new) k place → length last ≤ length es
put-again {P} k place es new last v at puts moves =
    subst (λ (ys : Places P). length ys ≤ length es) (sym (moves ∙ ap (λ ys. insert_entry nat_eq (remove_entry (nat_eq k) ys) k place) puts ∙ ap (λ ys. insert_entry nat_eq ys k place) (inserted-removed k place es)))
    (moved-le k v place es at)

map-last : {A B : Type 0} (f : A → B) (xs : List A) (x : A) → map f (xs ++ x ∷ []) ≡ map f xs ++ f x ∷ []
map-last f [] x = refl
map-last f (y ∷ xs) x = ap (λ ys. f y ∷ ys) (map-last f xs x)

-- a row that is put under a new number
pub put-last : {P : Type 0} (k : ℕ) (rest : RestingRow P) (es new : Places P) → new ≡ insert_entry nat_eq es k (Some rest) → length new ≡ length es + 1
    → place_rows new ≡ place_rows es ++ Some rest.row ∷ []
put-last {P} k rest es new puts long =
    ap place_rows (puts ∙ inserted-last k (Some rest) es (sym (ap length puts) ∙ long))
    ∙ map-last (λ (place : ℕ × Option (RestingRow P)). row_in place.1) es (k, Some rest)

length-set : {X : Type 0} (k : ℕ) (v : X) (es : List (ℕ × X)) → length (set_value (nat_eq k) es v) ≡ length es
length-set k v [] = refl
length-set {X} k v ((n, w) ∷ es) = by (nat_eq k n) (length-set k v es)
  where
    by : (b : Bool) → length (set_value (nat_eq k) es v) ≡ length es → length (cond b ((n, v) ∷ es) ((n, w) ∷ set_value (nat_eq k) es v)) ≡ suc (length es)
    by true h = refl
    by false h = ap suc h

pub emptied-length : {P : Type 0} (k : ℕ) (es new : Places P) → new ≡ set_value (nat_eq k) es None → length new ≡ length es
emptied-length {P} k es new empties = ap length empties ∙ length-set k None es

-- a place that is emptied, where no place is swept out then
pub emptied-swept : {P : Type 0} (k : ℕ) (es new swept : Places P) → new ≡ set_value (nat_eq k) es None → swept ≡ new → StayInPlace (place_rows es) (place_rows swept)
emptied-swept {P} k es new swept empties same =
    subst (λ (ys : Places P). StayInPlace (place_rows es) (place_rows ys)) (sym (same ∙ empties)) (emptied-stays k es)
