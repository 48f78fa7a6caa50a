-- The rows of a list of places, through the changes of that list.
use Rattle.std.proofs.Common.{◌≡◌, ℕ, Bool, true, false, cond, nat_eq, ◌||◌, List, [], ◌∷◌, None, Some, Option, All, filter, is_some, option_map, option_and_then, slice_get, map, zero, suc, length, ◌≤◌, arith, refl, sym, ap, ◌∙◌}
use Rattle.std.specs.Cmp.{nat_eq_equiv}
use Rattle.std.specs.List.{IsDistinct, AllByRecursion}
use Rattle.std.specs.Map.{keys_of, lookup, set_value, remove_entry}
use Rattle.std.proofs.lemmas.Bool.{or_parts, or_from, or_left, or_right, eqb-true, eqb-false}
use Rattle.std.proofs.lemmas.List.Elements.{All-nil, All-cons}
use Rattle.std.proofs.lemmas.List.Kept.{AllPairs-cons}
use Rattle.std.proofs.lemmas.Map.{lookup-none, lookup-remove_entry}
use Rattle.std.proofs.lemmas.Map.Entries.{none_past_head}
use Rattle.std.proofs.lemmas.Map.Keys.{IsDistinct-head, IsDistinct-tail}
use Rattle.indexmap.specs.IndexMap.{insert_entry}
use Rattle.hj_msg.specs.Store.{Resting, AreDistinct, holds, with_entry, with_settled, without_entry}
use Rattle.hj_rows.specs.declared.place.RestingRow.{RestingRow}
use Rattle.hj_rows.specs.Places.{entry_at, is_empty_place, row_at, rows_of, settled_place}

abbrev pub Places : Type 0 → Type 0
Places P = List (ℕ × Option (RestingRow P))

abbrev pub row_of : {P : Type 0} → ℕ → RestingRow P → Resting P
row_of number rest = record { no = number; row = rest.row; settled = rest.settled }

-- ---- numbers of places

pub none-tail : {X : Type 0} (k n : ℕ) (v : X) (es : List (ℕ × X)) → lookup (nat_eq k) ((n, v) ∷ es) ≡ None → (nat_eq k n ≡ false) × (lookup (nat_eq k) es ≡ None)
none-tail k n v es at = by (nat_eq k n) refl at
  where
    by : (b : Bool) → nat_eq k n ≡ b → cond b (Some v) (lookup (nat_eq k) es) ≡ None → (nat_eq k n ≡ false) × (lookup (nat_eq k) es ≡ None)
    by true p h = cc
    by false p h = (p, h)

-- no later place has the number of the first
pub past-head : {X : Type 0} (k n : ℕ) (v : X) (es : List (ℕ × X)) → IsDistinct nat_eq (keys_of ((n, v) ∷ es)) → nat_eq k n ≡ true → lookup (nat_eq k) es ≡ None
past-head k n v es unique p = lookup-none (nat_eq k) es (none_past_head nat_eq_equiv k (n, v) es unique p)

pub flipped : (k n : ℕ) (b : Bool) → nat_eq k n ≡ b → nat_eq n k ≡ b
flipped k n b p = nat_eq_equiv.symm n k ∙ p

-- ---- which numbers are held

pub holds-absent : {P : Type 0} (k : ℕ) (es : Places P) → lookup (nat_eq k) es ≡ None → holds k (rows_of es) ≡ false
holds-absent k [] at = refl
holds-absent k ((n, None) ∷ es) at = holds-absent k es (none-tail k n None es at).1
holds-absent k ((n, Some rest) ∷ es) at =
    let t = none-tail k n (Some rest) es at in
    or_from (nat_eq n k) (holds k (rows_of es)) (flipped k n false t.0) (holds-absent k es t.1)

pub holds-empty : {P : Type 0} (k : ℕ) (es : Places P) → IsDistinct nat_eq (keys_of es) → lookup (nat_eq k) es ≡ Some None → holds k (rows_of es) ≡ false
holds-empty k [] unique at = cc
holds-empty k ((n, None) ∷ es) unique at = by (nat_eq k n) refl at (holds-empty k es (IsDistinct-tail nat_eq n (keys_of es) unique))
  where
    by : (b : Bool) → nat_eq k n ≡ b → cond b (Some None) (lookup (nat_eq k) es) ≡ Some None → (lookup (nat_eq k) es ≡ Some None → holds k (rows_of es) ≡ false) → holds k (rows_of es) ≡ false
    by true p h later = holds-absent k es (past-head k n None es unique p)
    by false p h later = later h
holds-empty k ((n, Some rest) ∷ es) unique at = by (nat_eq k n) refl at (holds-empty k es (IsDistinct-tail nat_eq n (keys_of es) unique))
  where
    by : (b : Bool) → nat_eq k n ≡ b → cond b (Some (Some rest)) (lookup (nat_eq k) es) ≡ Some None → (lookup (nat_eq k) es ≡ Some None → holds k (rows_of es) ≡ false) → (nat_eq n k || holds k (rows_of es)) ≡ false
    by true p h later = cc
    by false p h later = or_from (nat_eq n k) (holds k (rows_of es)) (flipped k n false p) (later h)

pub holds-row : {P : Type 0} (k : ℕ) (rest : RestingRow P) (es : Places P) → lookup (nat_eq k) es ≡ Some (Some rest) → holds k (rows_of es) ≡ true
holds-row k rest [] at = cc
holds-row k rest ((n, None) ∷ es) at = by (nat_eq k n) refl at (holds-row k rest es)
  where
    by : (b : Bool) → nat_eq k n ≡ b → cond b (Some None) (lookup (nat_eq k) es) ≡ Some (Some rest) → (lookup (nat_eq k) es ≡ Some (Some rest) → holds k (rows_of es) ≡ true) → holds k (rows_of es) ≡ true
    by true p h later = cc
    by false p h later = later h
holds-row k rest ((n, Some row) ∷ es) at = by (nat_eq k n) refl at (holds-row k rest es)
  where
    by : (b : Bool) → nat_eq k n ≡ b → cond b (Some (Some row)) (lookup (nat_eq k) es) ≡ Some (Some rest) → (lookup (nat_eq k) es ≡ Some (Some rest) → holds k (rows_of es) ≡ true) → (nat_eq n k || holds k (rows_of es)) ≡ true
    by true p h later = or_left (nat_eq n k) (holds k (rows_of es)) (flipped k n true p)
    by false p h later = or_right (nat_eq n k) (holds k (rows_of es)) (later h)

-- ---- rows that hold no row of a number

or-false : (b : Bool) → (b || false) ≡ b
or-false true = refl
or-false false = refl

pub settled-absent : {P : Type 0} (k : ℕ) (rows : List (Resting P)) → holds k rows ≡ false → with_settled k rows ≡ rows
settled-absent k [] h = refl
settled-absent k (row ∷ rows) h =
    let p = or_parts (nat_eq row.no k) (holds k rows) h in
    rw (p.0, or-false row.settled, settled-absent k rows p.1)

pub without-absent : {P : Type 0} (k : ℕ) (rows : List (Resting P)) → holds k rows ≡ false → without_entry k rows ≡ rows
without-absent k [] h = refl
without-absent k (row ∷ rows) h =
    let p = or_parts (nat_eq row.no k) (holds k rows) h in
    rw (p.0, without-absent k rows p.1)

-- ---- changes of places

or-true : (b : Bool) → (b || true) ≡ true
or-true true = refl
or-true false = refl

abbrev settled_rest : {P : Type 0} → RestingRow P → RestingRow P
settled_rest rest = record rest { settled = true }

-- a place whose row is settled
pub rows-settled : {P : Type 0} (k : ℕ) (rest : RestingRow P) (es : Places P) → IsDistinct nat_eq (keys_of es) → lookup (nat_eq k) es ≡ Some (Some rest)
    → rows_of (set_value (nat_eq k) es (Some (record rest { settled = true }))) ≡ with_settled k (rows_of es)
rows-settled k rest [] unique at = cc
rows-settled {P = P} k rest ((n, None) ∷ es) unique at = by (nat_eq k n) refl at (rows-settled k rest es (IsDistinct-tail nat_eq n (keys_of es) unique))
  where
    by : (b : Bool) → nat_eq k n ≡ b → cond b (Some None) (lookup (nat_eq k) es) ≡ Some (Some rest) → (lookup (nat_eq k) es ≡ Some (Some rest) → rows_of (set_value (nat_eq k) es (Some (settled_rest rest))) ≡ with_settled k (rows_of es))
        → rows_of (cond (nat_eq k n) ((n, Some (settled_rest rest)) ∷ es) ((n, None) ∷ set_value (nat_eq k) es (Some (settled_rest rest)))) ≡ with_settled k (rows_of es)
    by true p h later = cc
    by false p h later = rw p (later h)
rows-settled {P = P} k rest ((n, Some row) ∷ es) unique at = by (nat_eq k n) refl at (rows-settled k rest es (IsDistinct-tail nat_eq n (keys_of es) unique))
  where
    by : (b : Bool) → nat_eq k n ≡ b → cond b (Some (Some row)) (lookup (nat_eq k) es) ≡ Some (Some rest) → (lookup (nat_eq k) es ≡ Some (Some rest) → rows_of (set_value (nat_eq k) es (Some (settled_rest rest))) ≡ with_settled k (rows_of es))
        → rows_of (cond (nat_eq k n) ((n, Some (settled_rest rest)) ∷ es) ((n, Some row) ∷ set_value (nat_eq k) es (Some (settled_rest rest)))) ≡ with_settled k (row_of n row ∷ rows_of es)
    by true p h later =
        let same : row ≡ rest = cc in
        rw (p, flipped k n true p, or-true row.settled, same, settled-absent k (rows_of es) (holds-absent k es (past-head k n (Some row) es unique p))) refl
    by false p h later = rw (p, flipped k n false p, or-false row.settled) (ap (λ rows. row_of n row ∷ rows) (later h))

-- a place that is emptied
pub rows-emptied : {P : Type 0} (k : ℕ) (es : Places P) → IsDistinct nat_eq (keys_of es) → rows_of (set_value (nat_eq k) es None) ≡ without_entry k (rows_of es)
rows-emptied k [] unique = refl
rows-emptied {P = P} k ((n, None) ∷ es) unique = by (nat_eq k n) refl (rows-emptied k es (IsDistinct-tail nat_eq n (keys_of es) unique))
  where
    by : (b : Bool) → nat_eq k n ≡ b → rows_of (set_value (nat_eq k) es None) ≡ without_entry k (rows_of es)
        → rows_of (cond (nat_eq k n) ((n, None) ∷ es) ((n, None) ∷ set_value (nat_eq k) es None)) ≡ without_entry k (rows_of es)
    by true p later = rw p (sym (without-absent k (rows_of es) (holds-absent k es (past-head k n None es unique p))))
    by false p later = rw p later
rows-emptied {P = P} k ((n, Some row) ∷ es) unique = by (nat_eq k n) refl (rows-emptied k es (IsDistinct-tail nat_eq n (keys_of es) unique))
  where
    by : (b : Bool) → nat_eq k n ≡ b → rows_of (set_value (nat_eq k) es None) ≡ without_entry k (rows_of es)
        → rows_of (cond (nat_eq k n) ((n, None) ∷ es) ((n, Some row) ∷ set_value (nat_eq k) es None)) ≡ without_entry k (row_of n row ∷ rows_of es)
    by true p later = rw (p, flipped k n true p) (sym (without-absent k (rows_of es) (holds-absent k es (past-head k n (Some row) es unique p))))
    by false p later = rw (p, flipped k n false p) (ap (λ rows. row_of n row ∷ rows) later)

-- a row that is put under a number whose place isn't empty
pub rows-inserted : {P : Type 0} (k : ℕ) (rest : RestingRow P) (es : Places P) → is_empty_place (lookup (nat_eq k) es) ≡ false
    → rows_of (insert_entry nat_eq es k (Some rest)) ≡ with_entry (row_of k rest) (rows_of es)
rows-inserted k rest [] full = refl
rows-inserted {P = P} k rest ((n, None) ∷ es) full = by (nat_eq k n) refl full (rows-inserted k rest es)
  where
    by : (b : Bool) → nat_eq k n ≡ b → is_empty_place (cond b (Some None) (lookup (nat_eq k) es)) ≡ false
        → (is_empty_place (lookup (nat_eq k) es) ≡ false → rows_of (insert_entry nat_eq es k (Some rest)) ≡ with_entry (row_of k rest) (rows_of es))
        → rows_of (cond (nat_eq k n) ((n, Some rest) ∷ es) ((n, None) ∷ insert_entry nat_eq es k (Some rest))) ≡ with_entry (row_of k rest) (rows_of es)
    by true p full later = cc
    by false p full later = rw p (later full)
rows-inserted {P = P} k rest ((n, Some row) ∷ es) full = by (nat_eq k n) refl full (rows-inserted k rest es)
  where
    by : (b : Bool) → nat_eq k n ≡ b → is_empty_place (cond b (Some (Some row)) (lookup (nat_eq k) es)) ≡ false
        → (is_empty_place (lookup (nat_eq k) es) ≡ false → rows_of (insert_entry nat_eq es k (Some rest)) ≡ with_entry (row_of k rest) (rows_of es))
        → rows_of (cond (nat_eq k n) ((n, Some rest) ∷ es) ((n, Some row) ∷ insert_entry nat_eq es k (Some rest))) ≡ with_entry (row_of k rest) (row_of n row ∷ rows_of es)
    by true p full later = rw (p, flipped k n true p) (ap (λ number. row_of number rest ∷ rows_of es) (sym (eqb-true k n p)))
    by false p full later = rw (p, flipped k n false p) (ap (λ rows. row_of n row ∷ rows) (later full))

-- an empty place that is taken out
pub rows-removed : {P : Type 0} (k : ℕ) (es : Places P) → lookup (nat_eq k) es ≡ Some None → rows_of (remove_entry (nat_eq k) es) ≡ rows_of es
rows-removed k [] at = refl
rows-removed {P = P} k ((n, None) ∷ es) at = by (nat_eq k n) refl at (rows-removed k es)
  where
    by : (b : Bool) → nat_eq k n ≡ b → cond b (Some None) (lookup (nat_eq k) es) ≡ Some None → (lookup (nat_eq k) es ≡ Some None → rows_of (remove_entry (nat_eq k) es) ≡ rows_of es)
        → rows_of (cond (nat_eq k n) es ((n, None) ∷ remove_entry (nat_eq k) es)) ≡ rows_of es
    by true p h later = rw p refl
    by false p h later = rw p (later h)
rows-removed {P = P} k ((n, Some row) ∷ es) at = by (nat_eq k n) refl at (rows-removed k es)
  where
    by : (b : Bool) → nat_eq k n ≡ b → cond b (Some (Some row)) (lookup (nat_eq k) es) ≡ Some None → (lookup (nat_eq k) es ≡ Some None → rows_of (remove_entry (nat_eq k) es) ≡ rows_of es)
        → rows_of (cond (nat_eq k n) es ((n, Some row) ∷ remove_entry (nat_eq k) es)) ≡ row_of n row ∷ rows_of es
    by true p h later = cc
    by false p h later = rw p (ap (λ rows. row_of n row ∷ rows) (later h))

-- an entry that was put in and is taken out again
pub inserted-removed : {X : Type 0} (k : ℕ) (v : X) (es : List (ℕ × X)) → remove_entry (nat_eq k) (insert_entry nat_eq es k v) ≡ remove_entry (nat_eq k) es
inserted-removed k v [] = rw (nat_eq_equiv.refl k) refl
inserted-removed {X = X} k v ((n, w) ∷ es) = by (nat_eq k n) refl (inserted-removed k v es)
  where
    by : (b : Bool) → nat_eq k n ≡ b → remove_entry (nat_eq k) (insert_entry nat_eq es k v) ≡ remove_entry (nat_eq k) es
        → remove_entry (nat_eq k) (cond (nat_eq k n) ((n, v) ∷ es) ((n, w) ∷ insert_entry nat_eq es k v)) ≡ cond (nat_eq k n) es ((n, w) ∷ remove_entry (nat_eq k) es)
    by true p later = rw p (rw p refl)
    by false p later = rw p (rw p (ap (λ rest. (n, w) ∷ rest) later))

pub found-empty : {P : Type 0} (place : Option (Option (RestingRow P))) → is_empty_place place ≡ true → place ≡ Some None
found-empty None h = cc
found-empty (Some None) h = refl
found-empty (Some (Some rest)) h = cc

-- a row that is put under a number whose place is empty, and moved behind all others
pub rows-moved : {P : Type 0} (k : ℕ) (rest : RestingRow P) (es : Places P) → IsDistinct nat_eq (keys_of es) → is_empty_place (lookup (nat_eq k) es) ≡ true
    → rows_of (insert_entry nat_eq (remove_entry (nat_eq k) (insert_entry nat_eq es k (Some rest))) k (Some rest)) ≡ with_entry (row_of k rest) (rows_of es)
rows-moved {P = P} k rest es unique empty =
    let at = found-empty (lookup (nat_eq k) es) empty in
    let gone : lookup (nat_eq k) (remove_entry (nat_eq k) es) ≡ None =
    lookup-remove_entry nat_eq_equiv (nat_eq k) (nat_eq_equiv.congr k) k es unique ∙ rw (nat_eq_equiv.refl k) refl in
    rw (inserted-removed k (Some rest) es)
    (rows-inserted k rest (remove_entry (nat_eq k) es) (ap is_empty_place gone) ∙ ap (with_entry (row_of k rest)) (rows-removed k es at))

-- ---- all places

-- empty places that are swept out
pub rows-swept : {P : Type 0} (es : Places P) → rows_of (filter (λ place. is_some place.1) es) ≡ rows_of es
rows-swept [] = refl
rows-swept ((n, None) ∷ es) = rows-swept es
rows-swept ((n, Some row) ∷ es) = ap (λ rows. row_of n row ∷ rows) (rows-swept es)

apart-from : {P : Type 0} (n : ℕ) (es : Places P) → AllByRecursion (λ m. nat_eq n m ≡ false) (keys_of es) → All (λ row. n ≡ row.no → ⊥) (rows_of es)
apart-from {P = P} n [] h = All-nil (λ (row : Resting P). n ≡ row.no → ⊥)
apart-from n ((m, None) ∷ es) h = apart-from n es h.1
apart-from {P = P} n ((m, Some row) ∷ es) h = All-cons (λ (row : Resting P). n ≡ row.no → ⊥) (row_of m row) (rows_of es) (eqb-false n m h.0) (apart-from n es h.1)

pub rows-distinct : {P : Type 0} (es : Places P) → IsDistinct nat_eq (keys_of es) → AreDistinct (rows_of es)
rows-distinct [] unique = λ i j d below within. absurd (omega (arith, within))
rows-distinct ((n, None) ∷ es) unique = rows-distinct es (IsDistinct-tail nat_eq n (keys_of es) unique)
rows-distinct {P = P} ((n, Some row) ∷ es) unique =
    AllPairs-cons (λ (row : Resting P) later. row.no ≡ later.no → ⊥) (row_of n row) (rows_of es)
    (apart-from n es (IsDistinct-head nat_eq n (keys_of es) unique))
    (rows-distinct es (IsDistinct-tail nat_eq n (keys_of es) unique))

-- ---- a place that was found

pub held-at : {P : Type 0} (k : ℕ) (place : Option (RestingRow P)) (es : Places P) → IsDistinct nat_eq (keys_of es) → lookup (nat_eq k) es ≡ Some place → is_some place ≡ holds k (rows_of es)
held-at k None es unique at = sym (holds-empty k es unique at)
held-at k (Some rest) es unique at = sym (holds-row k rest es at)

same-empty : {P : Type 0} (k : ℕ) (es : Places P) → lookup (nat_eq k) es ≡ Some None → set_value (nat_eq k) es None ≡ es
same-empty k [] at = refl
same-empty {P = P} k ((n, place) ∷ es) at = by (nat_eq k n) refl at (same-empty k es)
  where
    by : (b : Bool) → nat_eq k n ≡ b → cond b (Some place) (lookup (nat_eq k) es) ≡ Some None → (lookup (nat_eq k) es ≡ Some None → set_value (nat_eq k) es None ≡ es)
        → cond (nat_eq k n) ((n, None) ∷ es) ((n, place) ∷ set_value (nat_eq k) es None) ≡ (n, place) ∷ es
    by true p h later = let same : place ≡ None = cc in rw (p, same) refl
    by false p h later = rw p (ap (λ rest. (n, place) ∷ rest) (later h))

pub settled-at : {P : Type 0} (k : ℕ) (place : Option (RestingRow P)) (es : Places P) → IsDistinct nat_eq (keys_of es) → lookup (nat_eq k) es ≡ Some place
    → rows_of (set_value (nat_eq k) es (settled_place place)) ≡ with_settled k (rows_of es)
settled-at k None es unique at = rw (same-empty k es at) (sym (settled-absent k (rows_of es) (holds-empty k es unique at)))
settled-at k (Some rest) es unique at = rows-settled k rest es unique at

-- ---- the entry of a number

pub entry-absent : {P : Type 0} (k : ℕ) (es : Places P) → lookup (nat_eq k) es ≡ None → entry_at k (rows_of es) ≡ None
entry-absent k [] at = refl
entry-absent k ((n, None) ∷ es) at = entry-absent k es (none-tail k n None es at).1
entry-absent k ((n, Some rest) ∷ es) at =
    let t = none-tail k n (Some rest) es at in
    rw (flipped k n false t.0) (entry-absent k es t.1)

pub entry-found : {P : Type 0} (k : ℕ) (place : Option (RestingRow P)) (es : Places P) → IsDistinct nat_eq (keys_of es) → lookup (nat_eq k) es ≡ Some place
    → entry_at k (rows_of es) ≡ option_map (row_of k) place
entry-found k place [] unique at = cc
entry-found {P = P} k place ((n, None) ∷ es) unique at = by (nat_eq k n) refl at (entry-found k place es (IsDistinct-tail nat_eq n (keys_of es) unique))
  where
    by : (b : Bool) → nat_eq k n ≡ b → cond b (Some None) (lookup (nat_eq k) es) ≡ Some place → (lookup (nat_eq k) es ≡ Some place → entry_at k (rows_of es) ≡ option_map (row_of k) place)
        → entry_at k (rows_of es) ≡ option_map (row_of k) place
    by true p h later =
        let same : place ≡ None = cc in
        rw same (entry-absent k es (past-head k n None es unique p))
    by false p h later = later h
entry-found {P = P} k place ((n, Some row) ∷ es) unique at = by (nat_eq k n) refl at (entry-found k place es (IsDistinct-tail nat_eq n (keys_of es) unique))
  where
    by : (b : Bool) → nat_eq k n ≡ b → cond b (Some (Some row)) (lookup (nat_eq k) es) ≡ Some place → (lookup (nat_eq k) es ≡ Some place → entry_at k (rows_of es) ≡ option_map (row_of k) place)
        → cond (nat_eq n k) (Some (row_of n row)) (entry_at k (rows_of es)) ≡ option_map (row_of k) place
    by true p h later =
        let same : place ≡ Some row = cc in
        rw (flipped k n true p, same) (ap (λ number. Some (row_of number row)) (sym (eqb-true k n p)))
    by false p h later = rw (flipped k n false p) (later h)

pub fewer-rows : {P : Type 0} (es : Places P) → length (rows_of es) ≤ length es
fewer-rows [] = omega arith
fewer-rows ((n, None) ∷ es) = omega (arith, fewer-rows es)
fewer-rows ((n, Some row) ∷ es) = omega (arith, fewer-rows es)

-- a row that was found first under its number, or none
pub row-taken : {P : Type 0} (k : ℕ) (es : Places P) → is_empty_place (lookup (nat_eq k) es) ≡ false
    → row_at k (rows_of es) ≡ option_map (λ (rest : RestingRow P). rest.row) (option_and_then (λ (place : Option (RestingRow P)). place) (lookup (nat_eq k) es))
row-taken k [] full = refl
row-taken {P = P} k ((n, None) ∷ es) full = by (nat_eq k n) refl full (row-taken k es)
  where
    by : (b : Bool) → nat_eq k n ≡ b → is_empty_place (cond b (Some None) (lookup (nat_eq k) es)) ≡ false
        → (is_empty_place (lookup (nat_eq k) es) ≡ false → row_at k (rows_of es) ≡ option_map (λ (rest : RestingRow P). rest.row) (option_and_then (λ (place : Option (RestingRow P)). place) (lookup (nat_eq k) es)))
        → row_at k (rows_of es) ≡ option_map (λ (rest : RestingRow P). rest.row) (option_and_then (λ (place : Option (RestingRow P)). place) (cond b (Some None) (lookup (nat_eq k) es)))
    by true p h later = cc
    by false p h later = later h
row-taken {P = P} k ((n, Some row) ∷ es) full = by (nat_eq k n) refl full (row-taken k es)
  where
    by : (b : Bool) → nat_eq k n ≡ b → is_empty_place (cond b (Some (Some row)) (lookup (nat_eq k) es)) ≡ false
        → (is_empty_place (lookup (nat_eq k) es) ≡ false → row_at k (rows_of es) ≡ option_map (λ (rest : RestingRow P). rest.row) (option_and_then (λ (place : Option (RestingRow P)). place) (lookup (nat_eq k) es)))
        → option_map (λ (entry : Resting P). entry.row) (cond (nat_eq n k) (Some (row_of n row)) (entry_at k (rows_of es)))
        ≡ option_map (λ (rest : RestingRow P). rest.row) (option_and_then (λ (place : Option (RestingRow P)). place) (cond b (Some (Some row)) (lookup (nat_eq k) es)))
    by true p h later = rw (flipped k n true p) refl
    by false p h later = rw (flipped k n false p) (later h)

pub no-some : {A : Type 0} (o : Option A) → is_some o ≡ false → o ≡ None
no-some None e = refl
no-some (Some x) e = absurd cc

-- a place that is found at an index
pub row-indexed : {P : Type 0} (k at : ℕ) (es : Places P) → IsDistinct nat_eq (keys_of es) → slice_get (map (λ e. e.1) es) at ≡ lookup (nat_eq k) es
    → (entry : ℕ × Option (RestingRow P)) → slice_get es at ≡ Some entry → entry_at k (rows_of es) ≡ option_map (row_of k) entry.1
row-indexed k at es unique same entry found = entry-found k entry.1 es unique (sym same ∙ mapped es at found)
  where
    mapped : {A B : Type 0} → (xs : List (A × B)) (at : ℕ) {x : A × B} → slice_get xs at ≡ Some x → slice_get (map (λ (e : A × B). e.1) xs) at ≡ Some x.1
    mapped [] at e = absurd cc
    mapped {B = B} (x ∷ xs) zero e = ap (λ (o : Option _). option_map (λ p. p.1) o) e
    mapped (x ∷ xs) (suc at) e = mapped xs at e
