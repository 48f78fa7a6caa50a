-- A probe that keeps what it found sorted, in a tree by number.
use Rattle.std.proofs.Common.{◌≡◌, ℕ, Bool, true, false, cond, ltb, nat_eq, is_some, List, [], ◌∷◌, map, None, Some, Option, arith, refl, sym, ap, subst, ◌∙◌, true≢false}
use Rattle.std.proofs.lemmas.Bool.{ltb-true, eqb-true}
use Rattle.std.specs.BTreeMap.{insert_entry, is_at}
use Rattle.std.specs.List.{IsDistinct}
use Rattle.std.specs.Map.{keys_of, lookup}
use Rattle.std.specs.Ordering.{nat_cmp}
use Rattle.std.specs.Cmp.{nat_eq_equiv}
use Rattle.std.proofs.lemmas.Map.Keys.{IsDistinct-tail}
use Rattle.hj_msg.specs.declared.partner.Partner.{Partner}
use Rattle.hj_rows.specs.declared.place.RestingRow.{RestingRow}
use Rattle.hj_rows.specs.Places.{joining, partner_of, rows_of}
use Rattle.hj_rows.proofs.Rows.{Places, none-tail, past-head, flipped}
use Rattle.hj_msg.proofs.Gathering.{insert_after}
use Rattle.hj_rows.proofs.Probes.{number, partner, Finds, finds-joined, finds-nothing, finds-passed}
use Rattle.hj_msg.specs.Store.{by_number, settled_partners}

-- the numbers of two keys are equal
pub is_at-nat : (n k : ℕ) → is_at (nat_cmp n) k ≡ nat_eq n k
is_at-nat n k = by (ltb n k) (nat_eq n k) refl refl
  where
    by : (less same : Bool) → ltb n k ≡ less → nat_eq n k ≡ same → is_at (nat_cmp n) k ≡ nat_eq n k
    by true true p q = absurd (omega (arith, ltb-true n k p, eqb-true n k q))
    by true false p q = rw (p, q) refl
    by false true p q = rw (p, q) refl
    by false false p q = rw (p, q) refl

clash : {X : Type 0} (x : X) → Some x ≡ None → ⊥
clash x e = cc

-- an insert of a new number puts its partner at its place
partners-inserted : {P : Type 0} (n : ℕ) (row : P) (es : List (ℕ × P)) → lookup (is_at (nat_cmp n)) es ≡ None
    → map partner_of (insert_entry nat_cmp es n row) ≡ insert_after number (partner n row) (map partner_of es)
partners-inserted n row [] none = refl
partners-inserted {P = P} n row ((k, other) ∷ es) none = by (ltb n k) (nat_eq n k) refl refl none (partners-inserted n row es)
  where
    by : (less same : Bool) → ltb n k ≡ less → nat_eq n k ≡ same → cond (is_at (nat_cmp n) k) (Some other) (lookup (is_at (nat_cmp n)) es) ≡ None
        → (lookup (is_at (nat_cmp n)) es ≡ None → map partner_of (insert_entry nat_cmp es n row) ≡ insert_after number (partner n row) (map partner_of es))
        → map partner_of (insert_entry nat_cmp ((k, other) ∷ es) n row) ≡ insert_after number (partner n row) (map partner_of ((k, other) ∷ es))
    by true same p q none later = rw p refl
    by false true p q none later = absurd (clash other (rw (is_at-nat n k, q) at none))
    by false false p q none later = rw (p, q) (ap (λ ps. partner k other ∷ ps) (later (rw (is_at-nat n k, q) at none)))

module _ {P : Type 0} (test : P → Bool) (target : List (Partner P)) where
  -- the rows so far are found, and none of their numbers comes again
  abbrev pub Sorts : List (ℕ × P) → Places P → Type 0
  Sorts rows es = Finds test target (map partner_of rows) es × IsDistinct nat_eq (keys_of es) × ((k : ℕ) → is_some (lookup (is_at (nat_cmp k)) rows) ≡ true → lookup (nat_eq k) es ≡ None)

  pub sorts-passed : (rows : List (ℕ × P)) (n : ℕ) (place : Option (RestingRow P)) (before es : Places P) → joining test place ≡ None → before ≡ (n, place) ∷ es → Sorts rows before → Sorts rows es
  sorts-passed rows n place before es none is sorts =
      let unique = subst (λ places. IsDistinct nat_eq (keys_of places)) is sorts.1 in (
        finds-passed test target (map partner_of rows) n place before es none is sorts.0,
        IsDistinct-tail nat_eq n (keys_of es) unique,
        λ k held. (none-tail k n place es (sym (ap (lookup (nat_eq k)) is) ∙ sorts.2 k held)).1,
      )

  -- the number of the next place is new
  new-number : (rows : List (ℕ × P)) (n : ℕ) (place : Option (RestingRow P)) (es : Places P) → ((k : ℕ) → is_some (lookup (is_at (nat_cmp k)) rows) ≡ true → lookup (nat_eq k) ((n, place) ∷ es) ≡ None) → lookup (is_at (nat_cmp n)) rows ≡ None
  new-number rows n place es apart = by (lookup (is_at (nat_cmp n)) rows) refl
    where
      by : (found : Option P) → lookup (is_at (nat_cmp n)) rows ≡ found → lookup (is_at (nat_cmp n)) rows ≡ None
      by None h = h
      by (Some row) h = let t = none-tail n n place es (apart n (ap is_some h)) in absurd (true≢false (sym (nat_eq_equiv.refl n) ∙ t.0))

  pub sorts-joined : (rows new : List (ℕ × P)) (n : ℕ) (place : Option (RestingRow P)) (before es : Places P) (row : P) → joining test place ≡ Some row → before ≡ (n, place) ∷ es → Sorts rows before
      → new ≡ insert_entry nat_cmp rows n row → ((k : ℕ) → lookup (is_at (nat_cmp k)) new ≡ cond (is_at (nat_cmp n) k) (Some row) (lookup (is_at (nat_cmp k)) rows)) → Sorts new es
  sorts-joined rows new n place before es row some is sorts inserts looks =
      let unique = subst (λ places. IsDistinct nat_eq (keys_of places)) is sorts.1 in
      let apart : (k : ℕ) → is_some (lookup (is_at (nat_cmp k)) rows) ≡ true → lookup (nat_eq k) ((n, place) ∷ es) ≡ None = λ k held. sym (ap (lookup (nat_eq k)) is) ∙ sorts.2 k held in (
        subst (λ ps. Finds test target ps es) (sym (ap (map partner_of) inserts ∙ partners-inserted n row rows (new-number rows n place es apart))) (finds-joined test target (map partner_of rows) n place before es row some is sorts.0),
        IsDistinct-tail nat_eq n (keys_of es) unique,
        λ k held. absent k (nat_eq k n) refl unique (apart k) held,
      )
    where
      absent : (k : ℕ) (same : Bool) → nat_eq k n ≡ same → IsDistinct nat_eq (keys_of ((n, place) ∷ es)) → (is_some (lookup (is_at (nat_cmp k)) rows) ≡ true → lookup (nat_eq k) ((n, place) ∷ es) ≡ None)
          → is_some (lookup (is_at (nat_cmp k)) new) ≡ true → lookup (nat_eq k) es ≡ None
      absent k true p unique apart held = past-head k n place es unique p
      absent k false p unique apart held =
          let old : lookup (is_at (nat_cmp k)) new ≡ lookup (is_at (nat_cmp k)) rows = looks k ∙ rw (is_at-nat n k, flipped k n false p) refl in
          (none-tail k n place es (apart (sym (ap is_some old) ∙ held))).1

-- at first nothing is found
pub sorts-nothing : {P : Type 0} (test : P → Bool) (rows : List (ℕ × P)) (places es : Places P) → rows ≡ [] → places ≡ es → IsDistinct nat_eq (keys_of es)
    → Sorts test (by_number (settled_partners test (rows_of es))) rows places
sorts-nothing test rows places es none all unique = (
  finds-nothing test (map partner_of rows) places es (ap (map partner_of) none) all,
  subst (λ ps. IsDistinct nat_eq (keys_of ps)) (sym all) unique,
  λ k held. absurd (true≢false (sym held ∙ ap (λ ps. is_some (lookup (is_at (nat_cmp k)) ps)) none)),
)
