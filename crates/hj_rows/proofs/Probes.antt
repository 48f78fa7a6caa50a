-- What a probe finds, one place after another.
use Rattle.std.proofs.Common.{◌≡◌, ℕ, Bool, true, false, ◌&&◌, List, [], ◌∷◌, ◌++◌, ◌≤◌, None, Some, Option, All, arith, refl, sym, ap, subst, ◌∙◌, if◌then◌else◌}
use Rattle.std.proofs.lemmas.List.Elements.{All-nil, All-push, All-weaker}
use Rattle.hj_msg.specs.declared.partner.Partner.{Partner}
use Rattle.hj_msg.specs.Store.{by_number, settled_partners}
use Rattle.hj_rows.specs.declared.place.RestingRow.{RestingRow}
use Rattle.hj_rows.specs.Places.{joining, rows_of}
use Rattle.hj_rows.proofs.Rows.{Places}
use Rattle.hj_msg.proofs.Gathering.{gather, insert_after, insert_after-last, gather-sorted}

abbrev pub number : {P : Type 0} → Partner P → ℕ
number partner = partner.no.0

abbrev pub partner : {P : Type 0} → ℕ → P → Partner P
partner number row = record { no = record { 0 = number }; row = row }

-- a place whose row joins
pub partners-joined : {P : Type 0} (test : P → Bool) (n : ℕ) (place : Option (RestingRow P)) (es : Places P) (row : P) → joining test place ≡ Some row
    → settled_partners test (rows_of ((n, place) ∷ es)) ≡ partner n row ∷ settled_partners test (rows_of es)
partners-joined test n None es row h = cc
partners-joined {P = P} test n (Some rest) es row h = by (rest.settled && test rest.row) refl h
  where
    by : (b : Bool) → (rest.settled && test rest.row) ≡ b → (if b then Some rest.row else None) ≡ Some row
        → settled_partners test (rows_of ((n, Some rest) ∷ es)) ≡ partner n row ∷ settled_partners test (rows_of es)
    by true p h = let same : rest.row ≡ row = cc in rw (p, same) refl
    by false p h = cc

-- a place without one
pub partners-passed : {P : Type 0} (test : P → Bool) (n : ℕ) (place : Option (RestingRow P)) (es : Places P) → joining test place ≡ None
    → settled_partners test (rows_of ((n, place) ∷ es)) ≡ settled_partners test (rows_of es)
partners-passed test n None es h = refl
partners-passed {P = P} test n (Some rest) es h = by (rest.settled && test rest.row) refl h
  where
    by : (b : Bool) → (rest.settled && test rest.row) ≡ b → (if b then Some rest.row else None) ≡ None
        → settled_partners test (rows_of ((n, Some rest) ∷ es)) ≡ settled_partners test (rows_of es)
    by true p h = cc
    by false p h = rw p refl

-- ---- one place more: what was found and what will be found are all that joins

module _ {P : Type 0} (test : P → Bool) (target : List (Partner P)) where
  -- what is found, with what stands in these places, is the target
  abbrev pub Finds : List (Partner P) → Places P → Type 0
  Finds found es = gather number found (settled_partners test (rows_of es)) ≡ target

  pub finds-passed : (found : List (Partner P)) (n : ℕ) (place : Option (RestingRow P)) (before es : Places P) → joining test place ≡ None → before ≡ (n, place) ∷ es → Finds found before → Finds found es
  finds-passed found n place before es none is finds =
      ap (gather number found) (sym (partners-passed test n place es none)) ∙ (ap (λ places. gather number found (settled_partners test (rows_of places))) (sym is) ∙ finds)

  -- a row that joins goes in at its place
  pub finds-joined : (found : List (Partner P)) (n : ℕ) (place : Option (RestingRow P)) (before es : Places P) (row : P) → joining test place ≡ Some row → before ≡ (n, place) ∷ es → Finds found before
      → Finds (insert_after number (partner n row) found) es
  finds-joined found n place before es row some is finds =
      ap (gather number found) (sym (partners-joined test n place es row some)) ∙ (ap (λ places. gather number found (settled_partners test (rows_of places))) (sym is) ∙ finds)

  -- and that is the end, where its number isn't below the last one
  pub finds-pushed : (found pushed : List (Partner P)) (n last : ℕ) (place : Option (RestingRow P)) (before es : Places P) (row : P) → joining test place ≡ Some row → before ≡ (n, place) ∷ es → Finds found before
      → All (λ other. number other ≤ last) found → last ≤ n → pushed ≡ found ++ partner n row ∷ [] → Finds pushed es × All (λ other. number other ≤ n) pushed
  finds-pushed found pushed n last place before es row some is finds within above pushes =
      let lower : All (λ other. number other ≤ n) found = All-weaker (λ other. number other ≤ last) (λ other. number other ≤ n) (λ other h. omega arith) found within in (
        subst (λ ps. Finds ps es) (insert_after-last number (partner n row) found lower ∙ sym pushes) (finds-joined found n place before es row some is finds),
        subst (All (λ other. number other ≤ n)) (sym pushes) (All-push (λ other. number other ≤ n) found (partner n row) lower (omega arith)),
      )

-- at first nothing is found
pub finds-nothing : {P : Type 0} (test : P → Bool) (found : List (Partner P)) (places es : Places P) → found ≡ [] → places ≡ es
    → Finds test (by_number (settled_partners test (rows_of es))) found places
finds-nothing test found places es none all = rw (none, all) (gather-sorted number [] (settled_partners test (rows_of es)))

pub none-above : {P : Type 0} (found : List (Partner P)) (n : ℕ) → found ≡ [] → All (λ other. number other ≤ n) found
none-above found n none = subst (All (λ other. number other ≤ n)) (sym none) (All-nil (λ other. number other ≤ n))
