-- What a probe finds among places, one after another.
use Rattle.std.proofs.Common.{◌≡◌, ℕ, zero, suc, ◌+◌, ◌≤◌, ◌<◌, Bool, List, [], ◌∷◌, ◌++◌, take, drop, None, Some, Option, All, arith, refl, sym, ap, subst, ◌∙◌}
use Rattle.std.proofs.lemmas.List.{append-nil}
use Rattle.std.proofs.lemmas.List.Elements.{All-nil, All-push, All-weaker}
use Rattle.hj_msg.specs.declared.partner.Partner.{Partner}
use Rattle.hj_msg.specs.Store.{by_number}
use Rattle.hj_msg.proofs.Gathering.{gather-sorted, insert_after, insert_after-last}
use Rattle.hj_rows.specs.Places.{joining}
use Rattle.hj_rows.proofs.Probes.{number, partner, partners-joined, partners-passed}
use Rattle.hj_rows.proofs.Rows.{Places}
use Rattle.hj_columns.specs.declared.found_rows.FoundRows.{FoundRows}
use Rattle.hj_columns.specs.Probing.{as_partner, joined_at, partners_in, IsInOrder}

module _ {P : Type 0} (test : P → Bool) where
  partners-append : (xs ys : Places P) → partners_in test (xs ++ ys) ≡ partners_in test xs ++ partners_in test ys
  partners-append [] ys = refl
  partners-append ((n, place) ∷ xs) ys = by (joining test place) refl (partners-append xs ys)
    where
      by : (o : Option P) → joining test place ≡ o → partners_in test (xs ++ ys) ≡ partners_in test xs ++ partners_in test ys
          → partners_in test ((n, place) ∷ (xs ++ ys)) ≡ partners_in test ((n, place) ∷ xs) ++ partners_in test ys
      by None h later = partners-passed test n place (xs ++ ys) h ∙ later ∙ ap (λ ps. ps ++ partners_in test ys) (sym (partners-passed test n place xs h))
      by (Some row) h later =
          partners-joined test n place (xs ++ ys) row h ∙ ap (λ ps. partner n row ∷ ps) later
          ∙ ap (λ ps. ps ++ partners_in test ys) (sym (partners-joined test n place xs row h))

  -- the partners of one place
  partners-one : (es : Places P) (at : ℕ) → partners_in test (take 1 (drop at es)) ≡ as_partner (joined_at test es at)
  partners-one [] zero = refl
  partners-one [] (suc at) = refl
  partners-one ((n, place) ∷ es) zero = by (joining test place) refl
    where
      by : (o : Option P) → joining test place ≡ o → partners_in test ((n, place) ∷ []) ≡ as_partner (joined_at test ((n, place) ∷ es) zero)
      by None h = partners-passed test n place [] h ∙ rw h refl
      by (Some row) h = partners-joined test n place [] row h ∙ rw h refl
  partners-one (e ∷ es) (suc at) = partners-one es at

  take-plus : {A : Type 0} (n : ℕ) (xs : List A) → take (suc n) xs ≡ take n xs ++ take 1 (drop n xs)
  take-plus zero [] = refl
  take-plus zero (x ∷ xs) = refl
  take-plus (suc n) [] = refl
  take-plus (suc n) (x ∷ xs) = ap (λ ys. x ∷ ys) (take-plus n xs)

  drop-nil : {A : Type 0} (m : ℕ) → drop {A = A} m [] ≡ []
  drop-nil zero = refl
  drop-nil (suc m) = refl

  drop-plus : {A : Type 0} (a n : ℕ) (xs : List A) → drop n (drop a xs) ≡ drop (a + n) xs
  drop-plus zero n xs = ap (λ m. drop m xs) (let e : n ≡ 0 + n = omega arith in e)
  drop-plus (suc a) n [] = drop-nil n ∙ sym (drop-nil (suc a + n))
  drop-plus (suc a) n (x ∷ xs) = drop-plus a n xs ∙ ap (λ m. drop m (x ∷ xs)) (let e : suc (a + n) ≡ suc a + n = omega arith in e)

  -- the partners of one place more
  pub partners-more : (es : Places P) (from n : ℕ) → partners_in test (take (suc n) (drop from es)) ≡ partners_in test (take n (drop from es)) ++ as_partner (joined_at test es (from + n))
  partners-more es from n =
      ap (partners_in test) (take-plus n (drop from es) ∙ ap (λ ys. take n (drop from es) ++ take 1 ys) (drop-plus from n es))
      ∙ partners-append (take n (drop from es)) (take 1 (drop (from + n) es))
      ∙ ap (λ ps. partners_in test (take n (drop from es)) ++ ps) (partners-one es (from + n))

  -- places without partners add none
  pub partners-skipped : (es : Places P) (from done n : ℕ) → ((k : ℕ) → done ≤ k → k < done + n → joined_at test es (from + k) ≡ None)
      → partners_in test (take (done + n) (drop from es)) ≡ partners_in test (take done (drop from es))
  partners-skipped es from done zero none = ap (λ m. partners_in test (take m (drop from es))) (let e : done + 0 ≡ done = omega arith in e)
  partners-skipped es from done (suc n) none =
      let next : done + suc n ≡ suc (done + n) = omega arith in
      ap (λ m. partners_in test (take m (drop from es))) next
      ∙ partners-more es from (done + n)
      ∙ ap (λ o. partners_in test (take (done + n) (drop from es)) ++ as_partner o) (none (done + n) (omega arith) (omega arith))
      ∙ append-nil (partners_in test (take (done + n) (drop from es)))
      ∙ partners-skipped es from done n (λ k low high. none k low (omega arith))

  take-nil : {A : Type 0} (m : ℕ) → take {A = A} m [] ≡ []
  take-nil zero = refl
  take-nil (suc m) = refl

  take-sum : {A : Type 0} (a n : ℕ) (xs : List A) → take (a + n) xs ≡ take a xs ++ take n (drop a xs)
  take-sum zero n xs = ap (λ m. take m xs) (let e : 0 + n ≡ n = omega arith in e)
  take-sum (suc a) n [] = take-nil (suc a + n) ∙ sym (take-nil n)
  take-sum (suc a) n (x ∷ xs) = ap (λ m. take m (x ∷ xs)) (let e : suc a + n ≡ suc (a + n) = omega arith in e) ∙ ap (λ ys. x ∷ ys) (take-sum a n xs)

  -- the partners of a block more
  pub partners-block : (es : Places P) (from : ℕ) → partners_in test (take (from + 64) es) ≡ partners_in test (take from es) ++ partners_in test (take 64 (drop from es))
  partners-block es from = ap (partners_in test) (take-sum from 64 es) ∙ partners-append (take from es) (take 64 (drop from es))

-- ---- order

-- one partner more, that is above all others
pub sorted-push : {P : Type 0} (found : List (Partner P)) (p : Partner P) → by_number found ≡ found → All (λ other. number other ≤ number p) found → by_number (found ++ p ∷ []) ≡ found ++ p ∷ []
sorted-push found p sorted below =
    sym (gather-sorted number found (p ∷ []))
    ∙ ap (λ ps. insert_after number p ps) sorted
    ∙ insert_after-last number p found below

pub in_order-push : {P : Type 0} (found : FoundRows P) (pushed : List (Partner P)) (n : ℕ) (row : P) → found.last ≤ n → pushed ≡ found.partners ++ partner n row ∷ [] → IsInOrder found
    → (by_number pushed ≡ pushed) × All (λ other. number other ≤ n) pushed
in_order-push found pushed n row above pushes order =
    let lower : All (λ other. number other ≤ n) found.partners = All-weaker (λ other. number other ≤ found.last) (λ other. number other ≤ n) (λ other h. omega arith) found.partners order.below in (
      subst (λ ps. by_number ps ≡ ps) (sym pushes) (sorted-push found.partners (partner n row) order.sorted lower),
      subst (All (λ other. number other ≤ n)) (sym pushes) (All-push (λ other. number other ≤ n) found.partners (partner n row) lower (omega arith)),
    )

pub in_order-empty : {P : Type 0} (found : FoundRows P) → found.partners ≡ [] → IsInOrder found
in_order-empty {P} found none = record {
  sorted = subst (λ (ps : List (Partner P)). by_number ps ≡ ps) (sym none) refl;
  below = subst (All (λ (other : Partner P). number other ≤ found.last)) (sym none) (All-nil (λ other. number other ≤ found.last));
}
