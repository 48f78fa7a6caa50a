-- A walk along the places of a key, from the last one on.
use Rattle.std.proofs.Common.{◌≡◌, ℕ, zero, suc, ◌+◌, ◌-◌, ◌≤◌, ◌<◌, Bool, true, false, cond, nat_lt, ◌&&◌, List, [], ◌∷◌, ◌++◌, None, Some, Option, length, take, drop, reverse, slice_get, arith, refl, sym, ap, subst, ◌∙◌, true≢false}
use Rattle.std.proofs.lemmas.Bool.{le-ltb}
use Rattle.std.proofs.lemmas.List.{reverse-append}
use Rattle.hj_value.specs.declared.field.Field.{Field}
use Rattle.hj_msg.specs.declared.partner.Partner.{Partner}
use Rattle.hj_msg.specs.Order.{insert_by}
use Rattle.hj_msg.specs.Store.{by_number, settled_partners}
use Rattle.hj_rows.specs.declared.place.RestingRow.{RestingRow}
use Rattle.hj_rows.specs.Places.{joining}
use Rattle.hj_index.specs.declared.chains.RowPlace.{RowPlace}
use Rattle.hj_index.specs.KeyChains.{counted_on, has_key, known_place, last_place, nth_place, rows_at, AreKeyed, AreLinked, IsAscending}
use Rattle.hj_index.specs.Keys.{key_at}
use Rattle.hj_index.proofs.ChainKeys.{last-again, last-again-cut, last-cut, last-there}
use Rattle.hj_index.proofs.ChainLinks.{key-here, key-is, linked-keyed}

abbrev pub Found : Type 0
Found = List (Partner (List Field))

abbrev pub partner : ℕ → List Field → Partner (List Field)
partner number row = record { no = record { 0 = number }; row = row }

-- the settled rows of places that pass a test
abbrev pub matches : (List Field → Bool) → List RowPlace → Found
matches test places = settled_partners test (rows_at places)

module _ (test : List Field → Bool) where
  pub matches-joined : (place : RowPlace) (places : List RowPlace) (row : List Field) → joining test place.rest ≡ Some row → matches test (place ∷ places) ≡ partner place.no row ∷ matches test places
  matches-joined place places row e = by place.rest refl e
    where
      by : (rest : Option (RestingRow (List Field))) → place.rest ≡ rest → joining test rest ≡ Some row → matches test (place ∷ places) ≡ partner place.no row ∷ matches test places
      by None is e = absurd cc
      by (Some rest) is e = passes (rest.settled && test rest.row) refl e
        where
          passes : (b : Bool) → (rest.settled && test rest.row) ≡ b → cond b (Some rest.row) None ≡ Some row → matches test (place ∷ places) ≡ partner place.no row ∷ matches test places
          passes true p e = let same : rest.row ≡ row = cc in rw (is, p, same) refl
          passes false p e = absurd cc

  pub matches-passed : (place : RowPlace) (places : List RowPlace) → joining test place.rest ≡ None → matches test (place ∷ places) ≡ matches test places
  matches-passed place places e = by place.rest refl e
    where
      by : (rest : Option (RestingRow (List Field))) → place.rest ≡ rest → joining test rest ≡ None → matches test (place ∷ places) ≡ matches test places
      by None is e = rw is refl
      by (Some rest) is e = passes (rest.settled && test rest.row) refl e
        where
          passes : (b : Bool) → (rest.settled && test rest.row) ≡ b → cond b (Some rest.row) None ≡ None → matches test (place ∷ places) ≡ matches test places
          passes true p e = absurd cc
          passes false p e = rw (is, p) refl

  module _ (own key : ℕ) (joins_key : (row : List Field) → test row ≡ true → key_at own row ≡ Some key) where
    -- a place of another key doesn't join
    other-key : (place : RowPlace) → ((rest : RestingRow (List Field)) → place.rest ≡ Some rest → place.key ≡ key_at own rest.row) → has_key key place ≡ false → joining test place.rest ≡ None
    other-key place keyed no_key = by place.rest refl
      where
        by : (rest : Option (RestingRow (List Field))) → place.rest ≡ rest → joining test rest ≡ None
        by None is = refl
        by (Some rest) is = passes rest.settled (test rest.row) refl
          where
            passes : (a b : Bool) → test rest.row ≡ b → cond (a && b) (Some rest.row) None ≡ None
            passes false b e = refl
            passes true false e = refl
            passes true true e = absurd (true≢false (sym (key-here key place (keyed rest is ∙ joins_key rest.row e)) ∙ no_key))

    -- between a place and the last place of the key before it, nothing joins
    pub skips : (at : ℕ) (places : List RowPlace) → AreKeyed own places → matches test (drop (last_place key (take at places)) places) ≡ matches test (drop at places)
    skips zero places keyed = refl
    skips (suc at) [] keyed = refl
    skips (suc at) (place ∷ places) keyed = by (has_key key place) refl (last_place key (take at places)) (skips at places (λ at. keyed (suc at)))
      where
        by : (b : Bool) → has_key key place ≡ b → (n : ℕ) → matches test (drop n places) ≡ matches test (drop at places) → matches test (drop (counted_on b n) (place ∷ places)) ≡ matches test (drop at places)
        by true h zero later = later
        by false h zero later = matches-passed place places (other-key place (λ rest. keyed 0 place rest refl) h) ∙ later
        by b h (suc n) later = later

-- ---- the order of what is found

-- the numbers ascend, from this one on
abbrev IsUp : ℕ → Found → Type 0
IsUp low [] = Unit {0}
IsUp low (p ∷ ps) = (low ≤ p.no.0) × IsUp (p.no.0 + 1) ps

up-lower : (low high : ℕ) (ps : Found) → low ≤ high → IsUp high ps → IsUp low ps
up-lower low high [] le up = tt
up-lower low high (p ∷ ps) le up = (omega (arith, le, up.0), up.1)

matches-up : (test : List Field → Bool) (low : ℕ) (places : List RowPlace) → IsAscending low places → IsUp low (matches test places)
matches-up test low [] up = tt
matches-up test low (place ∷ places) up = by (joining test place.rest) refl (matches-up test (place.no + 1) places up.1)
  where
    by : (found : Option (List Field)) → joining test place.rest ≡ found → IsUp (place.no + 1) (matches test places) → IsUp low (matches test (place ∷ places))
    by None e later = subst (IsUp low) (sym (matches-passed test place places e)) (up-lower low (place.no + 1) (matches test places) (omega (arith, up.0)) later)
    by (Some row) e later = subst (IsUp low) (sym (matches-joined test place places row e)) (up.0, later)

up-sorted : (low : ℕ) (ps : Found) → IsUp low ps → by_number ps ≡ ps
up-sorted low [] up = refl
up-sorted low (p ∷ ps) up = ap (insert_by (λ (p q : Partner (List Field)). nat_lt p.no.0 q.no.0) p) (up-sorted (p.no.0 + 1) ps up.1) ∙ first ps up.1
  where
    first : (ps : Found) → IsUp (p.no.0 + 1) ps → insert_by (λ (p q : Partner (List Field)). nat_lt p.no.0 q.no.0) p ps ≡ p ∷ ps
    first [] up = refl
    first (q ∷ qs) up = rw (le-ltb q.no.0 p.no.0 (omega (arith, up.0))) refl

-- what passes a test among ascending places is in order
pub matches-sorted : (test : List Field → Bool) (places : List RowPlace) → IsAscending 0 places → by_number (matches test places) ≡ matches test places
matches-sorted test places up = up-sorted 0 (matches test places) (matches-up test 0 places up)

-- ---- the walk

pub drop-at : (places : List RowPlace) (at : ℕ) (place : RowPlace) → slice_get places at ≡ Some place → drop at places ≡ place ∷ drop (suc at) places
drop-at [] at place e = absurd cc
drop-at (first ∷ places) zero place e = let same : first ≡ place = cc in ap (λ p. p ∷ places) same
drop-at (first ∷ places) (suc at) place e = drop-at places at place e

drop-all : (places : List RowPlace) → drop (length places) places ≡ []
drop-all [] = refl
drop-all (place ∷ places) = drop-all places

take-all : (places : List RowPlace) → take (length places) places ≡ places
take-all [] = refl
take-all (place ∷ places) = ap (λ ps. place ∷ ps) (take-all places)

module _ (test : List Field → Bool) (own key base : ℕ) (places : List RowPlace) (last : ℕ → Option ℕ) (joins_key : (row : List Field) → test row ≡ true → key_at own row ≡ Some key) (linked : AreLinked own base places last) where
  -- what was found is what joins from the next place on, and that has the key
  abbrev pub IsSeen : Found → ℕ → Type 0
  IsSeen found next = (reverse found ≡ matches test (drop (next - base) places)) × (last_place key (take (next - base) places) ≡ next - base)

  skipped : (at : ℕ) → matches test (drop (last_place key (take at places)) places) ≡ matches test (drop at places)
  skipped at = skips test own key joins_key at places (linked-keyed own base places last linked)

  pub walk-starts : (found : Found) (next : ℕ) → found ≡ [] → next ≡ known_place (last key) → IsSeen found next
  walk-starts found next none from =
      let n : next - base ≡ last_place key places = ap (λ n. n - base) from ∙ linked.ended key in
      subst (λ n. (reverse found ≡ matches test (drop n places)) × (last_place key (take n places) ≡ n)) (sym n) (
        ap reverse none ∙ sym (ap (λ ps. matches test (drop (last_place key ps) places)) (sym (take-all places)) ∙ (skipped (length places) ∙ ap (matches test) (drop-all places))),
        last-again key places,
      )

  record Stands (next : ℕ) (place : RowPlace) : Type 0 where
    at : ℕ
    next_is : next - base ≡ suc at
    is_there : slice_get places at ≡ Some place
    before : place.before - base ≡ last_place key (take at places)

  stands : (next : ℕ) (place : RowPlace) → last_place key (take (next - base) places) ≡ next - base → nth_place (next - base) places ≡ Some place → Stands next place
  stands next place here e = by (next - base) refl here e
    where
      by : (n : ℕ) → next - base ≡ n → last_place key (take n places) ≡ n → nth_place n places ≡ Some place → Stands next place
      by zero is here e = absurd cc
      by (suc at) is here e =
          let there = last-there key at places here in
          let same : there.0 ≡ place = (let both : Some there.0 ≡ Some place = sym there.1 ∙ e in cc) in
          record {
            at = at;
            next_is = is;
            is_there = e;
            before = (linked.placed at place e).linked key (key-is key place (ap (has_key key) (sym same) ∙ there.2));
          }

  pub walk-falls : (found : Found) (next : ℕ) (place : RowPlace) → IsSeen found next → Some place ≡ nth_place (next - base) places → place.before < next
  walk-falls found next place seen e = let s = stands next place seen.1 (sym e) in omega (arith, s.next_is, s.before, last-cut key s.at places)

  goes-on : (found : Found) (next : ℕ) (place : RowPlace) (s : Stands next place) → reverse found ≡ matches test (drop s.at places) → IsSeen found place.before
  goes-on found next place s seen =
      subst (λ n. (reverse found ≡ matches test (drop n places)) × (last_place key (take n places) ≡ n)) (sym s.before) (seen ∙ sym (skipped s.at), last-again-cut key s.at places)

  pub walk-passed : (found : Found) (next : ℕ) (place : RowPlace) → IsSeen found next → Some place ≡ nth_place (next - base) places → None ≡ joining test place.rest → IsSeen found place.before
  walk-passed found next place seen e none =
      let s = stands next place seen.1 (sym e) in
      goes-on found next place s (seen.0 ∙ (ap (λ n. matches test (drop n places)) s.next_is ∙ sym (ap (matches test) (drop-at places s.at place s.is_there) ∙ matches-passed test place (drop (suc s.at) places) (sym none))))

  pub walk-joined : (found pushed : Found) (next : ℕ) (place : RowPlace) (row : List Field) → IsSeen found next → Some place ≡ nth_place (next - base) places → Some row ≡ joining test place.rest → pushed ≡ found ++ partner place.no row ∷ [] → IsSeen pushed place.before
  walk-joined found pushed next place row seen e some grown =
      let s = stands next place seen.1 (sym e) in
      goes-on pushed next place s (
      ap reverse grown ∙ (reverse-append found (partner place.no row ∷ [])
      ∙ (ap (λ ps. partner place.no row ∷ ps) (seen.0 ∙ ap (λ n. matches test (drop n places)) s.next_is) ∙ sym (ap (matches test) (drop-at places s.at place s.is_there) ∙ matches-joined test place (drop (suc s.at) places) row (sym some))))
      )

  pub walk-ends : (found : Found) (next : ℕ) → IsSeen found next → None ≡ nth_place (next - base) places → reverse found ≡ matches test places
  walk-ends found next seen e = by (next - base) seen (sym e)
    where
      by : (n : ℕ) → (reverse found ≡ matches test (drop n places)) × (last_place key (take n places) ≡ n) → nth_place n places ≡ None → reverse found ≡ matches test places
      by zero seen e = seen.0
      by (suc at) seen e = let there = last-there key at places seen.1 in absurd (let both : Some there.0 ≡ None = sym there.1 ∙ e in cc)
