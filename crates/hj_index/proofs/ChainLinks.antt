-- Linked places, as one is added behind, dropped from the front, or changed without its links.
use Rattle.std.proofs.Common.{◌≡◌, ℕ, zero, suc, ◌+◌, ◌-◌, ◌≤◌, ◌<◌, ◌⊎◌, inl, inr, Bool, true, false, cond, nat_eq, List, [], ◌∷◌, ◌++◌, None, Some, Option, is_some, length, take, slice_get, arith, refl, sym, ap, subst, ◌∙◌}
use Rattle.std.specs.Cmp.{nat_eq_equiv}
use Rattle.std.specs.List.{slice_set}
use Rattle.std.proofs.lemmas.Bool.{eqb-true}
use Rattle.hj_value.specs.declared.field.Field.{Field}
use Rattle.hj_rows.specs.declared.place.RestingRow.{RestingRow}
use Rattle.hj_index.specs.declared.chains.RowPlace.{RowPlace}
use Rattle.hj_index.specs.KeyChains.{counted_on, has_key, known_place, last_place, AreKeyed, AreKnown, AreLinked, IsAscending, IsLinked}
use Rattle.hj_index.specs.Keys.{key_at}
use Rattle.hj_index.proofs.ChainKeys.{key_list, last-popped, last-pushed, same-keys}
use Rattle.hj_index.proofs.ChainRows.{number_list}

pub key-here : (key : ℕ) (place : RowPlace) → place.key ≡ Some key → has_key key place ≡ true
key-here key place e = by place.key e refl
  where
    by : (k : Option ℕ) → k ≡ Some key → place.key ≡ k → has_key key place ≡ true
    by None e is = absurd cc
    by (Some k) e is = let same : k ≡ key = cc in rw is (ap (λ n. nat_eq n key) same ∙ nat_eq_equiv.refl key)

pub key-is : (key : ℕ) (place : RowPlace) → has_key key place ≡ true → place.key ≡ Some key
key-is key place e = by place.key refl e
  where
    by : (k : Option ℕ) → place.key ≡ k → has_key key place ≡ true → place.key ≡ Some key
    by None is e = absurd (let none : false ≡ true = rw is at e in cc)
    by (Some k) is e = let some : nat_eq k key ≡ true = rw is at e in is ∙ ap Some (eqb-true k key some)

-- ---- a place that is added behind

pushed-at : (places : List RowPlace) (new : RowPlace) (at : ℕ) (place : RowPlace) → slice_get (places ++ new ∷ []) at ≡ Some place
    → ((slice_get places at ≡ Some place) × (take at (places ++ new ∷ []) ≡ take at places)) ⊎ ((place ≡ new) × (take at (places ++ new ∷ []) ≡ places))
pushed-at [] new zero place e = inr (let same : place ≡ new = cc in same, refl)
pushed-at [] new (suc at) place e = absurd cc
pushed-at (first ∷ places) new zero place e = inl (e, refl)
pushed-at (first ∷ places) new (suc at) place e =
    elim (pushed-at places new at place e) [
      | inl found ↦ inl (found.0, ap (λ ps. first ∷ ps) found.1)
      | inr found ↦ inr (found.0, ap (λ ps. first ∷ ps) found.1)
    ]

pub linked-pushed : (own base : ℕ) (places : List RowPlace) (last : ℕ → Option ℕ) (new : RowPlace) (now : ℕ → Option ℕ) → AreLinked own base places last
    → ((rest : RestingRow (List Field)) → new.rest ≡ Some rest → new.key ≡ key_at own rest.row)
    → ((key : ℕ) → new.key ≡ Some key → new.before ≡ known_place (last key))
    → ((key : ℕ) → known_place (now key) ≡ cond (has_key key new) (base + suc (length places)) (known_place (last key)))
    → AreLinked own base (places ++ new ∷ []) now
linked-pushed own base places last new now linked keyed before known = record {
  placed = λ at place e. elim (pushed-at places new at place e) [
    | inl found ↦ subst (λ earlier. IsLinked own base earlier place) (sym found.1) (linked.placed at place found.0)
    | inr found ↦
        subst (λ earlier. IsLinked own base earlier place) (sym found.1) (subst (λ place. IsLinked own base places place) (sym found.0) (record { keyed = keyed; linked = λ key is. ap (λ n. n - base) (before key is) ∙ linked.ended key }))
  ];
  ended = λ key. ap (λ n. n - base) (known key) ∙ (by key (has_key key new) ∙ sym (last-pushed key places new));
}
  where
    by : (key : ℕ) (b : Bool) → cond b (base + suc (length places)) (known_place (last key)) - base ≡ cond b (suc (length places)) (last_place key places)
    by key true = omega arith
    by key false = linked.ended key

-- ---- a place that is dropped from the front

pub linked-popped : (own base : ℕ) (first : RowPlace) (places : List RowPlace) (last : ℕ → Option ℕ) → AreLinked own base (first ∷ places) last → AreLinked own (base + 1) places last
linked-popped own base first places last linked = record {
  placed = λ at place e. let it = linked.placed (suc at) place e in record {
    keyed = it.keyed;
    linked = λ key is. less place.before (last_place key (first ∷ take at places)) (last_place key (take at places)) (it.linked key is) (last-popped key first (take at places));
  };
  ended = λ key. less (known_place (last key)) (last_place key (first ∷ places)) (last_place key places) (linked.ended key) (last-popped key first places);
}
  where
    less : (n m k : ℕ) → n - base ≡ m → m - 1 ≡ k → n - (base + 1) ≡ k
    less n m k e f = omega (arith, e, f)

-- ---- a place that is changed

pub set-at : (places : List RowPlace) (i : ℕ) (new : RowPlace) (at : ℕ) (place : RowPlace) → slice_get (slice_set places i new) at ≡ Some place → (slice_get places at ≡ Some place) ⊎ ((at ≡ i) × (place ≡ new))
set-at [] i new at place e = inl e
set-at (first ∷ places) zero new zero place e = inr (refl, let same : place ≡ new = cc in same)
set-at (first ∷ places) zero new (suc at) place e = inl e
set-at (first ∷ places) (suc i) new zero place e = inl e
set-at (first ∷ places) (suc i) new (suc at) place e =
    elim (set-at places i new at place e) [
      | inl found ↦ inl found
      | inr found ↦ inr (ap suc found.0, found.1)
    ]

set-keys : (places : List RowPlace) (i : ℕ) (old new : RowPlace) → slice_get places i ≡ Some old → new.key ≡ old.key → key_list (slice_set places i new) ≡ key_list places
set-keys [] i old new e same = refl
set-keys (first ∷ places) zero old new e same = let is : first ≡ old = cc in ap (λ k. k ∷ key_list places) (same ∙ ap (λ (p : RowPlace). p.key) (sym is))
set-keys (first ∷ places) (suc i) old new e same = ap (λ ks. first.key ∷ ks) (set-keys places i old new e same)

cut-keys : (places : List RowPlace) (i : ℕ) (old new : RowPlace) (at : ℕ) → slice_get places i ≡ Some old → new.key ≡ old.key → key_list (take at (slice_set places i new)) ≡ key_list (take at places)
cut-keys places i old new zero e same = refl
cut-keys [] i old new (suc at) e same = refl
cut-keys (first ∷ places) zero old new (suc at) e same = let is : first ≡ old = cc in ap (λ k. k ∷ key_list (take at places)) (same ∙ ap (λ (p : RowPlace). p.key) (sym is))
cut-keys (first ∷ places) (suc i) old new (suc at) e same = ap (λ ks. first.key ∷ ks) (cut-keys places i old new at e same)

pub linked-set : (own base : ℕ) (places : List RowPlace) (last : ℕ → Option ℕ) (i : ℕ) (old new : RowPlace) → AreLinked own base places last → slice_get places i ≡ Some old → new.key ≡ old.key → new.before ≡ old.before
    → ((rest : RestingRow (List Field)) → new.rest ≡ Some rest → new.key ≡ key_at own rest.row) → AreLinked own base (slice_set places i new) last
linked-set own base places last i old new linked e key before keyed = record {
  placed = λ at place found. elim (set-at places i new at place found) [
    | inl same ↦ let it = linked.placed at place same in record {
      keyed = it.keyed;
      linked = λ k is. it.linked k is ∙ sym (same-keys k (take at places) (take at (slice_set places i new)) (cut-keys places i old new at e key));
    }
    | inr here ↦
        let it = linked.placed at old (ap (slice_get places) here.0 ∙ e) in
        subst (λ place. IsLinked own base (take at (slice_set places i new)) place) (sym here.1) (record {
          keyed = keyed;
          linked = λ k is. ap (λ n. n - base) before ∙ (it.linked k (sym key ∙ is) ∙ sym (same-keys k (take at places) (take at (slice_set places i new)) (cut-keys places i old new at e key)));
        })
  ];
  ended = λ k. linked.ended k ∙ sym (same-keys k places (slice_set places i new) (set-keys places i old new e key));
}

pub set-numbers : (places : List RowPlace) (i n : ℕ) (new : RowPlace) → slice_get (number_list places) i ≡ Some n → new.no ≡ n → number_list (slice_set places i new) ≡ number_list places
set-numbers [] i n new e same = refl
set-numbers (first ∷ places) zero n new e same = let is : first.no ≡ n = cc in ap (λ k. k ∷ number_list places) (same ∙ sym is)
set-numbers (first ∷ places) (suc i) n new e same = ap (λ ks. first.no ∷ ks) (set-numbers places i n new e same)

pub number-at : (places : List RowPlace) (i : ℕ) (place : RowPlace) → slice_get places i ≡ Some place → slice_get (number_list places) i ≡ Some place.no
number-at [] i place e = absurd cc
number-at (first ∷ places) zero place e = let is : first ≡ place = cc in ap (λ (p : RowPlace). Some p.no) is
number-at (first ∷ places) (suc i) place e = number-at places i place e

pub ascending-same : (low : ℕ) (places others : List RowPlace) → number_list others ≡ number_list places → IsAscending low places → IsAscending low others
ascending-same low [] [] e up = tt
ascending-same low [] (other ∷ others) e up = absurd cc
ascending-same low (place ∷ places) [] e up = absurd cc
ascending-same low (place ∷ places) (other ∷ others) e up =
    let first : other.no ≡ place.no = cc in
    let rest : number_list others ≡ number_list places = cc in
    (subst (λ n. low ≤ n) (sym first) up.0, subst (λ n. IsAscending (n + 1) others) (sym first) (ascending-same (place.no + 1) places others rest up.1))

-- ---- keys that are known

at-least : (key at : ℕ) (places : List RowPlace) (place : RowPlace) → slice_get places at ≡ Some place → has_key key place ≡ true → 0 < last_place key places
at-least key at [] place e has = absurd cc
at-least key zero (first ∷ places) place e has = let is : first ≡ place = cc in by (last_place key places)
  where
    by : (n : ℕ) → 0 < counted_on (has_key key first) n
    by zero = rw (ap (has_key key) (let is : first ≡ place = cc in is) ∙ has) (omega arith)
    by (suc n) = omega arith
at-least key (suc at) (first ∷ places) place e has = by (has_key key first) (last_place key places) (at-least key at places place e has)
  where
    by : (b : Bool) (n : ℕ) → 0 < n → 0 < counted_on b n
    by b zero h = absurd (omega (arith, h))
    by b (suc n) h = omega arith

pub linked-known : (own base : ℕ) (places : List RowPlace) (last : ℕ → Option ℕ) → AreLinked own base places last → AreKnown places last
linked-known own base places last linked at key place e is = by (last key) refl
  where
    by : (known : Option ℕ) → last key ≡ known → is_some known ≡ true
    by None none = absurd (omega (arith, at-least key at places place e (key-here key place is), sym (ap (λ o. known_place o - base) none) ∙ linked.ended key))
    by (Some n) some = refl

pub linked-keyed : (own base : ℕ) (places : List RowPlace) (last : ℕ → Option ℕ) → AreLinked own base places last → AreKeyed own places
linked-keyed own base places last linked at place rest e is = (linked.placed at place e).keyed rest is
