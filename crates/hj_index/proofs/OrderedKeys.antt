-- Keys, and what the calls of the index make of them.
use Rattle.std.proofs.Common.{◌≡◌, ℕ, ℤ, Bool, true, false, not, ◌&&◌, ◌||◌, nat_eq, List, None, Some, Option, option_map, refl, sym, ap, ap₂, ◌∙◌, true≢false}
use Rattle.std.specs.declared.cmp.Ordering.{Ordering}
use Rattle.std.specs.declared.cmp.Ordering.TheVariants.{Less, Equal, Greater}
use Rattle.std.specs.BTreeMap.{is_at}
use Rattle.std.specs.Cmp.{int_cmp_total, nat_cmp_total, on_total, then_total, nat_eq_equiv, IsEquivalence, IsTotalOrder}
use Rattle.std.specs.Option.{option_eq}
use Rattle.std.specs.Ordering.{eq_by_cmp, int_cmp, int_eq, is_eq, nat_cmp, ordering_then}
use Rattle.std.proofs.lemmas.Cmp.{eq_by_cmp_equiv}
use Rattle.std.proofs.lemmas.Map.Lookups.{exact_pairs, exact_signed, exact_unsigned}
use Rattle.hj_value.specs.declared.field.Field.{Field}
use Rattle.hj_index.specs.OrderedIndex.{is_key, key_cmp, key_of, number_at, OrderedKey}
use Rattle.hj_rows.proofs.SortedProbes.{is_at-nat}

pub key_total : IsTotalOrder key_cmp
key_total = then_total (on_total (λ (key : OrderedKey). key.0) int_cmp_total) (on_total (λ (key : OrderedKey). key.1) nat_cmp_total)

pub key_equiv : IsEquivalence (eq_by_cmp key_cmp)
key_equiv = eq_by_cmp_equiv key_total

is_equal : (o : Ordering) → is_eq o ≡ true → o ≡ Equal
is_equal Less e = absurd cc
is_equal Equal e = refl
is_equal Greater e = absurd cc

-- keys that compare equal are one
pub same_key : (key other : OrderedKey) → is_at (key_cmp key) other ≡ true → key ≡ other
same_key key other e = exact_pairs int_cmp nat_cmp exact_signed exact_unsigned key other (is_equal (key_cmp key other) e)

pub key_itself : (key : OrderedKey) → is_key key (Some key) ≡ true
key_itself key = key_equiv.refl key

pub key_found : (key : OrderedKey) (found : Option OrderedKey) → is_key key found ≡ true → found ≡ Some key
key_found key None e = absurd cc
key_found key (Some other) e = ap Some (same_key other key e)

-- the key of a row is none of another number
pub other_number : (own arrival : ℕ) (row : List Field) (key : OrderedKey) → nat_eq arrival key.1 ≡ false → is_key key (key_of own arrival row) ≡ false
other_number own arrival row key apart = by (is_key key (key_of own arrival row)) refl
  where
    clash : None ≡ Some key → ⊥
    clash e = cc

    arrived : (number : Option ℤ) → option_map (λ (number : ℤ). (number, arrival)) number ≡ Some key → arrival ≡ key.1
    arrived None is = absurd (clash is)
    arrived (Some number) is = cc

    by : (b : Bool) → is_key key (key_of own arrival row) ≡ b → is_key key (key_of own arrival row) ≡ false
    by true e =
        let same : arrival ≡ key.1 = arrived (number_at own row) (key_found key (key_of own arrival row) e) in
        absurd (true≢false (sym (nat_eq_equiv.refl arrival) ∙ (ap (nat_eq arrival) same ∙ apart)))
    by false e = e

-- ---- keys that are compared by `==`

abbrev pub key_eq : OrderedKey → OrderedKey → Bool
key_eq key other = int_eq key.0 other.0 && nat_eq key.1 other.1

key_eq-is : (key other : OrderedKey) → key_eq key other ≡ is_at (key_cmp key) other
key_eq-is key other = by (int_cmp key.0 other.0)
  where
    by : (o : Ordering) → (is_eq o && nat_eq key.1 other.1) ≡ is_eq (ordering_then o (nat_cmp key.1 other.1))
    by Less = refl
    by Equal = sym (is_at-nat key.1 other.1)
    by Greater = refl

-- of two that differ a key is one at most
pub one_found : (first second : Option OrderedKey) → option_eq key_eq first second ≡ false → (key : OrderedKey) → is_key key second ≡ true → is_key key first ≡ false
one_found first second apart key e = by (is_key key first) refl
  where
    by : (b : Bool) → is_key key first ≡ b → is_key key first ≡ false
    by true f =
        absurd (true≢false (sym (key_eq-is key key ∙ key_itself key) ∙ (ap₂ (option_eq key_eq) (sym (key_found key first f)) (sym (key_found key second e)) ∙ apart)))
    by false f = f

pub negated : (b : Bool) → not b ≡ true → b ≡ false
negated true e = absurd (true≢false (sym e))
negated false e = refl

-- another key leaves
pub replaced_other : (replaced key : Option OrderedKey) (other : OrderedKey) (held : Bool) → option_eq key_eq replaced key ≡ false
    → (not (is_key other replaced) && (is_key other key || held)) ≡ (is_key other key || (not (is_key other replaced) && held))
replaced_other replaced key other held apart = by (is_key other key) refl
  where
    by : (b : Bool) → is_key other key ≡ b → (not (is_key other replaced) && (b || held)) ≡ (b || (not (is_key other replaced) && held))
    by true e = ap (λ b. not b && true) (one_found replaced key apart other e)
    by false e = refl
