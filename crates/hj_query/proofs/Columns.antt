-- Looking a column up by its name, and adding one behind others.
use Rattle.std.proofs.Common.{◌≡◌, ℕ, zero, suc, ◌+◌, ◌<◌, Bool, true, false, cond, not, ◌&&◌, ◌||◌, List, [], ◌∷◌, ◌++◌, length, drop, Some, None, refl, sym, ap, ◌∙◌, arith}
use Rattle.std.proofs.lemmas.Bool.{and_parts, false≢true}
use Rattle.std.specs.List.{list_all, list_any, position_from, slice_get}
use Rattle.std.specs.Prelude.{is_some}
use Rattle.std.specs.Str.{bytes_eq}
use Rattle.hj_base.specs.declared.numbers.Side.{Side}
use Rattle.hj_base.specs.declared.numbers.Side.TheVariants as side
use Rattle.hj_value.specs.declared.column.Column.{Column}
use Rattle.hj_value.specs.Schema.{has_distinct_names, starts_with_time}
use Rattle.hj_query.specs.declared.schemas.Schemas.{Schemas}
use Rattle.hj_query.specs.Sides.{by_side, columns_in}

some_same : {A : Type 0} (x y : A) → Some x ≡ Some y → x ≡ y
some_same x y e = cc

drop_suc : {A : Type 0} (xs : List A) (at : ℕ) (x : A) → Some x ≡ slice_get xs at → drop at xs ≡ x ∷ drop (suc at) xs
drop_suc [] at x e = absurd cc
drop_suc (y ∷ xs) zero x e = ap (λ z. z ∷ xs) (sym (some_same x y e))
drop_suc (y ∷ xs) (suc at) x e = drop_suc xs at x e

pub drop_get : {A : Type 0} (xs : List A) (at : ℕ) (x : A) → Some x ≡ slice_get xs at → drop at xs ≡ x ∷ drop (at + 1) xs
drop_get xs at x e =
    let n : suc at ≡ at + 1 = omega arith in
    drop_suc xs at x e ∙ ap (λ k. x ∷ drop k xs) n

pub drop_none : {A : Type 0} (xs : List A) (at : ℕ) → None ≡ slice_get xs at → drop at xs ≡ []
drop_none [] zero e = refl
drop_none [] (suc at) e = refl
drop_none (y ∷ xs) zero e = absurd cc
drop_none (y ∷ xs) (suc at) e = drop_none xs at e

pub get_within : {A : Type 0} (xs : List A) (at : ℕ) (x : A) → Some x ≡ slice_get xs at → at < length xs
get_within [] at x e = absurd cc
get_within (y ∷ xs) zero x e = omega arith
get_within (y ∷ xs) (suc at) x e = omega (arith, get_within xs at x e)

pub position_found : {A : Type 0} (p : A → Bool) (xs : List A) (at : ℕ) (x : A) → Some x ≡ slice_get xs at → p x ≡ true → position_from p at (drop at xs) ≡ Some at
position_found p xs at x e t = ap (position_from p at) (drop_get xs at x e) ∙ ap (λ b. cond b (Some at) (position_from p (at + 1) (drop (at + 1) xs))) t

pub position_passed : {A : Type 0} (p : A → Bool) (xs : List A) (at : ℕ) (x : A) → Some x ≡ slice_get xs at → p x ≡ false → position_from p at (drop at xs) ≡ position_from p (at + 1) (drop (at + 1) xs)
position_passed p xs at x e t = ap (position_from p at) (drop_get xs at x e) ∙ ap (λ b. cond b (Some at) (position_from p (at + 1) (drop (at + 1) xs))) t

pub position_end : {A : Type 0} (p : A → Bool) (xs : List A) (at : ℕ) → None ≡ slice_get xs at → position_from p at (drop at xs) ≡ None
position_end p xs at e = ap (position_from p at) (drop_none xs at e)

pub any_from : {A : Type 0} (p : A → Bool) (xs : List A) (at : ℕ) → is_some (position_from p at xs) ≡ list_any p xs
any_from p [] at = refl
any_from p (x ∷ xs) at = chosen (p x) (any_from p xs (at + 1))
  where
    chosen : (b : Bool) → is_some (position_from p (at + 1) xs) ≡ list_any p xs → is_some (cond b (Some at) (position_from p (at + 1) xs)) ≡ (b || list_any p xs)
    chosen true e = refl
    chosen false e = e

pub sides_columns : (schemas : Schemas) (which : Side) → (by_side schemas.left schemas.right which).columns ≡ columns_in schemas which
sides_columns schemas side.Left = refl
sides_columns schemas side.Right = refl

any_snoc : {A : Type 0} (p : A → Bool) (xs : List A) (x : A) → list_any p xs ≡ false → p x ≡ false → list_any p (xs ++ x ∷ []) ≡ false
any_snoc p [] x h e = ap (λ b. b || false) e
any_snoc p (y ∷ xs) x h e = both (p y) (list_any p xs) (list_any p (xs ++ x ∷ [])) h (any_snoc p xs x)
  where
    both : (a b d : Bool) → (a || b) ≡ false → (b ≡ false → p x ≡ false → d ≡ false) → (a || d) ≡ false
    both true b d h more = absurd cc
    both false b d h more = more h e

not_false : (b : Bool) → not b ≡ true → b ≡ false
not_false true h = absurd cc
not_false false h = refl

false_not : (b : Bool) → b ≡ false → not b ≡ true
false_not true h = absurd cc
false_not false h = refl

and_both : (a b : Bool) → a ≡ true → b ≡ true → (a && b) ≡ true
and_both true b h e = e
and_both false b h e = absurd cc

or_parts : (a b : Bool) → (a || b) ≡ false → (a ≡ false) × (b ≡ false)
or_parts true b h = absurd cc
or_parts false b h = (refl, h)

-- distinct names stay so with a new one behind them
pub distinct_more : (front : List Column) (column : Column) → has_distinct_names front ≡ true → list_any (λ other. bytes_eq other.name column.name) front ≡ false
    → has_distinct_names (front ++ column ∷ []) ≡ true
distinct_more [] column h e = refl
distinct_more (first ∷ front) column h e =
    let p : (not (list_any (λ other. bytes_eq first.name other.name) front) ≡ true) × (has_distinct_names front ≡ true) = and_parts _ _ h in
    let q : (bytes_eq first.name column.name ≡ false) × (list_any (λ other. bytes_eq other.name column.name) front ≡ false) = or_parts _ _ e in
    and_both _ _
    (false_not _ (any_snoc (λ other. bytes_eq first.name other.name) front column (not_false _ p.0) q.0))
    (distinct_more front column p.1 q.1)

pub timed_more : (front : List Column) (column : Column) → starts_with_time front ≡ true → starts_with_time (front ++ column ∷ []) ≡ true
timed_more [] column h = absurd (false≢true h)
timed_more (first ∷ front) column h = h

-- what holds of all from a place on
pub all_at : {A : Type 0} (p : A → Bool) (xs : List A) (at : ℕ) (x : A) (b : Bool) → Some x ≡ slice_get xs at → p x ≡ b → list_all p (drop at xs) ≡ (b && list_all p (drop (at + 1) xs))
all_at p xs at x b e t = ap (list_all p) (drop_get xs at x e) ∙ ap (λ test. test && list_all p (drop (at + 1) xs)) t

pub and_right : (a b : Bool) → b ≡ false → (a && b) ≡ false
and_right true b e = e
and_right false b e = refl
