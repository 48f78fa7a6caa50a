-- A plan is the better one of its operands' plans, and rows that match meet it.
use Rattle.std.proofs.Common.{◌≡◌, ℕ, Bool, true, false, ◌&&◌, ◌≤◌, ◌<ℤ◌, ℤ, pos, negsuc, zero, suc, ◌+ℤ◌, ◌-ℤ◌, nat_abs, List, [], ◌∷◌, ◌++◌, Option, Some, None, option_map, slice_get, ◌⊎◌, inl, inr, refl, sym, ap, subst, ◌∙◌, arith}
use Rattle.std.specs.List.{list_all}
use Rattle.std.specs.Option.{option_or}
use Rattle.std.specs.Ordering.{int_cmp, nat_cmp, is_eq}
use Rattle.std.specs.Cmp.Lexicographic.{slice_cmp}
use Rattle.std.proofs.lemmas.Bool.Decides.{nat_tests}
use Rattle.std.proofs.lemmas.Cmp.{by_ranked, int_ranked}
use Rattle.std.proofs.lemmas.List.Folds.{list_all-append}
use Rattle.std.proofs.lemmas.Map.Text.{is_eq-slice_cmp}
use Rattle.std.proofs.lemmas.Slice.Eq.{bytes_eq-Decides}
use Rattle.std.proofs.Math.IntN.{neg_ℤ, neg_ℤ-+ℤ, neg_ℤ-neg_ℤ, +ℤ_comm}
use Rattle.hj_base.specs.declared.numbers.Side.{Side}
use Rattle.hj_base.specs.declared.numbers.Side.TheVariants.{Left, Right}
use Rattle.hj_value.specs.declared.column.Column.{Column}
use Rattle.hj_value.specs.declared.field.Field.{Field}
use Rattle.hj_value.specs.declared.field.Field.TheVariants as field
use Rattle.hj_query.specs.declared.pred.Op.TheVariants as ops
use Rattle.hj_query.specs.declared.pred.Pred.{Pred, Or', And', Not', Compare, Within}
use Rattle.hj_query.specs.declared.sum.SignedTerm.{SignedTerm}
use Rattle.hj_query.specs.declared.sum.Sum.{Sum}
use Rattle.hj_query.specs.declared.sum.Term.{Term}
use Rattle.hj_query.specs.declared.sum.Term.TheVariants as terms
use Rattle.hj_query.specs.Sides.{by_side}
use Rattle.hj_eval.specs.Holds.{compares, column_value, has_type, is_within, pred_holds, sum_value, term_value}
use Rattle.hj_eval.specs.Plan.{better_plan, column_pair, conjuncts, equal_columns, first_of, lone_column, lone_term, near_columns, paired, plan_by, plan_of, AreEqual, AreNear, MeetsPlan}

-- ---- the plan of an `and`

first-append : {A : Type 0} (found : Pred → Option A) (xs ys : List Pred) → first_of found (xs ++ ys) ≡ option_or (first_of found xs) (first_of found ys)
first-append found [] ys = refl
first-append {A} found (x ∷ xs) ys = by (found x) (first-append found xs ys)
  where
    by : (here : Option A) → first_of found (xs ++ ys) ≡ option_or (first_of found xs) (first_of found ys)
        → option_or here (first_of found (xs ++ ys)) ≡ option_or (option_or here (first_of found xs)) (first_of found ys)
    by None more = more
    by (Some a) more = refl

better-by : (a c : Option (ℕ × ℕ)) (b d : Option ((ℕ × ℕ) × ℕ)) → better_plan (plan_by a b) (plan_by c d) ≡ plan_by (option_or a c) (option_or b d)
better-by (Some (l, r)) c b d = refl
better-by None (Some (l, r)) None d = refl
better-by None (Some (l, r)) (Some ((x, y), w)) d = refl
better-by None None None d = refl
better-by None None (Some ((x, y), w)) None = refl
better-by None None (Some ((x, y), w)) (Some ((u, v), z)) = refl

pub better-parts : (xs ys : List Pred) → better_plan (plan_by (first_of equal_columns xs) (first_of near_columns xs)) (plan_by (first_of equal_columns ys) (first_of near_columns ys))
    ≡ plan_by (first_of equal_columns (xs ++ ys)) (first_of near_columns (xs ++ ys))
better-parts xs ys = rw (first-append equal_columns xs ys, first-append near_columns xs ys) (better-by (first_of equal_columns xs) (first_of equal_columns ys) (first_of near_columns xs) (first_of near_columns ys))

-- ---- rows that match

-- a condition holds exactly where all of its conjuncts do
all_hold : (value : Term → Option Field) (pred : Pred) → list_all (pred_holds value) (conjuncts pred) ≡ pred_holds value pred
all_hold value (And' p left q right) =
    list_all-append (pred_holds value) (conjuncts left) (conjuncts right) ∙ rw (all_hold value left, all_hold value right) refl
all_hold value (Or' p left q right) = grind arith
all_hold value (Not' p inner) = grind arith
all_hold value (Compare op left right) = grind arith
all_hold value (Within distance left right) = grind arith

and_first : (a b : Bool) → (a && b) ≡ true → a ≡ true
and_first true b e = refl
and_first false b e = e

and_second : (a b : Bool) → (a && b) ≡ true → b ≡ true
and_second true b e = e
and_second false b e = absurd cc

-- what each conjunct that has something gives, the first one gives
first_gives : {A : Type 0} (found : Pred → Option A) (test : Pred → Bool) (Gives : A → Type 0) → ((pred : Pred) (a : A) → test pred ≡ true → found pred ≡ Some a → Gives a)
    → (preds : List Pred) (a : A) → list_all test preds ≡ true → first_of found preds ≡ Some a → Gives a
first_gives found test Gives gives [] a all e = absurd cc
first_gives {A} found test Gives gives (pred ∷ preds) a all e =
    by (found pred) refl e (first_gives found test Gives gives preds a (and_second (test pred) (list_all test preds) all))
  where
    by : (here : Option A) → found pred ≡ here → option_or here (first_of found preds) ≡ Some a → (first_of found preds ≡ Some a → Gives a) → Gives a
    by None is h more = more h
    by (Some x) is h more = gives pred a (and_first (test pred) (list_all test preds) all) (is ∙ h)

-- ---- columns

some_same : {A : Type 0} (x y : A) → Some x ≡ Some y → x ≡ y
some_same x y e = cc

lone_value : (value : Term → Option Field) (first : Term) (rest : List SignedTerm) (side : Side) (at : ℕ) → lone_term first rest ≡ Some (side, at)
    → sum_value value (record { first = first; rest = rest }) ≡ value (terms.Column side at)
lone_value value (terms.Column s n) [] side at e =
    let same : (s, n) ≡ (side, at) = some_same (s, n) (side, at) e in
    ap (λ (column : Side × ℕ). value (terms.Column column.0 column.1)) same
lone_value value (terms.Column s n) (part ∷ rest) side at e = absurd cc
lone_value value (terms.Number number) rest side at e = absurd cc
lone_value value (terms.Text text) rest side at e = absurd cc

column_field : (column : Option Column) (found : Option Field) (v : Field) → column_value column found ≡ Some v → found ≡ Some v
column_field (Some column) (Some value) v e = by (has_type column value) refl e
  where
    by : (b : Bool) → has_type column value ≡ b → column_value (Some column) (Some value) ≡ Some v → Some value ≡ Some v
    by true is h = let g : column_value (Some column) (Some value) ≡ Some value = rw is refl in sym g ∙ h
    by false is h = let g : column_value (Some column) (Some value) ≡ None = rw is refl in absurd cc
column_field (Some column) None v e = absurd cc
column_field None found v e = absurd cc

-- two rows under the columns of their sides
module _ (columns : Side → List Column) (left right : List Field) where
  abbrev value : Term → Option Field
  value = term_value columns (by_side left right)

  abbrev side_field : Side → ℕ → Option Field
  side_field side at = slice_get (by_side left right side) at

  lone_field : (sum : Sum) (side : Side) (at : ℕ) (v : Field) → lone_column sum ≡ Some (side, at) → sum_value value sum ≡ Some v → side_field side at ≡ Some v
  lone_field sum side at v lone e =
      column_field (slice_get (columns side) at) (side_field side at) v (sym (lone_value value sum.first sum.rest side at lone) ∙ e)

  abbrev Fields : ℕ → ℕ → Field → Field → Type 0
  Fields l r v w = (slice_get left l ≡ Some v) × (slice_get right r ≡ Some w)

  -- two sums that have values, and are a column of each side
  pair_fields : (first second : Sum) (l r : ℕ) (v w : Field) → column_pair first second ≡ Some (l, r) → sum_value value first ≡ Some v → sum_value value second ≡ Some w
      → Fields l r v w ⊎ Fields l r w v
  pair_fields first second l r v w e ev ew = by (lone_column first) (lone_column second) refl refl e
    where
      by : (a b : Option (Side × ℕ)) → lone_column first ≡ a → lone_column second ≡ b → paired a b ≡ Some (l, r) → Fields l r v w ⊎ Fields l r w v
      by (Some (Left, x)) (Some (Right, y)) ea eb h =
          let same : (x, y) ≡ (l, r) = some_same (x, y) (l, r) h in
          inl (
            subst (λ (p : ℕ × ℕ). slice_get left p.0 ≡ Some v) same (lone_field first Left x v ea ev),
            subst (λ (p : ℕ × ℕ). slice_get right p.1 ≡ Some w) same (lone_field second Right y w eb ew),
          )
      by (Some (Right, y)) (Some (Left, x)) ea eb h =
          let same : (x, y) ≡ (l, r) = some_same (x, y) (l, r) h in
          inr (
            subst (λ (p : ℕ × ℕ). slice_get left p.0 ≡ Some w) same (lone_field second Left x w eb ew),
            subst (λ (p : ℕ × ℕ). slice_get right p.1 ≡ Some v) same (lone_field first Right y v ea ev),
          )
      by (Some (Left, x)) (Some (Left, y)) ea eb h = absurd cc
      by (Some (Right, x)) (Some (Right, y)) ea eb h = absurd cc
      by (Some (Left, x)) None ea eb h = absurd cc
      by (Some (Right, x)) None ea eb h = absurd cc
      by None b ea eb h = absurd cc

-- ---- values that compare

same_int : (x y : ℤ) → is_eq (int_cmp x y) ≡ true → y ≡ x
same_int x y e = by_ranked (x <ℤ y) (x ≡ y) (y <ℤ x) (int_cmp x y) (int_ranked x y (int_cmp x y) refl) (λ o h. absurd cc) (λ o h. sym h) (λ o h. absurd cc)

same_text : (x y : List ℕ) → is_eq (slice_cmp nat_cmp x y) ≡ true → y ≡ x
same_text x y e = sym ((bytes_eq-Decides x y).0 (sym (is_eq-slice_cmp x y) ∙ e))

abs-neg : (z : ℤ) → nat_abs (neg_ℤ z) ≡ nat_abs z
abs-neg (pos zero) = refl
abs-neg (pos (suc n)) = refl
abs-neg (negsuc n) = refl

pub abs-turned : (x y : ℤ) → nat_abs (y -ℤ x) ≡ nat_abs (x -ℤ y)
abs-turned x y =
    let turned : neg_ℤ (x -ℤ y) ≡ y -ℤ x = neg_ℤ-+ℤ x (neg_ℤ y) ∙ ap (λ z. neg_ℤ x +ℤ z) (neg_ℤ-neg_ℤ y) ∙ +ℤ_comm (neg_ℤ x) y in
    ap nat_abs (sym turned) ∙ abs-neg (x -ℤ y)

equal_values : (a b : Option Field) → compares ops.Eq a b ≡ true → (v : Field) × (a ≡ Some v) × (b ≡ Some v)
equal_values (Some (field.Int x)) (Some (field.Int y)) e =
    let same : y ≡ x = same_int x y e in
    (field.Int x, refl, ap (λ n. Some (field.Int n)) same)
equal_values (Some (field.Text x)) (Some (field.Text y)) e =
    let same : y ≡ x = same_text x y e in
    (field.Text x, refl, ap (λ t. Some (field.Text t)) same)
equal_values (Some (field.Int x)) (Some (field.Text y)) e = absurd cc
equal_values (Some (field.Text x)) (Some (field.Int y)) e = absurd cc
equal_values (Some (field.Int x)) None e = absurd cc
equal_values (Some (field.Text x)) None e = absurd cc
equal_values None b e = absurd cc

near_values : (within : ℕ) (a b : Option Field) → is_within within a b ≡ true
    → (x y : ℤ) × (a ≡ Some (field.Int x)) × (b ≡ Some (field.Int y)) × (nat_abs (x -ℤ y) ≤ within) × (nat_abs (y -ℤ x) ≤ within)
near_values within (Some (field.Int x)) (Some (field.Int y)) e =
    let near : nat_abs (x -ℤ y) ≤ within = grind (arith, nat_tests) in
    (x, y, refl, refl, near, subst (λ n. n ≤ within) (sym (abs-turned x y)) near)
near_values within (Some (field.Int x)) (Some (field.Text y)) e = absurd cc
near_values within (Some (field.Text x)) b e = absurd cc
near_values within (Some (field.Int x)) None e = absurd cc
near_values within None b e = absurd cc

-- ---- the law

equal_met : (columns : Side → List Column) (left right : List Field) (pred : Pred) (at : ℕ × ℕ) → pred_holds (term_value columns (by_side left right)) pred ≡ true → equal_columns pred ≡ Some at
    → AreEqual (slice_get left at.0) (slice_get right at.1)
equal_met columns left right (Compare ops.Eq first second) at e is =
    let v = equal_values (sum_value (term_value columns (by_side left right)) first) (sum_value (term_value columns (by_side left right)) second) e in
    by (pair_fields columns left right first second at.0 at.1 v.0 v.0 is v.1 v.2)
  where
    by : {v : Field} → (((slice_get left at.0 ≡ Some v) × (slice_get right at.1 ≡ Some v)) ⊎ ((slice_get left at.0 ≡ Some v) × (slice_get right at.1 ≡ Some v))) → AreEqual (slice_get left at.0) (slice_get right at.1)
    by {v = v} (inl fields) = (v, fields.0, fields.1)
    by {v = v} (inr fields) = (v, fields.0, fields.1)
equal_met columns left right (Compare ops.Ne first second) at e is = absurd cc
equal_met columns left right (Compare ops.Lt first second) at e is = absurd cc
equal_met columns left right (Compare ops.Le first second) at e is = absurd cc
equal_met columns left right (Compare ops.Gt first second) at e is = absurd cc
equal_met columns left right (Compare ops.Ge first second) at e is = absurd cc
equal_met columns left right (Within distance first second) at e is = absurd cc
equal_met columns left right (Or' p l q r) at e is = absurd cc
equal_met columns left right (And' p l q r) at e is = absurd cc
equal_met columns left right (Not' p inner) at e is = absurd cc

near_met : (columns : Side → List Column) (left right : List Field) (pred : Pred) (near : (ℕ × ℕ) × ℕ) → pred_holds (term_value columns (by_side left right)) pred ≡ true → near_columns pred ≡ Some near
    → AreNear near.1 (slice_get left near.0.0) (slice_get right near.0.1)
near_met columns left right (Within distance first second) near e is = by (column_pair first second) refl is
  where
    value : Term → Option Field
    value = term_value columns (by_side left right)

    by : (at : Option (ℕ × ℕ)) → column_pair first second ≡ at → option_map (λ (columns : ℕ × ℕ). (columns, distance)) at ≡ Some near → AreNear near.1 (slice_get left near.0.0) (slice_get right near.0.1)
    by (Some (l, r)) at h =
        let v = near_values distance (sum_value value first) (sum_value value second) e in
        subst (λ (n : (ℕ × ℕ) × ℕ). AreNear n.1 (slice_get left n.0.0) (slice_get right n.0.1)) (some_same ((l, r), distance) near h)
        (of v.0 v.1 v.4 v.5 (pair_fields columns left right first second l r (field.Int v.0) (field.Int v.1) at v.2 v.3))
      where
        of : (x y : ℤ) → nat_abs (x -ℤ y) ≤ distance → nat_abs (y -ℤ x) ≤ distance
            → (((slice_get left l ≡ Some (field.Int x)) × (slice_get right r ≡ Some (field.Int y))) ⊎ ((slice_get left l ≡ Some (field.Int y)) × (slice_get right r ≡ Some (field.Int x))))
            → AreNear distance (slice_get left l) (slice_get right r)
        of x y near turned (inl fields) = (x, y, fields.0, fields.1, near)
        of x y near turned (inr fields) = (y, x, fields.0, fields.1, turned)
    by None at h = absurd cc
near_met columns left right (Compare op first second) near e is = absurd cc
near_met columns left right (Or' p l q r) near e is = absurd cc
near_met columns left right (And' p l q r) near e is = absurd cc
near_met columns left right (Not' p inner) near e is = absurd cc

pub plan_met : (columns : Side → List Column) (left right : List Field) (pred : Pred) → pred_holds (term_value columns (by_side left right)) pred ≡ true → MeetsPlan (plan_of pred) left right
plan_met columns left right pred e = by (first_of equal_columns (conjuncts pred)) (first_of near_columns (conjuncts pred)) refl refl
  where
    all : list_all (pred_holds (term_value columns (by_side left right))) (conjuncts pred) ≡ true
    all = all_hold (term_value columns (by_side left right)) pred ∙ e

    by : (equal : Option (ℕ × ℕ)) (near : Option ((ℕ × ℕ) × ℕ)) → first_of equal_columns (conjuncts pred) ≡ equal → first_of near_columns (conjuncts pred) ≡ near
        → MeetsPlan (plan_by equal near) left right
    by (Some (l, r)) near a b =
        first_gives equal_columns (pred_holds (term_value columns (by_side left right))) (λ (at : ℕ × ℕ). AreEqual (slice_get left at.0) (slice_get right at.1)) (equal_met columns left right) (conjuncts pred) (l, r) all a
    by None (Some ((l, r), within)) a b =
        first_gives near_columns (pred_holds (term_value columns (by_side left right))) (λ (near : (ℕ × ℕ) × ℕ). AreNear near.1 (slice_get left near.0.0) (slice_get right near.0.1)) (near_met columns left right) (conjuncts pred) ((l, r), within) all b
    by None None a b = tt
