-- Where a condition compares two sums of numbers, the key of each row lies in the range of the other one.
use Rattle.std.proofs.Common.{◌≡◌, ℕ, zero, suc, ◌+◌, ◌-◌, ◌^◌, Bool, true, false, cond, not, ◌≤◌, ◌≤ℤ◌, ◌<ℤ◌, ℤ, nat_abs, pos, negsuc, ◌+ℤ◌, ◌-ℤ◌, ◌<◌, ◌&&◌, ◌++◌, List, [], ◌∷◌, length, All, Option, Some, None, IfSome, Result, Ok, Err, OnOk, option_map, drop, refl, sym, ap, ap₂, subst, ◌∙◌, arith, append_assoc}
use Rattle.std.specs.List.{slice_get}
use Rattle.std.specs.Int.{saturate_to_bits}
use Rattle.std.specs.Ordering.{int_cmp, MatchOrdering}
use Rattle.std.specs.declared.cmp.Ordering.{Ordering}
use Rattle.std.specs.declared.cmp.Ordering.TheVariants.{Less, Equal, Greater}
use Rattle.std.proofs.lemmas.Bool.Decides.{nat_tests}
use Rattle.std.proofs.lemmas.Cmp.{int_ranked}
use Rattle.std.proofs.lemmas.Int.{ints}
use Rattle.hj_base.specs.declared.numbers.Side.{Side}
use Rattle.hj_base.specs.declared.numbers.Side.TheVariants.{Left, Right}
use Rattle.hj_value.specs.declared.column.Column.{Column}
use Rattle.hj_value.specs.Schema.{is_int}
use Rattle.hj_value.specs.declared.field.Field.{Field}
use Rattle.hj_value.specs.declared.field.Field.TheVariants as field
use Rattle.hj_query.specs.declared.pred.Op.{Op}
use Rattle.hj_query.specs.declared.pred.Op.TheVariants as ops
use Rattle.hj_query.specs.declared.sum.SignedTerm.{SignedTerm}
use Rattle.hj_query.specs.declared.sum.Sum.{Sum}
use Rattle.hj_query.specs.declared.sum.Term.{Term}
use Rattle.hj_query.specs.declared.sum.Term.TheVariants as terms
use Rattle.hj_query.specs.Grammar.{is_text, is_text_at}
use Rattle.hj_query.specs.Sides.{by_side}
use Rattle.hj_query.proofs.Columns.{drop_get}
use Rattle.hj_eval.specs.declared.filter.Filter.{Filter}
use Rattle.hj_eval.specs.declared.filter.Need.{Need}
use Rattle.hj_eval.specs.declared.filter.Need.TheVariants as needs
use Rattle.std.proofs.lemmas.List.Elements.{All-push}
use Rattle.hj_rows.specs.declared.key_filter.KeyRange.{KeyRange}
use Rattle.hj_rows.specs.Keys.{IsKeyWithin}
use Rattle.hj_msg.specs.Quiet.{other_side}
use Rattle.hj_eval.specs.Filter.{difference, high_key, key_of, key_or_zero, least_of, low_key, more, most_of, number_in, number_of, own_key, range_of, total, with_number, with_numbers, IsShort, KeepsMatches}
use Rattle.hj_eval.specs.Holds.{accepts, column_value, compares, has_type, is_within, sum_value, term_value, with_parts}
use Rattle.hj_eval.proofs.Totals.{with_none}

-- ---- keys

pub key-monotone : (x y : ℤ) → x ≤ℤ y → key_of x ≤ key_of y
key-monotone (pos m) (pos n) e = omega (arith, ints)
key-monotone (pos m) (negsuc n) e = omega (arith, ints)
key-monotone (negsuc m) (pos n) e = omega (arith, ints)
key-monotone (negsuc m) (negsuc n) e = omega (arith, ints)

key-greatest : (x : ℤ) → key_of x ≤ 2 ^ 64 - 1
key-greatest (pos m) = omega arith
key-greatest (negsuc m) = omega arith

-- numbers of 128 bits are enough for a key
pub key-saturated : (x : ℤ) → key_of (saturate_to_bits 127 x) ≡ key_of x
key-saturated (pos n) = omega arith
key-saturated (negsuc n) = omega arith

-- also where one is taken off a bound
pub key-taken : (bound x : ℤ) → IsShort bound → key_of (saturate_to_bits 127 (bound -ℤ saturate_to_bits 127 x)) ≡ key_of (bound -ℤ x)
key-taken bound x short = key-saturated (bound -ℤ saturate_to_bits 127 x) ∙ by x
  where
    by : (x : ℤ) → key_of (bound -ℤ saturate_to_bits 127 x) ≡ key_of (bound -ℤ x)
    by (pos n) = grind (arith, ints)
    by (negsuc n) = grind (arith, ints)

-- ---- bounds

-- a difference keeps to the bounds of a need
abbrev pub IsBetween : Need → ℤ → Type 0
IsBetween need x = IfSome (least_of need) (λ least. least ≤ℤ x) × IfSome (most_of need) (λ most. x ≤ℤ most)

pub compared : (op : Op) (x y : ℤ) → accepts op (int_cmp x y) ≡ true → IsBetween (needs.Compare op) (x -ℤ y)
compared op x y e = by op (int_cmp x y) (int_ranked x y (int_cmp x y) refl) e
  where
    by : (op : Op) (o : Ordering) → MatchOrdering o (x <ℤ y) (x ≡ y) (y <ℤ x) → accepts op o ≡ true → IsBetween (needs.Compare op) (x -ℤ y)
    by ops.Eq Equal h e = (omega (arith, ints), omega (arith, ints))
    by ops.Eq Less h e = absurd cc
    by ops.Eq Greater h e = absurd cc
    by ops.Ne o h e = (tt, tt)
    by ops.Lt Less h e = (tt, omega (arith, ints))
    by ops.Lt Equal h e = absurd cc
    by ops.Lt Greater h e = absurd cc
    by ops.Le Less h e = (tt, omega (arith, ints))
    by ops.Le Equal h e = (tt, omega (arith, ints))
    by ops.Le Greater h e = absurd cc
    by ops.Gt Greater h e = (omega (arith, ints), tt)
    by ops.Gt Equal h e = absurd cc
    by ops.Gt Less h e = absurd cc
    by ops.Ge Greater h e = (omega (arith, ints), tt)
    by ops.Ge Equal h e = (omega (arith, ints), tt)
    by ops.Ge Less h e = absurd cc

pub distant : (distance : ℕ) (z : ℤ) → nat_abs z ≤ distance → IsBetween (needs.Within distance) z
distant distance (pos n) e = (omega (arith, ints), omega (arith, ints))
distant distance (negsuc n) e = (omega (arith, ints), omega (arith, ints))

low_kept : (least : Option ℤ) (own other : ℤ) → IfSome least (λ least. least ≤ℤ (own +ℤ other)) → low_key least other ≤ key_of own
low_kept None own other e = omega arith
low_kept (Some least) own other e = key-monotone (least -ℤ other) own (omega (arith, ints))

high_kept : (most : Option ℤ) (own other : ℤ) → IfSome most (λ most. (own +ℤ other) ≤ℤ most) → key_of own ≤ high_key most other
high_kept None own other e = key-greatest own
high_kept (Some most) own other e = key-monotone own (most -ℤ other) (omega (arith, ints))

-- ---- sums

-- each number is one of the one kind and one of the other, added up
abbrev Splits : (Term → Option Field) → (Term → Option ℤ) → (Term → Option ℤ) → Type 0
Splits value f g = (term : Term) (n : ℤ) → value term ≡ Some (field.Int n) → (a b : ℤ) × (f term ≡ Some a) × (g term ≡ Some b) × (n ≡ a +ℤ b)

added : (n k a b c d : ℤ) → n ≡ a +ℤ b → k ≡ c +ℤ d → n +ℤ k ≡ (a +ℤ c) +ℤ (b +ℤ d)
added n k a b c d e h = omega (arith, ints)

taken : (n k a b c d : ℤ) → n ≡ a +ℤ b → k ≡ c +ℤ d → n -ℤ k ≡ (a -ℤ c) +ℤ (b -ℤ d)
taken n k a b c d e h = omega (arith, ints)

module _ (value : Term → Option Field) (f g : Term → Option ℤ) (splits : Splits value f g) where
  abbrev Parted : Option ℤ → Option ℤ → ℤ → Type 0
  Parted own other n = (a b : ℤ) × (own ≡ Some a) × (other ≡ Some b) × (n ≡ a +ℤ b)

  split_parts : (parts : List SignedTerm) (n a b m : ℤ) → n ≡ a +ℤ b → with_parts value (Some (field.Int n)) parts ≡ Some (field.Int m)
      → Parted (with_numbers f (Some a) parts) (with_numbers g (Some b) parts) m
  split_parts [] n a b m e h = (a, b, refl, refl, same ∙ e)
    where
      int_same : (x y : ℤ) → Some (field.Int x) ≡ Some (field.Int y) → x ≡ y
      int_same x y e = cc

      same : m ≡ n
      same = sym (int_same n m h)
  split_parts (part ∷ parts) n a b m e h = by part.plus (value part.term) refl refl h (λ n' a' b'. split_parts parts n' a' b' m)
    where
      by : (plus : Bool) (v : Option Field) → part.plus ≡ plus → value part.term ≡ v
          → with_parts value (cond plus (Rattle.hj_eval.specs.Holds.plus (Some (field.Int n)) v) (Rattle.hj_eval.specs.Holds.minus (Some (field.Int n)) v)) parts ≡ Some (field.Int m)
          → ((n' a' b' : ℤ) → n' ≡ a' +ℤ b' → with_parts value (Some (field.Int n')) parts ≡ Some (field.Int m) → Parted (with_numbers f (Some a') parts) (with_numbers g (Some b') parts) m)
          → Parted (with_numbers f (Some a) (part ∷ parts)) (with_numbers g (Some b) (part ∷ parts)) m
      by true (Some (field.Int k)) p v h again =
          let s = splits part.term k v in
          let sum = added n k a b s.0 s.1 e s.4 in
          rw (p, s.2, s.3) (again (n +ℤ k) (a +ℤ s.0) (b +ℤ s.1) sum h)
      by false (Some (field.Int k)) p v h again =
          let s = splits part.term k v in
          let sum = taken n k a b s.0 s.1 e s.4 in
          rw (p, s.2, s.3) (again (n -ℤ k) (a -ℤ s.0) (b -ℤ s.1) sum h)
      by true (Some (field.Text t)) p v h again = let none = with_none value parts in absurd cc
      by false (Some (field.Text t)) p v h again = let none = with_none value parts in absurd cc
      by true None p v h again = let none = with_none value parts in absurd cc
      by false None p v h again = let none = with_none value parts in absurd cc

  text_gives : {P : Type 0} (text : List ℕ) (parts : List SignedTerm) (m : ℤ) → with_parts value (Some (field.Text text)) parts ≡ Some (field.Int m) → P
  text_gives text [] m h = absurd cc
  text_gives {P} text (part ∷ parts) m h = by part.plus h
    where
      by : (plus : Bool) → with_parts value (cond {A = Option Field} plus None None) parts ≡ Some (field.Int m) → P
      by true h = let none = with_none value parts in absurd cc
      by false h = let none = with_none value parts in absurd cc

  split_sum : (sum : Sum) (m : ℤ) → sum_value value sum ≡ Some (field.Int m) → Parted (total f sum) (total g sum) m
  split_sum sum m h = by (value sum.first) refl h
    where
      by : (v : Option Field) → value sum.first ≡ v → with_parts value v sum.rest ≡ Some (field.Int m) → Parted (total f sum) (total g sum) m
      by (Some (field.Int n)) v h =
          let s = splits sum.first n v in
          rw (s.2, s.3) (split_parts sum.rest n s.0 s.1 m s.4 h)
      by (Some (field.Text t)) v h = text_gives t sum.rest m h
      by None v h = let none = with_none value sum.rest in absurd cc

  -- where the two sums are numbers, their difference is one of the one kind and one of the other, added up
  split_difference : (first second : Sum) (x y : ℤ) → sum_value value first ≡ Some (field.Int x) → sum_value value second ≡ Some (field.Int y)
      → Parted (difference f first second) (difference g first second) (x -ℤ y)
  split_difference first second x y ex ey =
      let s = split_sum first x ex in
      let t = split_sum second y ey in
      (s.0 -ℤ t.0, s.1 -ℤ t.1, rw (s.2, t.2) refl, rw (s.3, t.3) refl, taken x y s.0 s.1 t.0 t.1 s.4 t.4)

-- ---- the terms of two rows

column_field : (column : Option Column) (found : Option Field) (v : Field) → column_value column found ≡ Some v → found ≡ Some v
column_field (Some column) (Some value) v e = by (has_type column value) refl e
  where
    by : (b : Bool) → has_type column value ≡ b → column_value (Some column) (Some value) ≡ Some v → Some value ≡ Some v
    by true is h = let g : column_value (Some column) (Some value) ≡ Some value = rw is refl in sym g ∙ h
    by false is h = let g : column_value (Some column) (Some value) ≡ None = rw is refl in absurd cc
column_field (Some column) None v e = absurd cc
column_field None found v e = absurd cc

int_same : (x y : ℤ) → Some (field.Int x) ≡ Some (field.Int y) → y ≡ x
int_same x y e = cc

with_zero : (n : ℤ) → n ≡ n +ℤ pos 0
with_zero n = omega (arith, ints)

from_zero : (n m : ℤ) → n ≡ m → n ≡ pos 0 +ℤ m
from_zero n m e = omega (arith, ints)

in_field : (found : Option Field) (n : ℤ) → found ≡ Some (field.Int n) → number_in found ≡ Some n
in_field found n e = ap number_in e

pub terms_split : (columns : Side → List Column) (left right : List Field) (side : Side)
    → Splits (term_value columns (by_side left right)) (number_of side (by_side left right side) false) (number_of (other_side side) (by_side left right (other_side side)) true)
terms_split columns left right Left (terms.Column Left at) n e = (n, pos 0, in_field (slice_get left at) n (column_field (slice_get (columns Left) at) (slice_get left at) (field.Int n) e), refl, with_zero n)
terms_split columns left right Left (terms.Column Right at) n e = (pos 0, n, refl, in_field (slice_get right at) n (column_field (slice_get (columns Right) at) (slice_get right at) (field.Int n) e), from_zero n n refl)
terms_split columns left right Right (terms.Column Left at) n e = (pos 0, n, refl, in_field (slice_get left at) n (column_field (slice_get (columns Left) at) (slice_get left at) (field.Int n) e), from_zero n n refl)
terms_split columns left right Right (terms.Column Right at) n e = (n, pos 0, in_field (slice_get right at) n (column_field (slice_get (columns Right) at) (slice_get right at) (field.Int n) e), refl, with_zero n)
terms_split columns left right Left (terms.Number m) n e = (pos 0, m, refl, refl, from_zero n m (int_same m n e))
terms_split columns left right Right (terms.Number m) n e = (pos 0, m, refl, refl, from_zero n m (int_same m n e))
terms_split columns left right Left (terms.Text t) n e = absurd cc
terms_split columns left right Right (terms.Text t) n e = absurd cc

-- ---- a filter

-- two sums are numbers, of which the difference keeps to the bounds of a need
abbrev pub Meets : (Term → Option Field) → Need → Sum → Sum → Type 0
Meets value need first second = (x y : ℤ) × (sum_value value first ≡ Some (field.Int x)) × (sum_value value second ≡ Some (field.Int y)) × IsBetween need (x -ℤ y)

lets_through : (columns : Side → List Column) (left right : List Field) (filter : Filter) (side : Side)
    → Meets (term_value columns (by_side left right)) filter.need filter.first.now filter.second.now
    → IsKeyWithin (range_of filter side (by_side left right (other_side side))) (own_key filter side (by_side left right side))
lets_through columns left right filter side m =
    let s = split_difference (term_value columns (by_side left right)) (number_of side (by_side left right side) false) (number_of (other_side side) (by_side left right (other_side side)) true)
    (terms_split columns left right side) filter.first.now filter.second.now m.0 m.1 m.2 m.3 in
    let between = subst (λ (z : ℤ). IsBetween filter.need z) s.4 m.4 in
    rw (s.2, s.3) (low_kept (least_of filter.need) s.0 s.1 between.0, high_kept (most_of filter.need) s.0 s.1 between.1)

-- a filter whose sums meet its need wherever rows match keeps these rows
pub filter_keeps : (columns : Side → List Column) (matches : List Field → List Field → Bool) (filter : Filter)
    → ((left right : List Field) → matches left right ≡ true → Meets (term_value columns (by_side left right)) filter.need filter.first.now filter.second.now)
    → KeepsMatches matches filter
filter_keeps columns matches filter meets Left row against e = lets_through columns row against filter Left (meets row against e)
filter_keeps columns matches filter meets Right row against e = lets_through columns against row filter Right (meets against row e)

-- ---- values that compare

near_met : (value : Term → Option Field) (distance : ℕ) (first second : Sum) (a b : Option Field) → sum_value value first ≡ a → sum_value value second ≡ b → is_within distance a b ≡ true
    → Meets value (needs.Within distance) first second
near_met value distance first second (Some (field.Int x)) (Some (field.Int y)) ea eb e = (x, y, ea, eb, distant distance (x -ℤ y) (grind (arith, nat_tests)))
near_met value distance first second (Some (field.Int x)) (Some (field.Text t)) ea eb e = absurd cc
near_met value distance first second (Some (field.Int x)) None ea eb e = absurd cc
near_met value distance first second (Some (field.Text s)) b ea eb e = absurd cc
near_met value distance first second None b ea eb e = absurd cc

pub within_met : (value : Term → Option Field) (distance : ℕ) (first second : Sum) → is_within distance (sum_value value first) (sum_value value second) ≡ true → Meets value (needs.Within distance) first second
within_met value distance first second e = near_met value distance first second (sum_value value first) (sum_value value second) refl refl e

-- a number that terms are added to and taken off is no text
no_text_behind : (value : Term → Option Field) (parts : List SignedTerm) (n : ℤ) (text : List ℕ) → with_parts value (Some (field.Int n)) parts ≡ Some (field.Text text) → ⊥
no_text_behind value [] n text e = cc
no_text_behind value (part ∷ parts) n text e = by part.plus (value part.term) (λ m. no_text_behind value parts m text) e
  where
    by : (plus : Bool) (v : Option Field) → ((m : ℤ) → with_parts value (Some (field.Int m)) parts ≡ Some (field.Text text) → ⊥)
        → with_parts value (cond plus (Rattle.hj_eval.specs.Holds.plus (Some (field.Int n)) v) (Rattle.hj_eval.specs.Holds.minus (Some (field.Int n)) v)) parts ≡ Some (field.Text text) → ⊥
    by true (Some (field.Int k)) again h = again (n +ℤ k) h
    by false (Some (field.Int k)) again h = again (n -ℤ k) h
    by true (Some (field.Text t)) again h = let none = with_none value parts in cc
    by false (Some (field.Text t)) again h = let none = with_none value parts in cc
    by true None again h = let none = with_none value parts in cc
    by false None again h = let none = with_none value parts in cc

-- nor is a column of numbers
no_text_column : (column : Option Column) (found : Option Field) (text : List ℕ) → is_text_at column ≡ false → column_value column found ≡ Some (field.Text text) → ⊥
no_text_column None found text e h = cc
no_text_column (Some column) None text e h = cc
no_text_column (Some column) (Some (field.Int n)) text e h = by (is_int column.kind) refl h
  where
    by : (b : Bool) → is_int column.kind ≡ b → column_value (Some column) (Some (field.Int n)) ≡ Some (field.Text text) → ⊥
    by true p h = let g : column_value (Some column) (Some (field.Int n)) ≡ Some (field.Int n) = rw p refl in cc
    by false p h = let g : column_value (Some column) (Some (field.Int n)) ≡ None = rw p refl in cc
no_text_column (Some column) (Some (field.Text t)) text e h =
    let g : column_value (Some column) (Some (field.Text t)) ≡ None = rw e refl in cc

no_text_term : (columns : Side → List Column) (rows : Side → List Field) (term : Term) (text : List ℕ) → is_text columns term ≡ false → term_value columns rows term ≡ Some (field.Text text) → ⊥
no_text_term columns rows (terms.Column side at) text e h = no_text_column (slice_get (columns side) at) (slice_get (rows side) at) text e h
no_text_term columns rows (terms.Number n) text e h = cc
no_text_term columns rows (terms.Text t) text e h = cc

no_text_sum : (columns : Side → List Column) (rows : Side → List Field) (sum : Sum) (text : List ℕ) → is_text columns sum.first ≡ false → sum_value (term_value columns rows) sum ≡ Some (field.Text text) → ⊥
no_text_sum columns rows sum text e h = by (term_value columns rows sum.first) refl h
  where
    value : Term → Option Field
    value = term_value columns rows

    by : (v : Option Field) → term_value columns rows sum.first ≡ v → with_parts (term_value columns rows) v sum.rest ≡ Some (field.Text text) → ⊥
    by (Some (field.Int n)) v h = no_text_behind (term_value columns rows) sum.rest n text h
    by (Some (field.Text t)) v h = no_text_term columns rows sum.first t e v
    by None v h = let none = with_none (term_value columns rows) sum.rest in cc

pub comparison_met : (columns : Side → List Column) (rows : Side → List Field) (op : Op) (first second : Sum) → is_text columns first.first ≡ false
    → compares op (sum_value (term_value columns rows) first) (sum_value (term_value columns rows) second) ≡ true → Meets (term_value columns rows) (needs.Compare op) first second
comparison_met columns rows op first second number e = by (sum_value (term_value columns rows) first) (sum_value (term_value columns rows) second) refl refl e
  where
    by : (a b : Option Field) → sum_value (term_value columns rows) first ≡ a → sum_value (term_value columns rows) second ≡ b → compares op a b ≡ true
        → Meets (term_value columns rows) (needs.Compare op) first second
    by (Some (field.Int x)) (Some (field.Int y)) ea eb h = (x, y, ea, eb, compared op x y h)
    by (Some (field.Text s)) b ea eb h = absurd (no_text_sum columns rows first s number ea)
    by (Some (field.Int x)) (Some (field.Text t)) ea eb h = absurd cc
    by (Some (field.Int x)) None ea eb h = absurd cc
    by None b ea eb h = absurd cc

-- ---- sums, term by term

no_number_chosen : (number : Term → Option ℤ) (parts : List SignedTerm) (plus : Bool) → with_numbers number None parts ≡ None → with_numbers number (cond plus None None) parts ≡ None
no_number_chosen number parts true e = e
no_number_chosen number parts false e = e

-- nothing comes of terms behind a missing number
with_no_number : (number : Term → Option ℤ) (parts : List SignedTerm) → with_numbers number None parts ≡ None
with_no_number number [] = refl
with_no_number number (part ∷ parts) = no_number_chosen number parts part.plus (with_no_number number parts)

pub first_missing : (number : Term → Option ℤ) (sum : Sum) → None ≡ number sum.first → None ≡ total number sum
first_missing number sum e = sym (with_no_number number sum.rest) ∙ ap (λ (front : Option ℤ). with_numbers number front sum.rest) e

pub next_number : (number : Term → Option ℤ) (parts : List SignedTerm) (at : ℕ) (part : SignedTerm) (total next : ℤ) (whole : Option ℤ) → Some part ≡ slice_get parts at
    → Some next ≡ with_number number (Some total) part → with_numbers number (Some total) (drop at parts) ≡ whole → with_numbers number (Some next) (drop (at + 1) parts) ≡ whole
next_number number parts at part total next whole found e so_far =
    ap (λ (front : Option ℤ). with_numbers number front (drop (at + 1) parts)) e
    ∙ sym (ap (with_numbers number (Some total)) (drop_get parts at part found)) ∙ so_far

pub part_missing : (number : Term → Option ℤ) (parts : List SignedTerm) (at : ℕ) (part : SignedTerm) (total : ℤ) (whole : Option ℤ) → Some part ≡ slice_get parts at
    → None ≡ with_number number (Some total) part → with_numbers number (Some total) (drop at parts) ≡ whole → None ≡ whole
part_missing number parts at part total whole found e so_far =
    sym (with_no_number number (drop (at + 1) parts))
    ∙ ap (λ (front : Option ℤ). with_numbers number front (drop (at + 1) parts)) e
    ∙ sym (ap (with_numbers number (Some total)) (drop_get parts at part found)) ∙ so_far

pub none_within : {A : Type 0} (xs : List A) (at : ℕ) → None ≡ slice_get xs at → at < length xs → ⊥
none_within [] at e low = omega arith
none_within (x ∷ xs) zero e low = cc
none_within (x ∷ xs) (suc at) e low = none_within xs at e (omega arith)

-- ---- ranges

abbrev range_record : ℕ → ℕ → KeyRange
range_record low high = record { low = low; high = high }

pub low_made : (bound : Option ℤ) (least other exact taken : ℤ) (key : ℕ) → Some least ≡ bound → IsShort least → other ≡ saturate_to_bits 127 exact → taken ≡ saturate_to_bits 127 (least -ℤ other) → key ≡ key_of taken
    → key ≡ low_key bound exact
low_made bound least other exact taken key is short cut takes keyed =
    keyed ∙ ap key_of (takes ∙ ap (λ z. saturate_to_bits 127 (least -ℤ z)) cut) ∙ key-taken least exact short ∙ ap (λ b. low_key b exact) is

pub high_made : (bound : Option ℤ) (most other exact taken : ℤ) (key : ℕ) → Some most ≡ bound → IsShort most → other ≡ saturate_to_bits 127 exact → taken ≡ saturate_to_bits 127 (most -ℤ other) → key ≡ key_of taken
    → key ≡ high_key bound exact
high_made bound most other exact taken key is short cut takes keyed =
    keyed ∙ ap key_of (takes ∙ ap (λ z. saturate_to_bits 127 (most -ℤ z)) cut) ∙ key-taken most exact short ∙ ap (λ b. high_key b exact) is

pub range_made : (found : Option ℤ) (need : Need) (other : ℤ) (low high : ℕ) → Some other ≡ option_map (saturate_to_bits 127) found
    → ((exact : ℤ) → other ≡ saturate_to_bits 127 exact → low ≡ low_key (least_of need) exact) → ((exact : ℤ) → other ≡ saturate_to_bits 127 exact → high ≡ high_key (most_of need) exact)
    → Some (range_record low high) ≡ option_map (λ exact. range_record (low_key (least_of need) exact) (high_key (most_of need) exact)) found
range_made None need other low high e lows highs = absurd cc
range_made (Some exact) need other low high e lows highs =
    let cut : other ≡ saturate_to_bits 127 exact = some_same other (saturate_to_bits 127 exact) e in
    ap₂ (λ l h. Some (range_record l h)) (lows exact cut) (highs exact cut)
  where
    some_same : (x y : ℤ) → Some x ≡ Some y → x ≡ y
    some_same x y e = cc

pub key_cut : (found : Option ℤ) (own : ℤ) (key : ℕ) → Some own ≡ option_map (saturate_to_bits 127) found → key ≡ key_of own → key ≡ key_or_zero found
key_cut None own key e keyed = absurd cc
key_cut (Some exact) own key e keyed = keyed ∙ ap key_of (some_same own (saturate_to_bits 127 exact) e) ∙ key-saturated exact
  where
    some_same : (x y : ℤ) → Some x ≡ Some y → x ≡ y
    some_same x y e = cc

pub no_key : (found : Option ℤ) → None ≡ option_map (saturate_to_bits 127) found → 0 ≡ key_or_zero found
no_key None e = refl
no_key (Some exact) e = absurd cc

-- ---- filters that are found

pub both_first : (a b : Bool) → (a && b) ≡ true → a ≡ true
both_first true b e = refl
both_first false b e = e

pub both_second : (a b : Bool) → (a && b) ≡ true → b ≡ true
both_second true b e = e
both_second false b e = absurd cc

pub on_ok_then : {T E P Q : Type 0} (r : Result T E) → (P → Q) → OnOk r P → OnOk r Q
on_ok_then (Ok x) more p = more p
on_ok_then (Err e) more p = p

pub not_text : (b : Bool) → true ≡ not b → b ≡ false
not_text true e = absurd cc
not_text false e = refl

pub pushed_keeps : (matches : List Field → List Field → Bool) (old new : List Filter) (filter : Filter) → new ≡ old ++ filter ∷ [] → (need : Need) (first second : Sum) → filter.need ≡ need → filter.first.now ≡ first → filter.second.now ≡ second
    → All (KeepsMatches matches) old → (columns : Side → List Column) → ((left right : List Field) → matches left right ≡ true → Meets (term_value columns (by_side left right)) need first second) → All (KeepsMatches matches) new
pushed_keeps matches old new filter pushes need first second same_need same_first same_second kept columns meets =
    subst (All (KeepsMatches matches)) (sym pushes) (All-push (KeepsMatches matches) old filter kept (filter_keeps columns matches filter (λ left right e. rw (same_need, same_first, same_second) (meets left right e))))

-- ---- what filters ask

pub asks-then : {X : Type 0} (old mid new first second : List X) → mid ≡ old ++ first → new ≡ mid ++ second → new ≡ old ++ (first ++ second)
asks-then {X} old mid new first second one other = other ∙ ap (λ (l : List X). l ++ second) one ∙ append_assoc old first second
