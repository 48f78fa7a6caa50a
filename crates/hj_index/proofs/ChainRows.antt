-- The rows of places, as one place changes, comes or goes.
use Rattle.std.proofs.Common.{◌≡◌, ℕ, zero, suc, ◌+◌, ◌≤◌, ◌<◌, Bool, true, false, cond, nat_eq, ◌&&◌, ◌||◌, not, List, [], ◌∷◌, ◌++◌, None, Some, Option, All, option_map, is_some, length, map, slice_get, arith, refl, sym, ap, subst, ◌∙◌, true≢false}
use Rattle.std.specs.Cmp.{nat_eq_equiv}
use Rattle.std.specs.List.{slice_set}
use Rattle.std.proofs.lemmas.Bool.{or_parts, or_from, or_left, or_right, eqb-true, eqb-false}
use Rattle.std.proofs.lemmas.List.Elements.{All-nil, All-cons}
use Rattle.std.proofs.lemmas.List.Kept.{AllPairs-cons}
use Rattle.hj_value.specs.declared.field.Field.{Field}
use Rattle.hj_msg.specs.Store.{Resting, AreDistinct, holds, with_entry, with_settled, without_entry}
use Rattle.hj_rows.specs.declared.place.RestingRow.{RestingRow}
use Rattle.hj_rows.proofs.Rows.{settled-absent, without-absent, row_of}
use Rattle.hj_index.specs.declared.chains.RowPlace.{RowPlace}
use Rattle.hj_index.specs.KeyChains.{is_member, is_row, numbers, rows_at, AreApart, IsAbove, IsAscending}

abbrev pub Entries : Type 0
Entries = List (Resting (List Field))

-- ---- numbers

pub holds-member : (n : ℕ) (rows : Entries) → holds n rows ≡ is_member n (numbers rows)
holds-member n [] = refl
holds-member n (row ∷ rows) = ap (λ b. nat_eq row.no n || b) (holds-member n rows)

none-of : (n : ℕ) (rows : Entries) → is_member n (numbers rows) ≡ false → All (λ row. n ≡ row.no → ⊥) rows
none-of n [] h = All-nil (λ (row : Resting (List Field)). n ≡ row.no → ⊥)
none-of n (row ∷ rows) h =
    let parts = or_parts (nat_eq row.no n) (is_member n (numbers rows)) h in
    All-cons (λ (row : Resting (List Field)). n ≡ row.no → ⊥) row rows (λ e. eqb-false row.no n parts.0 (sym e)) (none-of n rows parts.1)

pub apart-distinct : (rows : Entries) → AreApart (numbers rows) → AreDistinct rows
apart-distinct [] h = λ i j d below within. absurd (omega (arith, within))
apart-distinct (row ∷ rows) h = AllPairs-cons (λ (row : Resting (List Field)) later. row.no ≡ later.no → ⊥) row rows (none-of row.no rows h.0) (apart-distinct rows h.1)

-- one number is held and another isn't, so they differ
differ : (m n : ℕ) (rows : Entries) → holds m rows ≡ true → is_member n (numbers rows) ≡ false → nat_eq n m ≡ false
differ m n rows held out = by (nat_eq n m) refl
  where
    by : (b : Bool) → nat_eq n m ≡ b → nat_eq n m ≡ false
    by true e = absurd (true≢false (sym held ∙ (holds-member m rows ∙ (ap (λ k. is_member k (numbers rows)) (sym (eqb-true n m e)) ∙ out))))
    by false e = e

-- ---- one more row

pub rows-pushed : (places others : List RowPlace) → rows_at (places ++ others) ≡ rows_at places ++ rows_at others
rows-pushed [] others = refl
rows-pushed (place ∷ places) others = by place.rest refl (rows-pushed places others)
  where
    by : (rest : Option (RestingRow (List Field))) → place.rest ≡ rest → rows_at (places ++ others) ≡ rows_at places ++ rows_at others → rows_at (place ∷ places ++ others) ≡ rows_at (place ∷ places) ++ rows_at others
    by None is later = rw is later
    by (Some rest) is later = rw is (ap (λ rows. row_of place.no rest ∷ rows) later)

pub put-last : (x : Resting (List Field)) (rows : Entries) → holds x.no rows ≡ false → with_entry x rows ≡ rows ++ x ∷ []
put-last x [] h = refl
put-last x (row ∷ rows) h =
    let parts = or_parts (nat_eq row.no x.no) (holds x.no rows) h in
    rw parts.0 (ap (λ rows. row ∷ rows) (put-last x rows parts.1))

pub apart-pushed : (x : Resting (List Field)) (rows : Entries) → holds x.no rows ≡ false → AreApart (numbers rows) → AreApart (numbers (rows ++ x ∷ []))
apart-pushed x [] h apart = (refl, tt)
apart-pushed x (row ∷ rows) h apart =
    let parts = or_parts (nat_eq row.no x.no) (holds x.no rows) h in
    (out rows apart.0 (nat_eq_equiv.symm x.no row.no ∙ parts.0), apart-pushed x rows parts.1 apart.1)
  where
    out : (rows : Entries) → is_member row.no (numbers rows) ≡ false → nat_eq x.no row.no ≡ false → is_member row.no (numbers (rows ++ x ∷ [])) ≡ false
    out [] e f = or_from (nat_eq x.no row.no) false f refl
    out (other ∷ rows) e f =
        let parts = or_parts (nat_eq other.no row.no) (is_member row.no (numbers rows)) e in
        or_from (nat_eq other.no row.no) (is_member row.no (numbers (rows ++ x ∷ []))) parts.0 (out rows parts.1 f)

-- ---- a row at a place

and_parts : (a b : Bool) → (a && b) ≡ true → (a ≡ true) × (b ≡ true)
and_parts true b e = (refl, e)
and_parts false b e = absurd cc

some_rest : (rest : Option (RestingRow (List Field))) → is_some rest ≡ true → (r : RestingRow (List Field)) × (rest ≡ Some r)
some_rest None e = absurd cc
some_rest (Some r) e = (r, refl)

pub row-held : (n at : ℕ) (places : List RowPlace) → option_map (is_row n) (slice_get places at) ≡ Some true
    → holds n (rows_at places) ≡ true
row-held n at [] e = absurd cc
row-held n zero (place ∷ places) e =
    let here : is_row n place ≡ true = cc in
    let parts = and_parts (nat_eq place.no n) (is_some place.rest) here in
    let some = some_rest place.rest parts.1 in
    rw some.1 (or_left (nat_eq place.no n) (holds n (rows_at places)) parts.0)
row-held n (suc at) (place ∷ places) e = by place.rest refl (row-held n at places e)
  where
    by : (rest : Option (RestingRow (List Field))) → place.rest ≡ rest → holds n (rows_at places) ≡ true → holds n (rows_at (place ∷ places)) ≡ true
    by None is later = rw is later
    by (Some rest) is later = rw is (or_right (nat_eq place.no n) (holds n (rows_at places)) later)

or-true : (b : Bool) → (b || true) ≡ true
or-true true = refl
or-true false = refl

or-false : (b : Bool) → (b || false) ≡ b
or-false true = refl
or-false false = refl

abbrev pub settled : RowPlace → RestingRow (List Field) → RowPlace
settled place rest = record place { rest = Some (record rest { settled = true }) }

abbrev pub emptied : RowPlace → RowPlace
emptied place = record place { rest = None }

pub rows-settled : (n at : ℕ) (places : List RowPlace) (place : RowPlace) (rest : RestingRow (List Field)) → AreApart (numbers (rows_at places)) → slice_get places at ≡ Some place → place.rest ≡ Some rest → place.no ≡ n
    → rows_at (slice_set places at (settled place rest)) ≡ with_settled n (rows_at places)
rows-settled n at [] place rest apart e is numbered = absurd cc
rows-settled n zero (first ∷ places) place rest apart e is numbered =
    let same : first ≡ place = cc in
    let here : first.rest ≡ Some rest = ap (λ (p : RowPlace). p.rest) same ∙ is in
    let number : first.no ≡ n = ap (λ (p : RowPlace). p.no) same ∙ numbered in
    let apart' : AreApart (numbers (row_of first.no rest ∷ rows_at places)) = rw here at apart in
    let absent : holds n (rows_at places) ≡ false = holds-member n (rows_at places) ∙ (ap (λ k. is_member k (numbers (rows_at places))) (sym number) ∙ apart'.0) in
    let equal : nat_eq first.no n ≡ true = ap (λ k. nat_eq k n) number ∙ nat_eq_equiv.refl n in
    rw (here, equal, or-true rest.settled, settled-absent n (rows_at places) absent, ap (λ (p : RowPlace). p.no) (sym same)) refl
rows-settled n (suc at) (first ∷ places) place rest apart e is numbered = by first.rest refl (λ apart. rows-settled n at places place rest apart e is numbered)
  where
    held : holds n (rows_at places) ≡ true
    held = row-held n at places (ap (option_map (is_row n)) e ∙ ap Some (row-here (ap (λ k. nat_eq k n) numbered ∙ nat_eq_equiv.refl n) (ap is_some is)))
      where
        row-here : nat_eq place.no n ≡ true → is_some place.rest ≡ true → is_row n place ≡ true
        row-here a b = rw (a, b) refl

    by : (other : Option (RestingRow (List Field))) → first.rest ≡ other → (AreApart (numbers (rows_at places)) → rows_at (slice_set places at (settled place rest)) ≡ with_settled n (rows_at places))
        → rows_at (first ∷ slice_set places at (settled place rest)) ≡ with_settled n (rows_at (first ∷ places))
    by None here later = rw here (later (rw here at apart))
    by (Some other) here later =
        let apart' : AreApart (numbers (row_of first.no other ∷ rows_at places)) = rw here at apart in
        rw (here, differ n first.no (rows_at places) held apart'.0, or-false other.settled) (ap (λ rows. row_of first.no other ∷ rows) (later apart'.1))

pub rows-emptied : (n at : ℕ) (places : List RowPlace) (place : RowPlace) (rest : RestingRow (List Field)) → AreApart (numbers (rows_at places)) → slice_get places at ≡ Some place → place.rest ≡ Some rest → place.no ≡ n
    → rows_at (slice_set places at (emptied place)) ≡ without_entry n (rows_at places)
rows-emptied n at [] place rest apart e is numbered = absurd cc
rows-emptied n zero (first ∷ places) place rest apart e is numbered =
    let same : first ≡ place = cc in
    let here : first.rest ≡ Some rest = ap (λ (p : RowPlace). p.rest) same ∙ is in
    let number : first.no ≡ n = ap (λ (p : RowPlace). p.no) same ∙ numbered in
    let apart' : AreApart (numbers (row_of first.no rest ∷ rows_at places)) = rw here at apart in
    let absent : holds n (rows_at places) ≡ false = holds-member n (rows_at places) ∙ (ap (λ k. is_member k (numbers (rows_at places))) (sym number) ∙ apart'.0) in
    let equal : nat_eq first.no n ≡ true = ap (λ k. nat_eq k n) number ∙ nat_eq_equiv.refl n in
    rw (here, equal) (sym (without-absent n (rows_at places) absent))
rows-emptied n (suc at) (first ∷ places) place rest apart e is numbered = by first.rest refl (λ apart. rows-emptied n at places place rest apart e is numbered)
  where
    held : holds n (rows_at places) ≡ true
    held = row-held n at places (ap (option_map (is_row n)) e ∙ ap Some (row-here (ap (λ k. nat_eq k n) numbered ∙ nat_eq_equiv.refl n) (ap is_some is)))
      where
        row-here : nat_eq place.no n ≡ true → is_some place.rest ≡ true → is_row n place ≡ true
        row-here a b = rw (a, b) refl

    by : (other : Option (RestingRow (List Field))) → first.rest ≡ other → (AreApart (numbers (rows_at places)) → rows_at (slice_set places at (emptied place)) ≡ without_entry n (rows_at places))
        → rows_at (first ∷ slice_set places at (emptied place)) ≡ without_entry n (rows_at (first ∷ places))
    by None here later = rw here (later (rw here at apart))
    by (Some other) here later =
        let apart' : AreApart (numbers (row_of first.no other ∷ rows_at places)) = rw here at apart in
        rw (here, differ n first.no (rows_at places) held apart'.0) (ap (λ rows. row_of first.no other ∷ rows) (later apart'.1))

head-replaced : (n : ℕ) (first new : RowPlace) (places : List RowPlace) (rest held : RestingRow (List Field)) → first.rest ≡ Some held → nat_eq first.no n ≡ true → new.rest ≡ Some rest → new.no ≡ n → rows_at (new ∷ places) ≡ with_entry (row_of n rest) (rows_at (first ∷ places))
head-replaced n first new places rest held some equal is numbered = rw (some, is, numbered) (rw equal refl)

-- another row in the place of one
pub rows-replaced : (n at : ℕ) (places : List RowPlace) (new : RowPlace) (rest : RestingRow (List Field)) → AreApart (numbers (rows_at places)) → option_map (is_row n) (slice_get places at) ≡ Some true → new.rest ≡ Some rest → new.no ≡ n
    → rows_at (slice_set places at new) ≡ with_entry (row_of n rest) (rows_at places)
rows-replaced n at [] new rest apart e is numbered = absurd cc
rows-replaced n zero (first ∷ places) new rest apart e is numbered =
    let parts = and_parts (nat_eq first.no n) (is_some first.rest) (let here : is_row n first ≡ true = cc in here) in
    let some = some_rest first.rest parts.1 in
    head-replaced n first new places rest some.0 some.1 parts.0 is numbered
rows-replaced n (suc at) (first ∷ places) new rest apart e is numbered = by first.rest refl (λ apart. rows-replaced n at places new rest apart e is numbered)
  where
    by : (other : Option (RestingRow (List Field))) → first.rest ≡ other → (AreApart (numbers (rows_at places)) → rows_at (slice_set places at new) ≡ with_entry (row_of n rest) (rows_at places))
        → rows_at (first ∷ slice_set places at new) ≡ with_entry (row_of n rest) (rows_at (first ∷ places))
    by None here later = rw here (later (rw here at apart))
    by (Some other) here later =
        let apart' : AreApart (numbers (row_of first.no other ∷ rows_at places)) = rw here at apart in
        rw (here, differ n first.no (rows_at places) (row-held n at places e) apart'.0) (ap (λ rows. row_of first.no other ∷ rows) (later apart'.1))

-- ---- numbers that stay apart

pub numbers-settled : (n : ℕ) (rows : Entries) → numbers (with_settled n rows) ≡ numbers rows
numbers-settled n [] = refl
numbers-settled n (row ∷ rows) = ap (λ ns. row.no ∷ ns) (numbers-settled n rows)

absent-without : (n m : ℕ) (rows : Entries) → is_member m (numbers rows) ≡ false → is_member m (numbers (without_entry n rows)) ≡ false
absent-without n m [] h = refl
absent-without n m (row ∷ rows) h = let parts = or_parts (nat_eq row.no m) (is_member m (numbers rows)) h in by (nat_eq row.no n) parts.0 (absent-without n m rows parts.1)
  where
    by : (b : Bool) → nat_eq row.no m ≡ false → is_member m (numbers (without_entry n rows)) ≡ false → is_member m (numbers (cond (not b) (row ∷ without_entry n rows) (without_entry n rows))) ≡ false
    by true other later = later
    by false other later = or_from (nat_eq row.no m) (is_member m (numbers (without_entry n rows))) other later

pub apart-without : (n : ℕ) (rows : Entries) → AreApart (numbers rows) → AreApart (numbers (without_entry n rows))
apart-without n [] h = tt
apart-without n (row ∷ rows) h = by (nat_eq row.no n) (apart-without n rows h.1)
  where
    by : (b : Bool) → AreApart (numbers (without_entry n rows)) → AreApart (numbers (cond (not b) (row ∷ without_entry n rows) (without_entry n rows)))
    by true later = later
    by false later = (absent-without n row.no rows h.0, later)

same-numbers-put : (x : Resting (List Field)) (rows : Entries) → holds x.no rows ≡ true → numbers (with_entry x rows) ≡ numbers rows
same-numbers-put x [] h = absurd cc
same-numbers-put x (row ∷ rows) h = by (nat_eq row.no x.no) refl (same-numbers-put x rows)
  where
    by : (b : Bool) → nat_eq row.no x.no ≡ b → (holds x.no rows ≡ true → numbers (with_entry x rows) ≡ numbers rows) → numbers (cond b (x ∷ rows) (row ∷ with_entry x rows)) ≡ numbers (row ∷ rows)
    by true e later = ap (λ n. n ∷ numbers rows) (sym (eqb-true row.no x.no e))
    by false e later = ap (λ ns. row.no ∷ ns) (later (sym (ap (λ b. b || holds x.no rows) e) ∙ h))

pub apart-put : (x : Resting (List Field)) (rows : Entries) → holds x.no rows ≡ true → AreApart (numbers rows) → AreApart (numbers (with_entry x rows))
apart-put x rows h apart = subst AreApart (sym (same-numbers-put x rows h)) apart

-- ---- places whose numbers ascend

pub above-absent : (n : ℕ) (places : List RowPlace) → IsAbove n places → holds n (rows_at places) ≡ false
above-absent n [] h = refl
above-absent n (place ∷ places) h = by place.rest refl (above-absent n places h.1)
  where
    apart : nat_eq place.no n ≡ false
    apart = each (nat_eq place.no n) refl
      where
        each : (b : Bool) → nat_eq place.no n ≡ b → nat_eq place.no n ≡ false
        each true e = absurd (omega (arith, h.0, eqb-true place.no n e))
        each false e = e

    by : (rest : Option (RestingRow (List Field))) → place.rest ≡ rest → holds n (rows_at places) ≡ false → holds n (rows_at (place ∷ places)) ≡ false
    by None is later = rw is later
    by (Some rest) is later = rw is (or_from (nat_eq place.no n) (holds n (rows_at places)) apart later)

-- a number above the last one is above all
pub last-above : (n low : ℕ) (places : List RowPlace) (last : RowPlace) → IsAscending low places → (at : ℕ) → suc at ≡ length places → slice_get places at ≡ Some last → last.no < n → IsAbove n places
last-above n low [] last up at long e above = tt
last-above n low (place ∷ []) last up zero long e above = let same : place ≡ last = cc in (subst (λ (p : RowPlace). p.no < n) (sym same) above, tt)
last-above n low (place ∷ []) last up (suc at) long e above = absurd cc
last-above n low (place ∷ next ∷ places) last up zero long e above = absurd (omega (arith, long))
last-above n low (place ∷ next ∷ places) last up (suc at) long e above =
    let later = last-above n (place.no + 1) (next ∷ places) last up.1 at (omega (arith, long)) e above in
    (omega (arith, up.1.0, later.0), later)

pub ascending-pushed : (low : ℕ) (places : List RowPlace) (place : RowPlace) → low ≤ place.no → IsAscending low places → IsAbove place.no places → IsAscending low (places ++ place ∷ [])
ascending-pushed low [] place le up above = (le, tt)
ascending-pushed low (first ∷ places) place le up above = (up.0, ascending-pushed (first.no + 1) places place (omega (arith, above.0)) up.1 above.1)

pub ascending-later : (low high : ℕ) (places : List RowPlace) → low ≤ high → IsAscending high places → IsAscending low places
ascending-later low high [] le up = tt
ascending-later low high (place ∷ places) le up = (omega (arith, le, up.0), up.1)

abbrev pub number_list : List RowPlace → List ℕ
number_list places = map (λ (place : RowPlace). place.no) places
