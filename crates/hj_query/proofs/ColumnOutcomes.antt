-- Reading columns: each list of tokens begins with columns in the form of a schema, or has a first fault, in one way.
use Rattle.std.proofs.Common.{◌≡◌, ◌⊎◌, inl, inr, ℕ, ◌<◌, ◌≤◌, true, false, List, [], ◌∷◌, ◌++◌, length, ap, refl, sym, subst, arith}
use Rattle.std.specs.Prelude.{codes}
use Rattle.std.proofs.lemmas.Bool.{cases_lt}
use Rattle.hj_value.specs.declared.column.Column.{Column}
use Rattle.hj_value.specs.declared.column.ColumnType.{ColumnType}
use Rattle.hj_value.specs.declared.column.ColumnType.TheVariants as types
use Rattle.hj_lex.specs.declared.token.TokenKind.TheVariants as kinds
use Rattle.hj_query.specs.declared.fault.QueryFault.{QueryFault}
use Rattle.hj_query.specs.declared.fault.QueryFault.TheVariants as faults
use Rattle.hj_query.specs.declared.fault.Wanted.TheVariants as wants
use Rattle.hj_query.specs.Faults.{FaultsColumn, FaultsNext, IsExpected, double, next_column_name, next_column_type, no_name, no_type, too_many}
use Rattle.hj_query.specs.Grammar.{IsColumn, has_column, kind_word, most_columns, named}
use Rattle.hj_query.specs.Lexemes.{Lexeme, behind, next_is, place, IsWord, LacksKind, LacksWord}
use Rattle.hj_query.proofs.Choices.{Either, one_either, one_is, one_test}
use Rattle.hj_query.proofs.Outcomes.{IsOne, Outcome, Then, fault, one_by, one_then, read}
use Rattle.hj_query.proofs.TokenOutcomes.{NameGives, name_one, next_other}

-- A column.

abbrev pub ColumnGives : List Lexeme → Outcome Column → Type 0
ColumnGives here (read column rest) = IsColumn here column rest
ColumnGives here (fault found) = FaultsColumn here found

-- what comes where a column of this type is named
abbrev column_at : List ℕ → ColumnType → List Lexeme → Outcome Column
column_at name kind typed = read (record { name = name; kind = kind }) (behind typed)

abbrev TextGives : List ℕ → List Lexeme → Outcome Column → Type 0
TextGives name typed =
    Either (next_is kinds.Name (codes "text") typed ≡ true) (λ end. end ≡ column_at name types.Text typed)
    (LacksWord (codes "text") typed) (λ end. end ≡ fault (faults.Expected wants.ColumnKind (place typed)))

-- the type behind a name
abbrev TypeGives : List ℕ → List Lexeme → Outcome Column → Type 0
TypeGives name typed =
    Either (next_is kinds.Name (codes "int") typed ≡ true) (λ end. end ≡ column_at name types.Int typed)
    (LacksWord (codes "int") typed) (TextGives name typed)

type_one : (name : List ℕ) (typed : List Lexeme) → IsOne (TypeGives name typed)
type_one name typed =
    one_test (next_is kinds.Name (codes "int") typed) (λ end. end ≡ column_at name types.Int typed) (TextGives name typed) (one_is _)
    (one_test (next_is kinds.Name (codes "text") typed) (λ end. end ≡ column_at name types.Text typed)
    (λ end. end ≡ fault (faults.Expected wants.ColumnKind (place typed))) (one_is _) (one_is _))

abbrev NamedGives : List Lexeme → Outcome Column → Type 0
NamedGives here = Then (NameGives wants.ColumnName here) TypeGives

to_typed : (here typed : List Lexeme) (name : List ℕ) (end : Outcome Column) → IsWord name here typed → TypeGives name typed end → ColumnGives here end
to_typed here typed name end n (inl (t, e)) = subst (ColumnGives here) (sym e) (named typed n (record { found = t; left = refl }))
to_typed here typed name end n (inr (f, inl (t, e))) = subst (ColumnGives here) (sym e) (named typed n (record { found = t; left = refl }))
to_typed here typed name end n (inr (f, inr (g, e))) = subst (ColumnGives here) (sym e) (no_type name typed n f g refl)

to_column : (here : List Lexeme) (end : Outcome Column) → NamedGives here end → ColumnGives here end
to_column here end (inl h) = subst (ColumnGives here) (sym h.2) (no_name h.1.0 h.1.1)
to_column here end (inr h) = to_typed here h.1.0 h.0 end h.1.1 h.1.2

from_type : (name : List ℕ) (kind : ColumnType) (typed rest : List Lexeme) → IsWord (kind_word kind) typed rest → TypeGives name typed (read (record { name = name; kind = kind }) rest)
from_type name types.Int typed rest n = inl (n.found, ap (λ (r : List Lexeme). read (record { name = name; kind = types.Int }) r) n.left)
from_type name types.Text typed rest n =
    inr (next_other kinds.Name (codes "text") (codes "int") typed rest n refl, inl (n.found, ap (λ (r : List Lexeme). read (record { name = name; kind = types.Text }) r) n.left))

from_column : (here : List Lexeme) (end : Outcome Column) → ColumnGives here end → NamedGives here end
from_column here (read column rest) (named typed n k) = inr (column.name, (typed, n, from_type column.name column.kind typed rest k))
from_column here (fault found) (no_name n e) = inl (found, (n, e), refl)
from_column here (fault found) (no_type name typed n f g e) = inr (name, (typed, n, inr (f, inr (g, ap (λ (x : QueryFault). fault x) e))))

pub column_one : (here : List Lexeme) → IsOne (ColumnGives here)
column_one here =
    one_by (NamedGives here) (ColumnGives here) (λ end h. to_column here end h) (λ end h. from_column here end h)
    (one_then (NameGives wants.ColumnName here) TypeGives (name_one wants.ColumnName here) (λ name typed n. type_one name typed))

-- A further column, behind its comma.

abbrev pub NextGives : List Column → List Lexeme → Outcome (List Column) → Type 0
NextGives front here (read columns rest) =
    (column : Column) × IsColumn here column rest × (length front < most_columns) × (has_column column.name front ≡ false) × (columns ≡ front ++ column ∷ [])
NextGives front here (fault found) = FaultsNext front here found

-- a name behind the most columns that can stand there
abbrev ManyGives : List Lexeme → Outcome (List Column) → Type 0
ManyGives here = Then (NameGives wants.ColumnName here) (λ name rest end. end ≡ fault (faults.TooManyColumns (place here)))

-- a column with the name of one before it, or a new name
abbrev NewGives : List Column → List Lexeme → Column → List Lexeme → Outcome (List Column) → Type 0
NewGives front here column rest =
    Either (has_column column.name front ≡ true) (λ end. end ≡ fault (faults.DoubleColumn (place here)))
    (has_column column.name front ≡ false) (λ end. end ≡ read (front ++ column ∷ []) rest)

abbrev AddedGives : List Column → List Lexeme → Outcome (List Column) → Type 0
AddedGives front here =
    Either (length front < most_columns) (Then (ColumnGives here) (NewGives front here)) (most_columns ≤ length front) (ManyGives here)

added_one : (front : List Column) (here : List Lexeme) → IsOne (AddedGives front here)
added_one front here =
    one_either (length front < most_columns) (Then (ColumnGives here) (NewGives front here)) (most_columns ≤ length front) (ManyGives here)
    (cases_lt (length front) most_columns) (λ lt le. omega (arith, lt, le))
    (λ lt. one_then (ColumnGives here) (NewGives front here) (column_one here) (λ column rest c.
    one_test (has_column column.name front) (λ end. end ≡ fault (faults.DoubleColumn (place here))) (λ end. end ≡ read (front ++ column ∷ []) rest) (one_is _) (one_is _)))
    (λ le. one_then (NameGives wants.ColumnName here) (λ name rest end. end ≡ fault (faults.TooManyColumns (place here))) (name_one wants.ColumnName here)
    (λ name rest n. one_is _))

to_next : (front : List Column) (here : List Lexeme) (end : Outcome (List Column)) → AddedGives front here end → NextGives front here end
to_next front here end (inl (lt, inl h)) = subst (NextGives front here) (sym h.2) (next_column_type lt h.1)
to_next front here end (inl (lt, inr (column, (rest, c, inl (t, e))))) = subst (NextGives front here) (sym e) (double column rest lt c t refl)
to_next front here end (inl (lt, inr (column, (rest, c, inr (f, e))))) = subst (NextGives front here) (sym e) (column, c, lt, f, refl)
to_next front here end (inr (le, inl h)) = subst (NextGives front here) (sym h.2) (next_column_name h.1.0 h.1.1)
to_next front here end (inr (le, inr (name, (rest, n, e)))) = subst (NextGives front here) (sym e) (too_many name rest le n refl)

no_next_name : (front : List Column) (here : List Lexeme) (found : QueryFault) → (length front < most_columns) ⊎ (most_columns ≤ length front)
    → LacksKind kinds.Name here → IsExpected wants.ColumnName here found → AddedGives front here (fault found)
no_next_name front here found (inl lt) n e = inl (lt, inl (found, no_name n e, refl))
no_next_name front here found (inr le) n e = inr (le, inl (found, (n, e), refl))

from_next : (front : List Column) (here : List Lexeme) (end : Outcome (List Column)) → NextGives front here end → AddedGives front here end
from_next front here (read columns rest) h = inl (h.2, inr (h.0, (rest, h.1, inr (h.3, ap (λ (cs : List Column). read cs rest) h.4))))
from_next front here (fault found) (next_column_name n e) = no_next_name front here found (cases_lt (length front) most_columns) n e
from_next front here (fault found) (too_many name rest le n e) = inr (le, inr (name, (rest, n, ap (λ (x : QueryFault). fault x) e)))
from_next front here (fault found) (next_column_type lt c) = inl (lt, inl (found, c, refl))
from_next front here (fault found) (double column rest lt c t e) = inl (lt, inr (column, (rest, c, inl (t, ap (λ (x : QueryFault). fault x) e))))

pub next_one : (front : List Column) (here : List Lexeme) → IsOne (NextGives front here)
next_one front here =
    one_by (AddedGives front here) (NextGives front here) (λ end h. to_next front here end h) (λ end h. from_next front here end h) (added_one front here)
