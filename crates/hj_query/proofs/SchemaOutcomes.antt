-- Reading a schema: each list of tokens begins with one, or has a first fault, in one way.
use Rattle.std.proofs.Common.{◌≡◌, ◌⊎◌, inl, inr, ℕ, ◌<◌, Bool, true, false, List, [], ◌∷◌, length, IsTrue, ap, refl, sym, subst, arith}
use Rattle.std.specs.Prelude.{codes}
use Rattle.hj_value.specs.declared.column.Column.{Column}
use Rattle.hj_value.specs.Schema.{starts_with_time}
use Rattle.hj_lex.specs.declared.token.TokenKind.TheVariants as kinds
use Rattle.hj_query.specs.declared.fault.QueryFault.{QueryFault}
use Rattle.hj_query.specs.declared.fault.QueryFault.TheVariants as faults
use Rattle.hj_query.specs.declared.fault.Wanted.{Wanted}
use Rattle.hj_query.specs.declared.fault.Wanted.TheVariants as wants
use Rattle.hj_query.specs.Faults.{FaultsColumn, FaultsColumns, FaultsSchema, first_column, in_columns, next_column, no_paren, no_side_word, unclosed_columns, untimed}
use Rattle.hj_query.specs.Grammar.{IsColumn, IsColumns, IsSchema, enclosed, further, kind_word, lone, named}
use Rattle.hj_query.specs.Lexemes.{Lexeme, behind, next_is, place, IsSign, IsWord}
use Rattle.hj_query.proofs.Chains.{ChainGives, IsChain, chain_one}
use Rattle.hj_query.proofs.Chains.{further as more_parts, lone as first_part}
use Rattle.hj_query.proofs.Choices.{Either, one_is, one_test}
use Rattle.hj_query.proofs.ColumnOutcomes.{ColumnGives, NextGives, column_one, next_one}
use Rattle.hj_query.proofs.Lists.{next_shorter}
use Rattle.hj_query.proofs.Outcomes.{IsOne, Outcome, Then, fault, one_by, one_then, read}
use Rattle.hj_query.proofs.TokenOutcomes.{SignGives, WordGives, next_other, sign_one, word_one}

-- The first column.

abbrev FirstGives : List Lexeme → Outcome (List Column) → Type 0
FirstGives here (read columns rest) = (column : Column) × IsColumn here column rest × IsTrue (starts_with_time (column ∷ [])) × (columns ≡ column ∷ [])
FirstGives here (fault found) =
    FaultsColumn here found
    ⊎ ((column : Column) × ((rest : List Lexeme) × IsColumn here column rest × (starts_with_time (column ∷ []) ≡ false) × (found ≡ faults.FirstColumn (place here))))

abbrev TimedGives : List Lexeme → Column → List Lexeme → Outcome (List Column) → Type 0
TimedGives here column rest =
    Either (starts_with_time (column ∷ []) ≡ true) (λ end. end ≡ read (column ∷ []) rest)
    (starts_with_time (column ∷ []) ≡ false) (λ end. end ≡ fault (faults.FirstColumn (place here)))

timed_one : (here : List Lexeme) → IsOne (Then (ColumnGives here) (TimedGives here))
timed_one here =
    one_then (ColumnGives here) (TimedGives here) (column_one here) (λ column rest c.
    one_test (starts_with_time (column ∷ [])) (λ end. end ≡ read (column ∷ []) rest) (λ end. end ≡ fault (faults.FirstColumn (place here))) (one_is _) (one_is _))

to_first : (here : List Lexeme) (end : Outcome (List Column)) → Then (ColumnGives here) (TimedGives here) end → FirstGives here end
to_first here end (inl h) = subst (FirstGives here) (sym h.2) (inl h.1)
to_first here end (inr (column, (rest, c, inl (t, e)))) = subst (FirstGives here) (sym e) (column, c, t, refl)
to_first here end (inr (column, (rest, c, inr (f, e)))) = subst (FirstGives here) (sym e) (inr (column, (rest, c, f, refl)))

from_first : (here : List Lexeme) (end : Outcome (List Column)) → FirstGives here end → Then (ColumnGives here) (TimedGives here) end
from_first here (read columns rest) (column, c, t, e) = inr (column, (rest, c, inl (t, ap (λ (cs : List Column). read cs rest) e)))
from_first here (fault found) (inl c) = inl (found, c, refl)
from_first here (fault found) (inr (column, (rest, c, f, e))) = inr (column, (rest, c, inr (f, ap (λ (x : QueryFault). fault x) e)))

first_one : (here : List Lexeme) → IsOne (FirstGives here)
first_one here = one_by (Then (ColumnGives here) (TimedGives here)) (FirstGives here) (λ end h. to_first here end h) (λ end h. from_first here end h) (timed_one here)

-- Further ones.

abbrev is_comma : List Lexeme → Bool
is_comma here = next_is kinds.Sign (codes ",") here

abbrev CommaGives : List Column → List Lexeme → Outcome (List Column) → Type 0
CommaGives front comma end = (next : List Lexeme) × IsSign (codes ",") comma next × NextGives front next end

comma_one : (front : List Column) (comma : List Lexeme) → Unit {0} → is_comma comma ≡ true → IsOne (CommaGives front comma)
comma_one front comma known t =
    one_by (NextGives front (behind comma)) (CommaGives front comma)
    (λ end h. (behind comma, record { found = t; left = refl }, h))
    (λ end h. subst (λ next. NextGives front next end) h.1.left h.2)
    (next_one front (behind comma))

column_shorter : (here rest : List Lexeme) (column : Column) → IsColumn here column rest → length rest < length here
column_shorter here rest column (named typed n k) = omega (arith, next_shorter kinds.Name column.name here typed n, next_shorter kinds.Name (kind_word column.kind) typed rest k)

comma_shorter : (front : List Column) (comma : List Lexeme) (columns : List Column) (rest : List Lexeme) → CommaGives front comma (read columns rest) → length rest < length comma
comma_shorter front comma columns rest (next, s, c) = omega (arith, next_shorter kinds.Sign (codes ",") comma next s, column_shorter next rest c.0 c.1)

abbrev ListGives : List Lexeme → Outcome (List Column) → Type 0
ListGives here = ChainGives (FirstGives here) is_comma CommaGives

list_one : (here : List Lexeme) → IsOne (ListGives here)
list_one here = chain_one is_comma CommaGives (λ _. Unit {0}) comma_one comma_shorter (λ _ _ _ _ _ _. tt) (FirstGives here) (first_one here) (λ _ _ _. tt)

to_columns : (here : List Lexeme) (columns : List Column) (rest : List Lexeme) → IsChain (FirstGives here) is_comma CommaGives columns rest → IsColumns here columns rest
to_columns here columns rest (first_part cs r (column, c, t, e)) = lone column columns rest c t e
to_columns here columns rest (more_parts front comma cs r chain t (next, s, c)) =
    further front c.0 comma next columns rest (to_columns here front comma chain) s c.1 c.2 c.3 c.4

from_columns : (here : List Lexeme) (columns : List Column) (rest : List Lexeme) → IsColumns here columns rest → IsChain (FirstGives here) is_comma CommaGives columns rest
from_columns here columns rest (lone column cs r c t e) = first_part columns rest (column, c, t, e)
from_columns here columns rest (further front column comma next cs r chain s c lt new e) =
    more_parts front comma columns rest (from_columns here front comma chain) s.found (next, s, (column, c, lt, new, e))

-- Columns up to `)`.

abbrev EnclosedGives : List Lexeme → Outcome (List Column) → Type 0
EnclosedGives first (read columns rest) = (close : List Lexeme) × IsColumns first columns close × IsSign (codes ")") close rest
EnclosedGives first (fault found) = FaultsColumns first found

abbrev CloseGives : List Column → List Lexeme → Outcome (List Column) → Type 0
CloseGives columns close = Then (SignGives (codes ")") wants.CommaOrClose close) (λ sign rest end. end ≡ read columns rest)

close_one : (columns : List Column) (close : List Lexeme) → IsOne (CloseGives columns close)
close_one columns close =
    one_then (SignGives (codes ")") wants.CommaOrClose close) (λ sign rest end. end ≡ read columns rest) (sign_one (codes ")") wants.CommaOrClose close) (λ sign rest s. one_is _)

to_enclosed : (first : List Lexeme) (end : Outcome (List Column)) → Then (ListGives first) CloseGives end → EnclosedGives first end
to_enclosed first end (inl (found, inl (inl c), e)) = subst (EnclosedGives first) (sym e) (first_column c)
to_enclosed first end (inl (found, inl (inr (column, (rest, c, f, x))), e)) = subst (EnclosedGives first) (sym e) (untimed column rest c f x)
to_enclosed first end (inl (found, inr (front, (comma, chain, t, (next, s, n))), e)) =
    subst (EnclosedGives first) (sym e) (next_column front comma next (to_columns first front comma chain) s n)
to_enclosed first end (inr (columns, (close, (chain, f), inl (found, (l, x), e)))) =
    subst (EnclosedGives first) (sym e) (unclosed_columns columns close (to_columns first columns close chain) f l x)
to_enclosed first end (inr (columns, (close, (chain, f), inr (sign, (rest, s, e))))) =
    subst (EnclosedGives first) (sym e) (close, to_columns first columns close chain, s)

from_enclosed : (first : List Lexeme) (end : Outcome (List Column)) → EnclosedGives first end → Then (ListGives first) CloseGives end
from_enclosed first (read columns rest) (close, cs, s) =
    inr (columns, (close, (from_columns first columns close cs, next_other kinds.Sign (codes ")") (codes ",") close rest s refl), inr (tt, (rest, s, refl))))
from_enclosed first (fault found) (first_column c) = inl (found, inl (inl c), refl)
from_enclosed first (fault found) (untimed column rest c f x) = inl (found, inl (inr (column, (rest, c, f, x))), refl)
from_enclosed first (fault found) (next_column front comma next cs s n) =
    inl (found, inr (front, (comma, from_columns first front comma cs, s.found, (next, s, n))), refl)
from_enclosed first (fault found) (unclosed_columns columns close cs f l x) =
    inr (columns, (close, (from_columns first columns close cs, f), inl (found, (l, x), refl)))

enclosed_one : (first : List Lexeme) → IsOne (EnclosedGives first)
enclosed_one first =
    one_by (Then (ListGives first) CloseGives) (EnclosedGives first) (λ end h. to_enclosed first end h) (λ end h. from_enclosed first end h)
    (one_then (ListGives first) CloseGives (list_one first) (λ columns close c. close_one columns close))

-- A schema.

abbrev pub SchemaGives : List ℕ → Wanted → List Lexeme → Outcome (List Column) → Type 0
SchemaGives word wanted here (read columns rest) = IsSchema word here columns rest
SchemaGives word wanted here (fault found) = FaultsSchema word wanted here found

abbrev ParenGives : List Lexeme → Outcome (List Column) → Type 0
ParenGives paren = Then (SignGives (codes "(") wants.OpenParen paren) (λ sign first. EnclosedGives first)

abbrev SideGives : List ℕ → Wanted → List Lexeme → Outcome (List Column) → Type 0
SideGives word wanted here = Then (WordGives word wanted here) (λ side paren. ParenGives paren)

side_one : (word : List ℕ) (wanted : Wanted) (here : List Lexeme) → IsOne (SideGives word wanted here)
side_one word wanted here =
    one_then (WordGives word wanted here) (λ side paren. ParenGives paren) (word_one word wanted here) (λ side paren w.
    one_then (SignGives (codes "(") wants.OpenParen paren) (λ sign first. EnclosedGives first) (sign_one (codes "(") wants.OpenParen paren) (λ sign first s. enclosed_one first))

to_inside : (word : List ℕ) (wanted : Wanted) (here paren first : List Lexeme) (end : Outcome (List Column)) → IsWord word here paren → IsSign (codes "(") paren first
    → EnclosedGives first end → SchemaGives word wanted here end
to_inside word wanted here paren first (read columns rest) w s (close, cs, z) = enclosed paren first close w s cs z
to_inside word wanted here paren first (fault found) w s f = in_columns paren first w s f

to_schema : (word : List ℕ) (wanted : Wanted) (here : List Lexeme) (end : Outcome (List Column)) → SideGives word wanted here end → SchemaGives word wanted here end
to_schema word wanted here end (inl (found, (l, x), e)) = subst (SchemaGives word wanted here) (sym e) (no_side_word l x)
to_schema word wanted here end (inr (side, (paren, w, inl (found, (l, x), e)))) = subst (SchemaGives word wanted here) (sym e) (no_paren paren w l x)
to_schema word wanted here end (inr (side, (paren, w, inr (sign, (first, s, h))))) = to_inside word wanted here paren first end w s h

from_schema : (word : List ℕ) (wanted : Wanted) (here : List Lexeme) (end : Outcome (List Column)) → SchemaGives word wanted here end → SideGives word wanted here end
from_schema word wanted here (read columns rest) (enclosed paren first close w s cs z) = inr (tt, (paren, w, inr (tt, (first, s, (close, cs, z)))))
from_schema word wanted here (fault found) (no_side_word l x) = inl (found, (l, x), refl)
from_schema word wanted here (fault found) (no_paren paren w l x) = inr (tt, (paren, w, inl (found, (l, x), refl)))
from_schema word wanted here (fault found) (in_columns paren first w s f) = inr (tt, (paren, w, inr (tt, (first, s, f))))

pub schema_one : (word : List ℕ) (wanted : Wanted) (here : List Lexeme) → IsOne (SchemaGives word wanted here)
schema_one word wanted here =
    one_by (SideGives word wanted here) (SchemaGives word wanted here) (λ end h. to_schema word wanted here end h) (λ end h. from_schema word wanted here end h) (side_one word wanted here)
