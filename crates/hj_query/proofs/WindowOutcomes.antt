-- Reading a window: each list of tokens begins with one, or has a first fault, in one way.
use Rattle.std.proofs.Common.{◌≡◌, ◌⊎◌, inl, inr, ℕ, ◌<◌, ◌≤◌, true, List, ap, refl, sym, subst, arith}
use Rattle.std.specs.Prelude.{codes}
use Rattle.std.proofs.lemmas.Bool.{cases_lt}
use Rattle.hj_base.specs.declared.numbers.Window.{Window}
use Rattle.hj_base.specs.declared.numbers.Window.TheVariants as windows
use Rattle.hj_lex.specs.declared.token.TokenKind.TheVariants as kinds
use Rattle.hj_query.specs.declared.fault.QueryFault.{QueryFault}
use Rattle.hj_query.specs.declared.fault.QueryFault.TheVariants as faults
use Rattle.hj_query.specs.declared.fault.Wanted.TheVariants as wants
use Rattle.hj_query.specs.Faults.{FaultsCount, FaultsSpan, FaultsWindow, IsOutside, in_rows, in_span, in_time, no_count, no_span_word, no_window_side, no_window_word, out_of_range}
use Rattle.hj_query.specs.Grammar.{IsSpan, IsWindow, by_rows, by_time, most_rows, most_time, spanned}
use Rattle.hj_query.specs.Lexemes.{Lexeme, behind, next_is, place, IsNumber, IsWord, LacksWord}
use Rattle.hj_query.proofs.Choices.{Either, one_either, one_is, one_test}
use Rattle.hj_query.proofs.Outcomes.{IsOne, Outcome, Then, fault, one_by, one_then, read}
use Rattle.hj_query.proofs.TokenOutcomes.{NumberGives, WordGives, next_other, number_one, word_one}

-- A number in range.

abbrev CountGives : ℕ → List Lexeme → Outcome ℕ → Type 0
CountGives most here (read count rest) = IsNumber count here rest × (1 ≤ count) × (count ≤ most)
CountGives most here (fault found) = FaultsCount most here found

abbrev RangeGives : ℕ → List Lexeme → ℕ → List Lexeme → Outcome ℕ → Type 0
RangeGives most here count rest =
    Either ((1 ≤ count) × (count ≤ most)) (λ end. end ≡ read count rest) (IsOutside most count) (λ end. end ≡ fault (faults.WindowRange (place here)))

in_or_out : (most count : ℕ) → ((1 ≤ count) × (count ≤ most)) ⊎ IsOutside most count
in_or_out most count = low (cases_lt count 1) (cases_lt most count)
  where
    high : 1 ≤ count → (most < count) ⊎ (count ≤ most) → ((1 ≤ count) × (count ≤ most)) ⊎ IsOutside most count
    high ge (inl gt) = inr (λ _. gt)
    high ge (inr le) = inl (ge, le)

    low : (count < 1) ⊎ (1 ≤ count) → (most < count) ⊎ (count ≤ most) → ((1 ≤ count) × (count ≤ most)) ⊎ IsOutside most count
    low (inl lt) size = inr (λ ge. absurd (omega (arith, lt, ge)))
    low (inr ge) size = high ge size

not_outside : (most count : ℕ) → (1 ≤ count) × (count ≤ most) → IsOutside most count → ⊥
not_outside most count inside out = omega (arith, inside.1, out inside.0)

range_one : (most : ℕ) (here : List Lexeme) (count : ℕ) (rest : List Lexeme) → IsOne (RangeGives most here count rest)
range_one most here count rest =
    one_either ((1 ≤ count) × (count ≤ most)) (λ end. end ≡ read count rest) (IsOutside most count) (λ end. end ≡ fault (faults.WindowRange (place here)))
    (in_or_out most count) (not_outside most count) (λ _. one_is _) (λ _. one_is _)

to_count : (most : ℕ) (here : List Lexeme) (end : Outcome ℕ) → Then (NumberGives wants.Number here) (RangeGives most here) end → CountGives most here end
to_count most here end (inl (found, (l, x), e)) = subst (CountGives most here) (sym e) (no_count l x)
to_count most here end (inr (count, (rest, n, inl (r, e)))) = subst (CountGives most here) (sym e) (n, r.0, r.1)
to_count most here end (inr (count, (rest, n, inr (out, e)))) = subst (CountGives most here) (sym e) (out_of_range count rest n out refl)

from_count : (most : ℕ) (here : List Lexeme) (end : Outcome ℕ) → CountGives most here end → Then (NumberGives wants.Number here) (RangeGives most here) end
from_count most here (read count rest) (n, ge, le) = inr (count, (rest, n, inl ((ge, le), refl)))
from_count most here (fault found) (no_count l x) = inl (found, (l, x), refl)
from_count most here (fault found) (out_of_range count rest n out e) = inr (count, (rest, n, inr (out, ap (λ (x : QueryFault). fault x) e)))

count_one : (most : ℕ) (here : List Lexeme) → IsOne (CountGives most here)
count_one most here =
    one_by (Then (NumberGives wants.Number here) (RangeGives most here)) (CountGives most here) (λ end h. to_count most here end h) (λ end h. from_count most here end h)
    (one_then (NumberGives wants.Number here) (RangeGives most here) (number_one wants.Number here) (λ count rest n. range_one most here count rest))

-- A span.

abbrev SpanGives : List Lexeme → Outcome Window → Type 0
SpanGives here (read window rest) = IsSpan here window rest
SpanGives here (fault found) = FaultsSpan here found

-- a number of rows, or one of time, behind its word
abbrev CountedGives : (ℕ → Window) → ℕ → List Lexeme → Outcome Window → Type 0
CountedGives made most number = Then (CountGives most number) (λ count rest end. end ≡ read (made count) rest)

counted_one : (made : ℕ → Window) (most : ℕ) (number : List Lexeme) → IsOne (CountedGives made most number)
counted_one made most number = one_then (CountGives most number) (λ count rest end. end ≡ read (made count) rest) (count_one most number) (λ count rest c. one_is _)

abbrev TimeGives : List Lexeme → Outcome Window → Type 0
TimeGives here =
    Either (next_is kinds.Name (codes "time") here ≡ true) (CountedGives windows.Time most_time (behind here))
    (LacksWord (codes "time") here) (λ end. end ≡ fault (faults.Expected wants.WindowKind (place here)))

abbrev EitherGives : List Lexeme → Outcome Window → Type 0
EitherGives here =
    Either (next_is kinds.Name (codes "rows") here ≡ true) (CountedGives windows.Rows most_rows (behind here)) (LacksWord (codes "rows") here) (TimeGives here)

either_one : (here : List Lexeme) → IsOne (EitherGives here)
either_one here =
    one_test (next_is kinds.Name (codes "rows") here) (CountedGives windows.Rows most_rows (behind here)) (TimeGives here) (counted_one windows.Rows most_rows (behind here))
    (one_test (next_is kinds.Name (codes "time") here) (CountedGives windows.Time most_time (behind here)) (λ end. end ≡ fault (faults.Expected wants.WindowKind (place here)))
    (counted_one windows.Time most_time (behind here)) (one_is _))

pub word_at : (word : List ℕ) (here : List Lexeme) → next_is kinds.Name word here ≡ true → IsWord word here (behind here)
word_at word here t = record { found = t; left = refl }

to_span : (here : List Lexeme) (end : Outcome Window) → EitherGives here end → SpanGives here end
to_span here end (inl (t, inl (found, f, e))) = subst (SpanGives here) (sym e) (in_rows (behind here) (word_at (codes "rows") here t) f)
to_span here end (inl (t, inr (count, (rest, (n, ge, le), e)))) = subst (SpanGives here) (sym e) (by_rows count (behind here) (word_at (codes "rows") here t) n ge le refl)
to_span here end (inr (no_rows, inl (t, inl (found, f, e)))) = subst (SpanGives here) (sym e) (in_time (behind here) (word_at (codes "time") here t) f)
to_span here end (inr (no_rows, inl (t, inr (count, (rest, (n, ge, le), e))))) = subst (SpanGives here) (sym e) (by_time count (behind here) (word_at (codes "time") here t) n ge le refl)
to_span here end (inr (no_rows, inr (no_time, e))) = subst (SpanGives here) (sym e) (no_span_word no_rows no_time refl)

time_not_rows : (here rest : List Lexeme) → IsWord (codes "time") here rest → LacksWord (codes "rows") here
time_not_rows here rest w = next_other kinds.Name (codes "time") (codes "rows") here rest w refl

counted : (made : ℕ → Window) (most count : ℕ) (number next rest : List Lexeme) (window : Window) → number ≡ next → IsNumber count number rest → 1 ≤ count → count ≤ most → window ≡ made count
    → CountedGives made most next (read window rest)
counted made most count number next rest window e n ge le made_of =
    inr (count, (rest, (subst (λ here. IsNumber count here rest) e n, ge, le), ap (λ (w : Window). read w rest) made_of))

from_span : (here : List Lexeme) (end : Outcome Window) → SpanGives here end → EitherGives here end
from_span here (read window rest) (by_rows count number w n ge le e) = inl (w.found, counted windows.Rows most_rows count number (behind here) rest window w.left n ge le e)
from_span here (read window rest) (by_time count number w n ge le e) =
    inr (time_not_rows here number w, inl (w.found, counted windows.Time most_time count number (behind here) rest window w.left n ge le e))
from_span here (fault found) (no_span_word no_rows no_time x) = inr (no_rows, inr (no_time, ap (λ (f : QueryFault). fault f) x))
from_span here (fault found) (in_rows number w f) = inl (w.found, inl (found, subst (λ next. FaultsCount most_rows next found) w.left f, refl))
from_span here (fault found) (in_time number w f) =
    inr (time_not_rows here number w, inl (w.found, inl (found, subst (λ next. FaultsCount most_time next found) w.left f, refl)))

span_one : (here : List Lexeme) → IsOne (SpanGives here)
span_one here = one_by (EitherGives here) (SpanGives here) (λ end h. to_span here end h) (λ end h. from_span here end h) (either_one here)

-- A window.

abbrev pub WindowGives : List ℕ → List Lexeme → Outcome Window → Type 0
WindowGives word here (read window rest) = IsWindow word here window rest
WindowGives word here (fault found) = FaultsWindow word here found

abbrev OfSideGives : List ℕ → List Lexeme → Outcome Window → Type 0
OfSideGives word side = Then (WordGives word wants.WindowSide side) (λ token span. SpanGives span)

abbrev WordedGives : List ℕ → List Lexeme → Outcome Window → Type 0
WordedGives word here = Then (WordGives (codes "window") wants.WindowWord here) (λ token side. OfSideGives word side)

worded_one : (word : List ℕ) (here : List Lexeme) → IsOne (WordedGives word here)
worded_one word here =
    one_then (WordGives (codes "window") wants.WindowWord here) (λ token side. OfSideGives word side) (word_one (codes "window") wants.WindowWord here) (λ token side w.
    one_then (WordGives word wants.WindowSide side) (λ token span. SpanGives span) (word_one word wants.WindowSide side) (λ token span s. span_one span))

to_spanned : (word : List ℕ) (here side span : List Lexeme) (end : Outcome Window) → IsWord (codes "window") here side → IsWord word side span → SpanGives span end → WindowGives word here end
to_spanned word here side span (read window rest) w s h = spanned side span w s h
to_spanned word here side span (fault found) w s h = in_span side span w s h

to_window : (word : List ℕ) (here : List Lexeme) (end : Outcome Window) → WordedGives word here end → WindowGives word here end
to_window word here end (inl (found, (l, x), e)) = subst (WindowGives word here) (sym e) (no_window_word l x)
to_window word here end (inr (token, (side, w, inl (found, (l, x), e)))) = subst (WindowGives word here) (sym e) (no_window_side side w l x)
to_window word here end (inr (token, (side, w, inr (other, (span, s, h))))) = to_spanned word here side span end w s h

from_window : (word : List ℕ) (here : List Lexeme) (end : Outcome Window) → WindowGives word here end → WordedGives word here end
from_window word here (read window rest) (spanned side span w s h) = inr (tt, (side, w, inr (tt, (span, s, h))))
from_window word here (fault found) (no_window_word l x) = inl (found, (l, x), refl)
from_window word here (fault found) (no_window_side side w l x) = inr (tt, (side, w, inl (found, (l, x), refl)))
from_window word here (fault found) (in_span side span w s h) = inr (tt, (side, w, inr (tt, (span, s, h))))

pub window_one : (word : List ℕ) (here : List Lexeme) → IsOne (WindowGives word here)
window_one word here =
    one_by (WordedGives word here) (WindowGives word here) (λ end h. to_window word here end h) (λ end h. from_window word here end h) (worded_one word here)
