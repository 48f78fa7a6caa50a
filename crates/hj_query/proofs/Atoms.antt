-- The canonical text of comparisons and distances is read as them.
use Rattle.std.proofs.Common.{◌≡◌, ℕ, ◌<◌, true, false, ◌&&◌, bytes_eq, List, [], ◌∷◌, ◌++◌, IsTrue, codes, refl, sym, ap, subst, ◌∙◌, arith}
use Rattle.std.proofs.lemmas.Bool.{and_parts}
use Rattle.std.proofs.lemmas.Slice.Eq.{bytes_eq-Decides}
use Rattle.std.specs.Fmt.{decimal}
use Rattle.hj_base.specs.declared.numbers.Side.{Side}
use Rattle.hj_value.specs.declared.column.Column.{Column}
use Rattle.hj_lex.specs.declared.token.TokenKind.{TokenKind}
use Rattle.hj_lex.specs.declared.token.TokenKind.TheVariants as kinds
use Rattle.hj_lex.specs.Tokens.{begins, is_name, number_end}
use Rattle.hj_query.specs.Canonical.{is_and, is_or, pred_text, sum_text}
use Rattle.hj_query.specs.declared.pred.Op.{Op}
use Rattle.hj_query.specs.declared.pred.Op.TheVariants as ops
use Rattle.hj_query.specs.declared.pred.Pred.{Pred, Compare, Within}
use Rattle.hj_query.specs.declared.sum.Sum.{Sum}
use Rattle.hj_query.specs.Grammar.{AreSuited, EndsSum, IsAtom, can_compare, can_subtract, compared, distant, op_sign}
use Rattle.hj_query.specs.Lexemes.{Lexeme, IsNextToken, IsSign, IsWord, is_same_kind, next_is}
use Rattle.hj_query.proofs.Lists.{same_kind}
use Rattle.hj_query.proofs.Pieces.{Anything, EndsToken, Spaced, Spelled, blank_before, blank_behind, is_break, spaced_spelled, spelled_as, spelled_then, word_spelled}
use Rattle.hj_query.proofs.Suited.{SuitedNext, next_suited}
use Rattle.hj_query.proofs.Terms.{SpelledSum, SuitedNumber, SumTold, number_spelled, number_suited, sum_told}

-- The next token is no other.
other_next : (kind other : TokenKind) (word bytes : List ℕ) (here rest : List Lexeme) → IsNextToken kind word here rest → (is_same_kind kind other && bytes_eq word bytes) ≡ false → next_is other bytes here ≡ false
unfolding next_is
other_next kind other word bytes [] rest n e = refl
other_next kind other word bytes (first ∷ others) rest n e =
    let p : (is_same_kind first.kind kind ≡ true) × (bytes_eq first.bytes word ≡ true) = and_parts _ _ n.found in
    let same : first.bytes ≡ word = (bytes_eq-Decides first.bytes word).0 p.1 in
    ap (λ (k : TokenKind). is_same_kind k other && bytes_eq first.bytes bytes) (same_kind first.kind kind p.0) ∙ ap (λ text. is_same_kind kind other && bytes_eq text bytes) same ∙ e

pub word_ends : (word : List ℕ) (here rest : List Lexeme) → IsWord word here rest → EndsSum here
word_ends word here rest n = record {
  no_plus = other_next kinds.Name kinds.Sign word (codes "+") here rest n refl;
  no_minus = other_next kinds.Name kinds.Sign word (codes "-") here rest n refl;
}

pub close_ends : (here rest : List Lexeme) → IsSign (codes ")") here rest → EndsSum here
close_ends here rest n = record {
  no_plus = other_next kinds.Sign kinds.Sign (codes ")") (codes "+") here rest n refl;
  no_minus = other_next kinds.Sign kinds.Sign (codes ")") (codes "-") here rest n refl;
}

-- Behind a condition a token ends, and a sum.
pub record EndsAtom (more : List ℕ) (rest : List Lexeme) : Type 0 where
  pub breaks : begins is_break more ≡ true
  pub ends : EndsSum rest

op_spelled : (op : Op) → Spelled Spaced (IsSign (op_sign op)) (op_sign op)
op_spelled ops.Eq = spaced_spelled (codes "=") (omega arith) refl refl
op_spelled ops.Ne = spaced_spelled (codes "!=") (omega arith) refl refl
op_spelled ops.Lt = spaced_spelled (codes "<") (omega arith) refl refl
op_spelled ops.Le = spaced_spelled (codes "<=") (omega arith) refl refl
op_spelled ops.Gt = spaced_spelled (codes ">") (omega arith) refl refl
op_spelled ops.Ge = spaced_spelled (codes ">=") (omega arith) refl refl

abbrev pub SpelledAtom : (Side → List Column) → Pred → Type 0
SpelledAtom columns pred = Spelled EndsAtom (λ here rest. IsAtom columns here pred rest) (pred_text columns pred)

compare_spelled : (columns : Side → List Column) (op : Op) (left right : Sum) → IsTrue (can_compare columns left right) → SpelledSum columns left → SpelledSum columns right
    → SpelledAtom columns (Compare op left right)
compare_spelled columns op left right can first second =
    let spaced = blank_behind {Behind = EndsToken} {More = Anything} 32 (sum_text columns left) refl (λ more rest b. refl) first in
    let signed = spelled_then {Behind = Anything} _ (op_sign op) spaced (op_spelled op) (λ more rest mid b s. tt) in
    let front = blank_behind {Behind = Spaced} {More = Anything} 32 _ refl (λ more rest b. refl) signed in
    let whole = spelled_then {Behind = Anything} _ (sum_text columns right) front second (λ more rest mid b s. tt) in
    spelled_as {Behind = EndsToken} (pred_text columns (Compare op left right)) (λ more rest h. h.breaks) (λ more here rest h s. compared op left right s.1.0 s.0 s.1.1 s.1.2 s.2 h.ends can refl) whole

-- a word between two blanks
pub between : (word : List ℕ) → is_name word ≡ true → Spelled Anything (IsWord word) (32 ∷ (word ++ 32 ∷ []))
between word h = blank_before 32 (word ++ 32 ∷ []) refl (word_spelled word h)

within_spelled : (columns : Side → List Column) (distance : ℕ) (left right : Sum) → distance < number_end → IsTrue (can_subtract columns left right) → SpelledSum columns left → SpelledSum columns right
    → SpelledAtom columns (Within distance left right)
within_spelled columns distance left right small can first second =
    let worded = spelled_then {Behind = EndsToken} (sum_text columns left) _ first (between (codes "within") refl) (λ more rest mid b s. refl) in
    let numbered = spelled_then {Behind = Anything} _ (decimal distance) worded (number_spelled distance small) (λ more rest mid b s. tt) in
    let front = spelled_then {Behind = EndsToken} _ _ numbered (between (codes "of") refl) (λ more rest mid b s. refl) in
    let whole = spelled_then {Behind = Anything} _ (sum_text columns right) front second (λ more rest mid b s. tt) in
    spelled_as {Behind = EndsToken} (pred_text columns (Within distance left right)) (λ more rest h. h.breaks) (λ more here rest h s. distant distance left right s.1.1.1.0 s.1.1.0 s.1.0 s.0 s.1.1.1.1 s.1.1.1.2 s.1.1.2 s.1.2 s.2 h.ends can refl) whole

-- what is known of a comparison or a distance
pub record AtomTold (columns : Side → List Column) (pred : Pred) (rest : List Lexeme) : Type 0 where
  pub spelled : SpelledAtom columns pred
  pub no_or : is_or pred ≡ false
  pub no_and : is_and pred ≡ false
  pub others : AreSuited rest

pub atom_told : (columns : Side → List Column) (here : List Lexeme) (pred : Pred) (rest : List Lexeme) → AreSuited here → IsAtom columns here pred rest → AtomTold columns pred rest
atom_told columns here pred rest s (compared op left right sign next is_left is_op is_right ends can e) =
    let first : SumTold columns left sign = sum_told columns here s left sign is_left in
    let behind_op : SuitedNext kinds.Sign (op_sign op) next = next_suited kinds.Sign (op_sign op) sign next first.others is_op in
    let second : SumTold columns right rest = sum_told columns next behind_op.others right rest is_right in
    subst (λ (p : Pred). AtomTold columns p rest) (sym e)
    (record { spelled = compare_spelled columns op left right can first.spelled second.spelled; no_or = refl; no_and = refl; others = second.others })
atom_told columns here pred rest s (distant distance left right word number of next is_left is_within n is_of is_right ends can e) =
    let first : SumTold columns left word = sum_told columns here s left word is_left in
    let behind_within : SuitedNext kinds.Name (codes "within") number = next_suited kinds.Name (codes "within") word number first.others is_within in
    let behind_number : SuitedNumber distance of = number_suited distance number of behind_within.others n in
    let behind_of : SuitedNext kinds.Name (codes "of") next = next_suited kinds.Name (codes "of") of next behind_number.others is_of in
    let second : SumTold columns right rest = sum_told columns next behind_of.others right rest is_right in
    subst (λ (p : Pred). AtomTold columns p rest) (sym e)
    (record { spelled = within_spelled columns distance left right behind_number.small can first.spelled second.spelled; no_or = refl; no_and = refl; others = second.others })
