-- Each text is tokens, or has a first fault, in one way.
use Rattle.std.proofs.Common.{◌≡◌, ℕ, suc, zero, get_or, not, ◌||◌, ◌+◌, ◌≤◌, ◌-◌, Bool, true, false, List, [], ◌∷◌, ◌++◌, length, drop, refl, sym, ap, ◌∙◌, subst, arith, Ok, Err, Result, MatchResult, Option, None, Some, ◌⊎◌, inl, inr, All, IfOk}
use Rattle.std.proofs.lemmas.List.{length-drop, length-take, drop_all, drop_more}
use Rattle.std.proofs.lemmas.List.Elements.{All-cons, All-nil}
use Rattle.std.proofs.lemmas.List.Folds.{drop_split}
use Rattle.std.proofs.lemmas.Bool.{and_parts, cases_lt, false≢true}
use Rattle.std.proofs.lemmas.Bool.Decides.{nat_tests}
use Rattle.std.specs.Char.{is_ascii_alphabetic, is_ascii_alphanumeric, is_ascii_digit}
use Rattle.std.specs.List.{prefix_len, slice_range}
use Rattle.hj_lex.proofs.Computed.{Front, front, front-fault, front-token, front_gives, long_digit}
use Rattle.hj_lex.proofs.Cutting.{blank_nothing}
use Rattle.hj_lex.proofs.Fronts.{token_from}
use Rattle.hj_lex.proofs.Runs.{begins-after_run_at, blank_between, run_is}
use Rattle.hj_lex.proofs.Signs.{sign_first}
use Rattle.hj_lex.specs.Fronts.{BeginsToken}
use Rattle.hj_lex.specs.Tokens.{AreInOrder, AreTokens, CutsTokens, Explains, HasFault, HasOneReading, HasReading, IsBlankBetween, IsBadByte, IsFirstFault, IsToken, IsTokenOf, begins, begins_nothing, behind_number, bytes_of, inside_text, is_blank, is_quote}
use Rattle.hj_lex.specs.declared.fault.LexFault.{LexFault}
use Rattle.hj_lex.specs.declared.fault.LexFault.TheVariants as fault
use Rattle.hj_lex.specs.declared.token.Token.{Token}
use Rattle.hj_lex.specs.declared.token.TokenKind.{TokenKind}
use Rattle.hj_lex.specs.declared.token.TokenKind.TheVariants as kind

-- the place behind the blanks that stand from a place on
abbrev stop : List ℕ → ℕ → ℕ
stop text at = at + prefix_len is_blank (drop at text)

-- what stands there, computed
abbrev next : List ℕ → ℕ → Front
next text at = front (stop text at) (drop (stop text at) text)

stop_is : (text : List ℕ) (at from : ℕ) → IsBlankBetween text at from → begins is_blank (drop from text) ≡ false → stop text at ≡ from
stop_is text at from b h =
    let split : drop at text ≡ slice_range text at from ++ drop from text = drop_split text at from b.0 in
    let run : prefix_len is_blank (drop at text) ≡ length (slice_range text at from) = ap (prefix_len is_blank) split ∙ run_is is_blank (slice_range text at from) (drop from text) b.2 h in
    omega (arith, run, b.0, b.1, length-take (from - at) (drop at text), length-drop at text)

pub in_order : (text : List ℕ) (at : ℕ) (tokens : List Token) → at ≤ length text → CutsTokens text at tokens None → AreInOrder at (length text) tokens
in_order text at [] l h = l
in_order text at (token ∷ tokens) l h = (h.0.0, h.1.0, in_order text token.to tokens h.1.1 h.2)

-- no blank begins a token or a fault

letter_black : (x : ℕ) → is_ascii_alphabetic x ≡ true → is_blank x ≡ false
letter_black x h = grind (arith, nat_tests)

digit_black : (x : ℕ) → is_ascii_digit x ≡ true → is_blank x ≡ false
digit_black x h = grind (arith, nat_tests)

digits_black : (bytes : List ℕ) → begins is_ascii_digit bytes ≡ true → begins is_blank bytes ≡ false
digits_black [] h = refl
digits_black (x ∷ xs) h = digit_black x h

token_black : (k : TokenKind) (bytes rest : List ℕ) → IsToken k bytes rest → begins is_blank (bytes ++ rest) ≡ false
token_black kind.Name [] rest t = absurd (false≢true t.0)
token_black kind.Name (x ∷ xs) rest t = letter_black x (and_parts _ _ t.0).0
token_black kind.Number [] rest t = absurd (false≢true t.0.0)
token_black kind.Number (x ∷ xs) rest t = digit_black x (and_parts _ _ t.0.0).0
token_black kind.Text bytes rest t = ap (λ all. begins is_blank (all ++ rest)) t.0.1
token_black kind.Sign [] rest t = absurd (sign_first [] t.0)
token_black kind.Sign (x ∷ xs) rest t = (sign_first (x ∷ xs) t.0).1

nothing_black : (blank word quotes : Bool) → not ((blank || word) || quotes) ≡ true → blank ≡ false
nothing_black true word quotes h = cc
nothing_black false word quotes h = refl

bad_black : (bytes : List ℕ) (offset : ℕ) → IsBadByte bytes offset → begins is_blank bytes ≡ false
bad_black [] offset (begins_nothing n e) = refl
bad_black (x ∷ xs) offset (begins_nothing n e) = nothing_black (is_blank x) (is_ascii_alphanumeric x) (is_quote x) n.0
bad_black bytes offset (behind_number n e) = digits_black bytes n.0
bad_black bytes offset (inside_text inside n e) = ap (begins is_blank) n.3

fault_black : (at : ℕ) (bytes : List ℕ) (found : LexFault) → HasFault at bytes found → begins is_blank bytes ≡ false
fault_black at bytes (fault.BadByte place) h = bad_black bytes h.0 h.1
fault_black at bytes (fault.OpenText place) h = ap (begins is_blank) h.0.1
fault_black at bytes (fault.NumberRange place) h = digits_black bytes (long_digit bytes h.0)
fault_black at bytes fault.Memory h = absurd h

-- what comes next is what is computed

token_next : (text : List ℕ) (at : ℕ) (token : Token) → IsBlankBetween text at token.from → IsTokenOf text token → (stop text at ≡ token.from) × (next text at ≡ Ok (token.kind, token.to - token.from))
token_next text at token b t =
    let bytes = bytes_of text token in
    let rest = drop token.to text in
    let within : token.from ≤ token.to = omega (arith, t.0) in
    let split : drop token.from text ≡ bytes ++ rest = drop_split text token.from token.to within in
    let place : stop text at ≡ token.from = stop_is text at token.from b (ap (begins is_blank) split ∙ token_black token.kind bytes rest t.2) in
    let size : length bytes ≡ token.to - token.from = omega (arith, t.1, length-take (token.to - token.from) (drop token.from text), length-drop token.from text) in
    (place, ap (λ s. front s (drop s text)) place ∙ ap (front token.from) split ∙ front-token token.from token.kind bytes rest t.2 ∙ ap (λ n. Ok (token.kind, n)) size)

fault_next : (text : List ℕ) (at from : ℕ) (found : LexFault) → IsBlankBetween text at from → HasFault from (drop from text) found → next text at ≡ Err found
fault_next text at from found b h =
    ap (λ s. front s (drop s text)) (stop_is text at from b (fault_black from (drop from text) found h)) ∙ front-fault from (drop from text) found h

end_next : (text : List ℕ) (at : ℕ) → IsBlankBetween text at (length text) → next text at ≡ Err fault.Memory
end_next text at b =
    let none : drop (length text) text ≡ [] = drop_all (length text) text (omega arith) in
    ap (λ s. front s (drop s text)) (stop_is text at (length text) b (ap (begins is_blank) none)) ∙ ap (front (length text)) none

no_memory : (at : ℕ) (bytes : List ℕ) (found : LexFault) → found ≡ fault.Memory → HasFault at bytes found → ⊥
no_memory at bytes found e h = subst (λ (f : LexFault). HasFault at bytes f) e h

same_token : (token other : Token) → other.from ≡ token.from → other.to ≡ token.to → other.kind ≡ token.kind → other ≡ token
same_token token other f t k =
    ap (λ from. record { from = from; to = other.to; kind = other.kind }) f
    ∙ ap (λ to. record { from = token.from; to = to; kind = other.kind }) t
    ∙ ap (λ (kind : TokenKind). record { from = token.from; to = token.to; kind = kind }) k

-- two tokens that begin the same bytes
same_front : (a b : TokenKind × ℕ) → (let x : Front = Ok a in x ≡ Ok b) → a ≡ b
same_front a b e = cc

pub same_cuts : (text : List ℕ) (at : ℕ) (tokens others : List Token) (end other : Option LexFault) → CutsTokens text at tokens end → CutsTokens text at others other → (others ≡ tokens) × (other ≡ end)
same_cuts text at [] [] None None a b = (refl, refl)
same_cuts text at [] [] None (Some g) a b = absurd (no_memory b.0 (drop b.0 text) g (let e = end_next text at a in let f = fault_next text at b.0 g b.1 b.2 in cc) b.2)
same_cuts text at [] [] (Some g) None a b = absurd (no_memory a.0 (drop a.0 text) g (let e = end_next text at b in let f = fault_next text at a.0 g a.1 a.2 in cc) a.2)
same_cuts text at [] [] (Some g) (Some h) a b =
    (refl, let e = fault_next text at a.0 g a.1 a.2 in let f = fault_next text at b.0 h b.1 b.2 in cc)
same_cuts text at [] (token ∷ tokens) None other a b = let e = end_next text at a in let f = (token_next text at token b.0 b.1).1 in cc
same_cuts text at [] (token ∷ tokens) (Some g) other a b = let e = fault_next text at a.0 g a.1 a.2 in let f = (token_next text at token b.0 b.1).1 in cc
same_cuts text at (token ∷ tokens) [] end None a b = let e = end_next text at b in let f = (token_next text at token a.0 a.1).1 in cc
same_cuts text at (token ∷ tokens) [] end (Some g) a b = let e = fault_next text at b.0 g b.1 b.2 in let f = (token_next text at token a.0 a.1).1 in cc
same_cuts text at (token ∷ tokens) (this ∷ others) end other a b =
    let e = token_next text at token a.0 a.1 in
    let f = token_next text at this b.0 b.1 in
    let p = same_front (this.kind, this.to - this.from) (token.kind, token.to - token.from) (sym f.1 ∙ e.1) in
    let from : this.from ≡ token.from = sym f.0 ∙ e.0 in
    let size : this.to - this.from ≡ token.to - token.from = ap (λ (f : TokenKind × ℕ). f.1) p in
    let kinds : this.kind ≡ token.kind = ap (λ (f : TokenKind × ℕ). f.0) p in
    let to : this.to ≡ token.to = omega (arith, from, size, a.1.0, b.1.0) in
    let tail = same_cuts text token.to tokens others end other a.2 (subst (λ n. CutsTokens text n others other) to b.2) in
    (ap (λ (t : Token). t ∷ others) (same_token token this from to kinds) ∙ ap (λ (ts : List Token). token ∷ ts) tail.0, tail.1)

-- and something comes next, up to the end

abbrev Reads : List ℕ → ℕ → Type 0
Reads text at = (tokens : List Token) × ((end : Option LexFault) × CutsTokens text at tokens end)

goes_on : (text : List ℕ) (at fuel from : ℕ) (found : Front) → ((to : ℕ) → to ≤ length text → length text ≤ to + fuel → Reads text to) → IsBlankBetween text at from → length text ≤ at + suc fuel → MatchResult found (λ p. BeginsToken p.0 (drop from text) p.1) (HasFault from (drop from text)) → Reads text at
goes_on text at fuel from (Err f) more b l h = ([], (Some f, (from, b, h)))
goes_on text at fuel from (Ok p) more b l h =
    let token : Token = record { from = from; to = from + p.1; kind = p.0 } in
    let within : from + p.1 ≤ length text = omega (arith, h.within, length-drop from text, b.1) in
    let tail = more (from + p.1) within (omega (arith, h.some, b.0)) in
    (token ∷ tail.0, (tail.1.0, (b, token_from text token p.1 refl h, tail.1.1)))

reads_on : (text : List ℕ) (at fuel : ℕ) → ((to : ℕ) → to ≤ length text → length text ≤ to + fuel → Reads text to) → at ≤ length text → length text ≤ at + suc fuel → Reads text at
reads_on text at fuel more l f =
    let count = prefix_len is_blank (drop at text) in
    let from = at + count in
    let b : IsBlankBetween text at from = blank_between text at count l refl in
    let black : begins is_blank (drop from text) ≡ false = begins-after_run_at is_blank text at count refl in
    elim (cases_lt from (length text)) [
      | inl inside ↦
          let d : drop from text ≡ get_or text from 0 ∷ drop (from + 1) text = drop_more text from 0 inside in
          let x_black : is_blank (get_or text from 0) ≡ false = sym (ap (begins is_blank) d) ∙ black in
          goes_on text at fuel from (front from (get_or text from 0 ∷ drop (from + 1) text)) more b f (subst (λ bytes. MatchResult (front from (get_or text from 0 ∷ drop (from + 1) text)) (λ p. BeginsToken p.0 bytes p.1) (HasFault from bytes)) (sym d) (front_gives from (get_or text from 0) (drop (from + 1) text) x_black))
      | inr outside ↦
          let e : from ≡ length text = omega (arith, b.1, outside) in
          ([], (None, subst (λ to. IsBlankBetween text at to) e b))
    ]

reads : (fuel : ℕ) (text : List ℕ) (at : ℕ) → at ≤ length text → length text ≤ at + fuel → Reads text at
reads zero text at l f =
    let e : length text ≡ at = omega (arith, l, f) in
    ([], (None, subst (λ to. IsBlankBetween text at to) (sym e) (blank_nothing text at l)))
reads (suc fuel) text at l f = reads_on text at fuel (reads fuel text) l f

chosen : (text : List ℕ) (tokens : List Token) (end : Option LexFault) → CutsTokens text 0 tokens end → HasReading text
chosen text tokens None h = inl (tokens, h)
chosen text tokens (Some f) h = inr (f, (tokens, h))

pub has_reading : (text : List ℕ) → HasReading text
has_reading text =
    let r = reads (length text) text 0 (omega arith) (omega arith) in chosen text r.0 r.1.0 r.1.1

some_none : (f : LexFault) → Some f ≡ None → ⊥
some_none f e = cc

pub has_one_reading : (text : List ℕ) → HasOneReading text
has_one_reading text = (
  λ tokens others a b. (same_cuts text 0 tokens others None None a b).0,
  λ f g a b. let e = (same_cuts text 0 a.0 b.0 (Some f) (Some g) a.1 b.1).1 in cc,
  λ tokens f a b. some_none f (same_cuts text 0 tokens b.0 None (Some f) a b.1).1,
)

-- what each token of a text is
pub all_tokens : (text : List ℕ) (at : ℕ) (tokens : List Token) → CutsTokens text at tokens None → All (IsTokenOf text) tokens
all_tokens text at [] h = All-nil (IsTokenOf text)
all_tokens text at (token ∷ tokens) h = All-cons (IsTokenOf text) token tokens h.1 (all_tokens text token.to tokens h.2)

-- The answers of `lex`.

pub gives_tokens : (text : List ℕ) (r : Result (List Token) LexFault) → MatchResult r (AreTokens text) (Explains text) → (tokens : List Token) → AreTokens text tokens → (r ≡ Ok tokens) ⊎ (r ≡ Err fault.Memory)
gives_tokens text (Ok found) h tokens t = inl (ap (λ (ts : List Token). Ok ts) ((has_one_reading text).0 tokens found t h))
gives_tokens text (Err (fault.BadByte place)) h tokens t = absurd ((has_one_reading text).2 tokens (fault.BadByte place) t h)
gives_tokens text (Err (fault.OpenText place)) h tokens t = absurd ((has_one_reading text).2 tokens (fault.OpenText place) t h)
gives_tokens text (Err (fault.NumberRange place)) h tokens t = absurd ((has_one_reading text).2 tokens (fault.NumberRange place) t h)
gives_tokens text (Err fault.Memory) h tokens t = inr refl

pub gives_fault : (text : List ℕ) (r : Result (List Token) LexFault) → MatchResult r (AreTokens text) (Explains text) → (found : LexFault) → IsFirstFault text found → (r ≡ Err found) ⊎ (r ≡ Err fault.Memory)
gives_fault text (Ok tokens) h found f = absurd ((has_one_reading text).2 tokens found h f)
gives_fault text (Err (fault.BadByte place)) h found f = inl (ap (λ (e : LexFault). Err e) ((has_one_reading text).1 found (fault.BadByte place) f h))
gives_fault text (Err (fault.OpenText place)) h found f = inl (ap (λ (e : LexFault). Err e) ((has_one_reading text).1 found (fault.OpenText place) f h))
gives_fault text (Err (fault.NumberRange place)) h found f = inl (ap (λ (e : LexFault). Err e) ((has_one_reading text).1 found (fault.NumberRange place) f h))
gives_fault text (Err fault.Memory) h found f = inr refl

pub gives_order : (text : List ℕ) (r : Result (List Token) LexFault) → MatchResult r (AreTokens text) (Explains text) → IfOk r (AreInOrder 0 (length text))
gives_order text (Ok tokens) h = in_order text 0 tokens (omega arith) h
gives_order text (Err e) h = tt

pub gives_slices : (text : List ℕ) (r : Result (List Token) LexFault) → MatchResult r (AreTokens text) (Explains text) → IfOk r (All (IsTokenOf text))
gives_slices text (Ok tokens) h = all_tokens text 0 tokens h
gives_slices text (Err e) h = tt
