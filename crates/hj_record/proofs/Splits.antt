-- How bytes are cut: behind bytes that end no piece the cutting goes on, and a piece in front is the first.
use Rattle.std.proofs.Common.{◌≡◌, ℕ, zero, suc, ◌+◌, ◌-◌, ◌<◌, ◌≤◌, ◌%◌, ◌==◌, Bool, true, false, not, ◌&&◌, cond, eqb, List, [], ◌∷◌, ◌++◌, length, get_or, take, refl, sym, ap, subst, ◌∙◌, arith, inl, inr, append_assoc}
use Rattle.std.proofs.lemmas.List.{append-nil, get_or_at, get_or_append_left, get_or-take, length_push, take-take, take_at, take-append-le, length-take-le, take_more, take_all}
use Rattle.std.proofs.lemmas.List.Sums.{sum_by-cons, fold-append, fold_more}
use Rattle.std.proofs.lemmas.Bool.{eq-eqb, eqb-false, ne_eqb, and_left, and_right, and_from, false≢true, cases_lt}
use Rattle.std.proofs.lemmas.Bool.Decides.{nat_tests}
use Rattle.hj_record.specs.Pieces.{EndsAt, IsUnended, IsPiece, Split, split, put_front, quotes}
use Rattle.hj_record.specs.LineEnd.{inside_after, EndsWithin}

-- inside quotes or not, one byte on
abbrev pub inside_next : Bool → ℕ → Bool
inside_next inside b = cond (b == 34) (not inside) inside

-- no line feed outside quotes
abbrev pub Unended : Bool → List ℕ → Type 0
Unended inside [] = Unit {0}
Unended inside (b ∷ bs) = (((b == 10) && not inside) ≡ false) × Unended (inside_next inside b) bs

-- a line feed outside quotes at the end, and no earlier one
pub record IsLine (inside : Bool) (bytes : List ℕ) : Type 0 where
  pub front : List ℕ
  pub is : bytes ≡ front ++ 10 ∷ []
  pub unended : Unended inside front
  pub outside : inside_after inside front ≡ false

-- bytes in front of the first piece
abbrev onto_of : List ℕ → List (List ℕ) → List ℕ → Split
onto_of bytes [] rest = record { pieces = []; rest = bytes ++ rest }
onto_of bytes (p ∷ ps) rest = record { pieces = (bytes ++ p) ∷ ps; rest = rest }

abbrev pub onto : List ℕ → Split → Split
onto bytes cut = onto_of bytes cut.pieces cut.rest

-- a piece in front of the others
abbrev pub with_piece : List ℕ → Split → Split
with_piece piece cut = record { pieces = piece ∷ cut.pieces; rest = cut.rest }

-- ---- parity

odd_next : (n : ℕ) → not (eqb (n % 2) 1) ≡ eqb ((n + 1) % 2) 1
odd_next n = grind (arith, nat_tests)

next_parity : (n : ℕ) (b : ℕ) → inside_next (eqb (n % 2) 1) b ≡ eqb ((n + cond (b == 34) 1 0) % 2) 1
next_parity n b = elim (b == 34) as (λ v. cond v (not (eqb (n % 2) 1)) (eqb (n % 2) 1) ≡ eqb ((n + cond v 1 0) % 2) 1) [
  | true ↦ odd_next n
  | false ↦ ap (λ k. eqb (k % 2) 1) (omega arith)
]

quotes-cons : (b : ℕ) (bs : List ℕ) → quotes (b ∷ bs) ≡ cond (b == 34) 1 0 + quotes bs
quotes-cons b bs = sum_by-cons (λ x. cond (x == 34) 1 0) b bs

parity : (n : ℕ) (bytes : List ℕ) → inside_after (eqb (n % 2) 1) bytes ≡ eqb ((n + quotes bytes) % 2) 1
parity n [] = ap (λ k. eqb (k % 2) 1) (omega arith)
parity n (b ∷ bs) =
    ap (λ i. inside_after i bs) (next_parity n b)
    ∙ parity (n + cond (b == 34) 1 0) bs
    ∙ ap (λ k. eqb (k % 2) 1) (omega (arith, quotes-cons b bs))

-- Bytes that begin outside quotes end inside where they have an odd number of them.
pub inside_by_quotes : (bytes : List ℕ) → inside_after false bytes ≡ eqb (quotes bytes % 2) 1
inside_by_quotes bytes = parity 0 bytes ∙ ap (λ k. eqb (k % 2) 1) (omega arith)

outside_from_even : (bytes : List ℕ) → quotes bytes % 2 ≡ 0 → inside_after false bytes ≡ false
outside_from_even bytes even = inside_by_quotes bytes ∙ ap (λ k. eqb k 1) even

even_from_outside : (bytes : List ℕ) → inside_after false bytes ≡ false → quotes bytes % 2 ≡ 0
even_from_outside bytes outside =
    let odd = eqb-false (quotes bytes % 2) 1 (sym (inside_by_quotes bytes) ∙ outside) in
    omega arith

-- ---- the two ways to say that bytes end no piece

no_end_at_front : (inside : Bool) (b : ℕ) (bs : List ℕ) → ((at : ℕ) → ¬ (EndsWithin inside (b ∷ bs) at)) → ((b == 10) && not inside) ≡ false
no_end_at_front true b bs none = and_right (b == 10) false refl
no_end_at_front false b bs none =
    and_left (b == 10) true (ne_eqb b 10 (λ e. none 0 (omega arith, e, refl)))

Unended-from_places : (inside : Bool) (bytes : List ℕ) → ((at : ℕ) → ¬ (EndsWithin inside bytes at)) → Unended inside bytes
Unended-from_places inside [] none = tt
Unended-from_places inside (b ∷ bs) none =
    (no_end_at_front inside b bs none, Unended-from_places (inside_next inside b) bs (λ at e. none (suc at) (omega arith, e.1, e.2)))

places_from_Unended : (inside : Bool) (bytes : List ℕ) → Unended inside bytes → (at : ℕ) → ¬ (EndsWithin inside bytes at)
places_from_Unended inside [] u at e = absurd (omega (arith, e.0))
places_from_Unended inside (b ∷ bs) u zero e =
    false≢true (sym u.0 ∙ and_from (b == 10) (not inside) (eq-eqb b 10 e.1) (ap not e.2))
places_from_Unended inside (b ∷ bs) u (suc at) e =
    places_from_Unended (inside_next inside b) bs u.1 at (omega (arith, e.0), e.1, e.2)

pub EndsAt-within : (bytes : List ℕ) (at : ℕ) → EndsWithin false bytes at → EndsAt bytes at
EndsAt-within bytes at e = (e.0, e.1, even_from_outside (take at bytes) e.2)

pub EndsWithin-at : (bytes : List ℕ) (at : ℕ) → EndsAt bytes at → EndsWithin false bytes at
EndsWithin-at bytes at e = (e.0, e.1, outside_from_even (take at bytes) e.2)

pub Unended-from_IsUnended : (bytes : List ℕ) → IsUnended bytes → Unended false bytes
Unended-from_IsUnended bytes none = Unended-from_places false bytes (λ at e. none at (EndsAt-within bytes at e))

pub IsUnended-from_Unended : (bytes : List ℕ) → Unended false bytes → IsUnended bytes
IsUnended-from_Unended bytes u at e = places_from_Unended false bytes u at (EndsWithin-at bytes at e)

-- A place in a front ends a piece there too.
pub ends_before : (inside : Bool) (bytes : List ℕ) (n at : ℕ) → at < n → n ≤ length bytes → EndsWithin inside (take n bytes) at → EndsWithin inside bytes at
ends_before inside bytes n at lt le ends =
    (omega arith, sym (get_or-take n bytes at 0 lt) ∙ ends.1, ap (inside_after inside) (sym (take-take at n bytes (omega arith))) ∙ ends.2)

-- ---- splitting

onto-nil : (ps : List (List ℕ)) (rest : List ℕ) → onto_of [] ps rest ≡ record { pieces = ps; rest = rest }
onto-nil [] rest = refl
onto-nil (p ∷ ps) rest = refl

put_front-onto : (b : ℕ) (bytes : List ℕ) (ps : List (List ℕ)) (rest : List ℕ) → put_front b (onto_of bytes ps rest) ≡ onto_of (b ∷ bytes) ps rest
put_front-onto b bytes [] rest = refl
put_front-onto b bytes (p ∷ ps) rest = refl

pub split-append : (inside : Bool) (front bytes : List ℕ) → Unended inside front → split inside (front ++ bytes) ≡ onto front (split (inside_after inside front) bytes)
split-append inside [] bytes u = sym (onto-nil (split inside bytes).pieces (split inside bytes).rest)
split-append inside (b ∷ front) bytes u =
    rw u.0 (ap (put_front b) (split-append (inside_next inside b) front bytes u.1)
    ∙ put_front-onto b front (split (inside_after (inside_next inside b) front) bytes).pieces (split (inside_after (inside_next inside b) front) bytes).rest)

-- Bytes that end no piece are no piece, and stand at the end.
pub split_unended : (bytes : List ℕ) → IsUnended bytes → split false bytes ≡ record { pieces = []; rest = bytes }
split_unended bytes none =
    let u : Unended false bytes = Unended-from_IsUnended bytes none in
    ap (split false) (sym (append-nil bytes)) ∙ split-append false bytes [] u
    ∙ ap (λ (r : List ℕ). record { pieces = []; rest = r }) (append-nil bytes)

split-line : (front bytes : List ℕ) → Unended false front → inside_after false front ≡ false → split false (front ++ 10 ∷ bytes) ≡ with_piece (front ++ 10 ∷ []) (split false bytes)
split-line front bytes u outside =
    split-append false front (10 ∷ bytes) u ∙ ap (λ i. onto front (split i (10 ∷ bytes))) outside

-- ---- the two ways to say that bytes are a piece

ends_at_last : (front : List ℕ) (n : ℕ) → n ≡ length front → inside_after false front ≡ false → EndsAt (front ++ 10 ∷ []) n
ends_at_last front n is outside =
    let size = length_push front 10 in
    let front_is : take n (front ++ 10 ∷ []) ≡ front = take_at front (10 ∷ []) n (sym is) in
    (omega (arith, size), get_or_at front 10 [] 0 n (sym is), ap (λ x. quotes x % 2) front_is ∙ even_from_outside front outside)

ends_in_front : (front bytes : List ℕ) (at : ℕ) → at < length front → EndsAt (front ++ bytes) at → EndsAt front at
ends_in_front front bytes at lt ends = (
  lt,
  sym (get_or_append_left front bytes 0 at lt) ∙ ends.1,
  ap (λ x. quotes x % 2) (sym (take-append-le at front bytes (omega arith))) ∙ ends.2,
)

pub piece_from_line : (front : List ℕ) → Unended false front → inside_after false front ≡ false → IsPiece (front ++ 10 ∷ [])
piece_from_line front u outside =
    let size = length_push front 10 in (
      ends_at_last front (length (front ++ 10 ∷ []) - 1) (omega (arith, size)) outside,
      λ at ends. elim (cases_lt at (length front)) [
        | inl lt ↦ absurd (IsUnended-from_Unended front u at (ends_in_front front (10 ∷ []) at lt ends))
        | inr past ↦ omega (arith, size, ends.0)
      ],
    )

pub IsPiece-from_line : (bytes : List ℕ) → IsLine false bytes → IsPiece bytes
IsPiece-from_line bytes line = subst (λ x. IsPiece x) (sym line.is) (piece_from_line line.front line.unended line.outside)

pub line_from_IsPiece : (bytes : List ℕ) → IsPiece bytes → IsLine false bytes
line_from_IsPiece bytes piece =
    let last = length bytes - 1 in
    let lt : last < length bytes = piece.0.0 in
    let whole : bytes ≡ take last bytes ++ 10 ∷ [] =
    sym (take_all (last + 1) bytes (omega arith)) ∙ take_more bytes last 0 lt ∙ ap (λ b. take last bytes ++ b ∷ []) piece.0.1 in
    let size = length-take-le last bytes (omega arith) in
    record {
      front = take last bytes;
      is = whole;
      unended = Unended-from_places false (take last bytes) (λ at ends.
          let early : at < last = omega (arith, size, ends.0) in
          let is_last = piece.1 at (EndsAt-within bytes at (ends_before false bytes last at early (omega arith) ends)) in
          omega arith);
      outside = outside_from_even (take last bytes) piece.0.2;
    }

-- A piece in front is the first one.
pub split-piece : (piece bytes : List ℕ) → IsPiece piece → split false (piece ++ bytes) ≡ with_piece piece (split false bytes)
split-piece piece bytes is =
    let line = line_from_IsPiece piece is in
    subst (λ x. split false (x ++ bytes) ≡ with_piece x (split false bytes)) (sym line.is)
    (ap (split false) (append_assoc line.front (10 ∷ []) bytes) ∙ split-line line.front bytes line.unended line.outside)

-- ---- bytes behind others

pub Unended-append : (inside : Bool) (front bytes : List ℕ) → Unended inside front → Unended (inside_after inside front) bytes → Unended inside (front ++ bytes)
Unended-append inside [] bytes u v = v
Unended-append inside (b ∷ front) bytes u v = (u.0, Unended-append (inside_next inside b) front bytes u.1 v)

-- what of the bytes comes inside, where the piece ends so
inside_behind : (inside : Bool) (piece : List ℕ) → inside ≡ eqb (quotes piece % 2) 1 → inside ≡ inside_after false piece
inside_behind inside piece is = is ∙ sym (inside_by_quotes piece)

unended_behind : (inside : Bool) (piece bytes : List ℕ) → IsUnended piece → inside ≡ eqb (quotes piece % 2) 1 → Unended inside bytes → Unended false (piece ++ bytes)
unended_behind inside piece bytes none is u =
    Unended-append false piece bytes (Unended-from_IsUnended piece none) (subst (λ i. Unended i bytes) (inside_behind inside piece is) u)

-- Where none of the bytes ends the piece, it goes on.
pub IsUnended-append : (inside : Bool) (piece bytes : List ℕ) → IsUnended piece → inside ≡ eqb (quotes piece % 2) 1 → ((at : ℕ) → ¬ (EndsWithin inside bytes at)) → IsUnended (piece ++ bytes)
IsUnended-append inside piece bytes none is within =
    IsUnended-from_Unended (piece ++ bytes) (unended_behind inside piece bytes none is (Unended-from_places inside bytes within))

-- The first of the bytes that ends the piece makes it whole.
pub IsPiece-append : (inside : Bool) (piece bytes : List ℕ) (at : ℕ) → IsUnended piece → inside ≡ eqb (quotes piece % 2) 1 → EndsWithin inside bytes at → ((k : ℕ) → k < at → ¬ (EndsWithin inside bytes k)) → IsPiece (piece ++ take (at + 1) bytes)
IsPiece-append inside piece bytes at none is ends first =
    let size = length-take-le at bytes (omega (arith, ends.0)) in
    let u = unended_behind inside piece (take at bytes) none is (Unended-from_places inside (take at bytes) (λ k e.
    let early : k < at = omega (arith, size, e.0) in
    first k early (ends_before inside bytes at k early (omega (arith, ends.0)) e))) in
    let outside : inside_after false (piece ++ take at bytes) ≡ false =
    fold-append inside_next false piece (take at bytes) ∙ ap (λ i. inside_after i (take at bytes)) (sym (inside_behind inside piece is)) ∙ ends.2 in
    let whole : (piece ++ take at bytes) ++ 10 ∷ [] ≡ piece ++ take (at + 1) bytes =
    append_assoc piece (take at bytes) (10 ∷ []) ∙ ap (λ x. piece ++ x) (ap (λ b. take at bytes ++ b ∷ []) (sym ends.1) ∙ sym (take_more bytes at 0 ends.0)) in
    subst (λ x. IsPiece x) whole (piece_from_line (piece ++ take at bytes) u outside)

-- Where the piece ends inside quotes or outside, so it does behind bytes of its own.
pub parity_behind : (inside : Bool) (piece bytes : List ℕ) → inside ≡ eqb (quotes piece % 2) 1 → inside_after inside bytes ≡ eqb (quotes (piece ++ bytes) % 2) 1
parity_behind inside piece bytes is =
    ap (λ i. inside_after i bytes) (inside_behind inside piece is) ∙ sym (fold-append inside_next false piece bytes) ∙ inside_by_quotes (piece ++ bytes)

-- Behind the line feed that ends a piece no quote is open.
pub outside_behind_end : (inside : Bool) (bytes : List ℕ) (at : ℕ) → EndsWithin inside bytes at → inside_after inside (take (at + 1) bytes) ≡ false
outside_behind_end inside bytes at ends =
    fold_more inside_next inside bytes at 0 ends.0 ∙ ap (λ i. inside_next i (get_or bytes at 0)) ends.2 ∙ ap (inside_next false) ends.1

-- So no quote is open behind a piece,
outside_behind_piece : (bytes : List ℕ) → IsPiece bytes → inside_after false bytes ≡ false
outside_behind_piece bytes piece =
    let line = line_from_IsPiece bytes piece in
    ap (inside_after false) line.is ∙ fold-append inside_next false line.front (10 ∷ []) ∙ ap (λ i. inside_after i (10 ∷ [])) line.outside

-- whose last bytes come behind others.
pub outside_behind : (piece bytes : List ℕ) → IsPiece (piece ++ bytes) → inside_after (quotes piece % 2 == 1) bytes ≡ false
outside_behind piece bytes whole =
    ap (λ i. inside_after i bytes) (sym (inside_by_quotes piece)) ∙ sym (fold-append inside_next false piece bytes) ∙ outside_behind_piece (piece ++ bytes) whole

-- Bytes behind others begin as those end.
pub inside_behind_both : (inside : Bool) (front bytes : List ℕ) → inside_after inside (front ++ bytes) ≡ inside_after (inside_after inside front) bytes
inside_behind_both inside front bytes = fold-append inside_next inside front bytes
