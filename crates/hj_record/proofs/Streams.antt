-- The pieces of a stream, as the bytes in front of it show them.
use Rattle.std.proofs.Common.{◌≡◌, ℕ, suc, ◌+◌, ◌-◌, ◌<◌, ◌≤◌, ◌%◌, ◌==◌, Bool, true, false, not, ◌&&◌, cond, ltb, nat_lt, List, [], ◌∷◌, ◌++◌, length, take, refl, ap, ◌∙◌, arith}
use Rattle.std.proofs.lemmas.List.{take_at, take_all, length-append}
use Rattle.std.proofs.Math.Seq.{take-append-add}
use Rattle.std.proofs.lemmas.Bool.{lt-ltb, le-ltb}
use Rattle.std.proofs.lemmas.Bool.Decides.{nat_tests}
use Rattle.hj_record.specs.declared.fault.PieceFault.TheVariants as fault
use Rattle.hj_record.specs.Pieces.{IsUnended, IsPiece, Split, split, put_front, put_piece, quotes, most_in_piece, Pieces, pieces_of, up_to_too_long, ended, then_pieces, clean, bad, unread}
use Rattle.hj_record.specs.LineEnd.{inside_after}
use Rattle.hj_record.proofs.Splits.{Unended-from_IsUnended, split-append, split_unended, split-piece, onto, with_piece}

-- the last pieces, where `long` says that the stream has too many bytes
abbrev last_with : Bool → Bool → List ℕ → Pieces
last_with long whole rest =
    cond (nat_lt most_in_piece (length rest)) (ended (bad fault.TooLong))
    (cond long (ended (bad fault.StreamLong))
    (cond (not whole) (ended unread)
    (cond (length rest == 0) (ended clean)
    (cond (quotes rest % 2 == 1) (ended (bad fault.OpenQuote)) (then_pieces rest (ended clean))))))

abbrev from_cut : Split → Bool → Bool → Pieces
from_cut cut long whole = up_to_too_long cut.pieces (last_with long whole cut.rest)

-- what the cut front of a stream gives
cut_as : (limit : ℕ) (bytes : List ℕ) (whole : Bool) (front : List ℕ) (cut : Split) (long : Bool) → take limit bytes ≡ front → split false front ≡ cut → ltb limit (length bytes) ≡ long → pieces_of limit (record { bytes = bytes; whole = whole }) ≡ from_cut cut long whole
cut_as limit bytes whole front cut long is_front is_cut is_long =
    ap (λ x. from_cut (split false x) (ltb limit (length bytes)) whole) is_front
    ∙ ap (λ c. from_cut c (ltb limit (length bytes)) whole) is_cut
    ∙ ap (λ l. from_cut cut l whole) is_long

take_behind : (n : ℕ) (front bytes : List ℕ) → length front ≤ n → take n (front ++ bytes) ≡ front ++ take (n - length front) bytes
take_behind n front bytes le =
    let e : n ≡ length front + (n - length front) = omega arith in
    ap (λ k. take k (front ++ bytes)) e ∙ take-append-add front bytes (n - length front)

longer_behind : (limit : ℕ) (front bytes : List ℕ) → length front ≤ limit → ltb limit (length (front ++ bytes)) ≡ ltb (limit - length front) (length bytes)
longer_behind limit front bytes le =
    let size = length-append front bytes in
    grind (arith, nat_tests)

-- A piece within both limits is the stream's first one.
pub pieces_of-piece : (limit : ℕ) (piece bytes : List ℕ) (whole : Bool) → IsPiece piece → length piece ≤ most_in_piece → length piece ≤ limit → pieces_of limit (record { bytes = piece ++ bytes; whole = whole }) ≡ then_pieces piece (pieces_of (limit - length piece) (record { bytes = bytes; whole = whole }))
pieces_of-piece limit piece bytes whole is short within =
    let left = take (limit - length piece) bytes in
    let long = ltb (limit - length piece) (length bytes) in
    cut_as limit (piece ++ bytes) whole (piece ++ left) (with_piece piece (split false left)) long
    (take_behind limit piece bytes within) (split-piece piece left is) (longer_behind limit piece bytes within)
    ∙ ap (λ b. cond b (ended (bad fault.TooLong)) (then_pieces piece (from_cut (split false left) long whole))) (le-ltb most_in_piece (length piece) short)

-- Where the piece goes on and the stream has all its bytes, one more is too many for the stream.
pub pieces_of-stream_long : (limit : ℕ) (front : List ℕ) (b : ℕ) (bytes : List ℕ) (whole : Bool) → IsUnended front → length front ≤ most_in_piece → length front ≡ limit → pieces_of limit (record { bytes = front ++ b ∷ bytes; whole = whole }) ≡ ended (bad fault.StreamLong)
pieces_of-stream_long limit front b bytes whole none short full =
    let size = length-append front (b ∷ bytes) in
    cut_as limit (front ++ b ∷ bytes) whole front (record { pieces = []; rest = front }) true
    (take_at front (b ∷ bytes) limit full) (split_unended front none) (lt-ltb limit (length (front ++ b ∷ bytes)) (omega (arith, size)))
    ∙ ap (λ t. cond t (ended (bad fault.TooLong)) (ended (bad fault.StreamLong))) (le-ltb most_in_piece (length front) short)

-- The first piece, or the rest where there is none, has a byte.
abbrev HasFirst : List (List ℕ) → List ℕ → Type 0
HasFirst [] rest = 0 < length rest
HasFirst (p ∷ ps) rest = 0 < length p

has_first-put_front : (b : ℕ) (ps : List (List ℕ)) (rest : List ℕ) → HasFirst (put_front b (record { pieces = ps; rest = rest })).pieces (put_front b (record { pieces = ps; rest = rest })).rest
has_first-put_front b [] rest = omega arith
has_first-put_front b (p ∷ ps) rest = omega arith

has_first : (inside : Bool) (b : ℕ) (bytes : List ℕ) → HasFirst (split inside (b ∷ bytes)).pieces (split inside (b ∷ bytes)).rest
has_first inside b bytes =
    let others = split (cond (b == 34) (not inside) inside) bytes in
    elim ((b == 10) && not inside) as (λ t. HasFirst (cond t (put_piece b (split false bytes)) (put_front b others)).pieces (cond t (put_piece b (split false bytes)) (put_front b others)).rest) [
      | true ↦ omega arith
      | false ↦ has_first-put_front b others.pieces others.rest
    ]

too_long_behind : (front : List ℕ) (ps : List (List ℕ)) (rest : List ℕ) (long whole : Bool) → most_in_piece ≤ length front → HasFirst ps rest → from_cut (onto front (record { pieces = ps; rest = rest })) long whole ≡ ended (bad fault.TooLong)
too_long_behind front [] rest long whole most has =
    rw (lt-ltb most_in_piece (length (front ++ rest)) (omega (arith, length-append front rest))) refl
too_long_behind front (p ∷ ps) rest long whole most has =
    rw (lt-ltb most_in_piece (length (front ++ p)) (omega (arith, length-append front p))) refl

-- Where the piece goes on and has all its bytes, one more of the stream is too many for the piece.
pub pieces_of-too_long : (limit : ℕ) (front : List ℕ) (b : ℕ) (bytes : List ℕ) (whole : Bool) → IsUnended front → length front ≡ most_in_piece → length front < limit → pieces_of limit (record { bytes = front ++ b ∷ bytes; whole = whole }) ≡ ended (bad fault.TooLong)
pieces_of-too_long limit front b bytes whole none full more =
    let k = limit - length front - 1 in
    let e : limit - length front ≡ suc k = omega arith in
    let left = b ∷ take k bytes in
    let cut = split (inside_after false front) left in
    let long = ltb limit (length (front ++ b ∷ bytes)) in
    cut_as limit (front ++ b ∷ bytes) whole (front ++ left) (onto front cut) long
    (take_behind limit front (b ∷ bytes) (omega arith) ∙ ap (λ n. front ++ take n (b ∷ bytes)) e)
    (split-append false front left (Unended-from_IsUnended front none)) refl
    ∙ too_long_behind front cut.pieces cut.rest long whole (omega arith) (has_first (inside_after false front) b (take k bytes))

-- Where a whole stream ends before the piece does, the piece ends too.
pub pieces_of-end : (limit : ℕ) (front : List ℕ) → IsUnended front → length front ≤ most_in_piece → length front ≤ limit → pieces_of limit (record { bytes = front; whole = true }) ≡ cond (length front == 0) (ended clean) (cond (quotes front % 2 == 1) (ended (bad fault.OpenQuote)) (then_pieces front (ended clean)))
pieces_of-end limit front none short within =
    let last : Pieces = cond (length front == 0) (ended clean) (cond (quotes front % 2 == 1) (ended (bad fault.OpenQuote)) (then_pieces front (ended clean))) in
    cut_as limit front true front (record { pieces = []; rest = front }) false
    (take_all limit front within) (split_unended front none) (le-ltb limit (length front) within)
    ∙ ap (λ t. cond t (ended (bad fault.TooLong)) last) (le-ltb most_in_piece (length front) short)

-- Where a stream is cut off before the piece ends, its pieces end there.
pub pieces_of-cut_off : (limit : ℕ) (front : List ℕ) → IsUnended front → length front ≤ most_in_piece → length front ≤ limit → pieces_of limit (record { bytes = front; whole = false }) ≡ ended unread
pieces_of-cut_off limit front none short within =
    cut_as limit front false front (record { pieces = []; rest = front }) false
    (take_all limit front within) (split_unended front none) (le-ltb limit (length front) within)
    ∙ ap (λ t. cond t (ended (bad fault.TooLong)) (ended unread)) (le-ltb most_in_piece (length front) short)
