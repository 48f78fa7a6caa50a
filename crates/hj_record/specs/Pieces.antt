-- A CSV stream cut into pieces (RFC 4180): after each line feed that has an even number of double quotes
-- between the piece's start and it. So a line feed inside a quoted field ends nothing.
use Rattle.std.specs.Prelude.{◌≡◌, ℕ, ◌-◌, ◌<◌, ◌%◌, Bool, false, not, ◌&&◌, ◌==◌, List, [], ◌∷◌, ◌++◌, length, take, count_by, slice_index, nat_lt, if◌then◌else◌, All}
use Rattle.std.specs.List.{concat}
use Rattle.hj_record.specs.declared.fault.PieceFault.{PieceFault}
use Rattle.hj_record.specs.declared.fault.PieceFault.TheVariants as fault

-- A stream is its bytes. A whole one ends with them; behind those of one that was cut off stands a failed or missing read.
pub record Stream : Type 0 where
  pub bytes : List ℕ
  pub whole : Bool

-- the bytes that one piece may have
abbrev pub most_in_piece : ℕ
most_in_piece = 65536

-- how many double quotes there are
abbrev pub quotes : List ℕ → ℕ
quotes bytes = count_by (λ b. b == 34) bytes

-- The byte at this place ends a piece that begins at the front.
abbrev pub EndsAt : List ℕ → ℕ → Type 0
EndsAt bytes at = (at < length bytes) × (slice_index bytes at ≡ 10) × (quotes (take at bytes) % 2 ≡ 0)

-- No place ends a piece: it may go on.
abbrev pub IsUnended : List ℕ → Type 0
IsUnended bytes = (at : ℕ) → ¬ (EndsAt bytes at)

-- A piece with its end: the last place ends it, and no earlier one.
abbrev pub IsPiece : List ℕ → Type 0
IsPiece bytes = EndsAt bytes (length bytes - 1) × ((at : ℕ) → EndsAt bytes at → at ≡ length bytes - 1)

-- The pieces that have their end, and what stands after the last of them.
pub record Split : Type 0 where
  pub pieces : List (List ℕ)
  pub rest : List ℕ

abbrev put_front_of : ℕ → List (List ℕ) → List ℕ → Split
put_front_of b [] rest = record { pieces = []; rest = b ∷ rest }
put_front_of b (p ∷ ps) rest = record { pieces = (b ∷ p) ∷ ps; rest = rest }

-- one byte more in front of the first piece
abbrev pub put_front : ℕ → Split → Split
put_front b split = put_front_of b split.pieces split.rest

-- a piece of one byte in front of the others
abbrev pub put_piece : ℕ → Split → Split
put_piece b split = record { pieces = (b ∷ []) ∷ split.pieces; rest = split.rest }

-- The bytes cut after each line feed outside quotes; `inside` says whether they begin inside quotes.
abbrev pub split : Bool → List ℕ → Split
split inside [] = record { pieces = []; rest = [] }
split inside (b ∷ bs) =
    if (b == 10) && not inside then put_piece b (split false bs)
    else put_front b (split (if b == 34 then not inside else inside) bs)

-- The pieces and the rest are these bytes, each piece ends where it has its first end, and the rest has none.
pub record IsCutAtLineEnds (bytes : List ℕ) (cut : Split) : Type 0 where
  pub whole : concat cut.pieces ++ cut.rest ≡ bytes
  pub pieces : All IsPiece cut.pieces
  pub rest : IsUnended cut.rest

-- How the pieces of a stream end: with its bytes, in a fault, or where it was cut off.
pub data PiecesEnd : Type 0 where
  clean : PiecesEnd
  bad : PieceFault → PiecesEnd
  unread : PiecesEnd

pub record Pieces : Type 0 where
  pub pieces : List (List ℕ)
  pub ending : PiecesEnd

-- no further piece
abbrev pub ended : PiecesEnd → Pieces
ended ending = record { pieces = []; ending = ending }

abbrev pub then_pieces : List ℕ → Pieces → Pieces
then_pieces piece others = record { pieces = piece ∷ others.pieces; ending = others.ending }

-- the pieces up to the first that is too long, and then the last ones
abbrev pub up_to_too_long : List (List ℕ) → Pieces → Pieces
up_to_too_long [] last = last
up_to_too_long (piece ∷ others) last =
    if nat_lt most_in_piece (length piece) then ended (bad fault.TooLong)
    else then_pieces piece (up_to_too_long others last)

-- What stands after the last cut of a stream is a piece only in a whole one, and not with an open quote.
abbrev pub last_pieces : ℕ → Stream → List ℕ → Pieces
last_pieces limit stream rest =
    if nat_lt most_in_piece (length rest) then ended (bad fault.TooLong)
    else if nat_lt limit (length stream.bytes) then ended (bad fault.StreamLong)
    else if not stream.whole then ended unread
    else if length rest == 0 then ended clean
    else if quotes rest % 2 == 1 then ended (bad fault.OpenQuote)
    else then_pieces rest (ended clean)

-- The pieces of a stream that may have this many bytes.
abbrev pub pieces_of : ℕ → Stream → Pieces
pieces_of limit stream =
    let cut = split false (take limit stream.bytes) in
    up_to_too_long cut.pieces (last_pieces limit stream cut.rest)
