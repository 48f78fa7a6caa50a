-- What contracts see of a cutter, and what each portion of bytes does to it.
use Rattle.std.specs.Prelude.{◌≡◌, ℕ, ◌-◌, ◌<◌, ◌≤◌, ◌%◌, ◌⊎◌, Bool, true, false, List, [], ◌++◌, length, take, drop}
use Rattle.std.specs.declared.option.Option.{Option}
use Rattle.std.specs.declared.option.Option.TheVariants.{None, Some}
use Rattle.hj_record.specs.declared.fault.PieceFault.{PieceFault}
use Rattle.hj_record.specs.declared.fault.PieceFault.TheVariants as fault
use Rattle.hj_record.specs.declared.cutter.Fed.{Fed}
use Rattle.hj_record.specs.declared.cutter.Fed.TheVariants as fed
use Rattle.hj_record.specs.Pieces.{Pieces, IsPiece, IsUnended, most_in_piece, quotes, pieces_of, ended, then_pieces, clean, bad}

pub record Cutting : Type 0 where
  -- how many bytes the stream may still have, from the first of this piece on
  pub room : ℕ
  -- the bytes of the piece that came so far
  pub piece : List ℕ
  -- The piece has its end; `clear` comes next.
  pub whole : Bool
  -- the fault that every call answers from now on
  pub fault : Option PieceFault

abbrev pub fresh : ℕ → Cutting
fresh limit = record { room = limit; piece = []; whole = false; fault = None }

abbrev pub cleared : Cutting → Cutting
cleared cutting = record cutting { room = cutting.room - length cutting.piece; piece = []; whole = false }

-- The bytes that came so far are within both limits.
abbrev pub FitsLimits : Cutting → Type 0
FitsLimits cutting = (length cutting.piece ≤ most_in_piece) × (length cutting.piece ≤ cutting.room)

-- The next byte is one more than the stream may have, or else one more than a piece may.
abbrev pub IsOneTooMany : PieceFault → List ℕ → ℕ → Type 0
IsOneTooMany found piece room = ((found ≡ fault.StreamLong) × (length piece ≡ room) × (length piece ≤ most_in_piece)) ⊎ ((found ≡ fault.TooLong) × (length piece ≡ most_in_piece) × (length piece < room))

-- The fault of some byte of this portion: all before it go on with the piece, and it is one too many.
abbrev pub IsOverWithin : PieceFault → List ℕ → Cutting → Type 0
IsOverWithin found bytes cutting = (at : ℕ) × (at < length bytes) × IsUnended (cutting.piece ++ take at bytes) × IsOneTooMany found (cutting.piece ++ take at bytes) cutting.room

-- From a fault on, the same fault is answered, and nothing changes.
abbrev pub StaysFailed : PieceFault → Fed → Cutting → Cutting → Type 0
StaysFailed found answer old new = (answer ≡ fed.Bad found) × (new ≡ old)

-- Taking a portion of bytes.
abbrev pub Takes : Fed → List ℕ → Cutting → Cutting → Type 0
Takes fed.More bytes old new = (new ≡ record old { piece = old.piece ++ bytes }) × IsUnended new.piece × FitsLimits new
Takes (fed.Piece used) bytes old new = (0 < used) × (used ≤ length bytes) × (new ≡ record old { piece = old.piece ++ take used bytes; whole = true }) × IsPiece new.piece × FitsLimits new
Takes (fed.Bad found) bytes old new = (new ≡ record old { fault = Some found }) × ((found ≡ fault.Memory) ⊎ IsOverWithin found bytes old)

abbrev pub FeedsFrom : Option PieceFault → Fed → List ℕ → Cutting → Cutting → Type 0
FeedsFrom None answer bytes old new = Takes answer bytes old new
FeedsFrom (Some found) answer bytes old new = StaysFailed found answer old new

abbrev pub Feeds : Fed → List ℕ → Cutting → Cutting → Type 0
Feeds answer bytes old new = FeedsFrom old.fault answer bytes old new

-- Coming to the end of the stream.
abbrev pub Closes : Fed → Cutting → Cutting → Type 0
Closes fed.More old new = (old.piece ≡ []) × (new ≡ old)
Closes (fed.Piece used) old new = (used ≡ 0) × (0 < length old.piece) × (quotes old.piece % 2 ≡ 0) × (new ≡ record old { whole = true })
Closes (fed.Bad found) old new = (found ≡ fault.OpenQuote) × (quotes old.piece % 2 ≡ 1) × (new ≡ record old { fault = Some found })

abbrev pub EndsFrom : Option PieceFault → Fed → Cutting → Cutting → Type 0
EndsFrom None answer old new = Closes answer old new
EndsFrom (Some found) answer old new = StaysFailed found answer old new

abbrev pub EndsStream : Fed → Cutting → Cutting → Type 0
EndsStream answer old new = EndsFrom old.fault answer old new

-- The pieces of a stream of which these bytes are still to come.
abbrev pub pieces_from : Cutting → List ℕ → Bool → Pieces
pieces_from cutting bytes whole = pieces_of cutting.room (record { bytes = cutting.piece ++ bytes; whole = whole })

-- What the answer says of the pieces of the stream, whatever comes behind this portion.
abbrev pub Leads : Fed → List ℕ → Cutting → Cutting → Type 0
Leads fed.More bytes old new = (more : List ℕ) (whole : Bool) → pieces_from old (bytes ++ more) whole ≡ pieces_from new more whole
Leads (fed.Piece used) bytes old new = (more : List ℕ) (whole : Bool) → pieces_from old (bytes ++ more) whole ≡ then_pieces new.piece (pieces_from (cleared new) (drop used bytes ++ more) whole)
Leads (fed.Bad found) bytes old new = (found ≡ fault.Memory) ⊎ ((more : List ℕ) (whole : Bool) → pieces_from old (bytes ++ more) whole ≡ ended (bad found))

-- What the answer at the end says of the pieces of a whole stream.
abbrev pub LeadsAtEnd : Fed → Cutting → Cutting → Type 0
LeadsAtEnd fed.More old new = pieces_from old [] true ≡ ended clean
LeadsAtEnd (fed.Piece used) old new = pieces_from old [] true ≡ then_pieces new.piece (ended clean)
LeadsAtEnd (fed.Bad found) old new = pieces_from old [] true ≡ ended (bad found)
