-- What a portion of bytes does to a cutter where a whole piece in front of it isn't copied.
use Rattle.std.specs.Prelude.{◌≡◌, ℕ, ◌⊎◌, Bool, true, false, List, [], ◌++◌, take, drop}
use Rattle.std.specs.declared.option.Option.{Option}
use Rattle.std.specs.declared.option.Option.TheVariants.{None, Some}
use Rattle.hj_record.specs.declared.fault.PieceFault.{PieceFault}
use Rattle.hj_record.specs.declared.fault.PieceFault.TheVariants as fault
use Rattle.hj_record.specs.declared.cutter.Cut.{Cut}
use Rattle.hj_record.specs.declared.cutter.Cut.TheVariants as cut
use Rattle.hj_record.specs.declared.cutter.Fed.TheVariants as fed
use Rattle.hj_record.specs.Pieces.{ended, then_pieces, bad, unread}
use Rattle.hj_record.specs.Cutter.{Cutting, Takes, cleared, pieces_from}

-- the cutter with these bytes as its whole piece
abbrev pub with_piece : List ℕ → Cutting → Cutting
with_piece bytes cutting = record cutting { piece = bytes; whole = true }

-- No byte of the piece came before, and the first of these bytes are all of it; the cutter has gone past it.
abbrev pub Lends : ℕ → List ℕ → Cutting → Cutting → Type 0
Lends used bytes old new = (old.piece ≡ []) × Takes (fed.Piece used) bytes old (with_piece (take used bytes) old) × (new ≡ cleared (with_piece (take used bytes) old))

abbrev pub CutsNext : Cut → List ℕ → Cutting → Cutting → Type 0
CutsNext cut.More bytes old new = Takes fed.More bytes old new
CutsNext (cut.Lent used) bytes old new = Lends used bytes old new
CutsNext (cut.Piece used) bytes old new = Takes (fed.Piece used) bytes old new
CutsNext (cut.Bad found) bytes old new = Takes (fed.Bad found) bytes old new

abbrev pub CutsFrom : Option PieceFault → Cut → List ℕ → Cutting → Cutting → Type 0
CutsFrom None answer bytes old new = CutsNext answer bytes old new
CutsFrom (Some found) answer bytes old new = (answer ≡ cut.Bad found) × (new ≡ old)

-- Taking a portion of bytes. From a fault on, the same fault is answered, and nothing changes.
abbrev pub Cuts : Cut → List ℕ → Cutting → Cutting → Type 0
Cuts answer bytes old new = CutsFrom old.fault answer bytes old new

-- What the answer says of the pieces of the stream, whatever comes behind this portion.
abbrev pub LeadsBy : Cut → List ℕ → Cutting → Cutting → Type 0
LeadsBy cut.More bytes old new = ((more : List ℕ) (whole : Bool) → pieces_from old (bytes ++ more) whole ≡ pieces_from new more whole) × (pieces_from new [] false ≡ ended unread)
LeadsBy (cut.Lent used) bytes old new = (more : List ℕ) (whole : Bool) → pieces_from old (bytes ++ more) whole ≡ then_pieces (take used bytes) (pieces_from new (drop used bytes ++ more) whole)
LeadsBy (cut.Piece used) bytes old new = (more : List ℕ) (whole : Bool) → pieces_from old (bytes ++ more) whole ≡ then_pieces new.piece (pieces_from (cleared new) (drop used bytes ++ more) whole)
LeadsBy (cut.Bad found) bytes old new = (found ≡ fault.Memory) ⊎ ((more : List ℕ) (whole : Bool) → pieces_from old (bytes ++ more) whole ≡ ended (bad found))
