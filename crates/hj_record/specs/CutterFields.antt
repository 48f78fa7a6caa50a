-- What every cutter keeps true of its fields.
use Rattle.std.specs.Prelude.{◌≡◌, ℕ, ◌≤◌, ◌%◌, ◌==◌, Bool, false, List, length}
use Rattle.hj_record.specs.Pieces.{IsUnended, quotes, most_in_piece}

-- The piece is within the limits, ends inside quotes where their number is odd, and goes on where it has no end.
pub record IsSound (room : ℕ) (piece : List ℕ) (inside whole : Bool) : Type 0 where
  pub within_piece : length piece ≤ most_in_piece
  pub within_room : length piece ≤ room
  pub parity : inside ≡ (quotes piece % 2 == 1)
  pub unended : whole ≡ false → IsUnended piece
