-- How many bytes a piece may have of which none came before.
use Rattle.std.specs.Prelude.{ℕ, List, [], ◌∷◌, min}
use Rattle.std.specs.declared.option.Option.{Option}
use Rattle.std.specs.declared.option.Option.TheVariants.{None, Some}
use Rattle.hj_record.specs.declared.fault.PieceFault.{PieceFault}
use Rattle.hj_record.specs.Cutter.{Cutting}
use Rattle.hj_record.specs.Pieces.{most_in_piece}

abbrev pub most_from : Option PieceFault → List ℕ → ℕ → ℕ
most_from None [] room = min room most_in_piece
most_from None (b ∷ piece) room = 0
most_from (Some found) piece room = 0

-- How many bytes the next piece may have; none where some came before, or the stream is refused.
abbrev pub most_in_next : Cutting → ℕ
most_in_next cutting = most_from cutting.fault cutting.piece cutting.room
