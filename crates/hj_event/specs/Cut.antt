-- Streams that were cut off.
use Rattle.std.specs.Prelude.{◌≡◌, ◌⊎◌, false}
use Rattle.hj_base.specs.Journals.{IsPrefix}
use Rattle.hj_record.specs.Pieces.{Stream}

-- A stream is the other one, or was cut off within it.
abbrev pub IsCutOf : Stream → Stream → Type 0
IsCutOf cut stream = (cut ≡ stream) ⊎ ((cut.whole ≡ false) × IsPrefix cut.bytes stream.bytes)
