-- The end of a piece in bytes that begin outside quotes or inside.
use Rattle.std.specs.Prelude.{◌≡◌, ℕ, ◌-◌, ◌<◌, ◌%◌, ◌==◌, Bool, false, not, List, length, min, take, slice_index, fold, if◌then◌else◌}
use Rattle.hj_record.specs.declared.cutter.LineEnd.{LineEnd}
use Rattle.hj_record.specs.declared.cutter.LineEnd.TheVariants as line_end
use Rattle.hj_record.specs.Pieces.{quotes, most_in_piece}
use Rattle.hj_record.specs.Cutter.{Cutting}

-- whether the bytes end inside quotes
abbrev pub inside_after : Bool → List ℕ → Bool
inside_after inside bytes = fold (λ inside b. if b == 34 then not inside else inside) inside bytes

-- a line feed outside quotes
abbrev pub EndsWithin : Bool → List ℕ → ℕ → Type 0
EndsWithin inside bytes at = (at < length bytes) × (slice_index bytes at ≡ 10) × (inside_after inside (take at bytes) ≡ false)

-- the first such place, or where the bytes end
abbrev pub Finds : LineEnd → Bool → List ℕ → Type 0
Finds (line_end.At at) inside bytes = EndsWithin inside bytes at × ((k : ℕ) → k < at → ¬ (EndsWithin inside bytes k))
Finds (line_end.Beyond after) inside bytes = (after ≡ inside_after inside bytes) × ((k : ℕ) → ¬ (EndsWithin inside bytes k))

-- how many of these bytes the piece of a cutter may still take
abbrev pub may_take : Cutting → List ℕ → ℕ
may_take cutting bytes = min (min cutting.room most_in_piece - length cutting.piece) (length bytes)

-- the first such place among those of these bytes that the piece may take
abbrev pub FindsFor : LineEnd → List ℕ → Cutting → Type 0
FindsFor end bytes cutting = Finds end (quotes cutting.piece % 2 == 1) (take (may_take cutting bytes) bytes)

-- Some byte of those that the piece may take is a line feed outside quotes.
abbrev pub HasEnd : List ℕ → Cutting → Type 0
HasEnd bytes cutting = (at : ℕ) × EndsWithin (quotes cutting.piece % 2 == 1) (take (may_take cutting bytes) bytes) at
