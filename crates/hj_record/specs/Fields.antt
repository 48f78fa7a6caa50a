-- Fields that lie in one buffer, one behind the other, each up to its end.
use Rattle.std.specs.Prelude.{◌≡◌, ℕ, ◌-◌, ◌≤◌, ◌==◌, List, [], ◌∷◌, ◌++◌, slice_index, slice_range, if◌then◌else◌}

abbrev pub AreEndsFrom : ℕ → List ℕ → ℕ → Type 0
AreEndsFrom start [] size = start ≡ size
AreEndsFrom start (end ∷ ends) size = (start ≤ end) × AreEndsFrom end ends size

-- The ends don't fall, and the last one is that of the buffer.
abbrev pub AreEnds : List ℕ → ℕ → Type 0
AreEnds ends size = AreEndsFrom 0 ends size

-- the fields, of which the first begins at `start`
abbrev pub fields_from : ℕ → List ℕ → List ℕ → List (List ℕ)
fields_from start bytes [] = []
fields_from start bytes (end ∷ ends) = slice_range bytes start end ∷ fields_from end bytes ends

abbrev pub fields_in : List ℕ → List ℕ → List (List ℕ)
fields_in bytes ends = fields_from 0 bytes ends

-- where the field at a place begins
abbrev pub start_at : List ℕ → ℕ → ℕ
start_at ends at = if at == 0 then 0 else slice_index ends (at - 1)

-- bytes behind those of the last field
abbrev pub extend_last : List (List ℕ) → List ℕ → List (List ℕ)
extend_last [] more = []
extend_last (field ∷ []) more = (field ++ more) ∷ []
extend_last (field ∷ next ∷ fields) more = field ∷ extend_last (next ∷ fields) more
