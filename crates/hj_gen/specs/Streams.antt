-- The streams of a seed: rows of a time and a key.
use Rattle.std.specs.Prelude.{ℕ, suc, zero, ◌+◌, ◌*◌, ◌%◌, ◌^◌, ◌++◌, List, [], ◌∷◌, codes, decimal}
use Rattle.std.specs.List.{flat_map}
use Rattle.hj_base.specs.Lcg.{next, drawn}

pub record DrawnRow : Type 0 where
  pub time : ℕ
  pub key : ℕ

-- so many draws of a generator that holds this number
abbrev pub draws_of : ℕ → ℕ → List ℕ
draws_of held zero = []
draws_of held (suc more) = drawn (next held) ∷ draws_of (next held) more

-- the rows after one of this time, by two draws each: the time grows by the first mod 3, and the key is the second mod the
-- number of keys
abbrev pub rows_of : (time keys : ℕ) → List ℕ → List DrawnRow
rows_of time keys [] = []
rows_of time keys (growth ∷ []) = []
rows_of time keys (growth ∷ choice ∷ draws) =
    record { time = time + growth % 3; key = choice % keys } ∷ rows_of (time + growth % 3) keys draws

-- the line of a row
abbrev pub row_line : DrawnRow → List ℕ
row_line row = decimal row.time ++ codes "," ++ decimal row.key ++ codes "\n"

-- the lines of n rows by the draws of a seed, from time 0 on
abbrev pub stream_of : (n keys seed : ℕ) → List ℕ
stream_of n keys seed = flat_map row_line (rows_of 0 keys (draws_of seed (2 * n)))

-- the seed of the right stream, where this one is that of the left stream
abbrev pub right_seed : ℕ → ℕ
right_seed seed = (seed + 1) % 2 ^ 64
