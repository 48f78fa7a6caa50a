-- The line that sums up a text of joined pairs.
use Rattle.std.specs.Prelude.{ℕ, ◌+◌, ◌*◌, ◌%◌, ◌^◌, ◌++◌, ◌==◌, List, codes, count_by, decimal, fold, length}

-- what is told of a text
pub record TextCounts : Type 0 where
  pub pairs : ℕ
  pub bytes : ℕ
  pub mix : ℕ

-- how many line feeds it has
abbrev pub pairs_of : List ℕ → ℕ
pairs_of text = count_by (λ byte. byte == 10) text

-- a mix with one more byte
abbrev pub mixed : ℕ → ℕ → ℕ
mixed mix byte = (mix * 31 + byte) % 2 ^ 64

-- the mix of all bytes in order
abbrev pub mix_of : List ℕ → ℕ
mix_of text = fold mixed 0 text

abbrev pub counts_of : List ℕ → TextCounts
counts_of text = record { pairs = pairs_of text; bytes = length text; mix = mix_of text }

-- the line of these counts
abbrev pub line_of : ℕ → TextCounts → List ℕ
line_of events counts =
    codes "events " ++ decimal events ++ codes " pairs " ++ decimal counts.pairs
    ++ codes " bytes " ++ decimal counts.bytes ++ codes " mix " ++ decimal counts.mix ++ codes "\n"

-- the line of so many events whose join gave this text
abbrev pub summary_of : ℕ → List ℕ → List ℕ
summary_of events text = line_of events (counts_of text)
