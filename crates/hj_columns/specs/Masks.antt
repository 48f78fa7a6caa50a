-- Keys in a range.
use Rattle.std.specs.Prelude.{ℕ, Bool, ◌&&◌, nat_le}
use Rattle.hj_rows.specs.declared.key_filter.KeyRange.{KeyRange}

-- the key lies in the range
abbrev pub is_in : KeyRange → ℕ → Bool
is_in range key = nat_le range.low key && nat_le key range.high
