-- The bytes that a piece without a record may have.
use Rattle.std.specs.Prelude.{◌≡◌, ℕ, Bool, true, ◌||◌, ◌==◌}

-- CR, LF, or a byte of a byte order mark
abbrev pub is_blank : ℕ → Bool
is_blank b = (b == 13) || (b == 10) || (b == 0xEF) || (b == 0xBB) || (b == 0xBF)

abbrev pub IsBlank : ℕ → Type 0
IsBlank b = is_blank b ≡ true
