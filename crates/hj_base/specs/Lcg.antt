-- Numbers that a seed determines: a linear congruential generator of 64 bits with the multiplier and the increment of MMIX
-- (Knuth, The Art of Computer Programming, volume 2, section 3.3.4). Of each number that it comes to, the upper 31 bits are drawn.
use Rattle.std.specs.Prelude.{ℕ, ◌+◌, ◌*◌, ◌^◌, ◌%◌, ◌/◌}

-- the number that comes after this one
abbrev pub next : ℕ → ℕ
next held = (held * 6364136223846793005 + 1442695040888963407) % 2 ^ 64

-- what is drawn of a number that was come to
abbrev pub drawn : ℕ → ℕ
drawn held = held / 2 ^ 33
