-- Where the ends of a link lie in its table. An end is told by a truth value, which is `true` for the left one.
use Rattle.std.specs.Prelude.{◌≡◌, ℕ, Bool, true, false, ◌+◌, ◌%◌}
use Rattle.atomic_table.specs.Seated.{TableId}
use Rattle.hj_link.specs.declared.endpoints.CounterWords.{CounterWords}
use Rattle.hj_link.specs.declared.table.Capacities.{Capacities}

-- Word 0 counts the puts of the left end, word 16 the takes of these by the right end, word 32 the puts of the right end, and
-- word 48 the takes of these by the left end.
abbrev pub words_of : Bool → CounterWords
words_of true = record { puts = 0; takes = 48; other_puts = 32; other_takes = 16 }
words_of false = record { puts = 32; takes = 16; other_puts = 0; other_takes = 48 }

-- the room of the direction into which an end puts
abbrev pub capacity_of : Bool → Capacities → ℕ
capacity_of true capacities = capacities.rightwards
capacity_of false capacities = capacities.leftwards

-- the first slot of the ring into which it puts
abbrev pub base_of : Bool → Capacities → ℕ
base_of true capacities = 0
base_of false capacities = capacities.rightwards

-- the slot of place p of that ring, counted from 0
abbrev pub slot_of : Bool → Capacities → ℕ → ℕ
slot_of side capacities p = base_of side capacities + p % capacity_of side capacities

-- a seat of the table of a link
abbrev pub IsOfLink : TableId → TableId → Type 0
IsOfLink seat table = (seat ≡ table) × (table.words ≡ 64)
