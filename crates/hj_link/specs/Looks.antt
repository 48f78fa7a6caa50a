-- The looks of both ends of one direction of a link, as data: those of the putting end that found no room, and those of the taking
-- end that found no message.
use Rattle.std.specs.Prelude.{◌≡◌, ℕ, ◌+◌, ◌<◌, ◌≤◌, List, length}
use mathlib.Core.Option.{some}
use lib.ListN.{get_elem?}

-- So many messages were put, `sent`, and so many taken, `got`. There were `fulls` full looks, and `full_at` has for each the puts
-- that were made by then; `empty_at` has for each empty look the takes that were made by then. `empties_before` has for each put how
-- many empty looks came before it, and `fulls_before` for each take how many full ones. So no look is counted but where the
-- direction was full, or empty: what was put before an empty look had been taken by then, and what was taken before a full look
-- had been put again.
pub record Looks (capacity sent got fulls empties : ℕ) (full_at empty_at fulls_before empties_before : List ℕ) : Type 0 where
  pub each_full : length full_at ≡ fulls
  pub each_empty : length empty_at ≡ empties
  pub each_put : length empties_before ≡ sent
  pub each_take : length fulls_before ≡ got
  pub puts_by_then : (look puts : ℕ) → get_elem? full_at look ≡ some puts → (puts ≤ sent) × (capacity ≤ puts)
  pub takes_by_then : (look takes : ℕ) → get_elem? empty_at look ≡ some takes → takes ≤ got
  pub fulls_by_then : (take looks : ℕ) → get_elem? fulls_before take ≡ some looks → looks ≤ fulls
  pub empties_by_then : (put looks : ℕ) → get_elem? empties_before put ≡ some looks → looks ≤ empties
  pub was_full : (look puts take looks : ℕ) → get_elem? full_at look ≡ some puts → get_elem? fulls_before take ≡ some looks → looks ≤ look → take + 1 + capacity ≤ puts
  pub was_empty : (look takes put looks : ℕ) → get_elem? empty_at look ≡ some takes → get_elem? empties_before put ≡ some looks → looks ≤ look → put < takes
