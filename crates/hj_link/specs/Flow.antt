-- One direction of a link, as data: what was put and taken, its two words, and its ring of slots.
use Rattle.std.specs.Prelude.{◌≡◌, ℕ, Bool, true, false, ◌+◌, ◌^◌, ◌%◌, ◌<◌, ◌≤◌, List, length}
use mathlib.Core.Option.{Option, some}
use lib.ListN.{get_elem?}
use Rattle.hj_base.specs.Journals.{IsPrefix}
use Rattle.hj_link.specs.declared.table.MessageSlot.{MessageSlot}
use Rattle.hj_link.specs.declared.table.MessageSlot.TheVariants.{Empty, Filled}
use Rattle.hj_link.specs.declared.turn_no.TurnNo.{TurnNo}

-- a slot without a message
abbrev pub IsEmpty : {M : Type 0} → MessageSlot M → Type 0
IsEmpty slot = (turn : TurnNo) × (slot ≡ Empty turn)

-- The ring has `capacity` slots from `base` on; the message of place p, counted from 0, lies in the slot p % capacity of it. A
-- direction of capacity 0 has no slot, and nothing is ever put.
module _ {M : Type 0} where
  -- a published slot that is at home has the message of its place
  abbrev pub AreFilled : (capacity base : ℕ) → List (Option (MessageSlot M)) → List M → List M → Bool → Type 0
  AreFilled capacity base homes sent got fetching = (p : ℕ) (m : M) → length got ≤ p → get_elem? sent p ≡ some m → (p ≡ length got → fetching ≡ false)
      → (turn : TurnNo) × (get_elem? homes (base + p % capacity) ≡ some (some (Filled turn m)))

  -- the slot of a free place is at home and empty unless it is the one that is out for a put
  abbrev pub AreVacant : (capacity base : ℕ) → List (Option (MessageSlot M)) → List M → List M → Bool → Type 0
  AreVacant capacity base homes sent got putting = (p : ℕ) → length sent ≤ p → p < length got + capacity → (p ≡ length sent → putting ≡ false)
      → (turn : TurnNo) × (get_elem? homes (base + p % capacity) ≡ some (some (Empty turn)))

-- `sent` was put and `got` was taken. Of `sent` the taking end knows `known`, and of `got` the putting end knows the number
-- `known_takes`. A list `homes` has each slot's value, or nothing where the slot is out: `putting` says so of the slot of the
-- next place to put into, and `fetching` of that of the next place to take from.
pub record Flow {M : Type 0} (capacity base put_word take_word : ℕ) (homes : List (Option (MessageSlot M))) (sent got known : List M) (known_takes : ℕ) (putting fetching : Bool) : Type 0 where
  pub fits : base + capacity ≤ length homes
  -- a word is a count modulo 2^64
  pub put_is : put_word ≡ length sent % 2 ^ 64
  pub take_is : take_word ≡ length got % 2 ^ 64
  -- an end knows of no more than there is, and goes by what it knows
  pub learned : IsPrefix known sent
  pub taken : IsPrefix got known
  pub stale : known_takes ≤ length got
  pub within : length sent ≤ known_takes + capacity
  -- a slot is out only for a place that is known to be free, or to have its message
  pub free_there : putting ≡ true → length sent < known_takes + capacity
  pub some_there : fetching ≡ true → length got < length known
  pub full : AreFilled capacity base homes sent got fetching
  pub vacant : AreVacant capacity base homes sent got putting
