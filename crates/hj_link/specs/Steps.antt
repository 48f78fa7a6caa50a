-- What each step tells the end of a side that makes it. A step finds `found` in a word, and its seat `m` becomes `m'`.
use Rattle.std.specs.Prelude.{◌≡◌, ℕ, Bool, true, false, not, ◌+◌, ◌^◌, ◌%◌, ◌≤◌, ◌==◌, List, [], ◌∷◌, ◌++◌, length}
use lib.ListN.{get_elem?}
use mathlib.Core.Option.{some}
use Rattle.hj_base.specs.Journals.{IsPrefix}
use Rattle.hj_base.specs.Link.{Flows}
use Rattle.atomic_table.specs.Table.{rest}
use Rattle.hj_link.specs.declared.table.MessageSlot.{MessageSlot}
use Rattle.hj_link.specs.declared.table.MessageSlot.TheVariants.{Empty, Filled}
use Rattle.hj_link.specs.declared.table.JournalEntry.{JournalEntry}
use Rattle.hj_link.specs.declared.turn_no.TurnNo.{TurnNo}
use Rattle.hj_link.specs.declared.table.Capacities.{Capacities}
use Rattle.hj_link.specs.declared.table.EndState.{EndState}
use Rattle.hj_link.specs.declared.table.SeatView.{SeatView}
use Rattle.hj_link.specs.Words.{capacity_of, slot_of}
use Rattle.hj_link.specs.Rule.{Seated, journal_of, sent, got, view, new_end, InTime}

abbrev pub one_if : Bool → ℕ
one_if true = 1
one_if false = 0

abbrev pub mark_if : Bool → ℕ → List ℕ
mark_if true n = n ∷ []
mark_if false n = []

-- the turn of this number
abbrev pub turn_no : ℕ → TurnNo
turn_no number = record { number = number }

-- no room in either direction
abbrev pub no_room : Capacities
no_room = record { rightwards = 0; leftwards = 0 }

module _ {M : Type 0} where
  -- whether a view has the end of a side, and that end
  abbrev pub has_end : Bool → SeatView M → Bool
  has_end true v = v.has_left
  has_end false v = v.has_right

  abbrev pub end_of : Bool → SeatView M → EndState M
  end_of true v = v.left
  end_of false v = v.right

  abbrev pub with_end : Bool → SeatView M → EndState M → SeatView M
  with_end true v end = record v { left = end }
  with_end false v end = record v { right = end }

  -- the end of a side as the seat of it knows it, and that seat with the end changed
  abbrev pub own : Bool → Seated M → EndState M
  own side m = end_of side m.0

  abbrev pub changed : Bool → Seated M → EndState M → SeatView M
  changed side m end = with_end side m.0 end

  -- the room of the direction into which it puts, and of the one from which it takes
  abbrev pub room_there : Bool → Seated M → ℕ
  room_there side m = capacity_of side m.0.capacities

  abbrev pub room_back : Bool → Seated M → ℕ
  room_back side m = capacity_of (not side) m.0.capacities

  -- the slot of the next place to put into, and that of the next place to take from
  abbrev pub put_slot : Bool → Seated M → ℕ
  put_slot side m = slot_of side m.0.capacities (length (sent (own side m)))

  abbrev pub take_slot : Bool → Seated M → ℕ
  take_slot side m = slot_of (not side) m.0.capacities (length (got (own side m)))

  -- the end saw that so many of its puts were taken; a full look is one that found as many under way as the capacity
  abbrev pub saw_takes : ℕ → EndState M → ℕ → EndState M
  saw_takes capacity end taken = record end { known_takes = taken; full_looks = end.full_looks + one_if (length (sent end) == taken + capacity); full_at = end.full_at ++ mark_if (length (sent end) == taken + capacity) (length (sent end)) }

  -- the end saw these puts of the other one; an empty look is one that found as many as it has taken
  abbrev pub saw_puts : EndState M → List M → EndState M
  saw_puts end put = record end { known = put; empty_looks = end.empty_looks + one_if (length put == length (got end)); empty_at = end.empty_at ++ mark_if (length put == length (got end)) (length (got end)) }

  abbrev pub set_putting : EndState M → Bool → EndState M
  set_putting end is_out = record end { putting = is_out }

  abbrev pub set_fetching : EndState M → Bool → EndState M
  set_fetching end is_out = record end { fetching = is_out }

  abbrev pub noted : Bool → ℕ → M → JournalEntry M
  noted is_put turn message = record { is_put = is_put; turn = turn; message = message }

  -- a put behind so many empty looks of the other end, and a take behind so many full ones
  abbrev pub after_put : EndState M → ℕ → M → ℕ → EndState M
  after_put end turn message empties = record end { journal = end.journal ++ noted true turn message ∷ []; putting = false; empties_before = end.empties_before ++ empties ∷ [] }

  abbrev pub after_take : EndState M → ℕ → M → ℕ → EndState M
  after_take end turn message fulls = record end { journal = end.journal ++ noted false turn message ∷ []; fetching = false; fulls_before = end.fulls_before ++ fulls ∷ [] }

  -- look for room: the word of the other end's takes is read
  abbrev pub looks_for_room : Bool → Seated M → ℕ → Seated M → Type 0
  looks_for_room side m found m' = (taken : ℕ) × (found ≡ taken % 2 ^ 64) × ((own side m).known_takes ≤ taken) × (taken ≤ length (sent (own side m))) × (length (sent (own side m)) ≤ taken + room_there side m)
      × (m' ≡ (changed side m (saw_takes (room_there side m) (own side m) taken), m.1))

  -- look for a message: the word of the other end's puts is read
  abbrev pub looks_for_message : Bool → Seated M → ℕ → Seated M → Type 0
  looks_for_message side m found m' = (put : List M) × (found ≡ length put % 2 ^ 64) × IsPrefix (own side m).known put × (length (got (own side m)) ≤ length put) × (length put ≤ length (got (own side m)) + room_back side m)
      × (m' ≡ (changed side m (saw_puts (own side m) put), m.1))

  -- take out the slot of the next place to put into, which is empty
  abbrev pub reserves : Bool → Seated M → Seated M → Type 0
  reserves side m m' = (turn : TurnNo) × (m' ≡ (changed side m (set_putting (own side m) true), (put_slot side m, Empty turn) ∷ m.1))

  -- the end after it published the slot that was taken out last, whose turn and message are those of the put
  abbrev pub laid : EndState M → List (ℕ × MessageSlot M) → ℕ → EndState M
  laid end [] empties = end
  laid end ((k, Empty turn) ∷ others) empties = end
  laid end ((k, Filled turn message) ∷ others) empties = after_put end turn.number message empties

  -- publish a put: the slot comes home
  abbrev pub publishes : Bool → Seated M → Seated M → Type 0
  publishes side m m' = (empties : ℕ) × (m' ≡ (changed side m (laid (own side m) m.1 empties), rest m.1))

  -- take out the slot of the next known put, which has its message
  abbrev pub fetches : Bool → Seated M → Seated M → Type 0
  fetches side m m' = (turn : TurnNo) × (message : M) × (get_elem? (own side m).known (length (got (own side m))) ≡ some message)
      × (m' ≡ (changed side m (set_fetching (own side m) true), (take_slot side m, Filled turn message) ∷ m.1))

  -- the end after it published the slot that was taken out last, whose turn is that of the take
  abbrev pub emptied : EndState M → List (ℕ × MessageSlot M) → M → ℕ → EndState M
  emptied end [] message fulls = end
  emptied end ((k, Empty turn) ∷ others) message fulls = after_take end turn.number message fulls
  emptied end ((k, Filled turn old) ∷ others) message fulls = end

  -- publish a take: its message is the next known put, and the slot comes home
  abbrev pub publishes_take : Bool → Seated M → Seated M → Type 0
  publishes_take side m m' = (message : M) × (get_elem? (own side m).known (length (got (own side m))) ≡ some message) × (fulls : ℕ) × (m' ≡ (changed side m (emptied (own side m) m.1 message fulls), rest m.1))

  -- the journals of the two ends of a view agree
  pub record Meets (v : SeatView M) : Type 0 where
    pub rightwards : Flows v.capacities.rightwards (journal_of v.left) (journal_of v.right)
    pub leftwards : Flows v.capacities.leftwards (journal_of v.right) (journal_of v.left)
    pub in_time : InTime (journal_of v.left) (journal_of v.right)

  -- the seat of both ends learns that their journals agree
  abbrev pub learns : Seated M → Seated M → Type 0
  learns m m' = (m' ≡ m) × Meets m.0

  -- the seat of both ends is cut into one for each
  abbrev pub left_alone : SeatView M → SeatView M
  left_alone v = record v { has_right = false; right = new_end }

  abbrev pub right_alone : SeatView M → SeatView M
  right_alone v = record v { has_left = false; left = new_end }

  -- the seats of the two ends are joined, and one is spent
  abbrev pub both_ends : SeatView M → SeatView M → SeatView M
  both_ends v w = view v.capacities v.has_left v.left w.has_right w.right

  abbrev pub neither : SeatView M
  neither = view no_room false new_end false new_end

  -- the slot of the end's next place to put into is out with this value, or that of its next place to take from, and no other
  abbrev pub holding : Bool → Seated M → MessageSlot M → Seated M
  holding side m value = (changed side m (set_putting (own side m) true), (put_slot side m, value) ∷ [])

  abbrev pub holding_taken : Bool → Seated M → MessageSlot M → Seated M
  holding_taken side m value = (changed side m (set_fetching (own side m) true), (take_slot side m, value) ∷ [])

  -- a message was laid into the slot of the next place, and is to be published
  pub record IsLaid (side : Bool) (m : Seated M) : Type 0 where
    pub turn : TurnNo
    pub message : M
    pub has : has_end side m.0 ≡ true
    pub is_out : (own side m).putting ≡ true
    pub held : m.1 ≡ (put_slot side m, Filled turn message) ∷ []

  -- the slot of the next known put was emptied, and is to be published
  pub record IsEmptied (side : Bool) (m : Seated M) : Type 0 where
    pub turn : TurnNo
    pub message : M
    pub has : has_end side m.0 ≡ true
    pub is_out : (own side m).fetching ≡ true
    pub held : m.1 ≡ (take_slot side m, Empty turn) ∷ []
    pub next : get_elem? (own side m).known (length (got (own side m))) ≡ some message
