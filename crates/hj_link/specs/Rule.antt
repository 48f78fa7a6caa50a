-- What the ends of a link have done and know, and the rule that the table of a link keeps between any two steps. A link that
-- goes one way keeps it too: its left end is the sender, its right end the receiver, and its way back has no slot.
use Rattle.std.specs.Prelude.{◌≡◌, ◌≢◌, ℕ, Bool, true, false, ◌+◌, ◌%◌, List, [], length, map, slice_index_or}
use lib.ListN.{get_elem?}
use mathlib.Core.Option.{Option, some}
use Rattle.hj_base.specs.Journals.{Entry, puts, takes}
use Rattle.hj_base.specs.Link.{TookBeforePut}
use Rattle.atomic_table.specs.Table.{State, Me}
use Rattle.hj_link.specs.declared.table.MessageSlot.{MessageSlot}
use Rattle.hj_link.specs.declared.table.Capacities.{Capacities}
use Rattle.hj_link.specs.declared.table.JournalEntry.{JournalEntry}
use Rattle.hj_link.specs.declared.table.EndState.{EndState}
use Rattle.hj_link.specs.declared.table.SeatView.{SeatView}
use Rattle.hj_link.specs.Flow.{Flow}
use Rattle.hj_link.specs.Looks.{Looks}

-- a seat in a step: its view, and the slots that it has taken out, each with its value
abbrev pub Seated : Type 0 → Type 0
Seated M = Me (MessageSlot M) (SeatView M)

module _ {M : Type 0} where
  abbrev pub entry_of : JournalEntry M → Entry M
  entry_of noted = record { is_put = noted.is_put; turn = noted.turn; message = noted.message }

  abbrev pub journal_of : EndState M → List (Entry M)
  journal_of end = map entry_of end.journal

  -- the messages that an end has put, and those that it has taken
  abbrev pub sent : EndState M → List M
  sent end = puts (journal_of end)

  abbrev pub got : EndState M → List M
  got end = takes (journal_of end)

  -- an end that has done nothing yet
  abbrev pub new_end : EndState M
  new_end = record { journal = []; known = []; known_takes = 0; putting = false; fetching = false; full_looks = 0; empty_looks = 0; full_at = []; empty_at = []; fulls_before = []; empties_before = [] }

  abbrev pub view : Capacities → Bool → EndState M → Bool → EndState M → SeatView M
  view capacities has_left left has_right right = record { capacities = capacities; has_left = has_left; left = left; has_right = has_right; right = right }

  -- the view of the first seat, which has both ends
  abbrev pub opened : Capacities → SeatView M
  opened capacities = view capacities true new_end true new_end

  -- There are no two messages, one from each end, such that either end took the other's before it put its own.
  abbrev pub InTime : List (Entry M) → List (Entry M) → Type 0
  InTime one two = (p q : ℕ) → TookBeforePut one q p → ¬ (TookBeforePut two p q)

  -- Both directions of a link: `one` puts into the ring of `capacity` slots from `base` on, and `two` into that of `capacity'`
  -- slots from `base'` on. The words count the puts of `one` and the takes of these by `two`, and then the puts of `two` and the
  -- takes of these by `one`. No slot is of both rings.
  pub record Opposed (capacity base capacity' base' put_word take_word put_word' take_word' : ℕ) (homes : List (Option (MessageSlot M))) (one two : EndState M) : Type 0 where
    pub apart : (p q : ℕ) → base + p % capacity ≢ base' + q % capacity'
    pub there : Flow capacity base put_word take_word homes (sent one) (got two) two.known one.known_takes one.putting two.fetching
    pub back : Flow capacity' base' put_word' take_word' homes (sent two) (got one) one.known two.known_takes two.putting one.fetching
    pub in_time : InTime (journal_of one) (journal_of two)
    pub looks_there : Looks capacity (length (sent one)) (length (got two)) one.full_looks two.empty_looks one.full_at two.empty_at two.fulls_before one.empties_before
    pub looks_back : Looks capacity' (length (sent two)) (length (got one)) two.full_looks one.empty_looks two.full_at one.empty_at one.fulls_before two.empties_before

  -- the seat number `j` has this view, which is right about each end that it has; one seat alone has an end
  pub record Knows (capacities : Capacities) (left_id right_id : ℕ) (left right : EndState M) (j : ℕ) (v : SeatView M) : Type 0 where
    pub of_left : v.has_left ≡ true → (j ≡ left_id) × (v.left ≡ left) × (v.capacities ≡ capacities)
    pub of_right : v.has_right ≡ true → (j ≡ right_id) × (v.right ≡ right) × (v.capacities ≡ capacities)

  -- The ring of what goes rightwards comes first. The words are those of `words_of`.
  pub record Rule (capacities : Capacities) (s : State (MessageSlot M) (SeatView M)) : Type 0 where
    pub left_id : ℕ
    pub right_id : ℕ
    pub left : EndState M
    pub right : EndState M
    pub wide : length s.words ≡ 64
    pub sized : length s.homes ≡ capacities.rightwards + capacities.leftwards
    pub flows : Opposed capacities.rightwards 0 capacities.leftwards capacities.rightwards (slice_index_or s.words 0 0) (slice_index_or s.words 16 0) (slice_index_or s.words 32 0) (slice_index_or s.words 48 0) s.homes left right
    pub each_seat : (j : ℕ) (v : SeatView M) → get_elem? s.views j ≡ some v → Knows capacities left_id right_id left right j v
