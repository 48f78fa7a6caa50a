-- What a link promises, said of the journals of its two ends alone. It joins two neighbours by a FIFO queue in each
-- direction (handshake join: Teubner and Mueller, SIGMOD 2011); that the two directions know of each other, as `in_time`
-- says, is this project's own profile.
use Rattle.std.specs.Prelude.{◌≡◌, ℕ, ◌+◌, ◌<◌, ◌≤◌, List, ◌++◌, length}
use Rattle.hj_base.specs.Journals.{Entry, IsPrefix, puts, takes}

-- the journals of the ends of a link that goes both ways
pub record Link (M : Type 0) : Type 0 where
  pub left : List (Entry M)
  pub right : List (Entry M)

-- the journals of the ends of a link that goes one way
pub record OneWay (M : Type 0) : Type 0 where
  pub sender : List (Entry M)
  pub receiver : List (Entry M)

-- From one end to the other: what was taken is a prefix of what was put, and puts minus takes is at most the capacity.
pub record Flows {M : Type 0} (capacity : ℕ) (sender receiver : List (Entry M)) : Type 0 where
  pub taken : IsPrefix (takes receiver) (puts sender)
  pub room : length (puts sender) ≤ length (takes receiver) + capacity

-- An end took the message at place `from_other` of the other end before it put its own at place `own`, both counted
-- from 0: at some moment it had taken the one, and was yet to put the other.
pub record TookBeforePut {M : Type 0} (journal : List (Entry M)) (from_other own : ℕ) : Type 0 where
  pub before : List (Entry M)
  pub after : List (Entry M)
  pub moment : journal ≡ before ++ after
  pub took : from_other < length (takes before)
  pub yet_to_put : length (puts before) ≤ own
  pub put : own < length (puts journal)

-- The journals of a link of this capacity agree: each direction flows, and there are no two messages, one from each end,
-- such that either end took the other's before it put its own.
pub record Agrees {M : Type 0} (capacity : ℕ) (link : Link M) : Type 0 where
  pub rightwards : Flows capacity link.left link.right
  pub leftwards : Flows capacity link.right link.left
  pub in_time : (p q : ℕ) → TookBeforePut link.left q p → ¬ (TookBeforePut link.right p q)

-- The same of a link that goes one way.
pub record AgreesOneWay {M : Type 0} (capacity : ℕ) (link : OneWay M) : Type 0 where
  pub flows : Flows capacity link.sender link.receiver
