-- What is seen of a link: two queues between neighbours, each of which holds at most so many messages.
use Rattle.std.specs.Prelude.{ℕ, List, []}

pub record Queues (M : Type 0) : Type 0 where
  -- how many messages each direction holds at most
  pub capacity : ℕ
  -- the messages under way to the right neighbour, the one that was put first in front
  pub rightwards : List M
  -- and to the left one
  pub leftwards : List M

-- a link on which nothing is under way
abbrev pub no_messages : {M : Type 0} → ℕ → Queues M
no_messages capacity = record { capacity = capacity; rightwards = []; leftwards = [] }
