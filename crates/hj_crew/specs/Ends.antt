-- The ends of the links and queues of a chain.
use Rattle.std.specs.Prelude.{◌≡◌, ℕ, ◌+◌, ◌*◌, List, [], ◌∷◌, ◌++◌, All, length}
use Rattle.hj_msg.specs.declared.message.Msg.{Msg}
use Rattle.hj_msg.specs.declared.message.Report.{Report}
use Rattle.hj_link.specs.Seen.{EndSeen}
use Rattle.hj_desk.specs.declared.desk.Desk.{Desk}
use Rattle.hj_crew.specs.declared.ends.ChainEnds.{ChainEnds}
use Rattle.hj_crew.specs.Links.{AreLinked, IsNewEnd}

-- The ends of the links and queues of so many cores, at which nothing was put or taken yet. The last right end stands beside them.
pub record AreNew {P : Type 0} (cores capacity : ℕ) (ends : ChainEnds P) (last : EndSeen (Msg P)) : Type 0 where
  pub links : length ends.left.items ≡ cores + 1
  pub queues : length ends.senders.items ≡ cores
  pub linked : AreLinked ends.left.items (ends.right.items ++ last ∷ [])
  pub queued : AreLinked ends.senders.items ends.receivers.items
  pub left : All (IsNewEnd capacity) ends.left.items
  pub right : All (IsNewEnd capacity) (ends.right.items ++ last ∷ [])
  pub senders : All (IsNewEnd capacity) ends.senders.items
  pub receivers : All (IsNewEnd capacity) ends.receivers.items

-- The cores' ends, by their places, make one chain with a desk: its left port is the left end of the first link, and its right
-- port the right end of the last one.
pub record FormChain {P : Type 0} (desk : Desk P) (left right : List (EndSeen (Msg P))) (senders : List (EndSeen (Report P))) : Type 0 where
  pub cores : length left ≡ length desk.reports.items
  pub links : AreLinked (desk.ports.left ∷ right) (left ++ desk.ports.right ∷ [])
  pub queues : AreLinked senders desk.reports.items
  -- what the links and the queues hold, by the events that may be outstanding
  pub link_capacity : All (λ end. end.capacity ≡ 2 * desk.driver.flight + 2) (desk.ports.left ∷ right)
  pub queue_capacity : All (λ sender. sender.capacity ≡ 2 * desk.driver.flight + 2) senders
