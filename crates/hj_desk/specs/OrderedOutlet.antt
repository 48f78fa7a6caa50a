-- Pairs that are given in the order of the sequential join.
use Rattle.std.specs.Prelude.{ℕ, Bool, List}
use Rattle.hj_msg.specs.declared.drain.Drained.{Drained}
use Rattle.hj_msg.specs.declared.event.Pair.{Pair}
use Rattle.hj_msg.specs.Drain.{Drainage, TakesAll, pairs_in}
pub use Rattle.hj_collect.specs.Giving.{AreAnswered}
use Rattle.hj_raw.specs.Items.{TakenReport, lists_of}
use Rattle.hj_desk.specs.declared.in_order.OrderedOutlet.{OrderedOutlet}
use Rattle.hj_desk.specs.Releases.{Releases}

-- The drain took pairs, the first ones of those that are emitted of these reports.
pub record GivesInOrder {P D : Type 0} (takes : D → Pair P → Drained → D → Type 0) (begun : OrderedOutlet P D) (cores : ℕ) (taken : List (TakenReport P)) (over : Bool) (answer : Drained) (now : OrderedOutlet P D) : Type 0 where
  pub pairs : List (Drainage P)
  pub drain : TakesAll takes begun.drain pairs now.drain
  pub answered : AreAnswered answer pairs
  pub released : Releases (lists_of cores taken) over now.kept (pairs_in pairs)
