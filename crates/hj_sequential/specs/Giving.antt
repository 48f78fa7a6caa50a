-- The pairs of one event, given to a drain.
use Rattle.std.specs.Prelude.{true, List}
use Rattle.hj_msg.specs.declared.drain.Drained.{Drained}
use Rattle.hj_msg.specs.declared.event.Pair.{Pair}
use Rattle.hj_msg.specs.declared.fin.Fin.{Fin}
use Rattle.hj_msg.specs.Drain.{Drainage, TakesAll}
use Rattle.hj_msg.specs.RunsJoin.{EndsJoin}

-- The drain took these pairs one after another: with Done it kept them all, else it took the first ones of them.
pub record GivesListed {P D : Type 0} (takes : D → Pair P → Drained → D → Type 0) (pairs : List (Pair P)) (ended : Fin) (unfilled filled : D) : Type 0 where
  pub taken : List (Drainage P)
  pub drain : TakesAll takes unfilled taken filled
  pub ends : EndsJoin ended true taken pairs
