use Rattle.std.proofs.Common.{All, length}
use Rattle.std.specs.Vec.Iter.{into_iter_items}
use Rattle.hj_crew.specs.declared.ends.ChainEnds.{ChainEnds}
use Rattle.hj_crew.specs.Cores.{GivesEnds, TakesItsTurns}
use Rattle.hj_crew.specs.Room.{HasEndRoom}
use Rattle.hj_crew.proofs.closing.hand_in_all.Given as goal

-- What those that are left hand in comes behind the ends of the others, and there is room for it.
abbrev pub invariant-loop-worker : goal.invariant-loop-worker
invariant-loop-worker g l = record {
  ends : (last : ChainEnds g.row.P.Denot) → GivesEnds (into_iter_items l.worker-iterator) last l.ends → GivesEnds l.fn.workers.items last l.fn.ends;
  turns : All (TakesItsTurns g.J.Join.predicate) (into_iter_items l.worker-iterator) → All (TakesItsTurns g.J.Join.predicate) l.fn.workers.items;
  room : HasEndRoom (length (into_iter_items l.worker-iterator)) l.ends;
}
