use Rattle.std.proofs.Common.{◌≡◌, ◌+◌, ◌∷◌, [], All, List, arith, ap, length, subst, sym}
use Rattle.std.specs.Vec.Iter.{into_iter_items}
use Rattle.std.proofs.lemmas.List.{nil_from_length}
use Rattle.std.proofs.lemmas.List.Elements.{All-cons, All-nil}
use Rattle.hj_worker.specs.Seen.{WorkerSeen}
use Rattle.hj_crew.specs.Cores.{GivesEnds, TakesItsTurns}
use Rattle.hj_crew.specs.Room.{HasEndRoom}
use Rattle.hj_crew.proofs.MadeTeams.{gives-more, gives-none}
use Rattle.hj_crew.proofs.closing.hand_in_all.Goals as goal

pub loop-worker-init : goal.loop-worker-init
loop-worker-init g c =
    let are : into_iter_items c.into_iter-worker-iterator.result ≡ c.args.workers.items = c.into_iter-worker-iterator.ensures.into_iter_gives.0 in
    record {
      ends = λ last given. subst (λ (workers : List (WorkerSeen g.row.P.Denot g.row.J.Denot)). GivesEnds workers last c.args.ends.now) are given;
      turns = λ all. subst (All (TakesItsTurns g.J.Join.predicate)) are all;
      room = subst (λ k. HasEndRoom k c.args.ends.now) (sym (ap length are)) c.requires;
    }

pub loop-worker-preserved : goal.loop-worker-preserved
loop-worker-preserved g c =
    let worker = c.in-Some.worker in
    let ends = c.loop-worker.ends in
    let before = into_iter_items c.loop-worker.worker-iterator in
    let after = into_iter_items c.next.new.self in
    let next : before ≡ worker ∷ after = c.in-Some.ensures.steps.0 in
    let count : length before ≡ length after + 1 = omega (arith, ap length next) in
    record {
      ends = λ last given.
          c.loop-worker.invariant.ends last
          (subst (λ (workers : List (WorkerSeen g.row.P.Denot g.row.J.Denot)). GivesEnds workers last ends) (sym next)
          (gives-more worker after last c.hand_in.new.ends ends given c.hand_in.ensures.ends));
      turns = λ all.
          c.loop-worker.invariant.turns (subst (All (TakesItsTurns g.J.Join.predicate)) (sym next) (All-cons (TakesItsTurns g.J.Join.predicate) worker after c.hand_in.ensures.turns all));
      room = c.hand_in.ensures.room (length after) (subst (λ k. HasEndRoom k ends) count c.loop-worker.invariant.room);
    }

pub returns-clause-ends : goal.returns-clause-ends
returns-clause-ends g c =
    let left = into_iter_items c.loop-worker.worker-iterator in
    let none : left ≡ [] = nil_from_length left (omega (arith, c.in-None.ensures.steps.0)) in
    c.loop-worker.invariant.ends c.loop-worker.ends
    (subst (λ (workers : List (WorkerSeen g.row.P.Denot g.row.J.Denot)). GivesEnds workers c.loop-worker.ends c.loop-worker.ends) (sym none) (gives-none c.loop-worker.ends))

pub returns-clause-turns : goal.returns-clause-turns
returns-clause-turns g c =
    let left = into_iter_items c.loop-worker.worker-iterator in
    let none : left ≡ [] = nil_from_length left (omega (arith, c.in-None.ensures.steps.0)) in
    c.loop-worker.invariant.turns (subst (All (TakesItsTurns g.J.Join.predicate)) (sym none) (All-nil (TakesItsTurns g.J.Join.predicate)))

pub returns-clause-room : goal.returns-clause-room
returns-clause-room g c =
    let none : length (into_iter_items c.loop-worker.worker-iterator) ≡ 0 = omega (arith, c.in-None.ensures.steps.0) in
    subst (λ k. HasEndRoom k c.loop-worker.ends) none c.loop-worker.invariant.room
