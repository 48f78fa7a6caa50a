use Rattle.std.proofs.Common.{◌≡◌, ◌++◌, [], ◌∙◌, List, append-nil, ap, arith, reverse, sym}
use Rattle.std.proofs.lemmas.List.{nil_from_length}
use Rattle.hj_worker.specs.Seen.{WorkerSeen}
use Rattle.hj_crew.proofs.Handing.{last-over}
use Rattle.hj_crew.proofs.deal.take_over.Goals as goal

pub loop-worker-preserved : goal.loop-worker-preserved
loop-worker-preserved g c =
    let team = c.args.team.workers.items in
    record {
      taken =
          last-over c.loop-worker.workers.items c.push_reserved.new.self.items c.loop-worker.team.workers.items c.pop.new.self.items c.in-Some.worker (c.args.workers.now.items ++ reverse team) c.in-Some.ensures.items
          c.push_reserved.ensures.items c.loop-worker.invariant.taken;
      room = omega (arith, c.loop-worker.invariant.room, c.in-Some.ensures.len, c.push_reserved.ensures.len, c.push_reserved.ensures.capacity);
      capacity = omega (arith, c.push_reserved.ensures.capacity, c.loop-worker.invariant.capacity);
    }

pub returns-clause-workers : goal.returns-clause-workers
returns-clause-workers g c =
    let held = c.loop-worker.workers.items in
    let left = c.loop-worker.team.workers.items in
    let none : left ≡ [] = nil_from_length left (omega (arith, c.in_default.ensures.cases.0)) in
    sym (append-nil held) ∙ ap (λ (l : List (WorkerSeen g.row.P.Denot g.row.J.Denot)). held ++ reverse l) (sym none) ∙ c.loop-worker.invariant.taken
