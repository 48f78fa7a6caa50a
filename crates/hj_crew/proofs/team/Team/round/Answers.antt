use Rattle.std.proofs.Common.{◌∙◌, List, arith, ap, length, subst, sym}
use Rattle.std.specs.List.{AllZip}
use Rattle.std.proofs.lemmas.List.{get_or_read}
use Rattle.hj_worker.specs.Seen.{WorkerSeen}
use Rattle.hj_worker.specs.Turning.{StaysItself}
use Rattle.hj_crew.proofs.Staying.{related-goes_on, related-refl, stays, stays-on, written_back}
use Rattle.hj_crew.proofs.team.Team.round.Goals as goal

pub loop-worker-init : goal.loop-worker-init
loop-worker-init g c =
    let items = c.args.self.now.workers.items in
    subst (λ (l : List (WorkerSeen g.row.P.Denot g.row.J.Denot)). AllZip StaysItself items l) (sym c.deref_mut-worker-items.ensures.value) (related-refl StaysItself stays items)

pub loop-worker-preserved : goal.loop-worker-preserved
loop-worker-preserved g c =
    related-goes_on StaysItself stays-on c.args.self.now.workers.items c.loop-worker.worker-items c.loop-worker.worker-index c.turn_on.new.worker c.loop-worker.invariant (
    λ d low. subst (λ (worker : WorkerSeen g.row.P.Denot g.row.J.Denot). StaysItself worker c.turn_on.new.worker)
    (sym c.worker-item.is ∙ get_or_read c.loop-worker.worker-items c.loop-worker.worker-index c.worker-item.result low c.worker-item.is d) c.turn_on.ensures
    )

pub returns : goal.returns
returns g c =
    let items = c.args.self.now.workers.items in
    let as_many = ap length c.deref_mut-worker-items.ensures.value in
    subst (λ (l : List (WorkerSeen g.row.P.Denot g.row.J.Denot)). AllZip StaysItself items l)
    (sym (written_back items c.loop-worker.worker-items c.args.self.now.workers.len (omega (arith, as_many, c.loop-worker.auto.worker-items)) (omega (arith, as_many, c.deref_mut-worker-items.ensures.len)))) c.loop-worker.invariant
