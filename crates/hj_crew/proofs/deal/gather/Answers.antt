use Rattle.std.proofs.Common.{◌≡◌, ◌∷◌, ◌++◌, [], List, ap, ap₂, arith, length}
use Rattle.std.specs.Vec.Iter.{into_iter_items}
use Rattle.std.proofs.lemmas.List.{nil_from_length}
use Rattle.hj_worker.specs.Seen.{WorkerSeen}
use Rattle.hj_crew.specs.declared.team.Team.{Team}
use Rattle.hj_crew.specs.Deal.{gathered}
use Rattle.hj_crew.specs.Teams.{workers_in}
use Rattle.hj_crew.proofs.Handing.{gathers-all, gathers-many, gathers-on, longer}
use Rattle.hj_crew.proofs.deal.gather.Goals as goal

pub loop-team-init : goal.loop-team-init
loop-team-init g c =
    let are : into_iter_items c.into_iter-team-iterator.result ≡ c.args.teams.items = c.into_iter-team-iterator.ensures.into_iter_gives.0 in
    record {
      all =
          ap₂ (λ (l : List (WorkerSeen g.row.P.Denot g.row.J.Denot)) (teams : List (Team g.row.P.Denot g.row.J.Denot g.row.S.Denot)). l ++ gathered (workers_in teams)) c.requires.empty are;
      room =
          omega (arith, c.requires.room, ap (λ (teams : List (Team g.row.P.Denot g.row.J.Denot g.row.S.Denot)). length (gathered (workers_in teams))) are);
    }

pub take_over-requires : goal.take_over-requires
take_over-requires g c =
    let next : into_iter_items c.loop-team.team-iterator ≡ c.in-Some.team ∷ into_iter_items c.next.new.self = c.in-Some.ensures.steps.0 in
    omega (arith, c.loop-team.invariant.room, gathers-many (into_iter_items c.loop-team.team-iterator) (into_iter_items c.next.new.self) c.in-Some.team next)

pub loop-team-preserved : goal.loop-team-preserved
loop-team-preserved g c =
    let team = c.in-Some.team in
    let before = into_iter_items c.loop-team.team-iterator in
    let after = into_iter_items c.next.new.self in
    let next : before ≡ team ∷ after = c.in-Some.ensures.steps.0 in
    let held = c.loop-team.workers.items in
    let now = c.take_over.new.workers.items in
    record {
      all = gathers-on before after team next held now (gathered (workers_in c.args.teams.items)) c.take_over.ensures.workers c.loop-team.invariant.all;
      room = omega (arith, c.loop-team.invariant.room, c.take_over.ensures.capacity, longer held now team.workers.items c.take_over.ensures.workers, gathers-many before after team next);
    }

pub returns : goal.returns
returns g c =
    let left = into_iter_items c.loop-team.team-iterator in
    let none : left ≡ [] = nil_from_length left (omega (arith, c.in-None.ensures.steps.0)) in
    gathers-all left c.loop-team.workers.items (gathered (workers_in c.args.teams.items)) none c.loop-team.invariant.all
