use Rattle.std.proofs.Common.{◌≡◌, ◌++◌, ◌∷◌, [], List, ◌∙◌, ap, arith, get_or, set, take}
use Rattle.std.proofs.lemmas.List.{length-map, map-set, take-set}
use Rattle.hj_worker.specs.Seen.{WorkerSeen}
use Rattle.hj_crew.specs.declared.team.Team.{Team}
use Rattle.hj_crew.specs.Deal.{gathered}
use Rattle.hj_crew.specs.Teams.{workers_in}
use Rattle.hj_crew.proofs.Dealing.{gathered-with}
use Rattle.hj_crew.proofs.Handing.{one-worker_more}
use Rattle.hj_crew.proofs.deal.deal.Goals as goal

pub returns-clause-dealt : goal.returns-clause-dealt
returns-clause-dealt g c =
    let contents = λ (team : Team g.row.P.Denot g.row.J.Denot g.row.S.Denot). team.workers.items in
    let teams = c.args.teams.now in
    let at = c.args.team in
    let new : Team g.row.P.Denot g.row.J.Denot g.row.S.Denot = record { workers = c.push.new.self } in
    let held : List (List (WorkerSeen g.row.P.Denot g.row.J.Denot)) = workers_in teams in
    let grown : new.workers.items ≡ get_or held at [] ++ c.args.worker ∷ [] = one-worker_more teams at c.index-teams-team.result new.workers.items c.args.worker c.requires.in_range c.in_ok-push.ensures.items in
    ap (λ (hands : List (List (WorkerSeen g.row.P.Denot g.row.J.Denot))). gathered hands) (map-set contents teams at new ∙ ap (set held at) grown)
    ∙ gathered-with held at c.args.worker (omega (arith, length-map teams contents, c.requires.in_range)) c.requires.empty

pub returns-clause-empty : goal.returns-clause-empty
returns-clause-empty g c =
    let contents = λ (team : Team g.row.P.Denot g.row.J.Denot g.row.S.Denot). team.workers.items in
    let teams = c.args.teams.now in
    let at = c.args.team in
    let new : Team g.row.P.Denot g.row.J.Denot g.row.S.Denot = record { workers = c.push.new.self } in
    ap (λ (hands : List (List (WorkerSeen g.row.P.Denot g.row.J.Denot))). take at hands) (map-set contents teams at new) ∙ take-set (workers_in teams) at new.workers.items ∙ c.requires.empty
