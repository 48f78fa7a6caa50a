use Rattle.std.proofs.Common.{◌≡◌, [], List, arith, ap, ◌∙◌, replicate}
use Rattle.hj_worker.specs.Seen.{WorkerSeen}
use Rattle.hj_crew.specs.declared.team.Team.{Team}
use Rattle.hj_crew.proofs.Handing.{one-empty_more}
use Rattle.hj_crew.proofs.deal.empty_teams.Goals as goal

pub loop-team-preserved : goal.loop-team-preserved
loop-team-preserved g c =
    let new : Team g.row.P.Denot g.row.J.Denot g.row.S.Denot = record { workers = c.new.result } in
    one-empty_more c.loop-team.teams.items c.push.new.self.items new c.loop-team._team c.in_ok-push.ensures.items c.loop-team.invariant c.new.ensures.items

pub returns : goal.returns
returns g c =
    let none : List (WorkerSeen g.row.P.Denot g.row.J.Denot) = [] in
    let all : c.loop-team._team ≡ c.args.count = omega (arith, c.loop-team-test.false, c.loop-team.auto) in
    c.loop-team.invariant ∙ ap (λ k. replicate k none) all
