use Rattle.std.proofs.Common.{◌+◌, ◌*◌, refl, subst, sym, ℕ}
use Rattle.hj_crew.specs.Cores.{AreEndsFor, MakesTeams}
use Rattle.hj_crew.proofs.Manning.{crew, ends_for, ends_unused, for_desk}
use Rattle.hj_crew.proofs.making.desk_and_teams.Goals as goal

pub make_teams-requires-clause-unused : goal.make_teams-requires-clause-unused
make_teams-requires-clause-unused g c = ends_unused c.args.size.cores (2 * c.args.size.flight + 2) c.in_ok-ends.ends c.in_ok-ends.last c.in_ok-ends.ensures

pub make_teams-requires-clause-ends : goal.make_teams-requires-clause-ends
make_teams-requires-clause-ends g c =
    subst (λ (n : ℕ). AreEndsFor n c.in_ok-ends.ends) (sym c.requires.left.count) (ends_for c.args.size.cores (2 * c.args.size.flight + 2) c.in_ok-ends.ends c.in_ok-ends.last c.in_ok-ends.ensures)

pub desk_at-requires : goal.desk_at-requires
desk_at-requires g c =
    let teams = c.in_ok-teams.teams.items in
    let makes = subst (λ (n : ℕ). MakesTeams c.args.join.now n 0 c.in_ok-ends.ends c.make_teams.new.ends teams) c.requires.left.count c.in_ok-teams.ensures.teams in
    for_desk c.args.size.cores (2 * c.args.size.flight + 2) c.in_ok-ends.ends c.in_ok-ends.last c.in_ok-ends.ensures c.args.join.now c.make_teams.new.ends teams makes c.args.size.few_cores

pub returns-clause-crew : goal.returns-clause-crew
returns-clause-crew g c =
    let teams = c.in_ok-teams.teams.items in
    let makes = subst (λ (n : ℕ). MakesTeams c.args.join.now n 0 c.in_ok-ends.ends c.make_teams.new.ends teams) c.requires.left.count c.in_ok-teams.ensures.teams in
    let desk = c.in_ok-desk in
    crew c.args.size.cores (2 * c.args.size.flight + 2) c.in_ok-ends.ends c.in_ok-ends.last c.in_ok-ends.ensures c.args.join.now c.make_teams.new.ends teams makes c.args.size.flight desk.desk refl
    desk.ensures.left desk.ensures.right desk.ensures.reports desk.ensures.flight
