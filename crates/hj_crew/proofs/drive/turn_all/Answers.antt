use Rattle.std.proofs.Common.{◌∙◌, sym, subst}
use Rattle.std.proofs.lemmas.List.{get_or_read}
use Rattle.hj_crew.specs.declared.team.Team.{Team}
use Rattle.hj_crew.specs.Teams.{TeamStays}
use Rattle.hj_crew.proofs.Staying.{related-goes_on, related-refl, team-stays, team-stays-on}
use Rattle.hj_crew.proofs.drive.turn_all.Goals as goal

pub loop-team-init : goal.loop-team-init
loop-team-init g c = related-refl TeamStays team-stays c.args.teams.now

pub loop-team-preserved : goal.loop-team-preserved
loop-team-preserved g c =
    let teams = c.loop-team.teams in
    let at = c.loop-team.team-index in
    related-goes_on TeamStays team-stays-on c.args.teams.now teams at c.round.new.self c.loop-team.invariant (
    λ d low. subst (λ (team : Team g.row.P.Denot g.row.J.Denot g.row.S.Denot). TeamStays team c.round.new.self)
    (sym c.team-item.is ∙ get_or_read teams at c.team-item.result low c.team-item.is d) c.round.ensures
    )
