use Rattle.std.proofs.Common.{sym, ◌∙◌, subst}
use Rattle.hj_core.specs.Homes.{AreAtHome}
use Rattle.hj_core.proofs.Homes.{removed-elsewhere, removed-home}
use Rattle.hj_core.proofs.at_home.remove_at_home.Goals as goal

pub returns-then-is_home-clause-home : goal.returns-then-is_home-clause-home
returns-then-is_home-clause-home g c =
    let place = c.args.place.now in
    subst (AreAtHome place.place place.cores) (sym c.remove.ensures.entries) (removed-home place.place place.cores c.args.no.0 (g.S.Store.entries c.args.store.now) c.requires)

pub returns-else-is_home-clause-entries : goal.returns-else-is_home-clause-entries
returns-else-is_home-clause-entries g c =
    let place = c.args.place.now in
    sym (removed-elsewhere place.place place.cores c.args.no.0 (sym c.is_home.ensures ∙ c.if-is_home.false) (g.S.Store.entries c.args.store.now) c.requires)
