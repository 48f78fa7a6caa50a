use Rattle.std.proofs.Common.{sym, subst}
use Rattle.hj_core.specs.Homes.{AreAtHome}
use Rattle.hj_core.proofs.Homes.{entered-home}
use Rattle.hj_core.proofs.at_home.rest_at_home.Goals as goal

pub returns-in-Some-clause-home : goal.returns-in-Some-clause-home
returns-in-Some-clause-home g c = λ place cores here home.
    subst (AreAtHome place cores) (sym c.insert.ensures.entries)
    (entered-home place cores (record { no = c.args.no.0; row = c.in-Some.row; settled = c.args.settled }) (here c.in-Some.row c.in-Some.is) (g.S.Store.entries c.args.store.now) home)
