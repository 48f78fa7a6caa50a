use Rattle.std.proofs.Common.{sym, subst}
use Rattle.hj_core.specs.Homes.{AreAtHome}
use Rattle.hj_core.proofs.Homes.{entered-home}
use Rattle.hj_core.proofs.at_home.put_at_rest.Goals as goal

pub returns-clause-home : goal.returns-clause-home
returns-clause-home g c place cores is_home kept =
    subst (AreAtHome place cores) (sym c.insert.ensures.entries)
    (entered-home place cores (record { no = c.args.no.0; row = c.args.resting; settled = c.args.settled }) is_home (g.S.Store.entries c.reserve.new.self)
    (subst (AreAtHome place cores) (sym c.reserve.ensures.entries) kept))
