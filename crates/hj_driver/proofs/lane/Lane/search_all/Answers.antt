use Rattle.std.proofs.Common.{rules}
use Rattle.std.proofs.lemmas.List.Sorted.{answers_always}
use Rattle.hj_driver.proofs.Arrivals.{searched}
use Rattle.hj_driver.specs.declared.lane.OutstandingArrival.{OutstandingArrival}
use Rattle.hj_driver.proofs.lane.Lane.search_all.Goals as goal

pub returns : goal.returns
returns c =
    let facts = c.binary_search_by_key.ensures in
    let by_key = facts.position (λ (a : OutstandingArrival). a.no.0) (search (rules, answers_always)) in
    let found = searched c.self.inside.arrivals.items c.self.invariant.rising c.args.no.0 _ _ c.self.inside.arrivals.ok.0 facts.bound by_key in
    rw (← c.self.view_is) (record { found = found.found; absent = found.absent })
