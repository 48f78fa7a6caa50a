use Rattle.std.proofs.Common.{◌≡◌, drop}
use Rattle.hj_chain.specs.Steps.{GoesWith}
use Rattle.hj_chain.proofs.Running.{Leads}
use Rattle.hj_chain.proofs.chain.Chain.run.Given as goal

abbrev pub invariant-loop-actor : goal.invariant-loop-actor
invariant-loop-actor g l = record {
  join : l.self.join ≡ l.fn.self.join;
  goes : GoesWith g.J.Join.predicate l.self (g.F.Feed.state l.feed);
  leads : Leads g.F.Feed.gives g.F.Feed.ready g.J.Join.predicate l.schedule (drop l.actor-index l.schedule) l.fn.self l.self l.fn.feed l.feed;
}
