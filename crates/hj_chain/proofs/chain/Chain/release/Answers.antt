use Rattle.std.proofs.Common.{ap, refl, rules, sym, ◌∙◌}
use Rattle.hj_chain.specs.Chain.{Contents}
use Rattle.hj_chain.proofs.Draining.{goes-due, releases-due, releases-nothing}
use Rattle.hj_chain.proofs.chain.Chain.release.Goals as goal

pub returns-then-self : goal.returns-then-self
returns-then-self g c = record {
  releases = releases-nothing g.D.Drain.takes g.J.Join.predicate c.args.drain.now c.args.self.now
      (ap (λ (k : Contents g.row.P.Denot g.row.J.Denot). k.state.over) (sym c.self.view_is) ∙ c.if-self.true);
  others = refl;
  goes = λ feed goes. goes;
}

pub returns : goal.returns
returns g c = record {
  releases = releases-due g.D.Drain.takes g.J.Join.predicate c.args.drain.now _ _ c.self.view_is c.requires
      c.give_due.result c.give_due.new.self c.give_due.new.drain c.give_due.ensures;
  others = search rules;
  goes = goes-due g.D.Drain.takes g.J.Join.predicate c.args.drain.now _ _ c.self.view_is c.requires
      c.give_due.result c.give_due.new.self c.give_due.new.drain c.give_due.ensures;
}
