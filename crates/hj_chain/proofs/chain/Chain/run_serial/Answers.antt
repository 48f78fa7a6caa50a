use Rattle.std.proofs.Common.{sym, subst}
use Rattle.hj_msg.proofs.Feeding.{feed-goes-on}
use Rattle.hj_chain.specs.declared.serial.Chooser.{Chooser}
use Rattle.hj_chain.specs.Serial.{RunsSerially}
use Rattle.hj_chain.proofs.chain.Chain.run_serial.Goals as goal

pub returns-in-InTurn-clause-fed : goal.returns-in-InTurn-clause-fed
returns-in-InTurn-clause-fed g c = λ before taken goes over. feed-goes-on g.F.Feed.gives g.F.Feed.state g.met.F.Feed.told before taken _ _ goes over

pub returns-in-Seeded-clause-fed : goal.returns-in-Seeded-clause-fed
returns-in-Seeded-clause-fed g c = λ before taken goes over. feed-goes-on g.F.Feed.gives g.F.Feed.state g.met.F.Feed.told before taken _ _ goes over

pub returns-in-InTurn-clause-runs : goal.returns-in-InTurn-clause-runs
returns-in-InTurn-clause-runs g c = λ schedule events given stands.
    subst (λ (rule : Chooser). RunsSerially g.F.Feed.gives g.F.Feed.ready g.D.Drain.takes g.J.Join.predicate rule schedule events given c.args.self.now c.args.feed.now c.args.drain.now c.run_in_turn.result c.run_in_turn.new.self c.run_in_turn.new.feed c.run_in_turn.new.drain) (sym c.in-InTurn.is)
    (c.run_in_turn.ensures.runs schedule events given stands)

pub returns-in-InTurn-clause-join : goal.returns-in-InTurn-clause-join
returns-in-InTurn-clause-join g c = c.run_in_turn.ensures.join

pub returns-in-InTurn-clause-goes : goal.returns-in-InTurn-clause-goes
returns-in-InTurn-clause-goes g c = c.run_in_turn.ensures.goes

pub returns-in-Seeded-clause-runs : goal.returns-in-Seeded-clause-runs
returns-in-Seeded-clause-runs g c = λ schedule events given stands.
    subst (λ (rule : Chooser). RunsSerially g.F.Feed.gives g.F.Feed.ready g.D.Drain.takes g.J.Join.predicate rule schedule events given c.args.self.now c.args.feed.now c.args.drain.now c.run_drawn.result c.run_drawn.new.self c.run_drawn.new.feed c.run_drawn.new.drain) (sym c.in-Seeded.is)
    (c.run_drawn.ensures.runs schedule events given stands)

pub returns-in-Seeded-clause-join : goal.returns-in-Seeded-clause-join
returns-in-Seeded-clause-join g c = c.run_drawn.ensures.join

pub returns-in-Seeded-clause-goes : goal.returns-in-Seeded-clause-goes
returns-in-Seeded-clause-goes g c = c.run_drawn.ensures.goes
