use Rattle.std.proofs.Common.{◌≡◌, Bool, Some, ap, cond, refl, sym, true, ◌∙◌}
use Rattle.hj_chain.specs.declared.actor.NotNow.TheVariants.{Over}
use Rattle.hj_chain.specs.Chain.{Contents, cause_of}
use Rattle.hj_chain.proofs.Advancing.{unheard}
use Rattle.hj_chain.proofs.Goings.{room-goes}
use Rattle.hj_chain.proofs.chain.Chain.step.Goals as goal

pub returns-then-self-clause-room : goal.returns-then-self-clause-room
returns-then-self-clause-room g c = room-goes g.J.Join.predicate c.args.self.now (g.F.Feed.state c.args.feed.now) c.requires

pub returns-then-self-clause-step : goal.returns-then-self-clause-step
returns-then-self-clause-step g c =
    let over : c.args.self.now.state.over ≡ true = ap (λ (k : Contents g.row.P.Denot g.row.J.Denot). k.state.over) (sym c.self.view_is) ∙ c.if-self.true in
    record {
      answer = unheard (g.F.Feed.ready c.args.feed.now);
      ready = refl;
      chain = (ap (λ (b : Bool). cond b (Some Over) (cause_of c.args.self.now.state c.args.actor)) over, refl);
      feed = refl;
    }

pub returns-clause-step : goal.returns-clause-step
returns-clause-step g c = c.step_past.ensures.step

pub returns-clause-answers : goal.returns-clause-answers
returns-clause-answers g c = c.step_past.ensures.answers

pub returns-clause-join : goal.returns-clause-join
returns-clause-join g c = c.step_past.ensures.join

pub returns-clause-gathers : goal.returns-clause-gathers
returns-clause-gathers g c = c.step_past.ensures.gathers

pub returns-clause-room : goal.returns-clause-room
returns-clause-room g c = c.step_past.ensures.room

pub returns-clause-goes : goal.returns-clause-goes
returns-clause-goes g c = c.step_past.ensures.goes

pub returns-clause-stands : goal.returns-clause-stands
returns-clause-stands g c = c.step_past.ensures.stands

pub returns-clause-stays : goal.returns-clause-stays
returns-clause-stays g c = c.step_past.ensures.stays
