use Rattle.std.proofs.Common.{◌≡◌, Bool, true, false, sym, subst}
use Rattle.hj_chain.specs.declared.actor.Actor.TheVariants.{Admit}
use Rattle.hj_chain.specs.declared.actor.Stepped.{Stepped}
use Rattle.hj_chain.specs.Chain.{Contents}
use Rattle.hj_chain.specs.Steps.{Steps, was_asked}
use Rattle.hj_chain.specs.Sweep.{Puts, waits, idles, puts}
use Rattle.hj_chain.proofs.Trying.{off-put}
use Rattle.hj_chain.proofs.chain.Chain.try_put.Goals as goal

pub returns-then-is_put_last-clause-puts : goal.returns-then-is_put_last-clause-puts
returns-then-is_put_last-clause-puts g c = let last = c.is_put_last.ensures.last c.if-is_put_last.true in waits last.0 last.1

pub returns-in-Did-clause-puts : goal.returns-in-Did-clause-puts
returns-in-Did-clause-puts g c =
    subst (λ (b : Bool). Puts g.F.Feed.gives g.F.Feed.ready g.F.Feed.state g.J.Join.predicate c.args.sweep.now.moved c.args.self.now c.args.feed.now true b c.admit.new.self c.admit.new.feed) (sym c.step.ensures)
    (puts (c.is_put_last.ensures.tried c.if-is_put_last.false) c.admit.new.self c.admit.new.feed
    (subst (λ (r : Stepped). Steps g.F.Feed.gives g.F.Feed.ready (g.J.Join.predicate c.args.self.now.join) Admit c.args.self.now.state c.args.feed.now r c.admit.new.self.state c.admit.new.feed) c.in-Did.is c.admit.ensures.step)
    c.admit.ensures.others c.admit.ensures.goes
    (λ was. c.admit.ensures.answers (subst (λ (r : Stepped). was_asked Admit c.args.self.now.state.next (g.F.Feed.ready c.args.feed.now) r ≡ true) (sym c.in-Did.is) was)))

pub returns-in_default-clause-puts : goal.returns-in_default-clause-puts
returns-in_default-clause-puts g c =
    let off = off-put g.J.Join.predicate c.args.self.now c.admit.new.self g.F.Feed.gives g.F.Feed.ready c.args.feed.now c.admit.new.feed c.admit.result c.in_default.not-Did c.admit.ensures.step c.admit.ensures.others in
    subst (λ (k : Contents g.row.P.Denot g.row.J.Denot). Puts g.F.Feed.gives g.F.Feed.ready g.F.Feed.state g.J.Join.predicate c.args.sweep.now.moved c.args.self.now c.args.feed.now c.args.sweep.now.moved false k c.admit.new.feed) (sym off.1)
    (subst (λ (f : g.row.F.Denot). Puts g.F.Feed.gives g.F.Feed.ready g.F.Feed.state g.J.Join.predicate c.args.sweep.now.moved c.args.self.now c.args.feed.now c.args.sweep.now.moved false c.args.self.now f) (sym off.2) (idles (c.is_put_last.ensures.tried c.if-is_put_last.false) off.0))
