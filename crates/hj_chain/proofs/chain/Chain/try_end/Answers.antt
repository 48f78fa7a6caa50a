use Rattle.std.proofs.Common.{length, refl, sym, ap, subst}
use Rattle.hj_chain.specs.declared.actor.Actor.TheVariants.{Core}
use Rattle.hj_chain.specs.declared.actor.Stepped.TheVariants.{Did, Memory}
use Rattle.hj_chain.specs.Chain.{Contents}
use Rattle.hj_chain.specs.Steps.{IsGoing}
use Rattle.hj_chain.proofs.Trying.{cores-did, going-did, inner-asks, off-why, sweep-on, sweep-past, tried-end, tried-is}
use Rattle.hj_chain.proofs.chain.Chain.try_end.Goals as goal

pub returns-in-Memory-clause-runs_out : goal.returns-in-Memory-clause-runs_out
returns-in-Memory-clause-runs_out g c = λ none first at before begun there more. record {
  at = at;
  moved = c.args.sweep.now.moved;
  now = c.args.self.now;
  sweeps = more;
  actor = Core c.args.core c.args.end;
  there = there;
  inner = refl;
  tried = tried-is g.J.Join.predicate c.args.self.now c.turn_there.new.self (Core c.args.core c.args.end) c.turn_there.result Memory c.in-Memory.is (tried-end g.J.Join.predicate c.args.self.now c.turn_there.new.self c.args.core c.args.end c.turn_there.result c.turn_there.ensures.step c.turn_there.ensures.others);
}

pub returns-in-NotEnabled-clause-going : goal.returns-in-NotEnabled-clause-going
returns-in-NotEnabled-clause-going g c =
    let off = off-why g.J.Join.predicate c.args.self.now c.turn_there.new.self (Core c.args.core c.args.end) c.turn_there.result c.in-NotEnabled.field-0 c.in-NotEnabled.is (inner-asks (Core c.args.core c.args.end) refl c.args.self.now.state.next) (tried-end g.J.Join.predicate c.args.self.now c.turn_there.new.self c.args.core c.args.end c.turn_there.result c.turn_there.ensures.step c.turn_there.ensures.others) in
    λ yes. subst (IsGoing g.J.Join.predicate) (sym off.1) c.requires.going

pub returns-in-NotEnabled-clause-cores : goal.returns-in-NotEnabled-clause-cores
returns-in-NotEnabled-clause-cores g c =
    let off = off-why g.J.Join.predicate c.args.self.now c.turn_there.new.self (Core c.args.core c.args.end) c.turn_there.result c.in-NotEnabled.field-0 c.in-NotEnabled.is (inner-asks (Core c.args.core c.args.end) refl c.args.self.now.state.next) (tried-end g.J.Join.predicate c.args.self.now c.turn_there.new.self c.args.core c.args.end c.turn_there.result c.turn_there.ensures.step c.turn_there.ensures.others) in
    λ yes. ap (λ (k : Contents g.row.P.Denot g.row.J.Denot). length k.state.cores) off.1

pub returns-in-NotEnabled-clause-sweeps : goal.returns-in-NotEnabled-clause-sweeps
returns-in-NotEnabled-clause-sweeps g c =
    λ yes first at before begun there more.
    sweep-past g.J.Join.predicate first at before c.args.sweep.now.moved begun c.args.self.now c.turn_there.new.self (Core c.args.core c.args.end) more there
    (off-why g.J.Join.predicate c.args.self.now c.turn_there.new.self (Core c.args.core c.args.end) c.turn_there.result c.in-NotEnabled.field-0 c.in-NotEnabled.is (inner-asks (Core c.args.core c.args.end) refl c.args.self.now.state.next) (tried-end g.J.Join.predicate c.args.self.now c.turn_there.new.self c.args.core c.args.end c.turn_there.result c.turn_there.ensures.step c.turn_there.ensures.others))

pub returns-in-Did-clause-going : goal.returns-in-Did-clause-going
returns-in-Did-clause-going g c =
    λ yes. going-did g.J.Join.predicate c.args.self.now c.turn_there.new.self (Core c.args.core c.args.end) (inner-asks (Core c.args.core c.args.end) refl c.args.self.now.state.next) c.requires.going c.turn_there.result
    (tried-end g.J.Join.predicate c.args.self.now c.turn_there.new.self c.args.core c.args.end c.turn_there.result c.turn_there.ensures.step c.turn_there.ensures.others) c.in-Did.is

pub returns-in-Did-clause-cores : goal.returns-in-Did-clause-cores
returns-in-Did-clause-cores g c =
    λ yes. cores-did g.J.Join.predicate c.args.self.now c.turn_there.new.self (Core c.args.core c.args.end) (inner-asks (Core c.args.core c.args.end) refl c.args.self.now.state.next) c.requires.going c.turn_there.result
    (tried-end g.J.Join.predicate c.args.self.now c.turn_there.new.self c.args.core c.args.end c.turn_there.result c.turn_there.ensures.step c.turn_there.ensures.others) c.in-Did.is

pub returns-in-Did-clause-sweeps : goal.returns-in-Did-clause-sweeps
returns-in-Did-clause-sweeps g c =
    λ yes first at before begun there more.
    sweep-on g.J.Join.predicate first at before c.args.sweep.now.moved begun c.args.self.now c.turn_there.new.self (Core c.args.core c.args.end) more there c.step.new.self.moved c.step.ensures refl
    (tried-is g.J.Join.predicate c.args.self.now c.turn_there.new.self (Core c.args.core c.args.end) c.turn_there.result Did c.in-Did.is (tried-end g.J.Join.predicate c.args.self.now c.turn_there.new.self c.args.core c.args.end c.turn_there.result c.turn_there.ensures.step c.turn_there.ensures.others))
