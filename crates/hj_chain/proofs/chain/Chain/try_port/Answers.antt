use Rattle.std.proofs.Common.{length, sym, ap, subst}
use Rattle.hj_chain.specs.declared.actor.Stepped.TheVariants.{Did}
use Rattle.hj_chain.specs.Chain.{Contents}
use Rattle.hj_chain.specs.Steps.{IsGoing, at_port}
use Rattle.hj_chain.proofs.Trying.{cores-did, going-did, inner-asks, off-tried, port-inner, port-spares, sweep-on, sweep-past, tried-is, tried-port}
use Rattle.hj_chain.proofs.chain.Chain.try_port.Goals as goal

pub returns-in-Did-clause-going : goal.returns-in-Did-clause-going
returns-in-Did-clause-going g c =
    going-did g.J.Join.predicate c.args.self.now c.receive.new.self (at_port c.args.port) (inner-asks (at_port c.args.port) (port-inner c.args.port) c.args.self.now.state.next) c.requires c.receive.result
    (tried-port g.J.Join.predicate c.args.self.now c.receive.new.self c.args.port c.receive.result c.receive.ensures.step c.receive.ensures.others) c.in-Did.is

pub returns-in-Did-clause-cores : goal.returns-in-Did-clause-cores
returns-in-Did-clause-cores g c =
    cores-did g.J.Join.predicate c.args.self.now c.receive.new.self (at_port c.args.port) (inner-asks (at_port c.args.port) (port-inner c.args.port) c.args.self.now.state.next) c.requires c.receive.result
    (tried-port g.J.Join.predicate c.args.self.now c.receive.new.self c.args.port c.receive.result c.receive.ensures.step c.receive.ensures.others) c.in-Did.is

pub returns-in-Did-clause-sweeps : goal.returns-in-Did-clause-sweeps
returns-in-Did-clause-sweeps g c =
    λ first at before begun there more.
    sweep-on g.J.Join.predicate first at before c.args.sweep.now.moved begun c.args.self.now c.receive.new.self (at_port c.args.port) more there c.step.new.self.moved c.step.ensures (port-inner c.args.port)
    (tried-is g.J.Join.predicate c.args.self.now c.receive.new.self (at_port c.args.port) c.receive.result Did c.in-Did.is (tried-port g.J.Join.predicate c.args.self.now c.receive.new.self c.args.port c.receive.result c.receive.ensures.step c.receive.ensures.others))

pub returns-in_default-clause-going : goal.returns-in_default-clause-going
returns-in_default-clause-going g c =
    let off = off-tried g.J.Join.predicate c.args.self.now c.receive.new.self (at_port c.args.port) c.receive.result c.in_default.not-Did (port-spares c.args.port) (inner-asks (at_port c.args.port) (port-inner c.args.port) c.args.self.now.state.next) (tried-port g.J.Join.predicate c.args.self.now c.receive.new.self c.args.port c.receive.result c.receive.ensures.step c.receive.ensures.others) in
    subst (IsGoing g.J.Join.predicate) (sym off.1) c.requires

pub returns-in_default-clause-cores : goal.returns-in_default-clause-cores
returns-in_default-clause-cores g c =
    let off = off-tried g.J.Join.predicate c.args.self.now c.receive.new.self (at_port c.args.port) c.receive.result c.in_default.not-Did (port-spares c.args.port) (inner-asks (at_port c.args.port) (port-inner c.args.port) c.args.self.now.state.next) (tried-port g.J.Join.predicate c.args.self.now c.receive.new.self c.args.port c.receive.result c.receive.ensures.step c.receive.ensures.others) in
    ap (λ (k : Contents g.row.P.Denot g.row.J.Denot). length k.state.cores) off.1

pub returns-in_default-clause-sweeps : goal.returns-in_default-clause-sweeps
returns-in_default-clause-sweeps g c =
    λ first at before begun there more.
    sweep-past g.J.Join.predicate first at before c.args.sweep.now.moved begun c.args.self.now c.receive.new.self (at_port c.args.port) more there
    (off-tried g.J.Join.predicate c.args.self.now c.receive.new.self (at_port c.args.port) c.receive.result c.in_default.not-Did (port-spares c.args.port) (inner-asks (at_port c.args.port) (port-inner c.args.port) c.args.self.now.state.next) (tried-port g.J.Join.predicate c.args.self.now c.receive.new.self c.args.port c.receive.result c.receive.ensures.step c.receive.ensures.others))
