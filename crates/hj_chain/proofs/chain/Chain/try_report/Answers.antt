use Rattle.std.proofs.Common.{length, refl, sym, ap, ◌∙◌, subst}
use Rattle.hj_msg.specs.declared.drain.Drained.{Drained}
use Rattle.hj_chain.specs.declared.actor.Actor.TheVariants.{Collect}
use Rattle.hj_chain.specs.declared.actor.Stepped.TheVariants.{Did, Memory}
use Rattle.hj_chain.specs.Chain.{Contents}
use Rattle.hj_chain.specs.Steps.{IsGoing}
use Rattle.hj_chain.specs.Sweep.{Drains, runs_out, refuses}
use Rattle.hj_chain.proofs.Trying.{any-goes, collect-on, collect-past, cores-did, going-did, going-drained, off-why, tried-is}
use Rattle.hj_chain.proofs.chain.Chain.try_report.Goals as goal

pub returns-in-Memory-clause-ends : goal.returns-in-Memory-clause-ends
returns-in-Memory-clause-ends g c =
    λ first at before begun unfilled there more.
    runs_out at c.args.sweep.now.moved c.args.self.now c.args.drain.now c.args.core c.collect_there.new.self more there
    (tried-is g.J.Join.predicate c.args.self.now c.collect_there.new.self (Collect c.args.core) c.collect_there.result Memory c.in-Memory.is (record { step = c.collect_there.ensures.step; join = c.collect_there.ensures.join; gathers = c.collect_there.ensures.gathers }))

pub returns-in-NotEnabled-clause-going : goal.returns-in-NotEnabled-clause-going
returns-in-NotEnabled-clause-going g c =
    let off = off-why g.J.Join.predicate c.args.self.now c.collect_there.new.self (Collect c.args.core) c.collect_there.result c.in-NotEnabled.field-0 c.in-NotEnabled.is (λ ready. refl) (record { step = c.collect_there.ensures.step; join = c.collect_there.ensures.join; gathers = c.collect_there.ensures.gathers }) in
    subst (IsGoing g.J.Join.predicate) (sym off.1) c.requires.going

pub returns-in-NotEnabled-clause-cores : goal.returns-in-NotEnabled-clause-cores
returns-in-NotEnabled-clause-cores g c =
    let off = off-why g.J.Join.predicate c.args.self.now c.collect_there.new.self (Collect c.args.core) c.collect_there.result c.in-NotEnabled.field-0 c.in-NotEnabled.is (λ ready. refl) (record { step = c.collect_there.ensures.step; join = c.collect_there.ensures.join; gathers = c.collect_there.ensures.gathers }) in
    ap (λ (k : Contents g.row.P.Denot g.row.J.Denot). length k.state.cores) off.1

pub returns-in-NotEnabled-clause-collects : goal.returns-in-NotEnabled-clause-collects
returns-in-NotEnabled-clause-collects g c =
    λ first at before begun unfilled there more.
    collect-past g.D.Drain.takes g.J.Join.predicate first at before c.args.sweep.now.moved begun unfilled c.args.self.now c.args.drain.now c.args.core more there c.collect_there.new.self
    (off-why g.J.Join.predicate c.args.self.now c.collect_there.new.self (Collect c.args.core) c.collect_there.result c.in-NotEnabled.field-0 c.in-NotEnabled.is (λ ready. refl) (record { step = c.collect_there.ensures.step; join = c.collect_there.ensures.join; gathers = c.collect_there.ensures.gathers }))

pub release-requires : goal.release-requires
release-requires g c =
    any-goes g.J.Join.predicate c.collect_there.new.self
    (going-did g.J.Join.predicate c.args.self.now c.collect_there.new.self (Collect c.args.core) (λ ready. refl) c.requires.going c.collect_there.result (record { step = c.collect_there.ensures.step; join = c.collect_there.ensures.join; gathers = c.collect_there.ensures.gathers }) c.in-Did.is)

pub returns-in-Refused-clause-ends : goal.returns-in-Refused-clause-ends
returns-in-Refused-clause-ends g c =
    λ first at before begun unfilled there more.
    refuses at c.args.sweep.now.moved c.args.self.now c.args.drain.now c.args.core c.collect_there.new.self c.release.new.self c.release.new.drain more there
    (tried-is g.J.Join.predicate c.args.self.now c.collect_there.new.self (Collect c.args.core) c.collect_there.result Did c.in-Did.is (record { step = c.collect_there.ensures.step; join = c.collect_there.ensures.join; gathers = c.collect_there.ensures.gathers }))
    (subst (λ (a : Drained). Drains g.D.Drain.takes g.J.Join.predicate c.collect_there.new.self c.args.drain.now a c.release.new.self c.release.new.drain) c.in-Refused.is c.release.ensures)

pub returns-in-Kept-clause-going : goal.returns-in-Kept-clause-going
returns-in-Kept-clause-going g c =
    going-drained g.J.Join.predicate c.collect_there.new.self c.release.new.self
    (going-did g.J.Join.predicate c.args.self.now c.collect_there.new.self (Collect c.args.core) (λ ready. refl) c.requires.going c.collect_there.result (record { step = c.collect_there.ensures.step; join = c.collect_there.ensures.join; gathers = c.collect_there.ensures.gathers }) c.in-Did.is)
    c.release.ensures.others c.release.ensures.goes

pub returns-in-Kept-clause-cores : goal.returns-in-Kept-clause-cores
returns-in-Kept-clause-cores g c =
    ap (λ (k : Contents g.row.P.Denot g.row.J.Denot). length k.state.cores) c.release.ensures.others
    ∙ cores-did g.J.Join.predicate c.args.self.now c.collect_there.new.self (Collect c.args.core) (λ ready. refl) c.requires.going c.collect_there.result (record { step = c.collect_there.ensures.step; join = c.collect_there.ensures.join; gathers = c.collect_there.ensures.gathers }) c.in-Did.is

pub returns-in-Kept-clause-collects : goal.returns-in-Kept-clause-collects
returns-in-Kept-clause-collects g c =
    λ first at before begun unfilled there more.
    collect-on g.D.Drain.takes g.J.Join.predicate first at before c.args.sweep.now.moved begun unfilled c.args.self.now c.args.drain.now c.args.core more there c.collect_there.new.self c.release.new.self c.release.new.drain c.step.new.self.moved c.step.ensures
    (tried-is g.J.Join.predicate c.args.self.now c.collect_there.new.self (Collect c.args.core) c.collect_there.result Did c.in-Did.is (record { step = c.collect_there.ensures.step; join = c.collect_there.ensures.join; gathers = c.collect_there.ensures.gathers }))
    (subst (λ (a : Drained). Drains g.D.Drain.takes g.J.Join.predicate c.collect_there.new.self c.args.drain.now a c.release.new.self c.release.new.drain) c.in-Kept.is c.release.ensures)
