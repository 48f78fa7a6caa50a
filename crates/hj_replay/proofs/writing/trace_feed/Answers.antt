use Rattle.std.proofs.Common.{sym, subst, subst₂}
use Rattle.hj_base.specs.declared.outside.Role.TheVariants as role
use Rattle.hj_event.specs.Roles.{IsInStep}
use Rattle.hj_replay.specs.declared.ready.AlwaysReady.{AlwaysReady}
use Rattle.hj_stream.specs.declared.outcome.Outcome.TheVariants as outcome
use Rattle.hj_replay.specs.Feeds.{roles_of}
use Rattle.hj_replay.specs.Tracing.{WritesTrace}
use Rattle.hj_replay.proofs.Traced.{counts, has_ended, traces, traces_none}
use Rattle.hj_replay.proofs.writing.trace_feed.Goals as goal

pub outcome_of-requires : goal.outcome_of-requires
outcome_of-requires g c =
    has_ended {O = g.row.O.Denot} {outside = g.O.Outside} c.args.query.now c.args.plan.chooser c.args.plan.size.cores c.args.plan.size.flight c.requires.0 c.args.feed.now c.trace_run.new.feed c.requires.1 (g.K.Sink.told c.args.out.now) (g.K.Sink.told c.trace_run.new.out) c.in-Ok.sent c.in-Ok.ensures.writes

pub returns-clause-writes : goal.returns-clause-writes
returns-clause-writes g c = λ limit unasked.
    traces {O = g.row.O.Denot} {outside = g.O.Outside} c.args.query.now c.args.plan.chooser c.args.plan.size.cores c.args.plan.size.flight limit c.args.feed.now c.trace_run.new.feed unasked (g.K.Sink.told c.args.out.now) (g.K.Sink.told c.trace_run.new.out) c.in-Ok.sent c.outcome_of.result c.in-Ok.ensures.writes c.outcome_of.ensures

pub returns-clause-same_outside : goal.returns-clause-same_outside
returns-clause-same_outside g c = c.in-Ok.ensures.writes.feed.outside_is.same

pub returns-clause-names : goal.returns-clause-names
returns-clause-names g c = c.in-Ok.ensures.writes.feed.outside_is.names

pub returns-in_default-clause-writes : goal.returns-in_default-clause-writes
returns-in_default-clause-writes g c = λ limit unasked.
    let refused = c.in_default.ensures.refused in
    subst₂ (λ (feed : AlwaysReady g.row.O.Denot g.O.Outside) (out : g.row.K.Denot). WritesTrace outcome.Memory c.args.query.now c.args.plan.size.cores c.args.plan.size.flight c.args.plan.chooser limit (roles_of c.args.feed.now) (roles_of feed) (g.K.Sink.told c.args.out.now) (g.K.Sink.told out)) (sym refused.0) (sym refused.1)
    (traces_none c.args.query.now c.args.plan.chooser c.args.plan.size.cores c.args.plan.size.flight limit (roles_of c.args.feed.now) (g.K.Sink.told c.args.out.now)
    (subst (λ ended. IsInStep ended (roles_of c.args.feed.now role.Left)) unasked.merger.left c.args.feed.now.feed.left) (subst (λ ended. IsInStep ended (roles_of c.args.feed.now role.Right)) unasked.merger.right c.args.feed.now.feed.right))

pub returns-clause-faults : goal.returns-clause-faults
returns-clause-faults g c =
    counts {O = g.row.O.Denot} {outside = g.O.Outside} c.args.query.now c.args.plan.chooser c.args.plan.size.cores c.args.plan.size.flight c.requires.0 c.args.feed.now c.trace_run.new.feed c.requires.1 (g.K.Sink.told c.args.out.now) (g.K.Sink.told c.trace_run.new.out) c.in-Ok.sent c.outcome_of.result c.in-Ok.ensures.writes c.outcome_of.ensures _ _ c.in-Ok.ensures.faults
