use Rattle.std.proofs.Common.{◌≡◌, rules, subst₂}
use Rattle.hj_replay.specs.Tracing.{WritesTrace}
use Rattle.hj_replay.proofs.writing.trace_merged.Goals as goal

pub trace_feed-requires : goal.trace_feed-requires
trace_feed-requires g c = (c.args.limit, c.new-events.ensures.unasked c.args.query.now c.requires.merger)

pub returns-clause-writes : goal.returns-clause-writes
returns-clause-writes g c =
    subst₂
    (λ (before now : g.row.O.Denot). WritesTrace c.trace_feed.result c.args.query.now c.args.plan.size.cores c.args.plan.size.flight c.args.plan.chooser c.args.limit (g.O.Outside.state before) (g.O.Outside.state now) (g.K.Sink.told c.args.out.now) (g.K.Sink.told c.trace_feed.new.out))
    c.new-events.ensures.outside (search rules) (c.trace_feed.ensures.writes c.args.limit (c.new-events.ensures.unasked c.args.query.now c.requires.merger))

pub returns-clause-names : goal.returns-clause-names
returns-clause-names g c = λ name.
    subst₂ (λ (before now : g.row.O.Denot). g.O.Outside.under now name ≡ g.O.Outside.under before name) c.new-events.ensures.outside (search rules) (c.trace_feed.ensures.names name)
