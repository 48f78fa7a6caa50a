use Rattle.std.proofs.Common.{◌≡◌, rules, subst₂, IfSome}
use Rattle.std.specs.Prelude.{IfNone}
use Rattle.hj_stream.specs.RawJoining.{JoinsRaw}
use Rattle.hj_engine.specs.ShowingRaw.{ShowsRaw}
use Rattle.hj_engine.proofs.raw.join_merged.Goals as goal

pub join_feed-joined-requires-clause-unasked : goal.join_feed-joined-requires-clause-unasked
join_feed-joined-requires-clause-unasked g c κs within = (c.args.limit, c.new-feed.ensures.unasked c.args.query.now c.requires.merger)

pub returns-clause-joins : goal.returns-clause-joins
returns-clause-joins g c =
    let joins = rw (c.new-feed.ensures.outside, c.new-drain.ensures.out) at (c.join_feed-joined.ensures.joins c.args.limit (c.new-feed.ensures.unasked c.args.query.now c.requires.merger)) in
    let plan = c.args.plan.now in
    let outside = g.O.Outside.state c.args.outside.now in
    let out = g.K.Sink.told c.args.out.now in
    subst₂
    (λ (o : g.row.O.Denot) (k : g.row.K.Denot). (joins : JoinsRaw c.join_feed-joined.result.ended c.args.query.now c.args.limit outside (g.O.Outside.state o) out (g.K.Sink.told k)) × IfSome c.join_feed-joined.new.ran (ShowsRaw joins plan.size.chain.cores plan.size.chain.flight))
    (search rules) (search rules) joins

pub returns-clause-untouched : goal.returns-clause-untouched
returns-clause-untouched g c =
    let untouched = rw (c.new-feed.ensures.outside, c.new-drain.ensures.out) at c.join_feed-joined.ensures.untouched in
    let outside = g.O.Outside.state c.args.outside.now in
    let out = g.K.Sink.told c.args.out.now in
    subst₂ (λ (o : g.row.O.Denot) (k : g.row.K.Denot). IfNone c.join_feed-joined.new.ran ((g.O.Outside.state o ≡ outside) × (g.K.Sink.told k ≡ out))) (search rules) (search rules) untouched
