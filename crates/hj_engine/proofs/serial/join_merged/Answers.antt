use Rattle.std.proofs.Common.{rules, subst₂}
use Rattle.hj_stream.specs.Joining.{JoinsBy}
use Rattle.hj_engine.proofs.serial.join_merged.Goals as goal

pub join_feed-requires : goal.join_feed-requires
join_feed-requires g c = (c.args.join.now.limit, c.new-feed.ensures.unasked c.args.join.now.query.now c.requires.merger)

pub returns-clause-joins : goal.returns-clause-joins
returns-clause-joins g c =
    let join = c.args.join.now in
    let joins = rw (c.new-feed.ensures.outside, c.new-drain.ensures.out, c.new-drain.ensures.lines) at (c.join_feed.ensures.joins join.limit (c.new-feed.ensures.unasked join.query.now c.requires.merger)) in
    let outside = g.O.Outside.state c.args.outside.now in
    let out = g.K.Sink.told c.args.out.now in
    subst₂
    (λ (o : g.row.O.Denot) (k : g.row.K.Denot). JoinsBy (g.L.PairLine.line join.lines.now) c.join_feed.result join.query.now join.limit outside (g.O.Outside.state o) out (g.K.Sink.told k))
    (search rules) (search rules) joins
