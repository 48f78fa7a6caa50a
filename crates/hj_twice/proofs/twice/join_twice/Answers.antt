use Rattle.std.proofs.Common.{refl}
use Rattle.hj_twice.proofs.BothJoins.{made_alone, made_both}
use Rattle.hj_twice.proofs.twice.join_twice.Goals as goal

pub returns-in-Done-clause-joins : goal.returns-in-Done-clause-joins
returns-in-Done-clause-joins g c =
    let joined = c.join_relay-ended.ensures.joins in
    made_both c.args.joins.first.now c.args.joins.second.now c.args.joins.limit (g.O.Outside.state c.args.outside.now) (g.K.Sink.told c.args.out.now) c.join_first.result c.new-relay.result c.join_first.new.relay c.requires.fits
    c.in-Done.events c.join_relay-ended.result (g.O.Outside.state c.join_first.new.outside) (g.O.Outside.state c.join_relay-ended.new.outside) c.into_bytes.result c.new-relay-in-Done.result joined.0
    (g.K.Sink.told c.join_relay-ended.new.out) c.behind.result c.new-relay.ensures c.in-Done.is c.into_bytes.ensures c.new-relay-in-Done.ensures c.behind.ensures c.join_first.ensures.joins joined.1 c.join_relay-ended.ensures.others

pub returns-in_default : goal.returns-in_default
returns-in_default g c = record {
  joins = made_alone c.args.joins.first.now c.args.joins.second.now c.args.joins.limit (g.O.Outside.state c.args.outside.now) (g.K.Sink.told c.args.out.now) c.join_first.result c.new-relay.result c.join_first.new.relay
      (g.O.Outside.state c.join_first.new.outside) (λ events is. c.in_default.not-Done events is) c.join_first.ensures.faults c.join_first.ensures.joins c.requires.third;
  faults = refl;
  names = c.join_first.ensures.names;
}
