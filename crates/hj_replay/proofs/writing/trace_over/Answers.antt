use Rattle.std.proofs.Common.{◌≡◌, ℕ, length, Some, ap, subst, ◌∙◌}
use Rattle.hj_msg.specs.Feed.{event_in}
use Rattle.hj_query.specs.QueryParts.{QueryParts}
use Rattle.hj_eval.specs.Holds.{holds}
use Rattle.hj_chain.specs.Chain.{empty_chain}
use Rattle.hj_replay.specs.Writing.{WritesLines}
use Rattle.hj_replay.proofs.Traced.{from_first}
use Rattle.hj_replay.proofs.writing.trace_over.Goals as goal

pub returns-clause-writes : goal.returns-clause-writes
returns-clause-writes g c =
    let begins = c.in_ok-chain.ensures.begins in
    let n = c.args.plan.size.cores in
    let flight = c.args.plan.size.flight in
    let made : c.in_ok-chain.chain.state ≡ empty_chain (length c.args.stores.left.items) flight begins.0 = λ i. (begins.1 i).state in
    let is = made ∙ ap (λ (m : ℕ). empty_chain m flight begins.0) c.requires.stores.left.count in
    let lines = c.write_lines-sent.ensures.writes n flight begins.0 c.args.plan.size.some_cores c.args.plan.size.some_flight is in
    let joined : c.in_ok-chain.chain.join ≡ c.new-join.result = λ i. (begins.1 i).join in
    let join = joined ∙ c.new-join.ensures in
    from_first (holds c.args.query.now) c.args.plan.chooser n flight begins.0 c.write_lines-sent.result c.args.feed.now c.new.new.feed c.write_lines-sent.new.feed (g.K.Sink.told c.args.out.now) (g.K.Sink.told c.write_lines-sent.new.out) begins.2
    (subst (λ (q : QueryParts). WritesLines {O = g.row.O.Denot} {outside = g.O.Outside} (holds q) c.args.plan.chooser n flight (event_in (Some begins.0)) c.write_lines-sent.result c.new.new.feed c.write_lines-sent.new.feed (g.K.Sink.told c.args.out.now) (g.K.Sink.told c.write_lines-sent.new.out)) join lines)
