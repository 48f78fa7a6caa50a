use Rattle.std.proofs.Common.{sym, ap, ◌∙◌}
use Rattle.hj_stream.proofs.Between.{joins_nothing, names, over, refused, same_out, same_outside}
use Rattle.hj_stream.specs.declared.feed.EventFeed.{EventFeed}
use Rattle.hj_stream.specs.declared.drain.LineDrain.{LineDrain}
use Rattle.hj_engine.proofs.ByRun.{as_join, shows}
use Rattle.hj_engine.proofs.Refused.{unless-made}
use Rattle.hj_engine.proofs.threads.join_feed.Goals as goal

pub outcome_of-ended-requires-clause-refused : goal.outcome_of-ended-requires-clause-refused
outcome_of-ended-requires-clause-refused g c =
    let runs = rw c.in-Ok.is at c.run_in_order-result.ensures.runs in
    λ is. refused g.O.Outside g.K.Sink g.L.PairLine c.args.query.now c.requires.unasked.0 c.args.feed c.args.drain c.requires.unasked.1 c.run_in_order-result.result.1 c.run_in_order-result.result.2 c.in-Ok.made.ended (as_join c.args.query.now runs) (sym c.fin.ensures ∙ is)

pub returns-clause-same_outside : goal.returns-clause-same_outside
returns-clause-same_outside g c =
    let runs = rw c.in-Ok.is at c.run_in_order-result.ensures.runs in
    same_outside g.O.Outside g.K.Sink g.L.PairLine c.args.query.now c.requires.unasked.0 c.args.feed c.args.drain c.requires.unasked.1 c.run_in_order-result.result.1 c.run_in_order-result.result.2 c.in-Ok.made.ended (as_join c.args.query.now runs)

pub returns-clause-same_out : goal.returns-clause-same_out
returns-clause-same_out g c =
    let runs = rw c.in-Ok.is at c.run_in_order-result.ensures.runs in
    same_out g.O.Outside g.K.Sink g.L.PairLine c.args.query.now c.requires.unasked.0 c.args.feed c.args.drain c.requires.unasked.1 c.run_in_order-result.result.1 c.run_in_order-result.result.2 c.in-Ok.made.ended (as_join c.args.query.now runs)

pub returns-clause-joins : goal.returns-clause-joins
returns-clause-joins g c = λ limit unasked.
    let runs = rw c.in-Ok.is at c.run_in_order-result.ensures.runs in
    let so = rw c.fin.ensures at c.outcome_of-ended.ensures in
    let joined =
    over g.O.Outside g.K.Sink g.L.PairLine c.args.query.now limit c.args.feed c.args.drain unasked c.run_in_order-result.result.1 c.run_in_order-result.result.2 c.in-Ok.made.ended (as_join c.args.query.now runs) c.outcome_of-ended.result so in
    (joined.0.joins, shows c.args.query.now runs joined.0)

pub returns-clause-faults : goal.returns-clause-faults
returns-clause-faults g c =
    let runs = rw c.in-Ok.is at c.run_in_order-result.ensures.runs in
    let so = rw c.fin.ensures at c.outcome_of-ended.ensures in
    (over g.O.Outside g.K.Sink g.L.PairLine c.args.query.now c.requires.unasked.0 c.args.feed c.args.drain c.requires.unasked.1 c.run_in_order-result.result.1 c.run_in_order-result.result.2 c.in-Ok.made.ended (as_join c.args.query.now runs) c.outcome_of-ended.result so).1

pub returns-clause-names : goal.returns-clause-names
returns-clause-names g c =
    let runs = rw c.in-Ok.is at c.run_in_order-result.ensures.runs in
    names g.O.Outside g.K.Sink g.L.PairLine c.args.query.now c.requires.unasked.0 c.args.feed c.args.drain c.requires.unasked.1 c.run_in_order-result.result.1 c.run_in_order-result.result.2 c.in-Ok.made.ended (as_join c.args.query.now runs)

pub returns-in_default-clause-joins : goal.returns-in_default-clause-joins
returns-in_default-clause-joins g c = λ limit unasked.
    let kept = unless-made c.run_in_order-result.result.0 c.in_default.not-Ok c.run_in_order-result.ensures.refused in
    (joins_nothing g.O.Outside g.K.Sink g.L.PairLine c.args.query.now limit c.args.feed c.args.drain unasked c.run_in_order-result.result.1 c.run_in_order-result.result.2 kept.0 kept.1, tt)

pub returns-in_default-clause-untouched : goal.returns-in_default-clause-untouched
returns-in_default-clause-untouched g c =
    let kept = unless-made c.run_in_order-result.result.0 c.in_default.not-Ok c.run_in_order-result.ensures.refused in
    (ap (λ (f : EventFeed g.row.O.Denot g.O.Outside). g.O.Outside.state f.outside.now) kept.0, ap (λ (d : LineDrain g.row.K.Denot g.row.L.Denot). g.K.Sink.told d.out.now) kept.1)
