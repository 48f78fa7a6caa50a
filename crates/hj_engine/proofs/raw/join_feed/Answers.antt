use Rattle.std.proofs.Common.{sym, ap, ◌∙◌}
use Rattle.hj_raw.specs.Items.{raw_items}
use Rattle.hj_stream.proofs.RawBetween.{raw_has_stopped, raw_join, raw_names, raw_nothing, raw_same_out, raw_same_outside, raw_was_refused}
use Rattle.hj_stream.specs.declared.feed.EventFeed.{EventFeed}
use Rattle.hj_stream.specs.declared.raw.RawLineDrain.{RawLineDrain}
use Rattle.hj_engine.proofs.ByRaw.{of_text, shows_raw}
use Rattle.hj_engine.proofs.Refused.{unless-made}
use Rattle.hj_engine.proofs.raw.join_feed.Goals as goal

pub raw_outcome_of-ended-requires-clause-done : goal.raw_outcome_of-ended-requires-clause-done
raw_outcome_of-ended-requires-clause-done g c =
    let runs = rw c.in-Ok.is at c.run_raw-result.ensures.runs in
    λ is. raw_has_stopped g.O.Outside g.K.Sink c.args.query.now c.requires.unasked.0 c.args.feed c.args.drain c.requires.unasked.1 c.run_raw-result.result.1 c.run_raw-result.result.2 runs.answers runs.feed runs.offers runs.drain
    (raw_items c.args.plan.now.size.chain.cores runs.taken) c.in-Ok.made.ended runs.ends (sym c.fin.ensures ∙ is)

pub raw_outcome_of-ended-requires-clause-refused : goal.raw_outcome_of-ended-requires-clause-refused
raw_outcome_of-ended-requires-clause-refused g c =
    let runs = rw c.in-Ok.is at c.run_raw-result.ensures.runs in
    λ is. raw_was_refused g.O.Outside g.K.Sink c.args.query.now c.requires.unasked.0 c.args.feed c.args.drain c.requires.unasked.1 c.run_raw-result.result.1 c.run_raw-result.result.2 runs.answers runs.feed runs.offers runs.drain
    (raw_items c.args.plan.now.size.chain.cores runs.taken) c.in-Ok.made.ended runs.ends (sym c.fin.ensures ∙ is)

pub returns-clause-same_outside : goal.returns-clause-same_outside
returns-clause-same_outside g c =
    let runs = rw c.in-Ok.is at c.run_raw-result.ensures.runs in
    raw_same_outside g.O.Outside g.K.Sink c.args.query.now c.requires.unasked.0 c.args.feed c.args.drain c.requires.unasked.1 c.run_raw-result.result.1 c.run_raw-result.result.2 runs.answers runs.feed runs.offers runs.drain

pub returns-clause-same_out : goal.returns-clause-same_out
returns-clause-same_out g c =
    let runs = rw c.in-Ok.is at c.run_raw-result.ensures.runs in
    raw_same_out g.O.Outside g.K.Sink c.args.query.now c.requires.unasked.0 c.args.feed c.args.drain c.requires.unasked.1 c.run_raw-result.result.1 c.run_raw-result.result.2 runs.answers runs.feed runs.offers runs.drain

pub returns-clause-joins : goal.returns-clause-joins
returns-clause-joins g c = λ limit unasked.
    let runs = rw c.in-Ok.is at c.run_raw-result.ensures.runs in
    let so = rw c.fin.ensures at c.raw_outcome_of-ended.ensures in
    let joined =
    raw_join g.O.Outside g.K.Sink c.args.query.now limit c.args.feed c.args.drain unasked c.run_raw-result.result.1 c.run_raw-result.result.2 runs.answers runs.feed runs.offers runs.drain
    (raw_items c.args.plan.now.size.chain.cores runs.taken) c.in-Ok.made.ended runs.ends c.raw_outcome_of-ended.result so in
    (of_text c.args.query.now runs joined.0, shows_raw c.args.query.now runs joined.0)

pub returns-clause-faults : goal.returns-clause-faults
returns-clause-faults g c =
    let runs = rw c.in-Ok.is at c.run_raw-result.ensures.runs in
    let so = rw c.fin.ensures at c.raw_outcome_of-ended.ensures in
    (raw_join g.O.Outside g.K.Sink c.args.query.now c.requires.unasked.0 c.args.feed c.args.drain c.requires.unasked.1 c.run_raw-result.result.1 c.run_raw-result.result.2 runs.answers runs.feed runs.offers runs.drain
    (raw_items c.args.plan.now.size.chain.cores runs.taken) c.in-Ok.made.ended runs.ends c.raw_outcome_of-ended.result so).1

pub returns-clause-names : goal.returns-clause-names
returns-clause-names g c =
    let runs = rw c.in-Ok.is at c.run_raw-result.ensures.runs in
    raw_names g.O.Outside g.K.Sink c.args.query.now c.requires.unasked.0 c.args.feed c.args.drain c.requires.unasked.1 c.run_raw-result.result.1 c.run_raw-result.result.2 runs.answers runs.feed runs.offers runs.drain

pub returns-in_default-clause-joins : goal.returns-in_default-clause-joins
returns-in_default-clause-joins g c = λ limit unasked.
    let kept = unless-made c.run_raw-result.result.0 c.in_default.not-Ok c.run_raw-result.ensures.refused in
    (raw_nothing g.O.Outside g.K.Sink c.args.query.now limit c.args.feed c.args.drain unasked c.run_raw-result.result.1 c.run_raw-result.result.2 kept.0 kept.1, tt)

pub returns-in_default-clause-untouched : goal.returns-in_default-clause-untouched
returns-in_default-clause-untouched g c =
    let kept = unless-made c.run_raw-result.result.0 c.in_default.not-Ok c.run_raw-result.ensures.refused in
    (ap (λ (f : EventFeed g.row.O.Denot g.O.Outside). g.O.Outside.state f.outside.now) kept.0, ap (λ (d : RawLineDrain g.row.K.Denot). g.K.Sink.told d.out.now) kept.1)
