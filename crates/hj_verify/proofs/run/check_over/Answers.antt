use Rattle.std.proofs.Common.{◌≡◌, length, ℕ, [], ◌∷◌, refl, sym, ap₂, subst, ◌∙◌}
use Rattle.std.specs.Prelude.{Err}
use Rattle.hj_query.specs.QueryParts.{QueryParts}
use Rattle.hj_replay.specs.declared.ready.AlwaysReady.{AlwaysReady}
use Rattle.hj_replay.specs.Feeds.{SameOutside}
use Rattle.hj_replay.proofs.Feeding.{fed_by}
use Rattle.hj_verify.specs.Checked.{ChecksRun, feeding}
use Rattle.hj_verify.specs.Reading.{no_memory}
use Rattle.hj_verify.proofs.Beginning.{new_chain, no_run, output_in_step, trace_in_step, unplayed}
use Rattle.hj_verify.proofs.FeedBeside.{outside_same, outside_then}
use Rattle.hj_verify.proofs.run.check_over.Goals as goal

pub returns-in_default : goal.returns-in_default
returns-in_default g c = record {
  outside = subst (λ (f : AlwaysReady g.row.O.Denot g.O.Outside). SameOutside c.args.feed.now f) (sym c.in_default.ensures.refused) (outside_same c.args.feed.now);
  checks =
      subst (λ (f : AlwaysReady g.row.O.Denot g.O.Outside). ChecksRun (Err no_memory) c.args.query.now c.args.size.cores c.args.size.flight (feeding c.args.feed.now) (feeding f)) (sym c.in_default.ensures.refused)
      (no_run {O = g.row.O.Denot} {outside = g.O.Outside} c.args.query.now c.args.size.cores c.args.size.flight c.requires.unasked.0 c.args.feed.now c.requires.unasked.1);
}

pub check_begun-checked-requires : goal.check_begun-checked-requires
check_begun-checked-requires g c κs =
    let begins = c.in-Ok.ensures.begins in (
      (refl, tt),
      (
        c.in-Ok.ensures.goes,
        (
          trace_in_step {O = g.row.O.Denot} {outside = g.O.Outside} c.args.feed.now c.new.new.feed begins.0 begins.2 c.requires.trace,
          output_in_step {O = g.row.O.Denot} {outside = g.O.Outside} c.args.feed.now c.new.new.feed begins.0 begins.2 c.requires.output,
        ),
      ),
    )

pub returns-clause-outside : goal.returns-clause-outside
returns-clause-outside g c =
    let begins = c.in-Ok.ensures.begins in
    outside_then c.args.feed.now c.new.new.feed c.check_begun-checked.new.feed (fed_by {O = g.row.O.Denot} {outside = g.O.Outside} c.args.feed.now c.new.new.feed (begins.0 ∷ [], (c.new.new.feed, begins.2, refl))).outside_is c.check_begun-checked.ensures.outside

pub returns-clause-checks : goal.returns-clause-checks
returns-clause-checks g c =
    let begins = c.in-Ok.ensures.begins in
    let made : c.in-Ok.chain ≡ new_chain c.new-join.result (length c.args.stores.left.items) c.args.size.flight begins.0 = begins.1 in
    let is = made ∙ ap₂ (λ (join : QueryParts) (n : ℕ). new_chain join n c.args.size.flight begins.0) c.new-join.ensures c.requires.stores.left.count in
    c.check_begun-checked.ensures.checks c.args.query.now c.args.size.cores c.args.size.flight (feeding c.args.feed.now)
    (unplayed {O = g.row.O.Denot} {outside = g.O.Outside} c.args.query.now c.args.size.cores c.args.size.flight c.requires.unasked.0 c.args.feed.now c.requires.unasked.1 c.new.new.feed begins.0 begins.2 c.args.size.some_cores c.in-Ok.chain is)
