use Rattle.std.proofs.Common.{◌≡◌, ◌≢◌, ℕ, List, [], length, Some, true, refl, sym, ap, subst, subst₂, ◌∙◌, rules}
use Rattle.std.proofs.KnownBytes.{Appends-nil}
use Rattle.std.specs.Io.KnownBytes.{Appends}
use Rattle.hj_value.specs.declared.field.Field.{Field}
use Rattle.hj_query.specs.QueryParts.{QueryParts}
use Rattle.hj_eval.specs.Holds.{holds}
use Rattle.hj_msg.specs.Feed.{is_stop}
use Rattle.hj_chain.specs.declared.actor.Stepped.TheVariants as stepped
use Rattle.hj_chain.specs.Chain.{ChainState}
use Rattle.hj_chain.specs.Serial.{Choosing, IsPlaceWithin}
use Rattle.hj_chain.specs.Steps.{Steps}
use Rattle.hj_chain.proofs.ChosenActors.{chosen-enabled}
use Rattle.hj_chain.proofs.SerialRuns.{cores-stay, fewer-left, first-within}
use Rattle.hj_base.specs.Output.{CountsFaults, SendsPiece}
use Rattle.hj_stream.specs.declared.outcome.Outcome.TheVariants as outcome
use Rattle.hj_trace.specs.Choosing.{choosing_in}
use Rattle.hj_trace.specs.Line.{line_text}
use Rattle.hj_replay.specs.Feeds.{gives, state_of}
use Rattle.hj_replay.proofs.Feeding.{fed_both, fed_none}
use Rattle.hj_replay.proofs.Underway.{Underway, begun, front, front_of, one_more, whole}
use Rattle.hj_replay.proofs.lines.write_lines.Goals as goal

pub returns-then-eq-clause-writes : goal.returns-then-eq-clause-writes
returns-then-eq-clause-writes g c = λ n flight first some flights is. record {
  feed = fed_none c.args.feed.now;
  grown = [];
  written = Appends-nil (g.K.Sink.told c.args.out.now);
  text = λ more may. record { schedule = []; chosen = tt; begins = record { rest = []; is = refl } };
}

pub returns-then-eq-clause-feed : goal.returns-then-eq-clause-feed
returns-then-eq-clause-feed g c = fed_none c.args.feed.now

pub loop-actor-init : goal.loop-actor-init
loop-actor-init g c =
    let other : c.args.feed.now.feed.ended ≢ Some outcome.Memory = search rules in
    record {
      under = λ n flight first some flights is.
          subst₂ (λ (choosing : Choosing) (chain : ChainState (List Field)). Underway (holds c.args.chain.now.join) c.args.chooser n flight first c.args.feed.now (g.K.Sink.told c.args.out.now) choosing chain c.args.feed.now (g.K.Sink.told c.args.out.now))
          (sym c.new-naming.ensures) (sym is)
          (begun (holds c.args.chain.now.join) c.args.chooser n flight first c.args.feed.now (g.K.Sink.told c.args.out.now) some (λ stop. c.requires.stopped (ap (λ (s : ChainState (List Field)). is_stop s.next) is ∙ stop)));
      feed = fed_none c.args.feed.now;
      faults = refl;
      goes = c.requires;
      join = refl;
      within = subst (λ (choosing : Choosing). IsPlaceWithin (length c.args.chain.now.state.cores) choosing) (sym c.new-naming.ensures) (first-within (length c.args.chain.now.state.cores) c.args.chooser);
      ran = other;
    }

pub write_line-requires : goal.write_line-requires
write_line-requires g c κs = (
  (refl, tt),
  (c.loop-actor.invariant.goes, chosen-enabled c.loop-actor.chain.state (choosing_in c.loop-actor.naming) true c.in-Some.actor (sym c.in-Some.ensures.named)),
)

pub loop-actor-smaller : goal.loop-actor-smaller
loop-actor-smaller g c =
    fewer-left (gives {O = g.row.O.Denot} {outside = g.O.Outside}) (λ _. true) state_of holds c.loop-actor.chain c.write_line.new.chain c.in-Some.actor c.loop-actor.feed c.write_line.new.feed c.loop-actor.invariant.goes (c.in-Whole.ensures.step refl) (c.in-Whole.ensures.answers refl)

pub loop-actor-preserved : goal.loop-actor-preserved
loop-actor-preserved g c =
    let held = c.loop-actor.invariant in
    let from = c.loop-actor.feed in
    let to = c.write_line.new.feed in
    let stay : length c.write_line.new.chain.state.cores ≡ length c.loop-actor.chain.state.cores =
    cores-stay (gives {O = g.row.O.Denot} {outside = g.O.Outside}) (λ _. true) state_of holds c.loop-actor.chain c.write_line.new.chain c.in-Some.actor from to held.goes (c.in-Whole.ensures.step refl) in
    record {
      under = λ n flight first some flights is.
          let step = subst (λ (join : QueryParts). Steps (gives {O = g.row.O.Denot} {outside = g.O.Outside}) (λ _. true) (holds join) c.in-Some.actor c.loop-actor.chain.state from stepped.Did c.write_line.new.chain.state to) held.join (c.in-Whole.ensures.step refl) in
          let sends = subst (λ (join : QueryParts). Appends (g.K.Sink.told c.loop-actor.out) (g.K.Sink.told c.write_line.new.out) (line_text (holds join) c.loop-actor.chain.state c.in-Some.actor)) held.join c.in-Whole.ensures.sends in
          one_more (holds c.args.chain.now.join) c.args.chooser n flight first c.args.feed.now (g.K.Sink.told c.args.out.now) (choosing_in c.loop-actor.naming) c.loop-actor.chain.state from (g.K.Sink.told c.loop-actor.out) (held.under n flight first some flights is)
          c.in-Some.actor c.in-Some.ensures.named to c.write_line.new.chain.state step (g.K.Sink.told c.write_line.new.out) sends (choosing_in c.name.new.self) c.in-Some.ensures.behind;
      feed = fed_both c.args.feed.now from to held.feed c.write_line.ensures.feed;
      faults = c.in-Whole.ensures.faults ∙ held.faults;
      goes = c.write_line.ensures.goes;
      join = c.write_line.ensures.join ∙ held.join;
      within = subst (λ (n : ℕ). IsPlaceWithin n (choosing_in c.name.new.self)) (sym stay) c.name.ensures.within;
      ran = c.in-Whole.ensures.ran refl;
    }

pub returns-in_default-write_line : goal.returns-in_default-write_line
returns-in_default-write_line g c =
    let held = c.loop-actor.invariant in
    let from = c.loop-actor.feed in
    let to = c.write_line.new.feed in
    record {
      writes = λ n flight first some flights is.
          let sends = front_of c.write_line.result (line_text (holds c.args.chain.now.join) c.loop-actor.chain.state c.in-Some.actor) (g.K.Sink.told c.loop-actor.out) (g.K.Sink.told c.write_line.new.out) c.in_default-write_line.not-Whole
          (subst (λ (join : QueryParts). SendsPiece c.write_line.result (line_text (holds join) c.loop-actor.chain.state c.in-Some.actor) (g.K.Sink.told c.loop-actor.out) (g.K.Sink.told c.write_line.new.out)) held.join c.write_line.ensures.sends) in
          front (holds c.args.chain.now.join) c.args.chooser n flight first c.args.feed.now (g.K.Sink.told c.args.out.now) (choosing_in c.loop-actor.naming) c.loop-actor.chain.state from (g.K.Sink.told c.loop-actor.out) (held.under n flight first some flights is)
          c.in-Some.actor c.in-Some.ensures.named to c.write_line.ensures.feed held.ran (g.K.Sink.told c.write_line.new.out) sends c.write_line.result c.in_default-write_line.not-Whole;
      feed = fed_both c.args.feed.now from to held.feed c.write_line.ensures.feed;
      faults = subst (λ (n : ℕ). CountsFaults c.write_line.result n (g.K.Sink.faults c.write_line.new.out)) held.faults c.write_line.ensures.faults;
    }

pub returns-clause-writes : goal.returns-clause-writes
returns-clause-writes g c = λ n flight first some flights is.
    let held = c.loop-actor.invariant in
    whole (holds c.args.chain.now.join) c.args.chooser n flight first c.args.feed.now (g.K.Sink.told c.args.out.now) (choosing_in c.loop-actor.naming) c.loop-actor.chain.state c.loop-actor.feed (g.K.Sink.told c.loop-actor.out) (held.under n flight first some flights is)
    flights held.ran c.in_default.ensures.named held.goes.stopped
