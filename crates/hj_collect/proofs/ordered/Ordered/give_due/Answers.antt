use Rattle.std.proofs.Common.{◌≡◌, ◌≢◌, ◌∷◌, List, refl, sym, subst, arith, rules}
use Rattle.std.proofs.lemmas.List.Sorted.{length_permutation}
use Rattle.hj_msg.specs.declared.drain.Drained.{Drained}
use Rattle.hj_msg.specs.declared.drain.Drained.TheVariants.{Kept, Refused}
use Rattle.hj_msg.specs.declared.event.Pair.{Pair}
use Rattle.hj_collect.specs.Collector.{least_mark}
use Rattle.hj_collect.specs.Giving.{Gives, NoneDue}
use Rattle.hj_collect.proofs.Giving.{gives-more, gives-nothing, was-kept}
use Rattle.hj_collect.proofs.ordered.Ordered.give_due.Goals as goal

pub loop-pair-init : goal.loop-pair-init
loop-pair-init g c = gives-nothing g.D.Drain.takes (least_mark c.args.collector.now) c.args.self.now c.args.drain.now

pub returns-then-eq : goal.returns-then-eq
returns-then-eq g c =
    let refused : c.pair.result ≡ Refused = search rules in
    record {
      gives =
          gives-more g.D.Drain.takes (least_mark c.args.collector.now) c.args.self.now c.args.drain.now c.loop-pair.self c.next_due.new.self c.loop-pair.drain c.pair.new.self
          c.loop-pair.invariant c.in-Some.pair c.in-Some.ensures.out Refused
          (subst (λ (answer : Drained). g.D.Drain.takes c.loop-pair.drain c.in-Some.pair answer c.pair.new.self) refused c.pair.ensures.takes);
      rest = λ kept. absurd (cc);
    }

pub loop-pair-smaller : goal.loop-pair-smaller
loop-pair-smaller g c = omega (arith, length_permutation c.loop-pair.self (c.in-Some.pair ∷ c.next_due.new.self) c.in-Some.ensures.out.taken)

pub loop-pair-preserved : goal.loop-pair-preserved
loop-pair-preserved g c =
    let other : c.pair.result ≢ Refused = search rules in
    gives-more g.D.Drain.takes (least_mark c.args.collector.now) c.args.self.now c.args.drain.now c.loop-pair.self c.next_due.new.self c.loop-pair.drain c.pair.new.self
    c.loop-pair.invariant c.in-Some.pair c.in-Some.ensures.out Kept
    (subst (λ (answer : Drained). g.D.Drain.takes c.loop-pair.drain c.in-Some.pair answer c.pair.new.self) (was-kept c.pair.result other) c.pair.ensures.takes)

pub returns : goal.returns
returns g c =
    let mark = least_mark c.args.collector.now in
    let same = c.in_default.ensures.unchanged in
    record {
      gives = subst (λ (left : List (Pair g.row.P.Denot)). Gives g.D.Drain.takes mark c.args.self.now c.args.drain.now Kept left c.loop-pair.drain) (sym same) c.loop-pair.invariant;
      rest = λ kept. subst (NoneDue mark) (sym same) (c.in_default.ensures.none refl);
    }
