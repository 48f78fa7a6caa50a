use Rattle.std.proofs.Common.{◌≡◌, ◌≢◌, rules, arith, subst}
use Rattle.std.proofs.lemmas.List.{take_all}
use Rattle.hj_msg.specs.declared.drain.Drained.{Drained}
use Rattle.hj_msg.specs.declared.drain.Drained.TheVariants.{Refused}
use Rattle.hj_sequential.proofs.GivenPairs.{gave-all, gave-memory, gave-one, gave-refused, was_kept}
use Rattle.hj_sequential.proofs.giving.give.Goals as goal

pub returns-in_default-of : goal.returns-in_default-of
returns-in_default-of g c =
    gave-memory g.D.Drain.takes c.args.side c.args.no c.args.row.now c.args.partners.now c.args.drain.now c.loop-at.at c.loop-at.drain c.loop-at.invariant c.in-Some.partner.now c.in-Some.ensures

pub returns-then-eq : goal.returns-then-eq
returns-then-eq g c =
    let refused : c.pair.result ≡ Refused = search rules in
    gave-refused g.D.Drain.takes c.args.side c.args.no c.args.row.now c.args.partners.now c.args.drain.now c.loop-at.at c.loop-at.drain c.loop-at.invariant c.in-Some.partner.now c.in-Some.ensures c.in-Ok.pair c.in-Ok.ensures c.pair.new.self
    (subst (λ (answer : Drained). g.D.Drain.takes c.loop-at.drain c.in-Ok.pair answer c.pair.new.self) refused c.pair.ensures.takes)

pub loop-at-preserved : goal.loop-at-preserved
loop-at-preserved g c =
    let other : c.pair.result ≢ Refused = search rules in
    gave-one g.D.Drain.takes c.args.side c.args.no c.args.row.now c.args.partners.now c.args.drain.now c.loop-at.at c.loop-at.drain c.loop-at.invariant c.in-Some.partner.now c.in-Some.ensures c.in-Ok.pair c.in-Ok.ensures c.pair.new.self
    (subst (λ (answer : Drained). g.D.Drain.takes c.loop-at.drain c.in-Ok.pair answer c.pair.new.self) (was_kept c.pair.result other) c.pair.ensures.takes)

pub returns : goal.returns
returns g c =
    gave-all g.D.Drain.takes c.args.side c.args.no c.args.row.now c.args.partners.now c.args.drain.now c.loop-at.at c.loop-at.drain (take_all c.loop-at.at c.args.partners.now (omega (arith, c.len-at-end.ensures))) c.loop-at.invariant
