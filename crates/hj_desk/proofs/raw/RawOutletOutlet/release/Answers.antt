use Rattle.std.proofs.Common.{◌≡◌, ◌≢◌, ◌∙◌, arith, ap, length, rules, sym, subst}
use Rattle.hj_msg.specs.declared.drain.Drained.{Drained}
use Rattle.hj_msg.specs.declared.drain.Drained.TheVariants.{Kept, Refused}
use Rattle.hj_raw.specs.WaitingItems.{WaitingItems, item_of}
use Rattle.hj_desk.specs.Outlet.{GivesDue}
use Rattle.hj_desk.specs.RawOutlet.{GivesRaw}
use Rattle.hj_desk.proofs.RawGiving.{raw-gives}
use Rattle.hj_collect.proofs.Giving.{was-kept}
use Rattle.hj_desk.proofs.raw.RawOutletOutlet.release.Goals as goal

pub returns-then-eq-clause-due : goal.returns-then-eq-clause-due
returns-then-eq-clause-due g c =
    let now = c.loop-item.self in
    let collector = c.args._collector.now in
    let refused : c.give.result ≡ Refused = search rules in
    raw-gives g.D.RawDrain.takes collector c.args.self.now now c.loop-item.invariant c.next.new.self c.give.new.self.drain (item_of c.in-Some.item) c.in-Some.ensures.first c.next.ensures.mark Refused
    (subst (λ (answer : Drained). g.D.RawDrain.takes now.drain (item_of c.in-Some.item) answer c.give.new.self.drain) refused c.give.ensures.takes) c.give.new.self.items c.give.ensures.items

pub loop-item-smaller : goal.loop-item-smaller
loop-item-smaller g c =
    let fewer = ap length c.in-Some.ensures.first in
    let same : length c.give.new.self.items.items ≡ length c.next.new.self.items = λ i. length (c.give.ensures.items i).items in
    omega (arith, fewer)

pub loop-item-preserved : goal.loop-item-preserved
loop-item-preserved g c =
    let now = c.loop-item.self in
    let collector = c.args._collector.now in
    let other : c.give.result ≢ Refused = search rules in
    raw-gives g.D.RawDrain.takes collector c.args.self.now now c.loop-item.invariant c.next.new.self c.give.new.self.drain (item_of c.in-Some.item) c.in-Some.ensures.first c.next.ensures.mark Kept
    (subst (λ (answer : Drained). g.D.RawDrain.takes now.drain (item_of c.in-Some.item) answer c.give.new.self.drain) (was-kept c.give.result other) c.give.ensures.takes) c.give.new.self.items c.give.ensures.items

pub returns-clause-due : goal.returns-clause-due
returns-clause-due g c =
    let none = c.in_default.ensures.none in
    let same : c.next.new.self ≡ c.loop-item.self.items = λ i. record { items = (none.1 ∙ sym none.0) i; mark = c.next.ensures.mark i } in
    subst (λ (w : WaitingItems g.row.P.Denot). GivesDue (GivesRaw g.D.RawDrain.takes) c.args._collector.now Kept c.args.self.now (record { items = w; drain = c.loop-item.self.drain })) (sym same) c.loop-item.invariant

pub returns-clause-rests : goal.returns-clause-rests
returns-clause-rests g c = λ kept. c.in_default.ensures.none.1
