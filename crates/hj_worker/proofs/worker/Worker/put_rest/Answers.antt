use Rattle.std.proofs.Common.{◌-◌, [], sym, ap, ◌∙◌, subst, refl}
use Rattle.hj_core.specs.Contents.{state_of}
use Rattle.hj_worker.specs.declared.hand.Hand.TheVariants.{Rest}
use Rattle.hj_worker.specs.Hands.{in_hand, things_of}
use Rattle.hj_worker.specs.Seen.{WorkerSeen, journals_of}
use Rattle.hj_worker.specs.Standing.{Stands}
use Rattle.hj_worker.specs.Turning.{AreBlocked}
use Rattle.hj_worker.proofs.Handling.{midst-of, puts-all, puts-in_hand, some-blocked}
use Rattle.hj_worker.proofs.Standings.{finishes, goes_on}
use Rattle.hj_worker.proofs.worker.Worker.put_rest.Goals as goal

pub invariant_of-self : goal.invariant_of-self
invariant_of-self g c =
    let w = c.self.inside in
    let matches = g.J.Join.predicate w.station.core.join in
    let state = state_of g.S.Store.entries w.station.core in
    let midst = midst-of matches w.station.core.place w.station.core.cores state (journals_of w.station.ends) w.taken w.station.hand c.in-Rest.sends (sym c.replace.ensures.value ∙ c.in-Rest.is) c.self.invariant in
    subst (Stands matches w.station.core.place w.station.core.cores state (journals_of c.put_all.new.self) w.taken) {y = c.replace.new.dest} (sym {a = c.replace.new.dest} c.replace.ensures.after)
    (finishes matches w.station.core.place w.station.core.cores state (journals_of w.station.ends) w.taken (things_of c.in-Rest.sends) (journals_of c.put_all.new.self) midst c.in-None.ensures.all)

pub invariant_of-self-in-Some : goal.invariant_of-self-in-Some
invariant_of-self-in-Some g c =
    let w = c.self.inside in
    let matches = g.J.Join.predicate w.station.core.join in
    let state = state_of g.S.Store.entries w.station.core in
    let midst = midst-of matches w.station.core.place w.station.core.cores state (journals_of w.station.ends) w.taken w.station.hand c.in-Rest.sends (sym c.replace.ensures.value ∙ c.in-Rest.is) c.self.invariant in
    goes_on matches w.station.core.place w.station.core.cores state (journals_of w.station.ends) w.taken (things_of c.in-Rest.sends) (things_of c.in-Some.unput.sends) (journals_of c.put_all.new.self) midst c.in-Some.ensures.some
    (some-blocked c.in-Some.unput.place (things_of c.in-Some.unput.sends) w.station.ends c.put_all.new.self c.in-Some.ensures.blocked)

pub returns-in-None-clause-in_hand : goal.returns-in-None-clause-in_hand
returns-in-None-clause-in_hand g c =
    let w = c.self.inside in
    puts-in_hand g.J.Join.predicate (state_of g.S.Store.entries) w.station.core c.args.self.now w.station.ends c.put_all.new.self (in_hand w.station.hand) (in_hand c.replace.new.dest) w.taken w.calls (things_of c.in-Rest.sends) []
    c.self.view_is (ap in_hand (sym c.replace.ensures.value ∙ c.in-Rest.is)) (puts-all (w.taken - 1) (things_of c.in-Rest.sends) (journals_of w.station.ends) (journals_of c.put_all.new.self) c.in-None.ensures.all)
    (ap in_hand {x = c.replace.new.dest} c.replace.ensures.after)

pub returns-in-Some-clause-in_hand : goal.returns-in-Some-clause-in_hand
returns-in-Some-clause-in_hand g c = λ items are some.
    let w = c.self.inside in
    let others = things_of c.in-Some.unput.sends in (
      others,
      puts-in_hand g.J.Join.predicate (state_of g.S.Store.entries) w.station.core c.args.self.now w.station.ends c.put_all.new.self (in_hand w.station.hand) (in_hand (Rest c.in-Some.unput.sends)) w.taken w.calls
          (things_of c.in-Rest.sends) others c.self.view_is (ap in_hand (sym c.replace.ensures.value ∙ c.in-Rest.is)) c.in-Some.ensures.some refl items are some,
      subst (λ (v : WorkerSeen g.row.P.Denot g.row.J.Denot). AreBlocked c.in-Some.unput.place others v.ends c.put_all.new.self) {y = c.args.self.now} c.self.view_is c.in-Some.ensures.blocked,
    )
