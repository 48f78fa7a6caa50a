use Rattle.std.proofs.Common.{◌<◌, ◌≤◌, ◌++◌, length, map, set, Option, None, refl, sym, ap, arith, ◌∙◌}
use Rattle.std.specs.Option.{option_to_list}
use Rattle.std.proofs.lemmas.List.{length-map, length-set}
use Rattle.std.proofs.lemmas.Result.{on_ok_weaker, on_err_weaker}
use Rattle.hj_msg.specs.declared.message.Report.{Report}
use Rattle.hj_msg.specs.Core as step
use Rattle.hj_core.specs.Contents.{state_of}
use Rattle.hj_core.specs.Sent.{passed_on}
use Rattle.hj_chain.specs.declared.actor.Actor.TheVariants.{Core}
use Rattle.hj_chain.specs.declared.actor.Stepped.{Stepped}
use Rattle.hj_chain.specs.Chain.{Contents, FeedAnswer}
use Rattle.hj_chain.specs.Links.{changed_at, send_out}
use Rattle.hj_chain.specs.Reports.{ReportQueues}
use Rattle.hj_chain.specs.Steps.{StepsTo}
use Rattle.hj_chain.proofs.Opening.{turned}
use Rattle.hj_chain.proofs.Placing.{done, prepared-placed, prepared-states}
use Rattle.hj_chain.proofs.Putting.{no_report}
use Rattle.hj_chain.proofs.Taking.{opened, recored, taken-did, taken-in_cores, taken-in_links, taken-room_left, taken-room_right}
use Rattle.hj_chain.proofs.chain.Chain.handle_taken.Goals as goal

-- ---- a message that the core handles whole

pub invariant_of-self : goal.invariant_of-self
invariant_of-self g c =
    let t = opened g.J.Join.predicate c.args.core c.args.end c.args.msg c.requires.taken.0 _ _ c.self.view_is c.requires.taken.1 in
    let low : c.from-place.result < length c.self.inside.cores.items = omega (arith, taken-in_cores g.J.Join.predicate c.args.core c.args.end c.args.msg c.requires.taken.0 _ t c.from-place.result c.from-place.ensures, length-map c.self.inside.cores.items (state_of g.S.Store.entries)) in
    let few : length (set c.self.inside.cores.items c.from-place.result c.handle_passing.new.self) ≤ 64 = omega (arith, c.self.invariant.few, length-set c.self.inside.cores.items c.from-place.result c.handle_passing.new.self) in
    record {
      placed = prepared-placed g.J.Join.predicate (state_of g.S.Store.entries) c.self.inside.join c.self.inside.cores.items c.from-place.result c.index_mut.result.now c.handle_passing.new.self c.self.invariant.placed low c.index_mut.ensures.value (ap (state_of g.S.Store.entries) c.in_default.ensures.others) c.handle_passing.ensures.kept;
      few = few;
      flight = c.self.invariant.flight;
      capacity = c.self.invariant.capacity;
    }

pub handle_whole-requires : goal.handle_whole-requires
handle_whole-requires g c =
    let t = opened g.J.Join.predicate c.args.core c.args.end c.args.msg c.requires.taken.0 _ _ c.self.view_is c.requires.taken.1 in
    let low : c.from-place.result < length c.self.inside.cores.items = omega (arith, taken-in_cores g.J.Join.predicate c.args.core c.args.end c.args.msg c.requires.taken.0 _ t c.from-place.result c.from-place.ensures, length-map c.self.inside.cores.items (state_of g.S.Store.entries)) in
    let same = prepared-states g.J.Join.predicate (state_of g.S.Store.entries) c.self.inside.join c.self.inside.cores.items c.from-place.result c.index_mut.result.now c.handle_passing.new.self c.self.invariant.placed low c.index_mut.ensures.value (ap (state_of g.S.Store.entries) c.in_default.ensures.others) c.handle_passing.ensures.kept in
    record { taken = (c.requires.taken.0, recored g.J.Join.predicate c.args.core c.args.end c.args.msg c.requires.taken.0 _ (map (state_of g.S.Store.entries) (set c.self.inside.cores.items c.from-place.result c.handle_passing.new.self)) same t) }

pub returns-in_default-clause-step : goal.returns-in_default-clause-step
returns-in_default-clause-step g c = λ before h.
    let t = opened g.J.Join.predicate c.args.core c.args.end c.args.msg before _ _ c.self.view_is h in
    let low : c.from-place.result < length c.self.inside.cores.items = omega (arith, taken-in_cores g.J.Join.predicate c.args.core c.args.end c.args.msg before _ t c.from-place.result c.from-place.ensures, length-map c.self.inside.cores.items (state_of g.S.Store.entries)) in
    let same = prepared-states g.J.Join.predicate (state_of g.S.Store.entries) c.self.inside.join c.self.inside.cores.items c.from-place.result c.index_mut.result.now c.handle_passing.new.self c.self.invariant.placed low c.index_mut.ensures.value (ap (state_of g.S.Store.entries) c.in_default.ensures.others) c.handle_passing.ensures.kept in
    let mid = recored g.J.Join.predicate c.args.core c.args.end c.args.msg before _ (map (state_of g.S.Store.entries) (set c.self.inside.cores.items c.from-place.result c.handle_passing.new.self)) same t in
    turned c.handle_whole.result c.stepped.result (λ (answer : FeedAnswer g.row.P.Denot) (result : Stepped). StepsTo (g.J.Join.predicate before.join) (Core c.args.core c.args.end) answer before.state result c.handle_whole.new.self.state)
    c.stepped.ensures.did c.stepped.ensures.memory (on_ok_weaker c.handle_whole.result (λ steps. steps before mid) c.handle_whole.ensures.did) (on_err_weaker c.handle_whole.result (λ steps. steps before mid) c.handle_whole.ensures.memory)

pub returns-in_default-clause-others : goal.returns-in_default-clause-others
returns-in_default-clause-others g c =
    c.handle_whole.ensures.others ∙ ap (λ (k : Contents g.row.P.Denot g.row.J.Denot). record k { state = c.handle_whole.new.self.state }) c.self.view_is

-- ---- a message that passes through

pub carry-requires-clause-in_range : goal.carry-requires-clause-in_range
carry-requires-clause-in_range g c =
    let t = opened g.J.Join.predicate c.args.core c.args.end c.args.msg c.requires.taken.0 _ _ c.self.view_is c.requires.taken.1 in
    taken-in_links g.J.Join.predicate c.args.core c.args.end c.args.msg c.requires.taken.0 _ t c.from-place.result c.from-place.ensures

pub carry-requires-clause-room_left : goal.carry-requires-clause-room_left
carry-requires-clause-room_left g c =
    let t = opened g.J.Join.predicate c.args.core c.args.end c.args.msg c.requires.taken.0 _ _ c.self.view_is c.requires.taken.1 in
    taken-room_left g.J.Join.predicate c.args.core c.args.end c.args.msg c.requires.taken.0 _ t c.from-place.result c.from-place.ensures

pub carry-requires-clause-room_right : goal.carry-requires-clause-room_right
carry-requires-clause-room_right g c =
    let t = opened g.J.Join.predicate c.args.core c.args.end c.args.msg c.requires.taken.0 _ _ c.self.view_is c.requires.taken.1 in
    let low : c.from-place.result < length c.self.inside.cores.items = omega (arith, taken-in_cores g.J.Join.predicate c.args.core c.args.end c.args.msg c.requires.taken.0 _ t c.from-place.result c.from-place.ensures, length-map c.self.inside.cores.items (state_of g.S.Store.entries)) in
    let d = done g.J.Join.predicate (state_of g.S.Store.entries) c.self.inside.join c.self.inside.cores.items c.from-place.result c.index_mut.result.now c.index_mut.result.now c.self.invariant.placed low c.index_mut.ensures.value refl (record { join = refl; place = refl; cores = refl })
    c.handle_passing.new.self c.args.msg (passed_on c.in-Some.way c.args.msg) None c.in-Some.ensures.state (sym c.in-Some.ensures.sends) (sym c.in-Some.ensures.report) c.handle_passing.ensures.kept in
    taken-room_right g.J.Join.predicate c.args.core c.args.end c.args.msg c.requires.taken.0 _ t c.from-place.result c.from-place.ensures (passed_on c.in-Some.way c.args.msg) d.sends_are

pub invariant_of-self-2 : goal.invariant_of-self-2
invariant_of-self-2 g c =
    let t = opened g.J.Join.predicate c.args.core c.args.end c.args.msg c.requires.taken.0 _ _ c.self.view_is c.requires.taken.1 in
    let low : c.from-place.result < length c.self.inside.cores.items = omega (arith, taken-in_cores g.J.Join.predicate c.args.core c.args.end c.args.msg c.requires.taken.0 _ t c.from-place.result c.from-place.ensures, length-map c.self.inside.cores.items (state_of g.S.Store.entries)) in
    let d = done g.J.Join.predicate (state_of g.S.Store.entries) c.self.inside.join c.self.inside.cores.items c.from-place.result c.index_mut.result.now c.index_mut.result.now c.self.invariant.placed low c.index_mut.ensures.value refl (record { join = refl; place = refl; cores = refl })
    c.handle_passing.new.self c.args.msg (passed_on c.in-Some.way c.args.msg) None c.in-Some.ensures.state (sym c.in-Some.ensures.sends) (sym c.in-Some.ensures.report) c.handle_passing.ensures.kept in
    let few : length (set c.self.inside.cores.items c.from-place.result c.handle_passing.new.self) ≤ 64 = omega (arith, c.self.invariant.few, length-set c.self.inside.cores.items c.from-place.result c.handle_passing.new.self) in
    record { placed = d.placed; few = few; flight = c.self.invariant.flight; capacity = c.self.invariant.capacity }

pub returns-clause-step : goal.returns-clause-step
returns-clause-step g c = λ before h answer.
    let t = opened g.J.Join.predicate c.args.core c.args.end c.args.msg before _ _ c.self.view_is h in
    let low : c.from-place.result < length c.self.inside.cores.items = omega (arith, taken-in_cores g.J.Join.predicate c.args.core c.args.end c.args.msg before _ t c.from-place.result c.from-place.ensures, length-map c.self.inside.cores.items (state_of g.S.Store.entries)) in
    let d = done g.J.Join.predicate (state_of g.S.Store.entries) c.self.inside.join c.self.inside.cores.items c.from-place.result c.index_mut.result.now c.index_mut.result.now c.self.invariant.placed low c.index_mut.ensures.value refl (record { join = refl; place = refl; cores = refl })
    c.handle_passing.new.self c.args.msg (passed_on c.in-Some.way c.args.msg) None c.in-Some.ensures.state (sym c.in-Some.ensures.sends) (sym c.in-Some.ensures.report) c.handle_passing.ensures.kept in
    taken-did g.J.Join.predicate c.args.core c.args.end c.args.msg before _ t c.from-place.result c.from-place.ensures answer _ _ _
    (c.carry.ensures ∙ ap (λ (s : step.Sends g.row.P.Denot). send_out c.from-place.result s.left s.right c.self.inside.links) d.sends_are)
    d.states
    (ap (λ (q : ReportQueues g.row.P.Denot). q.queues) (no_report c.self.inside.reports c.from-place.result None (λ one is. absurd (cc)))
    ∙ ap (λ (o : Option (Report g.row.P.Denot)). changed_at c.from-place.result (λ queue. queue ++ option_to_list o) c.self.inside.reports.queues) d.entry_is)
