use Rattle.std.proofs.Common.{◌≡◌, ◌<◌, ◌≤◌, ◌++◌, ℕ, not, nat_eq, length, map, set, Option, Some, refl, ap, arith, ◌∙◌}
use Rattle.std.specs.Option.{option_to_list}
use Rattle.std.proofs.lemmas.List.{length-map, length-set}
use Rattle.hj_msg.specs.declared.message.Report.{Report}
use Rattle.hj_msg.specs.Core as step
use Rattle.hj_core.specs.Contents.{state_of}
use Rattle.hj_core.specs.Rows.{row_message}
use Rattle.hj_chain.specs.Links.{changed_at, send_out}
use Rattle.hj_chain.specs.Reports.{ReportQueues}
use Rattle.hj_chain.proofs.Placing.{done, prepared-placed, prepared-states}
use Rattle.hj_chain.proofs.Taking.{opened, recored, taken-did, taken-in_cores, taken-in_links, taken-in_reports, taken-no_memory, taken-others, taken-room, taken-room_left, taken-room_right, taken-same}
use Rattle.hj_chain.proofs.chain.Chain.handle_row.Goals as goal

pub invariant_of-self : goal.invariant_of-self
invariant_of-self g c =
    let t = opened g.J.Join.predicate c.args.core c.args.end (row_message (not (nat_eq g.row.IS_LEFT 0)) c.args.no c.args.row) c.requires.taken.0 _ _ c.self.view_is c.requires.taken.1 in
    let low : c.from-place.result < length c.self.inside.cores.items = omega (arith, taken-in_cores g.J.Join.predicate c.args.core c.args.end (row_message (not (nat_eq g.row.IS_LEFT 0)) c.args.no c.args.row) c.requires.taken.0 _ t c.from-place.result c.from-place.ensures, length-map c.self.inside.cores.items (state_of g.S.Store.entries)) in
    let few : length (set c.self.inside.cores.items c.from-place.result c.handle_row.new.self) ≤ 64 = omega (arith, c.self.invariant.few, length-set c.self.inside.cores.items c.from-place.result c.handle_row.new.self) in
    record {
      placed = prepared-placed g.J.Join.predicate (state_of g.S.Store.entries) c.self.inside.join c.self.inside.cores.items c.from-place.result c.index_mut.result.now c.handle_row.new.self c.self.invariant.placed low c.index_mut.ensures.value c.in_default.ensures.unchanged c.handle_row.ensures.kept;
      few = few;
      flight = c.self.invariant.flight;
      capacity = c.self.invariant.capacity;
    }

pub give_up-requires : goal.give_up-requires
give_up-requires g c =
    let t = opened g.J.Join.predicate c.args.core c.args.end (row_message (not (nat_eq g.row.IS_LEFT 0)) c.args.no c.args.row) c.requires.taken.0 _ _ c.self.view_is c.requires.taken.1 in
    let low : c.from-place.result < length c.self.inside.cores.items = omega (arith, taken-in_cores g.J.Join.predicate c.args.core c.args.end (row_message (not (nat_eq g.row.IS_LEFT 0)) c.args.no c.args.row) c.requires.taken.0 _ t c.from-place.result c.from-place.ensures, length-map c.self.inside.cores.items (state_of g.S.Store.entries)) in
    let same = prepared-states g.J.Join.predicate (state_of g.S.Store.entries) c.self.inside.join c.self.inside.cores.items c.from-place.result c.index_mut.result.now c.handle_row.new.self c.self.invariant.placed low c.index_mut.ensures.value c.in_default.ensures.unchanged c.handle_row.ensures.kept in
    record { taken = (c.requires.taken.0, (taken-same g.J.Join.predicate c.args.core c.args.end (row_message (not (nat_eq g.row.IS_LEFT 0)) c.args.no c.args.row) c.requires.taken.0 c.row_message.result _ c.row_message.ensures (recored g.J.Join.predicate c.args.core c.args.end (row_message (not (nat_eq g.row.IS_LEFT 0)) c.args.no c.args.row) c.requires.taken.0 _ (map (state_of g.S.Store.entries) (set c.self.inside.cores.items c.from-place.result c.handle_row.new.self)) same t))) }

pub returns-in_default-clause-memory : goal.returns-in_default-clause-memory
returns-in_default-clause-memory g c = λ before h answer.
    let t = opened g.J.Join.predicate c.args.core c.args.end (row_message (not (nat_eq g.row.IS_LEFT 0)) c.args.no c.args.row) before _ _ c.self.view_is h in
    let low : c.from-place.result < length c.self.inside.cores.items = omega (arith, taken-in_cores g.J.Join.predicate c.args.core c.args.end (row_message (not (nat_eq g.row.IS_LEFT 0)) c.args.no c.args.row) before _ t c.from-place.result c.from-place.ensures, length-map c.self.inside.cores.items (state_of g.S.Store.entries)) in
    let same = prepared-states g.J.Join.predicate (state_of g.S.Store.entries) c.self.inside.join c.self.inside.cores.items c.from-place.result c.index_mut.result.now c.handle_row.new.self c.self.invariant.placed low c.index_mut.ensures.value c.in_default.ensures.unchanged c.handle_row.ensures.kept in
    taken-no_memory g.J.Join.predicate c.args.core c.args.end (row_message (not (nat_eq g.row.IS_LEFT 0)) c.args.no c.args.row) before _ t c.from-place.result c.from-place.ensures answer c.give_up.new.self
    (c.give_up.ensures before (taken-same g.J.Join.predicate c.args.core c.args.end (row_message (not (nat_eq g.row.IS_LEFT 0)) c.args.no c.args.row) before c.row_message.result _ c.row_message.ensures (recored g.J.Join.predicate c.args.core c.args.end (row_message (not (nat_eq g.row.IS_LEFT 0)) c.args.no c.args.row) before _ (map (state_of g.S.Store.entries) (set c.self.inside.cores.items c.from-place.result c.handle_row.new.self)) same t)))

pub returns-in_default-clause-others : goal.returns-in_default-clause-others
returns-in_default-clause-others g c =
    let t = opened g.J.Join.predicate c.args.core c.args.end (row_message (not (nat_eq g.row.IS_LEFT 0)) c.args.no c.args.row) c.requires.taken.0 _ _ c.self.view_is c.requires.taken.1 in
    let low : c.from-place.result < length c.self.inside.cores.items = omega (arith, taken-in_cores g.J.Join.predicate c.args.core c.args.end (row_message (not (nat_eq g.row.IS_LEFT 0)) c.args.no c.args.row) c.requires.taken.0 _ t c.from-place.result c.from-place.ensures, length-map c.self.inside.cores.items (state_of g.S.Store.entries)) in
    let same = prepared-states g.J.Join.predicate (state_of g.S.Store.entries) c.self.inside.join c.self.inside.cores.items c.from-place.result c.index_mut.result.now c.handle_row.new.self c.self.invariant.placed low c.index_mut.ensures.value c.in_default.ensures.unchanged c.handle_row.ensures.kept in
    taken-others g.J.Join.predicate c.args.core c.args.end (row_message (not (nat_eq g.row.IS_LEFT 0)) c.args.no c.args.row) c.requires.taken.0 c.args.self.now c.requires.taken.1 c.from-place.result c.from-place.ensures c.give_up.new.self
    (c.give_up.ensures c.requires.taken.0 (taken-same g.J.Join.predicate c.args.core c.args.end (row_message (not (nat_eq g.row.IS_LEFT 0)) c.args.no c.args.row) c.requires.taken.0 c.row_message.result _ c.row_message.ensures (recored g.J.Join.predicate c.args.core c.args.end (row_message (not (nat_eq g.row.IS_LEFT 0)) c.args.no c.args.row) c.requires.taken.0 _ (map (state_of g.S.Store.entries) (set c.self.inside.cores.items c.from-place.result c.handle_row.new.self)) same t)))

pub send_row-requires-clause-in_range : goal.send_row-requires-clause-in_range
send_row-requires-clause-in_range g c =
    let t = opened g.J.Join.predicate c.args.core c.args.end (row_message (not (nat_eq g.row.IS_LEFT 0)) c.args.no c.args.row) c.requires.taken.0 _ _ c.self.view_is c.requires.taken.1 in
    taken-in_links g.J.Join.predicate c.args.core c.args.end (row_message (not (nat_eq g.row.IS_LEFT 0)) c.args.no c.args.row) c.requires.taken.0 _ t c.from-place.result c.from-place.ensures

pub send_row-requires-clause-room_left : goal.send_row-requires-clause-room_left
send_row-requires-clause-room_left g c =
    let t = opened g.J.Join.predicate c.args.core c.args.end (row_message (not (nat_eq g.row.IS_LEFT 0)) c.args.no c.args.row) c.requires.taken.0 _ _ c.self.view_is c.requires.taken.1 in
    taken-room_left g.J.Join.predicate c.args.core c.args.end (row_message (not (nat_eq g.row.IS_LEFT 0)) c.args.no c.args.row) c.requires.taken.0 _ t c.from-place.result c.from-place.ensures

pub send_row-requires-clause-room_right : goal.send_row-requires-clause-room_right
send_row-requires-clause-room_right g c =
    let t = opened g.J.Join.predicate c.args.core c.args.end (row_message (not (nat_eq g.row.IS_LEFT 0)) c.args.no c.args.row) c.requires.taken.0 _ _ c.self.view_is c.requires.taken.1 in
    let all : c.len.result ≡ length (map (state_of g.S.Store.entries) c.self.inside.cores.items) = omega (arith, c.len.ensures, c.self.inside.cores.ok.0, length-map c.self.inside.cores.items (state_of g.S.Store.entries)) in
    taken-room_right g.J.Join.predicate c.args.core c.args.end (row_message (not (nat_eq g.row.IS_LEFT 0)) c.args.no c.args.row) c.requires.taken.0 _ t c.from-place.result c.from-place.ensures (step.sends c.from-place.result c.len.result (row_message (not (nat_eq g.row.IS_LEFT 0)) c.args.no c.args.row)) (ap (λ (n : ℕ). step.sends c.from-place.result n (row_message (not (nat_eq g.row.IS_LEFT 0)) c.args.no c.args.row)) all)

pub put-requires-clause-in_range : goal.put-requires-clause-in_range
put-requires-clause-in_range g c =
    let t = opened g.J.Join.predicate c.args.core c.args.end (row_message (not (nat_eq g.row.IS_LEFT 0)) c.args.no c.args.row) c.requires.taken.0 _ _ c.self.view_is c.requires.taken.1 in
    taken-in_reports g.J.Join.predicate c.args.core c.args.end (row_message (not (nat_eq g.row.IS_LEFT 0)) c.args.no c.args.row) c.requires.taken.0 _ t c.from-place.result c.from-place.ensures

pub put-requires-clause-room : goal.put-requires-clause-room
put-requires-clause-room g c =
    let t = opened g.J.Join.predicate c.args.core c.args.end (row_message (not (nat_eq g.row.IS_LEFT 0)) c.args.no c.args.row) c.requires.taken.0 _ _ c.self.view_is c.requires.taken.1 in
    taken-room g.J.Join.predicate c.args.core c.args.end (row_message (not (nat_eq g.row.IS_LEFT 0)) c.args.no c.args.row) c.requires.taken.0 _ t c.from-place.result c.from-place.ensures c.self.inside.reports.capacity c.self.invariant.capacity

pub invariant_of-self-2 : goal.invariant_of-self-2
invariant_of-self-2 g c =
    let t = opened g.J.Join.predicate c.args.core c.args.end (row_message (not (nat_eq g.row.IS_LEFT 0)) c.args.no c.args.row) c.requires.taken.0 _ _ c.self.view_is c.requires.taken.1 in
    let low : c.from-place.result < length c.self.inside.cores.items = omega (arith, taken-in_cores g.J.Join.predicate c.args.core c.args.end (row_message (not (nat_eq g.row.IS_LEFT 0)) c.args.no c.args.row) c.requires.taken.0 _ t c.from-place.result c.from-place.ensures, length-map c.self.inside.cores.items (state_of g.S.Store.entries)) in
    let d = done g.J.Join.predicate (state_of g.S.Store.entries) c.self.inside.join c.self.inside.cores.items c.from-place.result c.index_mut.result.now c.index_mut.result.now c.self.invariant.placed low c.index_mut.ensures.value refl (record { join = refl; place = refl; cores = refl })
    c.handle_row.new.self (row_message (not (nat_eq g.row.IS_LEFT 0)) c.args.no c.args.row) (step.sends c.index_mut.result.now.place c.index_mut.result.now.cores (row_message (not (nat_eq g.row.IS_LEFT 0)) c.args.no c.args.row)) (Some c.in-Ok.report) c.in-Ok.ensures.state refl c.in-Ok.ensures.report c.handle_row.ensures.kept in
    let few : length (set c.self.inside.cores.items c.from-place.result c.handle_row.new.self) ≤ 64 = omega (arith, c.self.invariant.few, length-set c.self.inside.cores.items c.from-place.result c.handle_row.new.self) in
    record { placed = d.placed; few = few; flight = c.self.invariant.flight; capacity = ap (λ (q : ReportQueues g.row.P.Denot). q.capacity) c.put.ensures ∙ c.self.invariant.capacity }

pub returns-clause-did : goal.returns-clause-did
returns-clause-did g c = λ before h answer.
    let t = opened g.J.Join.predicate c.args.core c.args.end (row_message (not (nat_eq g.row.IS_LEFT 0)) c.args.no c.args.row) before _ _ c.self.view_is h in
    let low : c.from-place.result < length c.self.inside.cores.items = omega (arith, taken-in_cores g.J.Join.predicate c.args.core c.args.end (row_message (not (nat_eq g.row.IS_LEFT 0)) c.args.no c.args.row) before _ t c.from-place.result c.from-place.ensures, length-map c.self.inside.cores.items (state_of g.S.Store.entries)) in
    let d = done g.J.Join.predicate (state_of g.S.Store.entries) c.self.inside.join c.self.inside.cores.items c.from-place.result c.index_mut.result.now c.index_mut.result.now c.self.invariant.placed low c.index_mut.ensures.value refl (record { join = refl; place = refl; cores = refl })
    c.handle_row.new.self (row_message (not (nat_eq g.row.IS_LEFT 0)) c.args.no c.args.row) (step.sends c.index_mut.result.now.place c.index_mut.result.now.cores (row_message (not (nat_eq g.row.IS_LEFT 0)) c.args.no c.args.row)) (Some c.in-Ok.report) c.in-Ok.ensures.state refl c.in-Ok.ensures.report c.handle_row.ensures.kept in
    let all : c.len.result ≡ length (map (state_of g.S.Store.entries) c.self.inside.cores.items) = omega (arith, c.len.ensures, c.self.inside.cores.ok.0, length-map c.self.inside.cores.items (state_of g.S.Store.entries)) in
    taken-did g.J.Join.predicate c.args.core c.args.end (row_message (not (nat_eq g.row.IS_LEFT 0)) c.args.no c.args.row) before _ t c.from-place.result c.from-place.ensures answer _ _ _
    (c.send_row.ensures ∙ ap (λ (n : ℕ). send_out c.from-place.result (step.sends c.from-place.result n (row_message (not (nat_eq g.row.IS_LEFT 0)) c.args.no c.args.row)).left (step.sends c.from-place.result n (row_message (not (nat_eq g.row.IS_LEFT 0)) c.args.no c.args.row)).right c.self.inside.links) all)
    d.states
    (ap (λ (q : ReportQueues g.row.P.Denot). q.queues) c.put.ensures
    ∙ ap (λ (o : Option (Report g.row.P.Denot)). changed_at c.from-place.result (λ queue. queue ++ option_to_list o) c.self.inside.reports.queues) d.entry_is)
