use Rattle.std.proofs.Common.{sym, ap, ◌∙◌, Some}
use Rattle.hj_msg.specs.Store.{joins}
use Rattle.hj_rows.proofs.SortedProbes.{sorts-passed, sorts-joined, sorts-nothing}
use Rattle.hj_rows.proofs.list_store.probe_sorted.Goals as goal

pub loop-no-init : goal.loop-no-init
loop-no-init g c =
    sorts-nothing (λ row. joins (g.J.Join.predicate c.args.join.now) c.args.side row c.args.against.now) c.new-sorted.result.entries c.into_iter-no-iterator.result c.args.rows.now.places.entries
    c.new-sorted.ensures.empty (c.into_iter-no-iterator.ensures.into_iter_gives ∙ c.iter-no-items.ensures.rest) c.iter-no-items.ensures.unique

pub loop-no-preserved-in_ok-insert-2 : goal.loop-no-preserved-in_ok-insert-2
loop-no-preserved-in_ok-insert-2 g c =
    sorts-joined (λ row. joins (g.J.Join.predicate c.args.join.now) c.args.side row c.args.against.now) _ c.loop-no.sorted.entries c.insert.new.self.entries c.in-Some.no.now c.in-Some.place.now c.loop-no.no-iterator c.next.new.self
    c.in_ok-share.field-0 (sym c.in-Some-joining_row.ensures ∙ ap Some (sym c.in_ok-share.ensures)) c.in-Some.ensures.steps c.loop-no.invariant c.in_ok-insert.ensures.entries c.in_ok-insert.ensures.updates.0

pub loop-no-preserved : goal.loop-no-preserved
loop-no-preserved g c =
    sorts-passed (λ row. joins (g.J.Join.predicate c.args.join.now) c.args.side row c.args.against.now) _ c.loop-no.sorted.entries c.in-Some.no.now c.in-Some.place.now c.loop-no.no-iterator c.next.new.self
    (sym c.in_default.ensures) c.in-Some.ensures.steps c.loop-no.invariant
