use Rattle.std.proofs.Common.{FitsSigned, List, Some, ap, rules, subst, sym, w64, ◌∙◌}
use Rattle.std.proofs.lemmas.Int.{to_z-of_z}
use Rattle.hj_value.specs.declared.field.Field.{Field}
use Rattle.hj_value.specs.Row.{time_of}
use Rattle.hj_event.specs.declared.waiting.TimedRow.{TimedRow}
use Rattle.hj_event.specs.Rows.{put_all, put_in}
use Rattle.hj_event.specs.Timed.{timed_rows, AreTimed}
use Rattle.hj_event.specs.Waiting.{AreWaiting, last_time}
use Rattle.hj_event.proofs.TimedLemmas.{push_rows, push_timed}
use Rattle.hj_event.proofs.WaitingLemmas.{push_last, puts_late, puts_late_row, test_is}
use Rattle.hj_event.proofs.waiting.WaitingRows.put.Goals as goal

pub invariant_of-self : goal.invariant_of-self
invariant_of-self c =
    let queue = timed_rows c.self.inside.queue.items in
    let fits : FitsSigned w64 c.args.time = search rules in
    let test = test_is _ c.last_time.result c.is_before.result (Some (time_of c.args.row)) (last_time queue) (ap Some (to_z-of_z w64 c.args.time fits ∙ c.requires)) c.last_time.ensures c.is_before.ensures in
    (c.self.invariant.0, puts_late c.put.result c.args.row queue c.self.inside.late c.put.new.self c.self.invariant.1 (test ∙ c.if-is_before.true) c.put.ensures.ok c.put.ensures.err)

pub invariant_of-self-else-is_before : goal.invariant_of-self-else-is_before
invariant_of-self-else-is_before c =
    let queue = c.self.inside.queue.items in
    let fits : FitsSigned w64 c.args.time = search rules in
    let own = to_z-of_z w64 c.args.time fits ∙ c.requires in
    let test = test_is _ c.last_time.result c.is_before.result (Some (time_of c.args.row)) (last_time (timed_rows queue)) (ap Some own) c.last_time.ensures c.is_before.ensures in
    subst (λ (rows : List TimedRow). AreTimed rows × AreWaiting (timed_rows rows) c.self.inside.late) (sym {A = List TimedRow} c.in_ok-push_back.ensures.items)
    (push_timed queue c.self.inside.late _ own c.self.invariant.0 c.self.invariant.1 (test ∙ c.if-is_before.false))

pub returns-then-is_before : goal.returns-then-is_before
returns-then-is_before c = puts_late_row c.put.result c.args.row (timed_rows c.self.inside.queue.items) c.self.inside.late c.put.new.self c.args.self.now c.self.invariant.1 c.self.view_is c.put.ensures.ok

pub returns-in_ok-push_back : goal.returns-in_ok-push_back
returns-in_ok-push_back c =
    let queue = c.self.inside.queue.items in
    let fits : FitsSigned w64 c.args.time = search rules in
    let test = test_is _ c.last_time.result c.is_before.result (Some (time_of c.args.row)) (last_time (timed_rows queue)) (ap Some (to_z-of_z w64 c.args.time fits ∙ c.requires)) c.last_time.ensures c.is_before.ensures in
    ap (λ (rows : List TimedRow). put_all (timed_rows rows) c.self.inside.late) c.in_ok-push_back.ensures.items
    ∙ (ap (λ (rows : List (List Field)). put_all rows c.self.inside.late) (push_rows queue _)
    ∙ (push_last (timed_rows queue) c.self.inside.late c.args.row c.self.invariant.1 (test ∙ c.if-is_before.false) ∙ ap (put_in c.args.row) c.self.view_is))
