use Rattle.std.proofs.Common.{◌≡◌, [], ap, ◌∙◌, refl}
use Rattle.hj_core.specs.Contents.{state_of}
use Rattle.hj_worker.specs.Hands.{in_hand, unput}
use Rattle.hj_worker.specs.Outgoing.{outgoing}
use Rattle.hj_worker.specs.Seen.{WorkerSeen, has_ended, journals_of}
use Rattle.hj_worker.proofs.Handling.{Handled, Took, full-kept, handles-leaving, leaves, nothing-of, runs-out, stands-out, took}
use Rattle.hj_worker.proofs.worker.Worker.handle_next.Given.{Over}
use Rattle.hj_worker.proofs.worker.Worker.handle_next.Goals as goal
use Rattle.hj_worker.proofs.worker.Worker.handle_next.Goals.{In-Some, In-Ok}

-- it had nothing in hand, and a close was still to come
nothing : (g : Over) (c : In-Some g) → in_hand c.self.inside.station.hand ≡ unput []
nothing g c = ap (λ (v : WorkerSeen g.row.P.Denot g.row.J.Denot). v.hand) c.self.view_is ∙ c.requires.hand

message_taken : (g : Over) (c : In-Some g) → Took g.J.Join.predicate (state_of g.S.Store.entries) c.self.inside.station.core c.self.inside.taken c.args.first c.in-Some.message c.self.inside.station.ends c.take.new.self
message_taken g c =
    let w = c.self.inside in
    took g.J.Join.predicate (state_of g.S.Store.entries) w.station.core w.taken c.args.first c.in-Some.message w.station.hand w.station.ends _ c.take.new.self (nothing g c)
    (ap (λ (v : WorkerSeen g.row.P.Denot g.row.J.Denot). has_ended v.state) c.self.view_is ∙ c.requires.open) c.self.invariant
    (record { left = refl; right = refl; reports = c.room.ensures.journal; full = c.if-not-room.ensures.full }) c.in-Some.ensures.taken

message_handled : (g : Over) (c : In-Ok g)
    → let w = c.self.inside in
    Handled g.J.Join.predicate (state_of g.S.Store.entries) w.station.core c.handle.new.self.core c.in-Some.message
    (outgoing (g.J.Join.predicate w.station.core.join) w.station.core.place w.station.core.cores (state_of g.S.Store.entries w.station.core) c.in-Some.message)
message_handled g c = record { kept = c.handle.ensures.kept; things = refl; state = c.in-Ok.ensures.state }

pub handle-requires : goal.handle-requires
handle-requires g c =
    let w = c.self.inside in
    nothing-of (g.J.Join.predicate w.station.core.join) w.station.core.place w.station.core.cores (state_of g.S.Store.entries w.station.core) (journals_of w.station.ends) w.taken w.station.hand
    (nothing g (goal.at.handle-requires g c).In-Some) c.self.invariant

pub invariant_of-self-in-Ok : goal.invariant_of-self-in-Ok
invariant_of-self-in-Ok g c =
    let here = goal.at.invariant_of-self-in-Ok g c in
    leaves g.J.Join.predicate (state_of g.S.Store.entries) c.handle.new.self.ends c.handle.new.self.hand (message_taken g here.In-Some) (message_handled g here.In-Ok) c.in-Ok.ensures.puts

pub returns-in-Ok-clause-goes_on : goal.returns-in-Ok-clause-goes_on
returns-in-Ok-clause-goes_on g c =
    let w = c.self.inside in
    let here = goal.at.returns-in-Ok-clause-goes_on g c in
    handles-leaving g.J.Join.predicate (state_of g.S.Store.entries) c.args.self.now c.handle.new.self.ends (in_hand w.station.hand) c.handle.new.self.hand w.calls w.calls c.self.view_is
    (message_taken g here.In-Some) (message_handled g here.In-Ok) c.in-Ok.ensures.puts
    (λ place. full-kept place w.station.ends _ c.take.new.self (record { left = refl; right = refl; reports = c.room.ensures.journal; full = c.if-not-room.ensures.full }) c.take.ensures.full_looks c.take.ensures.reports)

pub invariant_of-self-in-Err : goal.invariant_of-self-in-Err
invariant_of-self-in-Err g c =
    stands-out g.J.Join.predicate (state_of g.S.Store.entries) c.handle.new.self.core c.handle.new.self.ends c.handle.new.self.hand c.report_no_memory.new.reports
    (message_taken g (goal.at.invariant_of-self-in-Err g c).In-Some) c.handle.ensures.kept c.in-Err.ensures.refused.0 c.in-Err.ensures.refused.1 c.in-Err.ensures.refused.2 c.report_no_memory.ensures.put

pub returns-in-Err-clause-goes_on : goal.returns-in-Err-clause-goes_on
returns-in-Err-clause-goes_on g c =
    let w = c.self.inside in
    runs-out g.J.Join.predicate (state_of g.S.Store.entries) c.args.self.now c.handle.new.self.core c.handle.new.self.ends (in_hand w.station.hand) c.handle.new.self.hand c.report_no_memory.new.reports
    w.calls w.calls c.self.view_is (message_taken g (goal.at.returns-in-Err-clause-goes_on g c).In-Some) c.in-Err.ensures.refused.0 c.in-Err.ensures.refused.1 c.in-Err.ensures.refused.2 c.report_no_memory.ensures.put
