use Rattle.std.proofs.Common.{◌≡◌, ◌↔◌, [], None, sym, ap, ◌∙◌, subst}
use Rattle.hj_core.specs.Contents.{state_of}
use Rattle.hj_msg.specs.Turns.{Turns, TakesTurns}
use Rattle.hj_worker.specs.Hands.{unput}
use Rattle.hj_worker.specs.Seen.{WorkerSeen, journals_of}
use Rattle.hj_worker.proofs.Ending.{nothing_in_hand}
use Rattle.hj_worker.proofs.Standings.{hands_back}
use Rattle.hj_worker.proofs.worker.Worker.parts.Goals as goal

pub returns-clause-turns : goal.returns-clause-turns
returns-clause-turns g c =
    let w = c.self.inside in
    let has = hands_back (g.J.Join.predicate w.station.core.join) w.station.core.place w.station.core.cores (state_of g.S.Store.entries w.station.core) (journals_of w.station.ends) w.taken w.station.hand c.self.invariant in
    subst (λ (v : WorkerSeen g.row.P.Denot g.row.J.Denot). (turns : Turns g.row.P.Denot) × TakesTurns (g.J.Join.predicate v.join) v.place v.cores turns w.station.ends.left.journal w.station.ends.right.journal w.station.ends.reports.journal × (v.hand ≡ unput [] ↔ turns.cut ≡ None))
    c.self.view_is (has.turns, has.are, has.nothing)

pub returns-clause-ended : goal.returns-clause-ended
returns-clause-ended g c = λ has.
    let w = c.self.inside in
    ap (λ (v : WorkerSeen g.row.P.Denot g.row.J.Denot). v.hand) (sym c.self.view_is)
    ∙ nothing_in_hand (g.J.Join.predicate w.station.core.join) w.station.core.place w.station.core.cores (state_of g.S.Store.entries w.station.core) (journals_of w.station.ends) w.taken w.station.hand c.self.invariant has
