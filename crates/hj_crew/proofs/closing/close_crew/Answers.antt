use Rattle.std.proofs.Common.{◌∙◌, List, ap, length, sym, subst}
use Rattle.hj_worker.specs.Seen.{WorkerSeen}
use Rattle.hj_crew.specs.Cores.{AreClosed, left_of, reports_of, right_of}
use Rattle.hj_crew.specs.Deal.{gathered}
use Rattle.hj_crew.specs.Ends.{FormChain}
use Rattle.hj_crew.specs.Room.{IsChainRoomFor, IsRoomOf}
use Rattle.hj_crew.specs.Teams.{workers_in}
use Rattle.hj_crew.proofs.closing.close_crew.Goals as goal

pub gather-workers-requires : goal.gather-workers-requires
gather-workers-requires g c =
    let crew = c.requires.crew.1 in
    subst (λ count. IsRoomOf count c.args.room.workers) (sym (ap length crew.dealt_out ∙ crew.many)) c.requires.room.workers

pub close_run-requires-clause-chain : goal.close_run-requires-clause-chain
close_run-requires-clause-chain g c =
    let crew = c.requires.crew.1 in
    subst (λ (workers : List (WorkerSeen g.row.P.Denot g.row.J.Denot)). FormChain c.args.desk (left_of workers) (right_of workers) (reports_of workers)) (sym (◌∙◌ {b = gathered (workers_in c.args.teams.items)} c.gather-workers.ensures crew.dealt_out)) crew.chain

pub close_run-requires-clause-room : goal.close_run-requires-clause-room
close_run-requires-clause-room g c =
    let crew = c.requires.crew.1 in
    subst (λ count. IsChainRoomFor count c.args.room.chain) (sym (ap length (◌∙◌ {b = gathered (workers_in c.args.teams.items)} c.gather-workers.ensures crew.dealt_out) ∙ crew.many)) c.requires.room.chain

pub returns-clause-closed : goal.returns-clause-closed
returns-clause-closed g c = λ join crew.
    subst (λ (workers : List (WorkerSeen g.row.P.Denot g.row.J.Denot)). AreClosed g.J.Join.predicate c.args.desk workers c.close_run.result) (c.gather-workers.ensures ∙ crew.dealt_out) c.close_run.ensures.closed
