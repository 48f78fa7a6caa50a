-- A run that halted, and may go on.
use Rattle.std.proofs.Common.{◌≡◌, ℕ, Bool, List, [], length, ap, subst, arith}
use Rattle.std.specs.List.{AllZip}
use Rattle.std.proofs.lemmas.List.{length-map, nil_from_length}
use Rattle.std.proofs.lemmas.Slice.Zip.{AllZip-long}
use Rattle.hj_msg.specs.declared.drain.Drained.{Drained}
use Rattle.hj_msg.specs.declared.feed.Given.{Given}
use Rattle.hj_msg.specs.Feed.{FeedState}
use Rattle.hj_collect.specs.Collector.{CollectorState}
use Rattle.hj_raw.specs.Items.{TakenReport}
use Rattle.hj_desk.specs.declared.caller.Caller.{Caller}
use Rattle.hj_desk.specs.Caller.{GoesRound, answer_of}
use Rattle.hj_desk.proofs.Going.{goes-stands}
use Rattle.hj_crew.specs.declared.drive.Halt.{Halt}
use Rattle.hj_crew.specs.declared.begun.BegunRun.{BegunRun}
use Rattle.hj_crew.specs.declared.team.Team.{Team}
use Rattle.hj_crew.specs.Begun.{CanStart, HasHalted}
use Rattle.hj_crew.specs.Halt.{round_of}
use Rattle.hj_crew.specs.Room.{HasRoom}
use Rattle.hj_crew.specs.Teams.{TeamStays}

-- where nothing was there before, nothing is there
pub stays-empty : {P J S : Type 0} (old new : List (Team P J S)) → old ≡ [] → AllZip TeamStays old new → new ≡ []
stays-empty old new none same = nil_from_length new (omega (arith, AllZip-long TeamStays old new same, ap length none))

-- how a run went, by what halted it
pub round-as : {P F O : Type 0} (gives : F → Given P → F → Type 0) (state : F → FeedState) (gave : O → ℕ → List (TakenReport P) → Bool → Drained → O → Type 0) (rests : O → CollectorState → Type 0) (old new : Caller P F O) (halt told : Halt) → halt ≡ told
    → GoesRound gives state gave rests (round_of halt) old new → GoesRound gives state gave rests (round_of told) old new
round-as gives state gave rests old new halt told is goes = subst (λ (h : Halt). GoesRound gives state gave rests (round_of h) old new) is goes

module _ {P J S F O : Type 0} (gives : F → Given P → F → Type 0) (state : F → FeedState) (gave : O → ℕ → List (TakenReport P) → Bool → Drained → O → Type 0) (rests : O → CollectorState → Type 0) (begun back : BegunRun P J S F O) (halt : Halt)
    (goes : GoesRound gives state gave rests (round_of halt) begun.caller back.caller) (teams : AllZip TeamStays begun.teams.items back.teams.items) where
  -- threads may be started again
  ready : HasRoom (length back.teams.items) back.own → HasRoom (length back.teams.items) back.done → back.own.items ≡ [] → back.done.items ≡ [] → (signals : ℕ) → CanStart state signals begun → CanStart state signals back
  ready own done no_own none_done signals start =
      let queues = goes.goes.queues in
      record {
        can = record {
          stands = goes-stands gives state gave begun.caller back.caller goes.answers (answer_of (round_of halt)) goes.goes start.can.stands;
          cores =
              omega (
                arith,
                ap length queues.links,
                length-map back.caller.desk.reports.items (λ receiver. receiver.link),
                length-map begun.caller.desk.reports.items (λ receiver. receiver.link),
                start.can.cores,
              );
          enough = omega (arith, AllZip-long TeamStays begun.teams.items back.teams.items teams, start.can.enough);
          few = start.can.few;
          own = own;
          done = done;
        };
        no_own = no_own;
        none_done = none_done;
      }

  pub has-halted : HasRoom (length back.teams.items) back.own → HasRoom (length back.teams.items) back.done → back.own.items ≡ [] → back.done.items ≡ [] → HasHalted gives state gave rests begun halt back
  has-halted own done no_own none_done = record { goes = goes; teams = teams; ready = ready own done no_own none_done }
