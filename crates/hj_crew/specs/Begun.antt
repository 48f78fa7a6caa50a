-- A crew while no thread is at work, and what comes back of a run.
use Rattle.std.specs.Prelude.{◌≡◌, ℕ, ◌≤◌, Bool, false, List, [], length, min, vec_capacity}
use Rattle.std.specs.List.{AllZip}
use Rattle.hj_msg.specs.declared.drain.Drained.{Drained}
use Rattle.hj_msg.specs.declared.feed.Given.{Given}
use Rattle.hj_msg.specs.Feed.{FeedState, IsFresh}
use Rattle.hj_collect.specs.Collector.{CollectorState}
use Rattle.hj_raw.specs.Items.{TakenReport}
use Rattle.hj_desk.specs.Caller.{Ends, GoesRound}
use Rattle.hj_desk.specs.Desk.{Stands, StandsFor, nothing_happened}
use Rattle.hj_crew.specs.declared.drive.Halt.{Halt}
use Rattle.hj_crew.specs.declared.making.Crew.{Crew}
use Rattle.hj_crew.specs.declared.plan.CrewSize.{CrewSize}
use Rattle.hj_crew.specs.declared.begun.BegunRun.{BegunRun}
use Rattle.hj_crew.specs.declared.begun.Returned.{Returned}
use Rattle.hj_crew.specs.Cores.{AreCrew}
use Rattle.hj_crew.specs.Halt.{round_of}
use Rattle.hj_crew.specs.Room.{HasRoom, IsRoomOf}
use Rattle.hj_crew.specs.Teams.{AppendsTeams, TeamStays}

-- The crew of a chain of this size, before it runs: nothing happened yet. It makes as many teams as there are threads and cores, and
-- for each there are signals, and room to be turned by the calling thread and to come back.
pub record IsManned {P J S : Type 0} (join : J) (size : CrewSize) (crew : Crew P J S) : Type 0 where
  pub chain : AreCrew join size.chain.cores size.chain.flight crew.desk crew.teams.items
  pub stands : (feed : FeedState) → IsFresh feed → StandsFor crew.desk feed nothing_happened
  pub going : crew.desk.over ≡ false
  pub teams : length crew.teams.items ≡ min size.threads size.chain.cores
  pub signals : length crew.signals.items ≡ length crew.teams.items
  pub own : IsRoomOf (length crew.teams.items) crew.own
  pub done : IsRoomOf (length crew.teams.items) crew.done

module _ {P J S F O : Type 0} where
  -- The teams may be given to threads, one after another: there are signals for each, and room for it to be turned by the calling thread
  -- and to come back, behind those that are there.
  pub record CanGive (state : F → FeedState) (signals : ℕ) (begun : BegunRun P J S F O) : Type 0 where
    pub stands : Stands begun.caller.desk (state begun.caller.feed)
    pub cores : length begun.caller.desk.reports.items ≤ 64
    pub enough : length begun.teams.items ≤ signals
    pub few : signals ≤ 64
    pub own : HasRoom (length begun.teams.items) begun.own
    pub done : HasRoom (length begun.teams.items) begun.done

  -- They were given to threads, and came back when the calling thread's rounds had halted.
  pub record AreGiven (gives : F → Given P → F → Type 0) (state : F → FeedState) (gave : O → ℕ → List (TakenReport P) → Bool → Drained → O → Type 0) (rests : O → CollectorState → Type 0) (old : BegunRun P J S F O) (halt : Halt) (new : BegunRun P J S F O) : Type 0 where
    pub goes : GoesRound gives state gave rests (round_of halt) old.caller new.caller
    pub own : AllZip TeamStays old.own.items new.own.items
    pub own_capacity : vec_capacity new.own ≡ vec_capacity old.own
    pub none : new.teams.items ≡ []
    pub teams_capacity : vec_capacity new.teams ≡ vec_capacity old.teams
    pub done : AppendsTeams old.teams.items old.done.items new.done.items
    pub done_capacity : vec_capacity new.done ≡ vec_capacity old.done

  -- The calling thread may start a thread for each team, and none came back yet or is its own.
  pub record CanStart (state : F → FeedState) (signals : ℕ) (begun : BegunRun P J S F O) : Type 0 where
    pub can : CanGive state signals begun
    pub no_own : begun.own.items ≡ []
    pub none_done : begun.done.items ≡ []

  -- The calling thread made its rounds up to where they halted, and each team came back. Threads may be started again.
  pub record HasHalted (gives : F → Given P → F → Type 0) (state : F → FeedState) (gave : O → ℕ → List (TakenReport P) → Bool → Drained → O → Type 0) (rests : O → CollectorState → Type 0) (begun : BegunRun P J S F O) (halt : Halt) (back : BegunRun P J S F O) : Type 0 where
    pub goes : GoesRound gives state gave rests (round_of halt) begun.caller back.caller
    pub teams : AllZip TeamStays begun.teams.items back.teams.items
    pub ready : (signals : ℕ) → CanStart state signals begun → CanStart state signals back

  -- The calling thread made its rounds up to the end of the run, and each team came back.
  pub record HasRun (gives : F → Given P → F → Type 0) (state : F → FeedState) (gave : O → ℕ → List (TakenReport P) → Bool → Drained → O → Type 0) (rests : O → CollectorState → Type 0) (begun : BegunRun P J S F O) (returned : Returned P J S F O) : Type 0 where
    pub ends : Ends gives state gave rests returned.fin begun.caller returned.caller
    pub teams : AllZip TeamStays begun.teams.items returned.teams.items
