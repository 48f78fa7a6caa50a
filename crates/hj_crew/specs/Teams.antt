-- Teams of workers, and those that come back.
use Rattle.std.specs.Prelude.{◌≡◌, List, ◌++◌, map}
use Rattle.std.specs.List.{AllZip}
use Rattle.hj_worker.specs.Seen.{WorkerSeen}
use Rattle.hj_worker.specs.Turning.{StaysItself}
use Rattle.hj_crew.specs.declared.team.Team.{Team}

module _ {P J S : Type 0} where
  -- the workers of each of these teams
  abbrev pub workers_in : List (Team P J S) → List (List (WorkerSeen P J))
  workers_in teams = map (λ team. team.workers.items) teams

  -- a team has the workers that it had, each still that of its core, on its links
  abbrev pub TeamStays : Team P J S → Team P J S → Type 0
  TeamStays old new = AllZip StaysItself old.workers.items new.workers.items

  -- These teams came back, behind others.
  pub record AppendsTeams (teams old new : List (Team P J S)) : Type 0 where
    pub back : List (Team P J S)
    pub same : AllZip TeamStays teams back
    pub behind : new ≡ old ++ back
