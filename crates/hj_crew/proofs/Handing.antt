-- Workers that come to teams, and from them, one after another.
use Rattle.std.proofs.Common.{◌≡◌, ℕ, ◌+◌, ◌<◌, List, [], ◌∷◌, ◌++◌, length, replicate, reverse, get_or, ap, sym, ◌∙◌, append-nil, append_assoc, length-append}
use Rattle.std.proofs.lemmas.List.{get_or-map, length-reverse, map-append, replicate-append-replicate, reverse-append}
use Rattle.hj_worker.specs.Seen.{WorkerSeen}
use Rattle.hj_crew.specs.declared.team.Team.{Team}
use Rattle.hj_crew.specs.Deal.{gathered}
use Rattle.hj_crew.specs.Teams.{workers_in}

-- the last ones of a list go over to another one
module _ {X : Type 0} (held now : List X) where
  pub last-over : (before left : List X) (x : X) (all : List X) → before ≡ left ++ x ∷ [] → now ≡ held ++ x ∷ [] → held ++ reverse before ≡ all → now ++ reverse left ≡ all
  last-over before left x all popped pushed are =
      ap (λ (l : List X). l ++ reverse left) pushed ∙ append_assoc held (x ∷ []) (reverse left)
      ∙ ap (λ (l : List X). held ++ l) (sym (ap (λ (l : List X). reverse l) popped ∙ reverse-append left (x ∷ []))) ∙ are

  pub longer : (more : List X) → now ≡ held ++ reverse more → length now ≡ length held + length more
  longer more grown = ap length grown ∙ length-append held (reverse more) ∙ ap (λ (k : ℕ). length held + k) (length-reverse more)

module _ {P J S : Type 0} where
  -- a team without workers more
  pub one-empty_more : (teams new : List (Team P J S)) (team : Team P J S) (count : ℕ) → new ≡ teams ++ team ∷ [] → workers_in teams ≡ replicate count [] → team.workers.items ≡ [] → workers_in new ≡ replicate (count + 1) []
  one-empty_more teams new team count pushed are none =
      let nothing : List (WorkerSeen P J) = [] in
      ap (λ (l : List (Team P J S)). workers_in l) pushed
      ∙ map-append (λ (t : Team P J S). t.workers.items) teams (team ∷ [])
      ∙ ap (λ (l : List (List (WorkerSeen P J))). l ++ team.workers.items ∷ []) are
      ∙ ap (λ (l : List (WorkerSeen P J)). replicate count nothing ++ l ∷ []) none
      ∙ replicate-append-replicate count 1 nothing

  -- a worker more of the team at a place
  pub one-worker_more : (teams : List (Team P J S)) (at : ℕ) (team : Team P J S) (after : List (WorkerSeen P J)) (worker : WorkerSeen P J) → at < length teams → after ≡ (get_or teams at team).workers.items ++ worker ∷ []
      → after ≡ get_or (workers_in teams) at [] ++ worker ∷ []
  one-worker_more teams at team after worker within pushed =
      pushed ∙ ap (λ (l : List (WorkerSeen P J)). l ++ worker ∷ []) (sym (get_or-map (λ (t : Team P J S). t.workers.items) teams at team [] within))

  -- the workers of a team were gathered, and those of the others are still to be
  module _ (before after : List (Team P J S)) (team : Team P J S) (next : before ≡ team ∷ after) where
    pub gathers-on : (held now all : List (WorkerSeen P J)) → now ≡ held ++ reverse team.workers.items → held ++ gathered (workers_in before) ≡ all → now ++ gathered (workers_in after) ≡ all
    gathers-on held now all grown are =
        ap (λ (l : List (WorkerSeen P J)). l ++ gathered (workers_in after)) grown
        ∙ append_assoc held (reverse team.workers.items) (gathered (workers_in after))
        ∙ ap (λ (teams : List (Team P J S)). held ++ gathered (workers_in teams)) (sym next)
        ∙ are

    pub gathers-many : length (gathered (workers_in before)) ≡ length team.workers.items + length (gathered (workers_in after))
    gathers-many =
        ap (λ (teams : List (Team P J S)). length (gathered (workers_in teams))) next ∙ length-append (reverse team.workers.items) (gathered (workers_in after))
        ∙ ap (λ (k : ℕ). k + length (gathered (workers_in after))) (length-reverse team.workers.items)

  -- all were gathered
  pub gathers-all : (left : List (Team P J S)) (held all : List (WorkerSeen P J)) → left ≡ [] → held ++ gathered (workers_in left) ≡ all → held ≡ all
  gathers-all left held all none are = sym (append-nil held) ∙ ap (λ (teams : List (Team P J S)). held ++ gathered (workers_in teams)) (sym none) ∙ are
