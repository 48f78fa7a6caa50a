use Rattle.std.proofs.Common.{◌<◌, ◌≡◌, ℕ, ◌+◌, ◌*◌, ◌/◌, ap₂, ◌∷◌, [], List, arith, length, ap, sym, ◌∙◌, subst, replicate}
use Rattle.std.proofs.lemmas.List.{length-map, length-replicate}
use Rattle.std.proofs.lemmas.List.Elements.{All-pop}
use Rattle.hj_base.specs.declared.numbers.Side.TheVariants.{Left, Right}
use Rattle.hj_worker.specs.Seen.{WorkerSeen}
use Rattle.hj_crew.specs.declared.team.Team.{Team}
use Rattle.hj_crew.specs.Cores.{MakesTeams}
use Rattle.hj_crew.specs.Deal.{AreEmpty}
use Rattle.hj_crew.specs.Teams.{workers_in}
use Rattle.hj_crew.proofs.Dealing.{fewer-empty, hand-before, hand-in_range}
use Rattle.hj_crew.proofs.MadeTeams.{ends-left, makes-more, makes-none, unused-left}
use Rattle.hj_crew.proofs.Staying.{written_back}
use Rattle.hj_crew.proofs.making.make_teams.Goals as goal

pub loop-left_store-init : goal.loop-left_store-init
loop-left_store-init g c =
    let teams = c.in_ok-teams.teams.items in
    let none : List (WorkerSeen g.row.P.Denot g.row.J.Denot) = [] in
    let count : length teams ≡ c.args.count =
    sym (length-map teams (λ (team : Team g.row.P.Denot g.row.J.Denot g.row.S.Denot). team.workers.items)) ∙ ap length c.in_ok-teams.ensures ∙ length-replicate c.args.count none in
    record {
      same = c.requires.same;
      left_empty = c.requires.left_empty;
      right_empty = c.requires.right_empty;
      left_suits = c.requires.left_suits;
      right_suits = c.requires.right_suits;
      unused = c.requires.unused;
      ends = c.requires.ends;
      count = count;
      made = makes-none c.args.join.now (length c.args.left.items) c.args.ends.now teams (omega (arith, c.requires.cores.0)) (c.in_ok-teams.ensures ∙ ap (λ k. replicate k none) (sym count));
    }

pub loop-left_store-preserved : goal.loop-left_store-preserved
loop-left_store-preserved g c =
    let before = c.loop-left_store.invariant in
    let place = length c.pop.new.self.items in
    let fewer : length c.loop-left_store.left.items ≡ place + 1 = omega (arith, c.in-Some.ensures.len) in
    let right_fewer : length c.loop-left_store.right.items ≡ length c.pop-in-Some.new.self.items + 1 = omega (arith, c.in-Some-pop.ensures.len) in
    let worker = c.last_worker.result in
    let given = c.last_worker.ensures.ends in
    let held = c.as_mut_slice.result.now in
    let back = written_back c.loop-left_store.teams.items c.deal.new.teams c.loop-left_store.teams.len (omega (arith, c.deal.auto.teams, ap length c.as_mut_slice.ensures.value)) (omega arith) in
    let made : MakesTeams c.args.join.now (length c.args.left.items) (length c.loop-left_store.left.items) c.args.ends.now c.loop-left_store.ends held =
    subst (MakesTeams c.args.join.now (length c.args.left.items) (length c.loop-left_store.left.items) c.args.ends.now c.loop-left_store.ends) (sym c.as_mut_slice.ensures.value) before.made in
    let at : c.len-place.result ≡ place = omega (arith, c.len-place.ensures, c.pop.new.self.ok.0) in
    let slots : length held ≡ c.args.count = omega (arith, ap length c.as_mut_slice.ensures.value, before.count) in
    let team : c.team_of-team.result ≡ place * length c.deal.new.teams / length c.args.left.items =
    c.team_of-team.ensures ∙ ap₂ (λ (k t : ℕ). k * t / c.len-cores.result) at (sym slots ∙ omega (arith, c.deal.auto.teams)) ∙ ap (λ (n : ℕ). place * length c.deal.new.teams / n) (omega (arith, c.len-cores.ensures, c.args.left.ok.0)) in
    record {
      same = omega (arith, before.same, fewer, right_fewer);
      left_empty = (All-pop (λ store. g.S.Store.entries store ≡ []) _ _ c.pop.result c.pop.ensures.items before.left_empty).0;
      right_empty = (All-pop (λ store. g.S.Store.entries store ≡ []) _ _ c.pop-in-Some.result c.pop-in-Some.ensures.items before.right_empty).0;
      left_suits = (All-pop (λ store. g.S.Store.suits store Left c.args.join.now) _ _ c.pop.result c.pop.ensures.items before.left_suits).0;
      right_suits = (All-pop (λ store. g.S.Store.suits store Right c.args.join.now) _ _ c.pop-in-Some.result c.pop-in-Some.ensures.items before.right_suits).0;
      unused = unused-left (worker ∷ []) c.loop-left_store.ends c.last_worker.new.ends given before.unused;
      ends = ends-left (worker ∷ []) c.loop-left_store.ends c.last_worker.new.ends given (length c.loop-left_store.left.items) place fewer before.ends;
      count = ap length back ∙ omega (arith, c.deal.auto.teams, ap length c.as_mut_slice.ensures.value, before.count);
      made =
          subst (MakesTeams c.args.join.now (length c.args.left.items) place c.args.ends.now c.last_worker.new.ends) (sym back)
          (makes-more c.args.join.now (length c.args.left.items) place (length c.loop-left_store.left.items) c.args.ends.now c.loop-left_store.ends c.last_worker.new.ends held c.deal.new.teams worker fewer made
          (c.last_worker.ensures.core.0 ∙ c.in_ok-core.ensures.core.0) (c.last_worker.ensures.core.1 ∙ c.in_ok-core.ensures.core.1 ∙ at)
          (c.last_worker.ensures.core.2 ∙ omega (arith, c.in_ok-core.ensures.core.2, c.len-cores.ensures, c.args.left.ok.0)) given c.in_ok-deal.ensures.dealt
          (subst (λ (k : ℕ). AreEmpty k (workers_in c.deal.new.teams)) team c.in_ok-deal.ensures.empty));
    }

pub last_worker-requires-clause-core : goal.last_worker-requires-clause-core
last_worker-requires-clause-core g c = c.in_ok-core.ensures.state

pub last_worker-requires-clause-unused : goal.last_worker-requires-clause-unused
last_worker-requires-clause-unused g c = c.loop-left_store.invariant.unused

pub last_worker-requires-clause-left : goal.last_worker-requires-clause-left
last_worker-requires-clause-left g c = omega (arith, c.loop-left_store.invariant.ends.left)

pub last_worker-requires-clause-right : goal.last_worker-requires-clause-right
last_worker-requires-clause-right g c = omega (arith, c.loop-left_store.invariant.ends.right, c.in-Some.ensures.len)

pub last_worker-requires-clause-senders : goal.last_worker-requires-clause-senders
last_worker-requires-clause-senders g c = omega (arith, c.loop-left_store.invariant.ends.senders, c.in-Some.ensures.len)

pub team_of-team-requires-clause-place : goal.team_of-team-requires-clause-place
team_of-team-requires-clause-place g c =
    let cores : c.len-cores.result ≡ length c.args.left.items = omega (arith, c.len-cores.ensures, c.args.left.ok.0) in
    omega (arith, cores, c.len-place.ensures, c.pop.new.self.ok.0, c.in-Some.ensures.len, c.loop-left_store.invariant.made.many)

pub deal-requires-clause-in_range : goal.deal-requires-clause-in_range
deal-requires-clause-in_range g c =
    let cores : c.len-cores.result ≡ length c.args.left.items = omega (arith, c.len-cores.ensures, c.args.left.ok.0) in
    let low : c.len-place.result < c.len-cores.result = omega (arith, cores, c.len-place.ensures, c.pop.new.self.ok.0, c.in-Some.ensures.len, c.loop-left_store.invariant.made.many) in
    omega (arith, c.team_of-team.ensures, hand-in_range c.len-place.result c.len-cores.result c.args.count low (omega (arith, c.requires.teams.0)), ap length c.as_mut_slice.ensures.value, c.loop-left_store.invariant.count)

pub deal-requires-clause-empty : goal.deal-requires-clause-empty
deal-requires-clause-empty g c =
    let held = c.as_mut_slice.result.now in
    let made = c.loop-left_store.invariant.made in
    let cores : c.len-cores.result ≡ length c.args.left.items = omega (arith, c.len-cores.ensures, c.args.left.ok.0) in
    let low : c.len-place.result < c.len-cores.result = omega (arith, cores, c.len-place.ensures, c.pop.new.self.ok.0, c.in-Some.ensures.len, made.many) in
    let place : c.len-place.result + 1 ≡ length c.loop-left_store.left.items = omega (arith, c.len-place.ensures, c.pop.new.self.ok.0, c.in-Some.ensures.len) in
    let empty : AreEmpty ((c.len-place.result + 1) * c.args.count / c.len-cores.result) (workers_in c.loop-left_store.teams.items) =
    subst (λ (k : ℕ). AreEmpty (k * c.args.count / c.len-cores.result) (workers_in c.loop-left_store.teams.items)) (sym place)
    (subst (λ (n : ℕ). AreEmpty (length c.loop-left_store.left.items * c.args.count / n) (workers_in c.loop-left_store.teams.items)) (sym cores)
    (subst (λ (t : ℕ). AreEmpty (length c.loop-left_store.left.items * t / length c.args.left.items) (workers_in c.loop-left_store.teams.items)) c.loop-left_store.invariant.count made.empty)) in
    fewer-empty c.team_of-team.result ((c.len-place.result + 1) * c.args.count / c.len-cores.result) (workers_in held)
    (omega (arith, c.team_of-team.ensures, hand-before c.len-place.result c.len-cores.result c.args.count low (omega (arith, c.requires.teams.0))))
    (subst (λ (teams : List (Team g.row.P.Denot g.row.J.Denot g.row.S.Denot)). AreEmpty ((c.len-place.result + 1) * c.args.count / c.len-cores.result) (workers_in teams)) (sym c.as_mut_slice.ensures.value) empty)
