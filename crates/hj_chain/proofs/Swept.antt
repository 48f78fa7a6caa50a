-- What a sweep leaves of a run in turn.
use Rattle.std.proofs.Common.{◌≡◌, ℕ, suc, ◌+◌, ◌*◌, ◌<◌, ◌≤◌, Bool, true, false, cond, not, ◌&&◌, List, [], ◌∷◌, ◌++◌, inl, inr, length, filter, Some, None, Option, append-nil, refl, ap, sym, ◌∙◌, subst, arith, true≢false}
use Rattle.std.specs.List.{slice_get}
use Rattle.std.specs.Option.{IfSome, is_none}
use Rattle.std.proofs.lemmas.List.Elements.{filter-append}
use Rattle.hj_base.specs.declared.numbers.CoreNo.{CoreNo}
use Rattle.hj_msg.specs.declared.drain.Drained.{Drained}
use Rattle.hj_msg.specs.declared.drain.Drained.TheVariants.{Kept, Refused}
use Rattle.hj_msg.specs.declared.event.Event.{Event}
use Rattle.hj_msg.specs.declared.event.Pair.{Pair}
use Rattle.hj_msg.specs.declared.feed.Given.{Given}
use Rattle.hj_msg.specs.declared.fin.Fin.{Fin}
use Rattle.hj_msg.specs.declared.fin.Fin.TheVariants as fin
use Rattle.hj_msg.specs.Feed.{Answers, FeedState}
use Rattle.hj_chain.specs.declared.actor.Actor.{Actor}
use Rattle.hj_chain.specs.declared.actor.Actor.TheVariants.{Admit, Collect}
use Rattle.hj_chain.specs.declared.actor.NotNow.TheVariants.{Over}
use Rattle.hj_chain.specs.declared.actor.Stepped.{Stepped}
use Rattle.hj_chain.specs.declared.actor.Stepped.TheVariants.{Did, NotEnabled, Memory}
use Rattle.hj_chain.specs.declared.serial.Chooser.TheVariants as chooser
use Rattle.hj_chain.specs.Chain.{ChainState, Contents, admit_cause}
use Rattle.hj_chain.specs.Reached.{StandsFor}
use Rattle.hj_chain.specs.Serial.{MayBeTried, RunsAll, RunsSerially, actors, chosen, from_place, in_turn, is_enabled, others, would_wait}
use Rattle.hj_chain.specs.Steps.{Gathers, GoesWith, IsGoing, Steps, asks, was_asked}
use Rattle.hj_chain.specs.Sweep.{Collects, Drains, EndsCollecting, RunsOut, StandsThere, Sweeps, Tried}
use Rattle.hj_chain.specs.Sweep as sweep
use Rattle.hj_chain.proofs.Advancing.{goes-unasked, steps-unasked}
use Rattle.hj_chain.proofs.ActorOrder.{length-actors}
use Rattle.hj_chain.proofs.FewSteps.{to_come}
use Rattle.hj_chain.proofs.SerialRuns.{Running, Settled, release-settles, running-refused, running-release}
use Rattle.hj_chain.proofs.Sweeping.{Sweeping, did-over, may-be-tried, sweeping-at, sweeping-past, swept-fewer, swept-over, swept-running, swept-settled, swept-within}
use Rattle.hj_chain.proofs.Trying.{before-or-at, inner-asks, inner-collects, slice-low}

-- ---- none is left

filter-none : {X : Type 0} (test : X → Bool) (xs : List X) → ((k : ℕ) (x : X) → slice_get xs k ≡ Some x → test x ≡ false) → filter test xs ≡ []
filter-none test [] each = refl
filter-none test (x ∷ xs) each = ap (λ (b : Bool). cond b (x ∷ filter test xs) (filter test xs)) (each 0 x refl) ∙ filter-none test xs (λ k y is. each (suc k) y is)

both-true : (a b : Bool) → (a && b) ≡ true → a ≡ true
both-true true b is = refl
both-true false b is = is

no-next : {X : Type 0} (o : Option X) → is_none o ≡ true → o ≡ None
no-next None is = refl
no-next (Some x) is = absurd (true≢false (sym is))

-- no actor behind the driver's put is enabled
abbrev pub AllPassed : {P : Type 0} → ChainState P → Type 0
AllPassed chain = (k : ℕ) (actor : Actor) → 1 ≤ k → slice_get (actors (length chain.cores)) k ≡ Some actor → is_enabled chain actor ≡ false

module _ {P : Type 0} (chain : ChainState P) where
  abbrev n : ℕ
  n = length chain.cores

  abbrev test : Actor → Bool
  test = is_enabled chain

  pub waits-enabled : (ready : Bool) → chain.over ≡ false → would_wait ready chain ≡ true → test Admit ≡ true
  waits-enabled ready going waits =
      let none : chain.next ≡ None = no-next chain.next (both-true (is_none chain.next) (not ready) waits) in
      ap (λ (b : Bool). is_none (cond b (Some Over) (admit_cause chain.driver chain.next))) going ∙ ap (λ (o : Option (Given P)). is_none (admit_cause chain.driver o)) none

  module _ (passed : AllPassed chain) where
    others-none : filter test (others n) ≡ []
    others-none = filter-none test (others n) (λ k actor is. passed (suc k) actor (omega arith) is)

    pub none-chosen : test Admit ≡ false → (ready : Bool) → would_wait ready chain ≡ false → chosen (from_place 0) ready chain ≡ None
    none-chosen off ready waits =
        ap (λ (w : Bool). slice_get (filter test (in_turn n w 0)) 0) waits ∙ ap (λ (l : List Actor). slice_get (filter test l) 0) (append-nil (actors n))
        ∙ ap (λ (b : Bool). slice_get (cond b (Admit ∷ filter test (others n)) (filter test (others n))) 0) off ∙ ap (λ (l : List Actor). slice_get l 0) others-none

    put-chosen : test Admit ≡ true → (ready : Bool) → would_wait ready chain ≡ true → chosen (from_place 0) ready chain ≡ Some Admit
    put-chosen on ready waits =
        ap (λ (w : Bool). slice_get (filter test (in_turn n w 0)) 0) waits ∙ ap (λ (l : List Actor). slice_get (filter test (l ++ Admit ∷ [])) 0) (append-nil (others n))
        ∙ ap (λ (l : List Actor). slice_get l 0) (filter-append test (others n) (Admit ∷ [])) ∙ ap (λ (l : List Actor). slice_get (l ++ filter test (Admit ∷ [])) 0) others-none
        ∙ ap (λ (b : Bool). slice_get (cond b (Admit ∷ []) []) 0) on

  the-put : (actor : Actor) → slice_get (actors n) 0 ≡ Some actor → actor ≡ Admit
  the-put actor is = let e : Some Admit ≡ Some actor = is in cc

  some-first : 0 < length (actors n)
  some-first = omega (arith, length-actors n)

  pub put-tried : (ready : Bool) → would_wait ready chain ≡ false → MayBeTried 0 ready chain 0
  put-tried ready waits = may-be-tried chain ready 0 0 refl some-first (λ does. absurd (true≢false (sym does ∙ waits)))

  pub put-tried-last : AllPassed chain → chain.over ≡ false → (ready : Bool) → would_wait ready chain ≡ true → MayBeTried 0 ready chain 0
  put-tried-last passed going ready waits =
      let on = waits-enabled ready going waits in
      record {
        within = some-first;
        named = λ actor is can. put-chosen passed on ready waits ∙ ap Some (sym (the-put actor is));
        passed = λ actor is off. absurd (true≢false (sym on ∙ ap test (sym (the-put actor is)) ∙ off));
      }

-- ---- a run in turn

module _ {P J F D : Type 0} (gives : F → Given P → F → Type 0) (is_ready : F → Bool) (takes : D → Pair P → Drained → D → Type 0) (state : F → FeedState) (predicate : J → P → P → Bool) (old : Contents P J) (from : F) (unfilled : D) where
  -- The sweep has come to this place, no pair is due, and memory didn't run out.
  pub record Swept (to : F) (place : ℕ) (now : Contents P J) (filled : D) : Type 0 where
    pub sweeping : Sweeping gives is_ready takes state predicate old from unfilled place now to filled
    pub settled : Settled now
    pub going : now.state.over ≡ false

  pub is-going : (to : F) (place : ℕ) (now : Contents P J) (filled : D) → Swept to place now filled → IsGoing predicate now
  is-going to place now filled swept =
      let goes = swept.sweeping.running.goes in
      record { schedule = goes.schedule; events = goes.events; given = goes.given; stands = goes.stands; well_formed = goes.well_formed; going = swept.going }

  -- how many steps are to come at most
  abbrev pub weight : F → Contents P J → ℕ
  weight to now = to_come (length now.state.cores) now.state + (4 * length now.state.cores + 4) * (state to).remaining

  abbrev Ended : Fin → F → Contents P J → D → Type 0
  Ended ended to new filled = (schedule : List Actor) (events : List (Event P)) (given : ℕ) → StandsFor predicate old schedule events given → RunsSerially gives is_ready takes predicate chooser.InTurn schedule events given old from unfilled ended new to filled

  -- The run ends so.
  abbrev pub Finishes : Fin → F → Contents P J → D → Type 0
  Finishes ended to new filled = RunsAll gives is_ready takes state predicate chooser.InTurn old from unfilled ended new to filled

  module _ (to : F) (at : ℕ) (now : Contents P J) (filled : D) (swept : Swept to at now filled) (actor : Actor) (there : StandsThere now at actor) (tried : MayBeTried at (is_ready to) now.state at) where
    pub swept-past : is_enabled now.state actor ≡ false → Swept to (at + 1) now filled
    swept-past off = record {
      sweeping = sweeping-past gives is_ready takes state predicate old from unfilled at now to filled swept.sweeping at tried actor there.stands off now refl to refl;
      settled = swept.settled;
      going = swept.going;
    }

    module _ (result : Stepped) (new : Contents P J) (onto : F) (step : Steps gives is_ready (predicate now.join) actor now.state to result new.state onto) (gathers : Gathers actor now result new) (same_join : new.join ≡ now.join) where
      pub over-step : result ≡ Memory → Ended fin.Memory onto new filled
      over-step = swept-over gives is_ready takes state predicate old from unfilled at now to filled swept.sweeping at tried actor there.stands there.behind result new onto step gathers same_join

      module _ (did : result ≡ Did) where
        pub going-step : new.state.over ≡ false
        going-step = did-over gives is_ready (predicate now.join) actor now.state to result new.state onto step did ∙ swept.going

        pub running-on : GoesWith predicate new (state onto) → Running gives is_ready takes state predicate chooser.InTurn old from unfilled (from_place (at + 1)) new onto filled
        running-on goes = swept-running gives is_ready takes state predicate old from unfilled at now to filled swept.sweeping at tried actor there.stands there.behind result new onto step gathers same_join did swept.settled goes

        pub within-on : at + 1 ≤ length (actors (length new.state.cores))
        within-on = swept-within gives is_ready takes state predicate old from unfilled at now to filled swept.sweeping at tried actor there.stands there.behind result new onto step gathers same_join did

        pub swept-step : GoesWith predicate new (state onto) → ((core : CoreNo) → actor ≡ Collect core → ⊥) → Swept onto (at + 1) new filled
        swept-step goes else = record {
          sweeping = sweeping-at gives is_ready takes state predicate old from unfilled (at + 1) new onto filled (running-on goes) within-on;
          settled = swept-settled gives is_ready takes state predicate old from unfilled at now to filled swept.sweeping at tried actor there.stands there.behind result new onto step gathers same_join did else swept.settled;
          going = going-step;
        }

        pub fewer-step : (was_asked actor now.state.next (is_ready to) result ≡ true → IfSome new.state.next (λ given. Answers given (state to) (state onto))) → weight onto new < weight to now
        fewer-step answers = swept-fewer gives is_ready takes state predicate old from unfilled at now to filled swept.sweeping at tried actor there.stands there.behind result new onto step gathers same_join did answers

  module _ (to : F) (at : ℕ) (now : Contents P J) (filled : D) (swept : Swept to at now filled) (low : 1 ≤ at) (actor : Actor) (there : StandsThere now at actor) where
    tried-there : MayBeTried at (is_ready to) now.state at
    tried-there = may-be-tried now.state (is_ready to) at at refl (slice-low (actors (length now.state.cores)) at actor there.stands) (λ waits zero. omega (arith, low, zero))

    pub past-there : is_enabled now.state actor ≡ false → Swept to (at + 1) now filled
    past-there = swept-past to at now filled swept actor there tried-there

    module _ (unasks : (ready : Bool) → asks actor now.state.next ready ≡ false) (result : Stepped) (new : Contents P J) (tried : Tried predicate actor now result new) where
      step-there : Steps gives is_ready (predicate now.join) actor now.state to result new.state to
      step-there = steps-unasked gives is_ready (predicate now.join) actor now.state to result new.state unasks tried.step

      pub goes-there : GoesWith predicate new (state to)
      goes-there = goes-unasked predicate now new actor tried.join (state to) swept.sweeping.running.goes result unasks tried.step tried.gathers

      pub over-there : result ≡ Memory → Ended fin.Memory to new filled
      over-there = over-step to at now filled swept actor there tried-there result new to step-there tried.gathers tried.join

      pub on-there : result ≡ Did → ((core : CoreNo) → actor ≡ Collect core → ⊥) → Swept to (at + 1) new filled
      on-there did = swept-step to at now filled swept actor there tried-there result new to step-there tried.gathers tried.join did goes-there

      not-asked : (result : Stepped) → was_asked actor now.state.next (is_ready to) result ≡ true → ⊥
      not-asked Did was = true≢false (sym was ∙ unasks (is_ready to))
      not-asked (NotEnabled why) was = true≢false (sym was)
      not-asked Memory was = true≢false (sym was)

      pub fewer-there : result ≡ Did → weight to new < weight to now
      fewer-there did = fewer-step to at now filled swept actor there tried-there result new to step-there tried.gathers tried.join did (λ was. absurd (not-asked result was))

      module _ (did : result ≡ Did) (answer : Drained) (last : Contents P J) (more : D) (drains : Drains takes predicate new filled answer last more) where
        running-there : Running gives is_ready takes state predicate chooser.InTurn old from unfilled (from_place (at + 1)) new to filled
        running-there = running-on to at now filled swept actor there tried-there result new to step-there tried.gathers tried.join did goes-there

        last-state : last.state ≡ new.state
        last-state = ap (λ (c : Contents P J). c.state) drains.others

        pub refused-there : answer ≡ Refused → Ended fin.Refused to last more
        refused-there = running-refused gives is_ready takes state predicate chooser.InTurn old from unfilled (from_place (at + 1)) new to filled running-there last more drains.others answer drains.releases

        pub drained-there : answer ≡ Kept → Swept to (at + 1) last more
        drained-there kept =
            let goes = drains.goes (state to) goes-there in
            let going : last.state.over ≡ false = ap (λ (s : ChainState P). s.over) last-state ∙ going-step to at now filled swept actor there tried-there result new to step-there tried.gathers tried.join did in
            record {
              sweeping = sweeping-at gives is_ready takes state predicate old from unfilled (at + 1) last to more
                  (running-release gives is_ready takes state predicate chooser.InTurn old from unfilled (from_place (at + 1)) new to filled running-there last more drains.others answer drains.releases kept goes)
                  (subst (λ (s : ChainState P). at + 1 ≤ length (actors (length s.cores))) (sym last-state) (within-on to at now filled swept actor there tried-there result new to step-there tried.gathers tried.join did));
              settled = release-settles gives is_ready takes state predicate chooser.InTurn old from unfilled (from_place (at + 1)) new to filled running-there last more drains.others answer drains.releases kept going;
              going = going;
            }

        pub fewer-drained : weight to last < weight to now
        fewer-drained = omega (arith, fewer-there did, ap (λ (s : ChainState P). to_come (length s.cores) s + (4 * length s.cores + 4) * (state to).remaining) last-state)

  -- ---- a part of a round

  -- What actors that were tried from one place on to another one left: where no step was made, each of them isn't enabled.
  pub record Moves (to : F) (first at : ℕ) (before moved : Bool) (begun now : Contents P J) (filled : D) : Type 0 where
    pub swept : Swept to at now filled
    pub low : first ≤ at
    pub most : weight to now ≤ weight to begun
    pub fewer : moved ≡ true → before ≡ false → weight to now < weight to begun
    pub was : moved ≡ false → before ≡ false
    pub same : moved ≡ false → now ≡ begun
    pub off : moved ≡ false → (k : ℕ) (actor : Actor) → first ≤ k → k < at → slice_get (actors (length begun.state.cores)) k ≡ Some actor → is_enabled begun.state actor ≡ false

  last-off : (begun now : Contents P J) → now ≡ begun → (at : ℕ) (actor : Actor) → StandsThere now at actor → is_enabled now.state actor ≡ false → (k : ℕ) (other : Actor) → k ≡ at → slice_get (actors (length begun.state.cores)) k ≡ Some other → is_enabled begun.state other ≡ false
  last-off begun now same at actor there off k other here is =
      let e : Some actor ≡ Some other = sym there.stands ∙ ap (λ (c : Contents P J). slice_get (actors (length c.state.cores)) at) same ∙ ap (slice_get (actors (length begun.state.cores))) (sym here) ∙ is in
      let one : other ≡ actor = cc in
      ap (is_enabled begun.state) one ∙ ap (λ (c : Contents P J). is_enabled c.state actor) (sym same) ∙ off

  module _ (to : F) (first : ℕ) (before : Bool) (begun : Contents P J) where
    moves-none : (filled : D) → Swept to first begun filled → Moves to first first before before begun begun filled
    moves-none filled swept = record {
      swept = swept;
      low = omega arith;
      most = omega arith;
      fewer = λ did not. absurd (true≢false (sym did ∙ not));
      was = λ still. still;
      same = λ still. refl;
      off = λ still k actor low high is. absurd (omega (arith, low, high));
    }

    moves-past : (at : ℕ) (moved : Bool) (now : Contents P J) (filled : D) (actor : Actor) → 1 ≤ first → Moves to first at before moved begun now filled → StandsThere now at actor → is_enabled now.state actor ≡ false → Moves to first (at + 1) before moved begun now filled
    moves-past at moved now filled actor some moves there off = record {
      swept = past-there to at now filled moves.swept (omega (arith, some, moves.low)) actor there off;
      low = omega (arith, moves.low);
      most = moves.most;
      fewer = moves.fewer;
      was = moves.was;
      same = moves.same;
      off = λ still k other low high is. elim (before-or-at k at high) [
        | inl less ↦ moves.off still k other low less is
        | inr here ↦ last-off begun now (moves.same still) at actor there off k other here is
      ];
    }

    moves-on : (at : ℕ) (moved : Bool) (now : Contents P J) (filled : D) (new : Contents P J) (more : D) → Moves to first at before moved begun now filled → Swept to (at + 1) new more → weight to new < weight to now → Moves to first (at + 1) before true begun new more
    moves-on at moved now filled new more moves swept fewer = record {
      swept = swept;
      low = omega (arith, moves.low);
      most = omega (arith, moves.most, fewer);
      fewer = λ did not. omega (arith, moves.most, fewer);
      was = λ still. absurd (true≢false still);
      same = λ still. absurd (true≢false still);
      off = λ still. absurd (true≢false still);
    }

    pub moves-sweeps : (filled : D) → Swept to first begun filled → 1 ≤ first → {at : ℕ} {moved : Bool} {now : Contents P J} → Sweeps predicate first before begun at moved now → Moves to first at before moved begun now filled
    moves-sweeps filled swept some sweep.starts = moves-none filled swept
    moves-sweeps filled swept some (sweep.passes at moved now actor more there off) = moves-past at moved now filled actor some (moves-sweeps filled swept some more) there off
    moves-sweeps filled swept some (sweep.steps at moved now actor new more there inner tried) =
        let moves = moves-sweeps filled swept some more in
        let low : 1 ≤ at = omega (arith, some, moves.low) in
        let asks-none = inner-asks actor inner now.state.next in
        moves-on at moved now filled new filled moves (on-there to at now filled moves.swept low actor there asks-none Did new tried refl (inner-collects actor inner)) (fewer-there to at now filled moves.swept low actor there asks-none Did new tried refl)

    pub sweeps-over : (filled : D) → Swept to first begun filled → 1 ≤ first → (new : Contents P J) → RunsOut predicate first before begun new → Finishes fin.Memory to new filled
    sweeps-over filled swept some new out =
        let moves = moves-sweeps filled swept some out.sweeps in
        let low : 1 ≤ out.at = omega (arith, some, moves.low) in
        let asks-none = inner-asks out.actor out.inner out.now.state.next in
        record {
          runs = over-there to out.at out.now filled moves.swept low out.actor out.there asks-none Memory new out.tried refl;
          goes = goes-there to out.at out.now filled moves.swept low out.actor out.there asks-none Memory new out.tried;
          join = out.tried.join ∙ moves.swept.sweeping.running.join;
        }

    pub moves-collects : (undrained : D) → Swept to first begun undrained → 1 ≤ first → {at : ℕ} {moved : Bool} {now : Contents P J} {filled : D} → Collects takes predicate first before begun undrained at moved now filled → Moves to first at before moved begun now filled
    moves-collects undrained swept some sweep.starts = moves-none undrained swept
    moves-collects undrained swept some (sweep.passes at moved now filled actor more there off) = moves-past at moved now filled actor some (moves-collects undrained swept some more) there off
    moves-collects undrained swept some (sweep.collects at moved now filled core mid new last more there tried drains) =
        let moves = moves-collects undrained swept some more in
        let low : 1 ≤ at = omega (arith, some, moves.low) in
        moves-on at moved now filled new last moves (drained-there to at now filled moves.swept low (Collect core) there (λ ready. refl) Did mid tried refl Kept new last drains refl)
        (fewer-drained to at now filled moves.swept low (Collect core) there (λ ready. refl) Did mid tried refl Kept new last drains)

    pub collects-end : (undrained : D) → Swept to first begun undrained → 1 ≤ first → {ended : Fin} {new : Contents P J} {filled : D} → EndsCollecting takes predicate first before begun undrained ended new filled → Finishes ended to new filled
    collects-end undrained swept some (sweep.runs_out at moved now filled core new more there tried) =
        let moves = moves-collects undrained swept some more in
        let low : 1 ≤ at = omega (arith, some, moves.low) in
        record {
          runs = over-there to at now filled moves.swept low (Collect core) there (λ ready. refl) Memory new tried refl;
          goes = goes-there to at now filled moves.swept low (Collect core) there (λ ready. refl) Memory new tried;
          join = tried.join ∙ moves.swept.sweeping.running.join;
        }
    collects-end undrained swept some (sweep.refuses at moved now filled core mid new last more there tried drains) =
        let moves = moves-collects undrained swept some more in
        let low : 1 ≤ at = omega (arith, some, moves.low) in
        record {
          runs = refused-there to at now filled moves.swept low (Collect core) there (λ ready. refl) Did mid tried refl Refused new last drains refl;
          goes = drains.goes (state to) (goes-there to at now filled moves.swept low (Collect core) there (λ ready. refl) Did mid tried);
          join = ap (λ (c : Contents P J). c.join) drains.others ∙ tried.join ∙ moves.swept.sweeping.running.join;
        }

  -- ---- a whole round

  -- How a round stands where it begins: where no step was made in the one before, only the driver's put may be enabled.
  pub record Round (to : F) (moved : Bool) (now : Contents P J) (filled : D) : Type 0 where
    pub swept : Swept to 0 now filled
    pub passed : moved ≡ false → AllPassed now.state

  -- Behind the put: the sweep is at the next place, and no more steps are to come than before; fewer, if it made its step.
  pub record Put (to : F) (moved put : Bool) (now : Contents P J) (onto : F) (new : Contents P J) (filled : D) : Type 0 where
    pub swept : Swept onto 1 new filled
    pub most : weight onto new ≤ weight to now
    pub fewer : put ≡ true → weight onto new < weight to now
    -- where the put made no step, one was made in the round before
    pub was : put ≡ false → moved ≡ true

-- what is to come falls with each round
abbrev pub one-if : Bool → ℕ
one-if b = cond b 1 0
