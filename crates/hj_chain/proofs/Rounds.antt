-- The rounds of a run in turn: the driver's put, its ports, the ends of the cores, and their reports.
use Rattle.std.proofs.Common.{◌≡◌, ℕ, ◌+◌, ◌*◌, ◌<◌, ◌≤◌, Bool, true, false, ◌⊎◌, inl, inr, length, None, Some, refl, ap, sym, ◌∙◌, subst, arith, true≢false}
use Rattle.std.specs.List.{slice_get}
use Rattle.hj_base.specs.declared.numbers.CoreNo.{CoreNo}
use Rattle.hj_msg.specs.declared.drain.Drained.{Drained}
use Rattle.hj_msg.specs.declared.event.Pair.{Pair}
use Rattle.hj_msg.specs.declared.feed.Given.{Given}
use Rattle.hj_msg.specs.declared.fin.Fin.{Fin}
use Rattle.hj_msg.specs.declared.fin.Fin.TheVariants as fin
use Rattle.hj_msg.specs.Feed.{FeedState}
use Rattle.hj_chain.specs.declared.actor.Actor.TheVariants.{Admit, PortLeft, PortRight, Collect}
use Rattle.hj_chain.specs.declared.actor.Stepped.TheVariants.{Did}
use Rattle.hj_chain.specs.declared.serial.Chooser.TheVariants as chooser
use Rattle.hj_chain.specs.Chain.{Contents}
use Rattle.hj_chain.specs.Serial.{MayBeTried, RunsAll, actors, chosen, from_place, is_enabled, would_wait}
use Rattle.hj_chain.specs.Steps.{IsGoing}
use Rattle.hj_chain.specs.Sweep.{Collects, EndsCollecting, Puts, RunsOut, StandsThere, Sweeps, SweepsPast}
use Rattle.hj_chain.specs.Sweep as sweep
use Rattle.hj_chain.proofs.ActorOrder.{length-actors}
use Rattle.hj_chain.proofs.Advancing.{same-join, same-kept}
use Rattle.hj_chain.proofs.SerialRuns.{running-ends-done}
use Rattle.hj_chain.proofs.Sweeping.{port-first, wrapped}
use Rattle.hj_chain.proofs.Swept.{Moves, Put, Round, collects-end, fewer-step, is-going, moves-collects, moves-sweeps, none-chosen, one-if, put-tried, put-tried-last, sweeps-over, swept-past, swept-step, waits-enabled, weight}
use Rattle.hj_chain.proofs.Trying.{left-there, low-or-high, right-there, slice-low}

-- ---- the driver's put

the-put-there : {P J : Type 0} (now : Contents P J) → StandsThere now 0 Admit
the-put-there now = record { stands = refl; behind = refl }

admit-collects : (core : CoreNo) → Admit ≡ Collect core → ⊥
admit-collects core is = cc

module _ {P J F D : Type 0} {gives : F → Given P → F → Type 0} {is_ready : F → Bool} {takes : D → Pair P → Drained → D → Type 0}
    {state : F → FeedState} {predicate : J → P → P → Bool} {old : Contents P J} {from : F} {unfilled : D}
    {to : F} {moved : Bool} {now : Contents P J} {filled : D}
    (round : Round gives is_ready takes state predicate old from unfilled to moved now filled) where
  may-try : (would_wait (is_ready to) now.state ≡ false) ⊎ (moved ≡ false) → MayBeTried 0 (is_ready to) now.state 0
  may-try (inl free) = put-tried now.state (is_ready to) free
  may-try (inr still) = by (would_wait (is_ready to) now.state) refl
    where
      by : (b : Bool) → would_wait (is_ready to) now.state ≡ b → MayBeTried 0 (is_ready to) now.state 0
      by false is = put-tried now.state (is_ready to) is
      by true is = put-tried-last now.state (round.passed still) round.swept.going (is_ready to) is

  pub put-on : {goes_on put : Bool} {new : Contents P J} {onto : F} → Puts gives is_ready state predicate moved now to goes_on put new onto
      → goes_on ≡ true → Put gives is_ready takes state predicate old from unfilled to moved put now onto new filled
  put-on (sweep.waits was waits) on = record {
    swept = record {
      sweeping = record {
        stood = round.swept.sweeping.stood;
        running = round.swept.sweeping.running;
        same = round.swept.sweeping.same ∙ port-first now.state (is_ready to) waits;
        within = omega (arith, length-actors (length now.state.cores));
      };
      settled = round.swept.settled;
      going = round.swept.going;
    };
    most = omega arith;
    fewer = λ did. absurd (true≢false (sym did));
    was = λ none. was;
  }
  put-on (sweep.idles may off) on = record {
    swept = swept-past gives is_ready takes state predicate old from unfilled to 0 now filled round.swept Admit
        (the-put-there now) (may-try may) off;
    most = omega arith;
    fewer = λ did. absurd (true≢false (sym did));
    was = λ none. on;
  }
  put-on (sweep.puts may new onto step others goes answers) on =
      let tried = may-try may in
      let kept = same-kept now new others in
      let joined = same-join now new others in
      let fewer =
      fewer-step gives is_ready takes state predicate old from unfilled to 0 now filled round.swept Admit (the-put-there now) tried
      Did new onto step kept joined refl answers in
      record {
        swept = swept-step gives is_ready takes state predicate old from unfilled to 0 now filled round.swept Admit (the-put-there now) tried
            Did new onto step kept joined refl goes admit-collects;
        most = omega (arith, fewer);
        fewer = λ did. fewer;
        was = λ none. absurd (true≢false none);
      }

  not-waiting : (b : Bool) → would_wait (is_ready to) now.state ≡ b → is_enabled now.state Admit ≡ false → would_wait (is_ready to) now.state ≡ false
  not-waiting false is off = is
  not-waiting true is off = absurd (true≢false (sym (waits-enabled now.state (is_ready to) round.swept.going is) ∙ off))

  pub put-ends : 1 ≤ now.state.driver.flight → {goes_on put : Bool} {new : Contents P J} {onto : F}
      → Puts gives is_ready state predicate moved now to goes_on put new onto → goes_on ≡ false
      → RunsAll gives is_ready takes state predicate chooser.InTurn old from unfilled fin.Done new onto filled
  put-ends some (sweep.waits was waits) idle = absurd (true≢false idle)
  put-ends some (sweep.puts may new onto step others goes answers) idle = absurd (true≢false idle)
  put-ends some (sweep.idles may off) idle =
      let swept = round.swept in
      let free : would_wait (is_ready to) now.state ≡ false = not-waiting (would_wait (is_ready to) now.state) refl off in
      let none : chosen (from_place swept.sweeping.stood) (is_ready to) now.state ≡ None =
      swept.sweeping.same ∙ none-chosen now.state (round.passed idle) off (is_ready to) free in
      record {
        runs = running-ends-done gives is_ready takes state predicate chooser.InTurn old from unfilled (from_place swept.sweeping.stood) now to filled
            swept.sweeping.running swept.going swept.settled some (is_ready to) (sym none);
        goes = swept.sweeping.running.goes;
        join = swept.sweeping.running.join;
      }

-- ---- the ports, and the ends of the cores

pub tried-ports : {P J : Type 0} {predicate : J → P → P → Bool} {put : Bool} {begun : Contents P J} {left_moved : Bool} {left : Contents P J}
    {moved : Bool} {now : Contents P J}
    → SweepsPast predicate PortLeft put begun left_moved left → SweepsPast predicate PortRight left_moved left moved now → Sweeps predicate 1 put begun 3 moved now
tried-ports {put = put} {begun = begun} {left = left} by_left by_right =
    by_right 1 2 put begun (right-there left) (by_left 1 1 put begun (left-there begun) sweep.starts)

-- The ports and the ends of all cores were tried behind the put.
pub record TriedAll {P J : Type 0} (predicate : J → P → P → Bool) (put : Bool) (begun : Contents P J) (moved : Bool) (now : Contents P J) : Type 0 where
  pub cores : length now.state.cores ≡ length begun.state.cores
  pub sweeps : Sweeps predicate 1 put begun (2 * length now.state.cores + 3) moved now

pub tried-all : {P J : Type 0} {predicate : J → P → P → Bool} {put : Bool} {begun : Contents P J} {ports_moved : Bool} {ports : Contents P J}
    {moved : Bool} {now : Contents P J}
    → Sweeps predicate 1 put begun 3 ports_moved ports → length ports.state.cores ≡ length begun.state.cores
    → Sweeps predicate 1 put begun (2 * length ports.state.cores + 3) moved now → length now.state.cores ≡ length ports.state.cores
    → TriedAll predicate put begun moved now
tried-all {predicate = predicate} {put = put} {begun = begun} {moved = moved} {now = now} by_ports ports_cores by_ends ends_cores = record {
  cores = ends_cores ∙ ports_cores;
  sweeps = subst (λ n. Sweeps predicate 1 put begun (2 * n + 3) moved now) (sym ends_cores) by_ends;
}

-- ---- what comes behind the put

-- What is to come falls with each round: the rest of it leaves no more, and less where it made a step and the put made none.
falls : (after between before : ℕ) (did put moved : Bool) → after ≤ between → between ≤ before → (put ≡ true → between < before)
    → (did ≡ true → put ≡ false → after < between) → (did ≡ false → put ≡ false) → (put ≡ false → moved ≡ true)
    → 2 * after + one-if did < 2 * before + one-if moved
falls after between before true true moved most more by_put by_rest none was = omega (arith, most, by_put refl)
falls after between before true false moved most more by_put by_rest none was = omega (arith, more, by_rest refl refl)
falls after between before false put true most more by_put by_rest none was = omega (arith, most, more)
falls after between before false put false most more by_put by_rest none was = absurd (true≢false (sym (was (none refl))))

module _ {P J F D : Type 0} {gives : F → Given P → F → Type 0} {is_ready : F → Bool} {takes : D → Pair P → Drained → D → Type 0}
    {state : F → FeedState} {predicate : J → P → P → Bool} {old : Contents P J} {from : F} {unfilled : D}
    {to : F} {moved put : Bool} {now : Contents P J} {onto : F} {begun : Contents P J} {filled : D}
    (made : Put gives is_ready takes state predicate old from unfilled to moved put now onto begun filled) where
  pub is-going-on : IsGoing predicate begun
  is-going-on = is-going gives is_ready takes state predicate old from unfilled onto 1 begun filled made.swept

  pub ends-over : {new : Contents P J} → RunsOut predicate 1 put begun new
      → RunsAll gives is_ready takes state predicate chooser.InTurn old from unfilled fin.Memory new onto filled
  ends-over {new} out =
      sweeps-over gives is_ready takes state predicate old from unfilled onto 1 put begun filled made.swept (omega arith) new out

  module _ {middle : Bool} {mid : Contents P J} (tried : TriedAll predicate put begun middle mid) where
    inner : Moves gives is_ready takes state predicate old from unfilled onto 1 (2 * length mid.state.cores + 3) put middle begun mid filled
    inner = moves-sweeps gives is_ready takes state predicate old from unfilled onto 1 put begun filled made.swept (omega arith) tried.sweeps

    pub reports-end : {ended : Fin} {new : Contents P J} {more : D}
        → EndsCollecting takes predicate (2 * length mid.state.cores + 3) middle mid filled ended new more
        → RunsAll gives is_ready takes state predicate chooser.InTurn old from unfilled ended new onto more
    reports-end ending =
        collects-end gives is_ready takes state predicate old from unfilled onto (2 * length mid.state.cores + 3) middle mid filled
        inner.swept (omega arith) ending

    module _ {did : Bool} {new : Contents P J} {more : D}
        (collects : Collects takes predicate (2 * length mid.state.cores + 3) middle mid filled (3 * length mid.state.cores + 3) did new more) where
      last : Moves gives is_ready takes state predicate old from unfilled onto (2 * length mid.state.cores + 3)
          (3 * length mid.state.cores + 3) middle did mid new more
      last =
          moves-collects gives is_ready takes state predicate old from unfilled onto (2 * length mid.state.cores + 3) middle mid filled
          inner.swept (omega arith) collects

      all : length (actors (length new.state.cores)) ≡ 3 * length mid.state.cores + 3
      all =
          ap (λ (m : ℕ). length (actors m)) (last.swept.sweeping.running.cores ∙ sym inner.swept.sweeping.running.cores)
          ∙ length-actors (length mid.state.cores)

      rest-most : weight gives is_ready takes state predicate old from unfilled onto new
          ≤ weight gives is_ready takes state predicate old from unfilled onto begun
      rest-most = omega (arith, inner.most, last.most)

      rest-fewer : did ≡ true → put ≡ false → weight gives is_ready takes state predicate old from unfilled onto new
          < weight gives is_ready takes state predicate old from unfilled onto begun
      rest-fewer on off = by middle refl
        where
          by : (b : Bool) → middle ≡ b → weight gives is_ready takes state predicate old from unfilled onto new
              < weight gives is_ready takes state predicate old from unfilled onto begun
          by true is = omega (arith, inner.fewer is off, last.most)
          by false is = omega (arith, last.fewer on is, inner.most)

      pub round-falls : 2 * weight gives is_ready takes state predicate old from unfilled onto new + one-if did
          < 2 * weight gives is_ready takes state predicate old from unfilled to now + one-if moved
      round-falls = falls _ _ _ did put moved rest-most made.most made.fewer rest-fewer
          (λ still. inner.was (last.was still)) made.was

      pub round-again : Round gives is_ready takes state predicate old from unfilled onto did new more
      round-again = record {
        swept = record {
          sweeping = record {
            stood = last.swept.sweeping.stood;
            running = last.swept.sweeping.running;
            same = last.swept.sweeping.same ∙ ap (λ (p : ℕ). chosen (from_place p) (is_ready onto) new.state) (sym all)
                ∙ wrapped new.state (is_ready onto);
            within = omega arith;
          };
          settled = last.swept.settled;
          going = last.swept.going;
        };
        passed = λ still k actor low is.
            let quiet : middle ≡ false = last.was still in
            let same : new ≡ begun = last.same still ∙ inner.same quiet in
            let is_begun : slice_get (actors (length begun.state.cores)) k ≡ Some actor =
            subst (λ (c : Contents P J). slice_get (actors (length c.state.cores)) k ≡ Some actor) same is in
            let is_mid : slice_get (actors (length mid.state.cores)) k ≡ Some actor =
            subst (λ (c : Contents P J). slice_get (actors (length c.state.cores)) k ≡ Some actor) (last.same still) is in
            let within : k < 3 * length mid.state.cores + 3 = omega (arith, slice-low (actors (length new.state.cores)) k actor is, all) in
            subst (λ (c : Contents P J). is_enabled c.state actor ≡ false) (sym same)
            (elim (low-or-high k (2 * length mid.state.cores + 3)) [
              | inl less ↦ inner.off quiet k actor low less is_begun
              | inr high ↦
                  subst (λ (c : Contents P J). is_enabled c.state actor ≡ false) (inner.same quiet) (last.off still k actor high within is_mid)
            ]);
      }
