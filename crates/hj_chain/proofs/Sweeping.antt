-- A sweep over the actors: the ones that are passed over change nothing of what the rule names.
use Rattle.std.proofs.Common.{◌≡◌, ◌≢◌, ℕ, zero, suc, ◌+◌, ◌-◌, ◌*◌, ◌%◌, ◌<◌, ◌≤◌, Bool, true, false, cond, List, [], ◌∷◌, ◌++◌, length, take, drop, filter, Some, None, Option, refl, ap, sym, ◌∙◌, subst, arith, append-nil, append_assoc}
use Rattle.std.specs.List.{slice_get}
use Rattle.std.specs.Option.{IfSome, is_none}
use Rattle.std.proofs.lemmas.List.Elements.{filter-append}
use Rattle.hj_msg.specs.declared.drain.Drained.{Drained}
use Rattle.hj_msg.specs.declared.event.Pair.{Pair}
use Rattle.hj_msg.specs.declared.feed.Given.{Given}
use Rattle.hj_msg.specs.declared.event.Event.{Event}
use Rattle.hj_msg.specs.declared.fin.Fin.TheVariants as fin
use Rattle.hj_msg.specs.Feed.{Answers, FeedState}
use Rattle.hj_base.specs.declared.numbers.CoreNo.{CoreNo}
use Rattle.hj_collect.specs.Collector.{CollectorState}
use Rattle.hj_chain.specs.declared.actor.Actor.{Actor}
use Rattle.hj_chain.specs.declared.actor.Actor.TheVariants.{Admit, PortLeft, PortRight, Core, Collect}
use Rattle.hj_chain.specs.declared.actor.NotNow.{NotNow}
use Rattle.hj_chain.specs.declared.actor.Stepped.{Stepped}
use Rattle.hj_chain.specs.declared.actor.Stepped.TheVariants.{Did, NotEnabled, Memory}
use Rattle.hj_chain.specs.declared.serial.Chooser.TheVariants as chooser
use Rattle.hj_chain.specs.Chain.{Action, FeedAnswer, asks, drives, handles, collects, ChainState, Contents, action_of, after_action}
use Rattle.hj_base.specs.Lcg as lcg
use Rattle.hj_chain.specs.Serial.{MayBeTried, RunsSerially, actors, by_draw, chosen, drawn_from, from_place, from_there_on, in_turn, is_enabled, others, place_behind, would_wait}
use Rattle.hj_chain.specs.Reached.{StandsFor}
use Rattle.hj_chain.specs.Steps.{Gathers, GoesWith, Steps, was_asked}
use Rattle.hj_chain.proofs.Looking.{take-at, take-whole}
use Rattle.hj_chain.proofs.FewSteps.{to_come}
use Rattle.hj_chain.proofs.SerialRuns.{Running, Settled, cores-stay, running-over, running-step, step-fewer, step-settled}

-- ---- lists, all the way round

drop-at : {X : Type 0} (xs : List X) (i : ℕ) (x : X) → slice_get xs i ≡ Some x → drop i xs ≡ x ∷ drop (suc i) xs
drop-at [] i x is = absurd (cc)
drop-at (y ∷ ys) zero x is = let same : y ≡ x = cc in ap (λ z. z ∷ ys) same
drop-at (y ∷ ys) (suc i) x is = drop-at ys i x is

drop-whole : {X : Type 0} (xs : List X) → drop (length xs) xs ≡ []
drop-whole [] = refl
drop-whole (x ∷ xs) = drop-whole xs

pub round-whole : {X : Type 0} (xs : List X) → from_there_on (length xs) xs ≡ from_there_on 0 xs
round-whole {X} xs = ap (λ (l : List X). l ++ take (length xs) xs) (drop-whole xs) ∙ take-whole xs (length xs) (omega arith) ∙ sym (append-nil xs)

module _ {X : Type 0} (test : X → Bool) where
  first-fails : (x : X) (xs : List X) → test x ≡ false → filter test (x ∷ xs) ≡ filter test xs
  first-fails x xs fails = ap (λ (b : Bool). cond b (x ∷ filter test xs) (filter test xs)) fails

  last-fails : (xs : List X) (x : X) → test x ≡ false → filter test (xs ++ x ∷ []) ≡ filter test xs
  last-fails xs x fails = filter-append test xs (x ∷ []) ∙ ap (λ (l : List X). filter test xs ++ l) (first-fails x [] fails) ∙ append-nil (filter test xs)

  pub round-passed : (xs : List X) (i : ℕ) (x : X) → slice_get xs i ≡ Some x → test x ≡ false → filter test (from_there_on i xs) ≡ filter test (from_there_on (suc i) xs)
  round-passed xs i x is fails =
      let behind = drop (suc i) xs in
      ap (λ (l : List X). filter test (l ++ take i xs)) (drop-at xs i x is) ∙ first-fails x (behind ++ take i xs) fails ∙ sym (last-fails (behind ++ take i xs) x fails)
      ∙ ap (filter test) (append_assoc behind (take i xs) (x ∷ []) ∙ ap (λ (l : List X). behind ++ l) (sym (take-at xs i x is (suc i) (omega arith))))

  pub round-named : (xs : List X) (i : ℕ) (x : X) → slice_get xs i ≡ Some x → test x ≡ true → (more : List X) → slice_get (filter test (from_there_on i xs ++ more)) 0 ≡ Some x
  round-named xs i x is passes more =
      let behind = drop (suc i) xs in
      ap (λ (l : List X). slice_get (filter test ((l ++ take i xs) ++ more)) 0) (drop-at xs i x is)
      ∙ ap (λ (b : Bool). slice_get (cond b (x ∷ filter test ((behind ++ take i xs) ++ more)) (filter test ((behind ++ take i xs) ++ more))) 0) passes

-- ---- what the rule names

module _ {P : Type 0} (chain : ChainState P) where
  abbrev n : ℕ
  n = length chain.cores

  abbrev test : Actor → Bool
  test = is_enabled chain

  abbrev named : Bool → ℕ → Option Actor
  named waits place = slice_get (filter test (in_turn n waits place)) 0

  named-from : (place from : ℕ) → place - 1 ≡ from → named true place ≡ slice_get (filter test (from_there_on from (others n) ++ Admit ∷ [])) 0
  named-from place from is = ap (λ (k : ℕ). slice_get (filter test (from_there_on k (others n) ++ Admit ∷ [])) 0) is

  named-wrapped : (waits : Bool) → named waits (length (actors n)) ≡ named waits 0
  named-wrapped false = ap (λ (l : List Actor). slice_get (filter test l) 0) (round-whole (actors n))
  named-wrapped true = named-from (length (actors n)) (length (others n)) (omega arith) ∙ ap (λ (l : List Actor). slice_get (filter test (l ++ Admit ∷ [])) 0) (round-whole (others n))

  named-there : (waits : Bool) (place : ℕ) (actor : Actor) → slice_get (actors n) place ≡ Some actor → (waits ≡ true → place ≢ 0) → test actor ≡ true → named waits place ≡ Some actor
  named-there false place actor is put enabled =
      ap (λ (l : List Actor). slice_get (filter test l) 0) (sym (append-nil (from_there_on place (actors n)))) ∙ round-named test (actors n) place actor is enabled []
  named-there true zero actor is put enabled = absurd (put refl refl)
  named-there true (suc place) actor is put enabled = named-from (suc place) place (omega arith) ∙ round-named test (others n) place actor is enabled (Admit ∷ [])

  named-behind : (waits : Bool) (place : ℕ) (actor : Actor) → slice_get (actors n) place ≡ Some actor → (waits ≡ true → place ≢ 0) → test actor ≡ false → named waits place ≡ named waits (suc place)
  named-behind false place actor is put passed = ap (λ (l : List Actor). slice_get l 0) (round-passed test (actors n) place actor is passed)
  named-behind true zero actor is put passed = absurd (put refl refl)
  named-behind true (suc place) actor is put passed =
      let before = from_there_on place (others n) in
      let later = from_there_on (suc place) (others n) in
      named-from (suc place) place (omega arith) ∙ ap (λ (l : List Actor). slice_get l 0) (filter-append test before (Admit ∷ []) ∙ ap (λ (l : List Actor). l ++ filter test (Admit ∷ [])) (round-passed test (others n) place actor is passed) ∙ sym (filter-append test later (Admit ∷ [])))
      ∙ sym (named-from (suc (suc place)) (suc place) (omega arith))

  -- the place that is looked at next
  pub may-be-tried : (ready : Bool) (from at : ℕ) → chosen (from_place from) ready chain ≡ chosen (from_place at) ready chain → at < length (actors n) → (would_wait ready chain ≡ true → at ≢ 0) → MayBeTried from ready chain at
  may-be-tried ready from at same low put = record {
    within = low;
    named = λ actor is enabled. same ∙ named-there (would_wait ready chain) at actor is put enabled;
    passed = λ actor is passed. same ∙ named-behind (would_wait ready chain) at actor is put passed ∙ ap (λ (p : ℕ). chosen (from_place p) ready chain) (let e : suc at ≡ at + 1 = omega arith in e);
  }

  -- the place after all is the first one
  pub wrapped : (ready : Bool) → chosen (from_place (length (actors n))) ready chain ≡ chosen (from_place 0) ready chain
  wrapped ready = named-wrapped (would_wait ready chain)

  -- where the driver's put would wait, the left port comes first
  pub port-first : (ready : Bool) → would_wait ready chain ≡ true → chosen (from_place 0) ready chain ≡ chosen (from_place 1) ready chain
  port-first ready waits = subst (λ (b : Bool). named b 0 ≡ named b 1) (sym waits) refl

-- ---- a drawn actor

pub named-by-draw : {P : Type 0} (chain : ChainState P) (ready : Bool) (held next draw : ℕ) (named : Option Actor) → draw ≡ lcg.drawn next → next ≡ lcg.next held
    → named ≡ slice_get (drawn_from ready chain) (draw % length (drawn_from ready chain)) → named ≡ chosen (by_draw held) ready chain
named-by-draw chain ready held next draw named number after is =
    is ∙ ap (λ (d : ℕ). slice_get (drawn_from ready chain) (d % length (drawn_from ready chain))) (number ∙ ap lcg.drawn after)

-- ---- an actor is tried

same-contents : {P J : Type 0} (old new : Contents P J) → new.join ≡ old.join → new.state ≡ old.state → (new.collector ≡ old.collector) × (new.kept ≡ old.kept) → new ≡ old
same-contents {P} {J} old new join state others =
    ap (λ (j : J). record new { join = j }) join ∙ ap (λ (s : ChainState P). record new { join = old.join; state = s }) state
    ∙ ap (λ (c : CollectorState). record new { join = old.join; state = old.state; collector = c }) others.0
    ∙ ap (λ (k : List (Pair P)). record old { kept = k }) others.1

module _ {P J F : Type 0} (gives : F → Given P → F → Type 0) (is_ready : F → Bool) (matches : P → P → Bool) (actor : Actor) (old new : Contents P J) (from to : F) where
  untouched : (actor : Actor) (why : NotNow) → Gathers actor old (NotEnabled why) new → (new.collector ≡ old.collector) × (new.kept ≡ old.kept)
  untouched Admit why gathers = gathers
  untouched PortLeft why gathers = gathers
  untouched PortRight why gathers = gathers
  untouched (Core place end) why gathers = gathers
  untouched (Collect core) why gathers = gathers

  -- one that isn't enabled changes nothing
  pub past : (result : Stepped) (why : NotNow) → result ≡ NotEnabled why → Steps gives is_ready matches actor old.state from result new.state to → Gathers actor old result new → new.join ≡ old.join
      → (is_enabled old.state actor ≡ false) × (new ≡ old) × (to ≡ from)
  past (NotEnabled why) _ is step gathers join =
      (ap (λ (o : Option NotNow). is_none o) step.chain.0, same-contents old new join step.chain.1 (untouched actor why gathers), step.feed)
  past Did why is step gathers join = absurd (cc)
  past Memory why is step gathers join = absurd (cc)

  -- one that makes a step, or for which there is no memory, is enabled
  pub can : (result : Stepped) → ((why : NotNow) → result ≡ NotEnabled why → ⊥) → Steps gives is_ready matches actor old.state from result new.state to → is_enabled old.state actor ≡ true
  can (NotEnabled why) other step = absurd (other why refl)
  can Did other step = ap (λ (o : Option NotNow). is_none o) step.chain.0
  can Memory other step = ap (λ (o : Option NotNow). is_none o) step.chain.0

module _ {P J F D : Type 0} (gives : F → Given P → F → Type 0) (is_ready : F → Bool) (takes : D → Pair P → Drained → D → Type 0) (state : F → FeedState) (predicate : J → P → P → Bool) (old : Contents P J) (from : F) (unfilled : D) where
  -- The sweep has come to this place: the rule, which stands at the place after the last step, names what it names from here on.
  pub record Sweeping (place : ℕ) (now : Contents P J) (to : F) (filled : D) : Type 0 where
    pub stood : ℕ
    pub running : Running gives is_ready takes state predicate chooser.InTurn old from unfilled (from_place stood) now to filled
    pub same : chosen (from_place stood) (is_ready to) now.state ≡ chosen (from_place place) (is_ready to) now.state
    pub within : place ≤ length (actors (length now.state.cores))

  pub sweeping-at : (place : ℕ) (now : Contents P J) (to : F) (filled : D) → Running gives is_ready takes state predicate chooser.InTurn old from unfilled (from_place place) now to filled → place ≤ length (actors (length now.state.cores)) → Sweeping place now to filled
  sweeping-at place now to filled running within = record { stood = place; running = running; same = refl; within = within }

  module _ (place : ℕ) (now : Contents P J) (to : F) (filled : D) (sweeping : Sweeping place now to filled) (at : ℕ) (tried : MayBeTried place (is_ready to) now.state at) (actor : Actor) (stands : slice_get (actors (length now.state.cores)) at ≡ Some actor) where
    pub sweeping-named : is_enabled now.state actor ≡ true → Some actor ≡ chosen (from_place sweeping.stood) (is_ready to) now.state
    sweeping-named enabled = sym (sweeping.same ∙ tried.named actor stands enabled)

    pub sweeping-past : is_enabled now.state actor ≡ false → (new : Contents P J) → new ≡ now → (onto : F) → onto ≡ to → Sweeping (at + 1) new onto filled
    sweeping-past passed new same onto unasked =
        subst (λ (c : Contents P J). Sweeping (at + 1) c onto filled) (sym same)
        (subst (λ (f : F). Sweeping (at + 1) now f filled) (sym unasked)
        (record { stood = sweeping.stood; running = sweeping.running; same = sweeping.same ∙ tried.passed actor stands passed; within = omega (arith, tried.within) }))

    module _ (behind : place_behind (length now.state.cores) actor ≡ at + 1) (result : Stepped) (new : Contents P J) (onto : F) (step : Steps gives is_ready (predicate now.join) actor now.state to result new.state onto) (gathers : Gathers actor now result new) (same_join : new.join ≡ now.join) where
      named-by : ((why : NotNow) → result ≡ NotEnabled why → ⊥) → Some actor ≡ chosen (from_place sweeping.stood) (is_ready to) now.state
      named-by other = sweeping-named (can gives is_ready (predicate now.join) actor now new to onto result other step)

      pub swept-over : result ≡ Memory → (schedule : List Actor) (events : List (Event P)) (given : ℕ) → StandsFor predicate old schedule events given → RunsSerially gives is_ready takes predicate chooser.InTurn schedule events given old from unfilled fin.Memory new onto filled
      swept-over memory =
          running-over gives is_ready takes state predicate chooser.InTurn old from unfilled (from_place sweeping.stood) now to filled sweeping.running actor (named-by (λ why is. let e : Memory ≡ NotEnabled why = sym memory ∙ is in absurd (cc))) result new onto step gathers same_join memory

      module _ (did : result ≡ Did) where
        named-did : Some actor ≡ chosen (from_place sweeping.stood) (is_ready to) now.state
        named-did = named-by (λ why is. let e : Did ≡ NotEnabled why = sym did ∙ is in absurd (cc))

        other : result ≢ Memory
        other is = let e : Did ≡ Memory = sym did ∙ is in absurd (cc)

        pub swept-running : Settled now → GoesWith predicate new (state onto) → Running gives is_ready takes state predicate chooser.InTurn old from unfilled (from_place (at + 1)) new onto filled
        swept-running settled goes =
            running-step gives is_ready takes state predicate chooser.InTurn old from unfilled (from_place sweeping.stood) now to filled sweeping.running actor named-did result new onto step gathers same_join other (λ going. settled) goes (from_place (at + 1)) (ap from_place (sym behind))
            (omega (arith, tried.within))

        pub swept-cores : length new.state.cores ≡ length now.state.cores
        swept-cores = cores-stay gives is_ready state predicate now new actor to onto sweeping.running.goes (subst (λ (r : Stepped). Steps gives is_ready (predicate now.join) actor now.state to r new.state onto) did step)

        pub swept-within : at + 1 ≤ length (actors (length new.state.cores))
        swept-within = omega (arith, tried.within, ap (λ (m : ℕ). length (actors m)) swept-cores)

        pub swept-settled : ((core : CoreNo) → actor ≡ Collect core → ⊥) → Settled now → Settled new
        swept-settled else settled =
            step-settled gives is_ready takes state predicate chooser.InTurn old from unfilled (from_place sweeping.stood) now to filled sweeping.running actor named-did result new onto step gathers same_join other else settled

        pub swept-fewer : (was_asked actor now.state.next (is_ready to) result ≡ true → IfSome new.state.next (λ given. Answers given (state to) (state onto)))
            → to_come (length new.state.cores) new.state + (4 * length new.state.cores + 4) * (state onto).remaining < to_come (length now.state.cores) now.state + (4 * length now.state.cores + 4) * (state to).remaining
        swept-fewer answers =
            step-fewer gives is_ready takes state predicate chooser.InTurn old from unfilled (from_place sweeping.stood) now to filled sweeping.running actor named-did result new onto step gathers same_join other answers

-- ---- memory doesn't run out

after-over : {P : Type 0} (matches : P → P → Bool) (chain : ChainState P) (action : Option (Action P)) (answer : FeedAnswer P) → (after_action matches chain action answer).over ≡ chain.over
after-over matches chain None answer = refl
after-over matches chain (Some asks) answer = refl
after-over matches chain (Some (drives turn)) answer = refl
after-over matches chain (Some (handles place end message)) answer = refl
after-over matches chain (Some (collects place report)) answer = refl

pub did-over : {P F : Type 0} (gives : F → Given P → F → Type 0) (is_ready : F → Bool) (matches : P → P → Bool) (actor : Actor) (old : ChainState P) (from : F) (result : Stepped) (new : ChainState P) (to : F)
    → Steps gives is_ready matches actor old from result new to → result ≡ Did → new.over ≡ old.over
did-over {P} gives is_ready matches actor old from Did new to step is = ap (λ (s : ChainState P). s.over) step.chain.1 ∙ after-over matches old (action_of old actor) step.answer
did-over gives is_ready matches actor old from (NotEnabled why) new to step is = absurd (cc)
did-over gives is_ready matches actor old from Memory new to step is = absurd (cc)
