-- What a chain has given where it waits for the next event.
use Rattle.std.proofs.Common.{◌≡◌, ◌⊎◌, inl, inr, ℕ, zero, suc, Bool, false, cond, List, [], ◌∷◌, ◌++◌, length, take, slice_get, Contains, Some, None, ap, sym, ◌∙◌, subst, append_assoc, true≢false}
use Rattle.std.specs.Option.{is_none}
use Rattle.std.proofs.lemmas.List.Elements.{All-contains}
use Rattle.hj_msg.specs.declared.event.Event.{Event}
use Rattle.hj_msg.specs.declared.event.Pair.{Pair}
use Rattle.hj_msg.specs.declared.message.Report.{Report}
use Rattle.hj_msg.specs.Driver.{admitted}
use Rattle.hj_msg.specs.Emission.{emitted}
use Rattle.hj_msg.specs.Event.{IsWellFormed}
use Rattle.hj_msg.specs.Feed.{event_in}
use Rattle.hj_msg.specs.Kang.{kang}
use Rattle.hj_msg.specs.Quiet.{IsQuietWithin, IsAmongLast}
use Rattle.hj_msg.specs.Run.{IsRun}
use Rattle.hj_msg.specs.Valid.{later}
use Rattle.hj_msg.proofs.Members.{Contains-head, Contains-cons, Contains-filter}
use Rattle.hj_msg.proofs.Prompt.{emits_all_but_last}
use Rattle.hj_chain.specs.declared.actor.Actor.{Actor}
use Rattle.hj_chain.specs.declared.actor.Actor.TheVariants.{Admit}
use Rattle.hj_chain.specs.Chain.{ChainState, Contents}
use Rattle.hj_chain.specs.Prompt.{WaitsForEvents, GaveAllButLast}
use Rattle.hj_chain.specs.Reached.{Reached, StandsFor, history_of, collected_of, next_pair, run_of}
use Rattle.hj_chain.specs.Serial.{actors, enabled, is_enabled}
use Rattle.hj_chain.proofs.ChosenActors.{placed}
use Rattle.hj_chain.proofs.Driving.{driven, turns_of}
use Rattle.hj_chain.proofs.Finishing.{none-behind}
use Rattle.hj_chain.proofs.Projection.{is_run, all_collected, log_is}
use Rattle.hj_chain.proofs.Reaching.{all_told}
use Rattle.hj_chain.proofs.Stuck.{Idle, is_put, idle_or}

-- events that go on are no quieter than their beginning
quiet-front : {P : Type 0} (most : ℕ) (events front rest : List (Event P)) → events ≡ front ++ rest → IsQuietWithin most events → IsQuietWithin most front
quiet-front most events front rest parts quiet side before stretch behind is silent =
    quiet side before stretch (behind ++ rest)
    (parts ∙ ap (λ es. es ++ rest) is ∙ append_assoc before (stretch ++ behind) rest ∙ ap (λ es. before ++ es) (append_assoc stretch behind rest)) silent

at-place : {X : Type 0} (xs : List X) (i : ℕ) (x : X) → slice_get xs i ≡ Some x → Contains xs x
at-place [] i x is = absurd (cc)
at-place (y ∷ xs) zero x is = let same : y ≡ x = cc in subst (λ z. Contains (y ∷ xs) z) same (Contains-head y xs)
at-place (y ∷ xs) (suc i) x is = Contains-cons y x xs (at-place xs i x is)

-- where the driver's put alone may be enabled, nothing is under way
nothing_under_way : {P : Type 0} (matches : P → P → Bool) (n most : ℕ) {schedule : List Actor} {events : List (Event P)} {chain : ChainState P} → Reached matches n most schedule events chain → WaitsForEvents chain → Idle n chain
nothing_under_way matches n most {chain = chain} reached waits = elim (idle_or matches n most reached) [
  | inl idle ↦ idle
  | inr goes ↦
      let found = placed chain goes.actor goes.enabled in
      let there : Contains (enabled chain) goes.actor =
      Contains-filter (is_enabled chain) (actors (length chain.cores)) goes.actor (at-place (actors (length chain.cores)) found.place goes.actor found.stands) (ap is_none goes.enabled) in
      absurd (true≢false (ap is_put (sym (All-contains (λ actor. actor ≡ Admit) (enabled chain) goes.actor waits there)) ∙ goes.other))
]

module _ {P J : Type 0} (predicate : J → P → P → Bool) (chain : Contents P J) (schedule : List Actor) (events : List (Event P)) (given : ℕ) (stands : StandsFor predicate chain schedule events given) (well : IsWellFormed events) where
  abbrev matches : P → P → Bool
  matches = predicate chain.join

  abbrev n : ℕ
  n = length chain.state.cores

  abbrev flight : ℕ
  flight = chain.state.driver.flight

  abbrev lists : List (List (Report P))
  lists = collected_of stands.reached

  abbrev put : List (Event P)
  put = admitted (turns_of (history_of stands.reached).log)

  abbrev is : IsRun (run_of stands.reached)
  is = is_run matches n flight stands.reached well

  -- the events put in that run are those of the steps
  same_put : admitted (turns_of is.log) ≡ put
  same_put = ap (λ log. admitted (turns_of log)) (log_is matches n flight stands.reached well)

  emits : (most : ℕ) → IsQuietWithin most events → Idle n (record chain.state { over = false }) → (pair : Pair P) → Contains (kang matches put) pair → Contains (emitted lists) pair ⊎ IsAmongLast most (later pair) put
  emits most quiet idle pair joined =
      let front : IsQuietWithin most put = quiet-front most events put (event_in chain.state.next) (driven matches n flight stands.reached well).events_are quiet in
      let told = all_told matches n flight stands.reached well idle in
      let result = emits_all_but_last (run_of stands.reached) is most (subst (λ (es : List (Event P)). IsQuietWithin most es) (sym same_put) front) lists (all_collected matches n flight stands.reached well).of_run told pair
      (subst (λ (es : List (Event P)). Contains (kang matches es) pair) (sym same_put) joined) in
      subst (λ (es : List (Event P)). Contains (emitted lists) pair ⊎ IsAmongLast most (later pair) es) same_put result

  pub gave_all_but_last : (most : ℕ) → IsQuietWithin most events → chain.state.over ≡ false → WaitsForEvents chain.state → next_pair stands ≡ None → GaveAllButLast most stands
  gave_all_but_last most quiet going waits none pair joined =
      let idle = nothing_under_way matches n flight stands.reached (subst (λ (b : Bool). WaitsForEvents (record chain.state { over = b })) going waits) in
      let whole : take given (emitted lists) ≡ emitted lists = none-behind (emitted lists) given (ap (λ b. cond b None (slice_get (emitted lists) given)) (sym going) ∙ none) in
      subst (λ (given_now : List (Pair P)). Contains given_now pair ⊎ IsAmongLast most (later pair) put) (sym whole)
      (emits most quiet idle pair joined)
