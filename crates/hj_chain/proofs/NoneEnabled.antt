-- No actor is enabled exactly where the chain is done or over.
use Rattle.std.proofs.Common.{◌≡◌, ◌≢◌, ◌↔◌, ◌⊎◌, inl, inr, ℕ, ◌≤◌, Bool, true, false, cond, List, [], ◌∷◌, length, filter, Option, Some, None, refl, ap, sym, ◌∙◌, arith, true≢false}
use Rattle.std.specs.List.{slice_get}
use Rattle.std.specs.Option.{is_none}
use Rattle.hj_msg.specs.declared.event.Event.{Event}
use Rattle.hj_chain.specs.declared.actor.Actor.{Actor}
use Rattle.hj_chain.specs.declared.actor.NotNow.{NotNow}
use Rattle.hj_chain.specs.declared.actor.NotNow.TheVariants.{Over}
use Rattle.hj_chain.specs.Chain.{Contents, cause, cause_of}
use Rattle.hj_chain.specs.Progress.{IsDone}
use Rattle.hj_chain.specs.Reached.{StandsFor}
use Rattle.hj_chain.specs.Serial.{actors, enabled, is_enabled}
use Rattle.hj_chain.proofs.ChosenActors.{placed}
use Rattle.hj_chain.proofs.Goings.{reached-state}
use Rattle.hj_chain.proofs.Looking.{none-passes}
use Rattle.hj_chain.proofs.Stuck.{done_is_stuck, stuck_is_done}

none-left : {X : Type 0} (test : X → Bool) (xs : List X) → ((x : X) → test x ≡ false) → length (filter test xs) ≡ 0
none-left test [] none = refl
none-left test (x ∷ xs) none = rw (none x) (none-left test xs none)

no-length : {X : Type 0} (xs : List X) → length xs ≡ 0 → xs ≡ []
no-length [] none = refl
no-length (x ∷ xs) none = absurd (omega (arith, none))

some-cause : (o : Option NotNow) → o ≢ None → is_none o ≡ false
some-cause None some = absurd (some refl)
some-cause (Some why) some = refl

module _ {P J : Type 0} (predicate : J → P → P → Bool) (chain : Contents P J) (schedule : List Actor) (events : List (Event P)) (given : ℕ) (stands : StandsFor predicate chain schedule events given) (some : 1 ≤ chain.state.driver.flight) where
  abbrev IsAtEnd : Type 0
  IsAtEnd = IsDone chain.state ⊎ (chain.state.over ≡ true)

  each-waits : enabled chain.state ≡ [] → (actor : Actor) → cause chain.state actor ≢ None
  each-waits none actor can =
      let found = placed chain.state actor can in
      true≢false (sym (ap (λ (o : Option NotNow). is_none o) can) ∙ none-passes (is_enabled chain.state) (actors (length chain.state.cores)) found.place actor (ap (λ (l : List Actor). slice_get l 0) none) found.stands)

  at-end : (over : Bool) → chain.state.over ≡ over → enabled chain.state ≡ [] → IsAtEnd
  at-end true is none = inr is
  at-end false is none = inl (stuck_is_done (predicate chain.join) (length chain.state.cores) chain.state.driver.flight (reached-state predicate chain schedule events is stands.reached) some (each-waits none))

  waits : (over : Bool) → chain.state.over ≡ over → IsAtEnd → (actor : Actor) → is_enabled chain.state actor ≡ false
  waits true is end actor = ap (λ (b : Bool). is_none (cond b (Some Over) (cause_of chain.state actor))) is
  waits false is (inl done) actor =
      some-cause (cause chain.state actor) (done_is_stuck (predicate chain.join) (length chain.state.cores) chain.state.driver.flight (reached-state predicate chain schedule events is stands.reached) done actor)
  waits false is (inr over) actor = absurd (true≢false (sym over ∙ is))

  pub none_enabled : (count : ℕ) → count ≡ length (enabled chain.state) → (count ≡ 0) ↔ IsAtEnd
  none_enabled count is = (
    λ none. at-end chain.state.over refl (no-length (enabled chain.state) (sym is ∙ none)),
    λ end. is ∙ none-left (is_enabled chain.state) (actors (length chain.state.cores)) (waits chain.state.over refl end),
  )
