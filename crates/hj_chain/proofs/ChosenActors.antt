-- The actors that a rule names: they are enabled, and none is where none is named.
use Rattle.std.proofs.Common.{◌≡◌, ◌≢◌, ℕ, zero, suc, ◌+◌, ◌*◌, ◌-◌, ◌%◌, ◌<◌, ◌≤◌, ◌⊎◌, inl, inr, true, List, [], ◌∷◌, length, take, drop, Some, None, Option, refl, ap, sym, ◌∙◌, arith, true≢false, Bool, false, cond, ◌&&◌, nat_lt, filter}
use Rattle.std.specs.Option.{is_none}
use Rattle.std.specs.List.{slice_get}
use Rattle.std.proofs.lemmas.List.{length-drop}
use Rattle.circular_buffer.proofs.Places.{slice_get-append_left, slice_get-append_right, slice_get-take, slice_get-some}
use Rattle.hj_base.specs.Lcg as lcg
use Rattle.hj_base.specs.declared.numbers.Side.TheVariants.{Left, Right}
use Rattle.hj_chain.specs.declared.actor.Actor.{Actor}
use Rattle.hj_chain.specs.declared.actor.Actor.TheVariants.{Admit, PortLeft, PortRight, Core, Collect}
use Rattle.hj_chain.specs.declared.actor.NotNow.{NotNow}
use Rattle.hj_chain.specs.Chain.{ChainState, cause, cause_of}
use Rattle.hj_chain.specs.Serial.{Choosing, from_place, by_draw, actors, chosen, drawn_from, enabled, from_there_on, in_turn, is_enabled, others, place_behind, would_wait}
use Rattle.hj_chain.proofs.ActorOrder.{at-left, at-right, at-collection}
use Rattle.hj_chain.proofs.Doing.{in_range}
use Rattle.hj_chain.proofs.Goings.{enabled_going, cause-going}
use Rattle.hj_chain.proofs.Looking.{at-dropped, none-passes, passes-one}
use Rattle.std.proofs.lemmas.Bool.{lt-ltb}

pub none-is : (o : Option NotNow) → is_none o ≡ true → o ≡ None
none-is None is = refl
none-is (Some why) is = absurd (cc)

is-none : (o : Option NotNow) → o ≡ None → is_none o ≡ true
is-none o is = ap (λ (w : Option NotNow). is_none w) is

low_or_high : (i p : ℕ) → (i < p) ⊎ (p ≤ i)
low_or_high i zero = inr (omega arith)
low_or_high zero (suc p) = inl (omega arith)
low_or_high (suc i) (suc p) = elim (low_or_high i p) [ inl low ↦ inl (omega (arith, low)) | inr high ↦ inr (omega (arith, high)) ]

module _ {P : Type 0} (chain : ChainState P) where
  abbrev n : ℕ
  n = length chain.cores

  -- an enabled actor stands among all actors
  pub record Placed (actor : Actor) : Type 0 where
    pub place : ℕ
    pub stands : slice_get (actors n) place ≡ Some actor
    pub behind : place_behind n actor ≡ place + 1

  now : (actor : Actor) → cause chain actor ≡ None → cause_of chain actor ≡ None
  now actor none = sym (cause-going chain actor (enabled_going chain actor none)) ∙ none

  pub placed : (actor : Actor) → cause chain actor ≡ None → Placed actor
  placed Admit none = record { place = 0; stands = refl; behind = refl }
  placed PortLeft none = record { place = 1; stands = refl; behind = refl }
  placed PortRight none = record { place = 2; stands = refl; behind = refl }
  placed (Core core Left) none = record { place = 2 * core.0 + 3; stands = at-left n core.0 (2 * core.0 + 3) (in_range chain core.0 _ (now (Core core Left) none)).0 refl; behind = omega arith }
  placed (Core core Right) none = record { place = 2 * core.0 + 4; stands = at-right n core.0 (2 * core.0 + 4) (in_range chain core.0 _ (now (Core core Right) none)).0 refl; behind = omega arith }
  placed (Collect core) none = record { place = 2 * n + core.0 + 3; stands = at-collection n core.0 (2 * n + core.0 + 3) (in_range chain core.0 _ (now (Collect core) none)).0 refl; behind = omega arith }

  within : (xs : List Actor) (i : ℕ) (actor : Actor) → slice_get xs i ≡ Some actor → i < length xs
  within [] i actor is = absurd (cc)
  within (x ∷ xs) zero actor is = omega arith
  within (x ∷ xs) (suc i) actor is = omega (arith, within xs i actor is)

  -- one of those without the first is one of all
  of_all : (b : Bool) (xs : List Actor) (k : ℕ) (actor : Actor) → slice_get (cond b (drop 1 xs) xs) k ≡ Some actor → (j : ℕ) × (slice_get xs j ≡ Some actor)
  of_all true [] k actor is = absurd (cc)
  of_all true (x ∷ xs) k actor is = (suc k, is)
  of_all false xs k actor is = (k, is)

  pub chosen-enabled : (choosing : Choosing) (ready : Bool) (actor : Actor) → chosen choosing ready chain ≡ Some actor → cause chain actor ≡ None
  chosen-enabled (from_place place) ready actor some = none-is (cause chain actor) (passes-one (is_enabled chain) (in_turn n (would_wait ready chain) place) 0 actor some)
  chosen-enabled (by_draw held) ready actor some =
      let found = of_all (would_wait ready chain && nat_lt 1 (length (enabled chain))) (enabled chain) (lcg.drawn (lcg.next held) % length (drawn_from ready chain)) actor some in
      none-is (cause chain actor) (passes-one (is_enabled chain) (actors n) found.0 actor found.1)

  -- the place behind the first enabled one is that of an actor, or the one behind all
  pub within-all : (waits : Bool) (place : ℕ) (first : Option Actor) → first ≡ slice_get (filter (is_enabled chain) (in_turn n waits place)) 0 → (actor : Actor) → first ≡ Some actor → place_behind n actor ≤ length (actors n)
  within-all waits place first is actor some =
      let found = placed actor (none-is (cause chain actor) (passes-one (is_enabled chain) (in_turn n waits place) 0 actor (sym is ∙ some))) in
      omega (arith, found.behind, within (actors n) found.place actor found.stands)

  -- none is passed over, all the way round
  round : (all : List Actor) (place i : ℕ) (actor : Actor) → slice_get all i ≡ Some actor → (j : ℕ) × (slice_get (from_there_on place all) j ≡ Some actor)
  round all place i actor is =
      elim (low_or_high i place) [
        | inl low ↦ (
          length (drop place all) + i,
          slice_get-append_right (drop place all) (take place all) (length (drop place all) + i) i refl ∙ slice_get-take place all i low ∙ is,
        )
        | inr high ↦ (
          i - place,
          slice_get-append_left (drop place all) (take place all) (i - place) (omega (arith, length-drop place all, within all i actor is, high))
              ∙ at-dropped all place i (i - place) (omega (arith, high)) ∙ is,
        )
      ]

  each_in_turn : (waits : Bool) (place i : ℕ) (actor : Actor) → slice_get (actors n) i ≡ Some actor → (j : ℕ) × (slice_get (in_turn n waits place) j ≡ Some actor)
  each_in_turn false place i actor is = round (actors n) place i actor is
  each_in_turn true place zero actor is =
      let before = from_there_on (place - 1) (others n) in
      (length before, slice_get-append_right before (Admit ∷ []) (length before) 0 (omega arith) ∙ is)
  each_in_turn true place (suc i) actor is =
      let before = from_there_on (place - 1) (others n) in
      let there = round (others n) (place - 1) i actor is in
      (there.0, slice_get-append_left before (Admit ∷ []) there.0 (within before there.0 actor there.1) ∙ there.1)

  not-drawn : (draw : ℕ) (xs : List Actor) → slice_get xs (draw % length xs) ≡ None → xs ≡ []
  not-drawn draw [] none = refl
  not-drawn draw (x ∷ xs) none =
      let there = slice_get-some (x ∷ xs) (draw % length (x ∷ xs)) (omega arith) in
      absurd (let e : Some there.0 ≡ None = sym there.1 ∙ none in cc)

  none-else : (waits : Bool) (xs : List Actor) → cond (waits && nat_lt 1 (length xs)) (drop 1 xs) xs ≡ [] → xs ≡ []
  none-else false xs none = none
  none-else true [] none = refl
  none-else true (x ∷ []) none = none
  none-else true (x ∷ y ∷ xs) none =
      absurd (let e : y ∷ xs ≡ [] = sym (ap (λ b. cond b (y ∷ xs) (x ∷ y ∷ xs)) (lt-ltb 1 (length (x ∷ y ∷ xs)) (omega arith))) ∙ none in cc)

  pub none-enabled : (choosing : Choosing) (ready : Bool) → chosen choosing ready chain ≡ None → (actor : Actor) → cause chain actor ≢ None
  none-enabled (from_place place) ready none actor can =
      let found = placed actor can in
      let there = each_in_turn (would_wait ready chain) place found.place actor found.stands in
      true≢false (sym (is-none (cause chain actor) can) ∙ none-passes (is_enabled chain) (in_turn n (would_wait ready chain) place) there.0 actor none there.1)
  none-enabled (by_draw held) ready none actor can =
      let found = placed actor can in
      let empty : enabled chain ≡ [] = none-else (would_wait ready chain) (enabled chain) (not-drawn (lcg.drawn (lcg.next held)) (drawn_from ready chain) none) in
      true≢false (sym (is-none (cause chain actor) can) ∙ none-passes (is_enabled chain) (actors n) found.place actor (ap (λ (l : List Actor). slice_get l 0) empty) found.stands)
