-- The cores of a chain, each at its place, where one of them changes.
use Rattle.std.proofs.Common.{◌≡◌, ℕ, Bool, zero, suc, ◌+◌, ◌<◌, List, [], ◌∷◌, length, map, set, get_or, refl, ap, ap₂, sym, ◌∙◌, subst, arith}
use Rattle.std.proofs.lemmas.List.{get_or-map, length-map}
use Rattle.std.specs.declared.option.Option.{Option}
use Rattle.hj_msg.specs.declared.message.Msg.{Msg}
use Rattle.hj_msg.specs.declared.message.Report.{Report}
use Rattle.hj_msg.specs.Core as step
use Rattle.hj_core.specs.Contents as core
use Rattle.hj_chain.specs.Links.{changed_at}
use Rattle.hj_chain.specs.Placed.{ArePlaced}
use Rattle.hj_chain.proofs.Places.{written, get_or-any}

-- a core that keeps its place and its join
pub record StandsAt {P J S : Type 0} (join : J) (n at : ℕ) (one : core.Contents P J S) : Type 0 where
  pub place : one.place ≡ at
  pub cores : one.cores ≡ n
  pub join_is : one.join ≡ join

pub placed-at : {P J S : Type 0} (join : J) (n low : ℕ) (cores : List (core.Contents P J S)) (i : ℕ) (one : core.Contents P J S) → ArePlaced join n low cores → i < length cores → one ≡ get_or cores i one → StandsAt join n (low + i) one
placed-at join n low [] i one all in_range at = absurd (omega (arith, in_range))
placed-at {P} {J} {S} join n low (first ∷ others) zero one all in_range at = record {
  place = ap (λ (c : core.Contents P J S). c.place) at ∙ all.0 ∙ omega arith;
  cores = ap (λ (c : core.Contents P J S). c.cores) at ∙ all.1;
  join_is = ap (λ (c : core.Contents P J S). c.join) at ∙ all.2;
}
placed-at join n low (first ∷ others) (suc i) one all in_range at =
    let deeper = placed-at join n (low + 1) others i one all.3 (omega (arith, in_range)) at in
    record { place = deeper.place ∙ omega arith; cores = deeper.cores; join_is = deeper.join_is }

pub keeps-place : {P J S : Type 0} (join : J) (n at : ℕ) (one other : core.Contents P J S) → StandsAt join n at one → core.KeepsPlace one other → StandsAt join n at other
keeps-place join n at one other stands keeps = record { place = keeps.place ∙ stands.place; cores = keeps.cores ∙ stands.cores; join_is = keeps.join ∙ stands.join_is }

placed-set-from : {P J S : Type 0} (join : J) (n low : ℕ) (cores : List (core.Contents P J S)) (i : ℕ) (other : core.Contents P J S) → ArePlaced join n low cores → StandsAt join n (low + i) other → ArePlaced join n low (set cores i other)
placed-set-from join n low [] i other all stands = tt
placed-set-from join n low (first ∷ others) zero other all stands = (stands.place ∙ omega arith, stands.cores, stands.join_is, all.3)
placed-set-from join n low (first ∷ others) (suc i) other all stands =
    (all.0, all.1, all.2, placed-set-from join n (low + 1) others i other all.3 (record { place = stands.place ∙ omega arith; cores = stands.cores; join_is = stands.join_is }))

length-written : {X : Type 0} (xs : List X) (i : ℕ) (x : X) → length (set xs i x) ≡ length xs
length-written [] i x = refl
length-written (y ∷ xs) zero x = refl
length-written (y ∷ xs) (suc i) x = ap suc (length-written xs i x)

pub placed-set : {P J S : Type 0} (join : J) (cores : List (core.Contents P J S)) (i : ℕ) (other : core.Contents P J S) → ArePlaced join (length cores) 0 cores → StandsAt join (length cores) i other
    → ArePlaced join (length (set cores i other)) 0 (set cores i other)
placed-set join cores i other all stands =
    subst (λ (m : ℕ). ArePlaced join m 0 (set cores i other)) (sym (length-written cores i other))
    (placed-set-from join (length cores) 0 cores i other all (record { place = stands.place ∙ omega arith; cores = stands.cores; join_is = stands.join_is }))

map-written : {X Y : Type 0} (f : X → Y) (xs : List X) (i : ℕ) (x : X) → map f (set xs i x) ≡ set (map f xs) i (f x)
map-written f [] i x = refl
map-written f (y ∷ xs) zero x = refl
map-written f (y ∷ xs) (suc i) x = ap (λ ys. f y ∷ ys) (map-written f xs i x)

set-same : {X : Type 0} (xs : List X) (i : ℕ) (x : X) → x ≡ get_or xs i x → set xs i x ≡ xs
set-same [] i x at = refl
set-same (y ∷ xs) zero x at = ap (λ z. z ∷ xs) at
set-same (y ∷ xs) (suc i) x at = ap (λ ys. y ∷ ys) (set-same xs i x at)

at-mapped : {X Y : Type 0} (f : X → Y) (xs : List X) (i : ℕ) (x : X) → i < length xs → x ≡ get_or xs i x → f x ≡ get_or (map f xs) i (f x)
at-mapped f xs i x in_range at = ap f at ∙ sym (get_or-map f xs i x (f x) in_range)

-- the states, where one core's state changes so, or stays
pub states-changed : {X Y : Type 0} (f : X → Y) (xs : List X) (i : ℕ) (x y : X) (move : Y → Y) → i < length xs → x ≡ get_or xs i x → f y ≡ move (f x) → map f (set xs i y) ≡ changed_at i move (map f xs)
states-changed f xs i x y move in_range at moved =
    let mapped : i < length (map f xs) = omega (arith, in_range, length-map xs f) in
    map-written f xs i y ∙ written (map f xs) (map f xs) i (f x) (f y) move refl mapped (at-mapped f xs i x in_range at) moved

pub states-same : {X Y : Type 0} (f : X → Y) (xs : List X) (i : ℕ) (x y : X) → i < length xs → x ≡ get_or xs i x → f y ≡ f x → map f (set xs i y) ≡ map f xs
states-same f xs i x y in_range at same = map-written f xs i y ∙ ap (set (map f xs) i) same ∙ set-same (map f xs) i (f x) (at-mapped f xs i x in_range at)

-- What is known once a core has handled a message: what it sends and reports, its state, and that it stands where it stood.
pub record Done {P J S : Type 0} (predicate : J → P → P → Bool) (view : core.Contents P J S → step.State P) (join : J) (cores : List (core.Contents P J S)) (i : ℕ) (last : core.Contents P J S) (message : Msg P)
    (to : step.Sends P) (entry : Option (Report P)) : Type 0 where
  pub sends_are : to ≡ step.sends i (length (map view cores)) message
  pub states : map view (set cores i last) ≡ changed_at i (λ state. step.after i (length (map view cores)) state message) (map view cores)
  pub entry_is : entry ≡ step.report (predicate join) (get_or (map view cores) i step.empty_state) message
  pub placed : ArePlaced join (length (set cores i last)) 0 (set cores i last)

module _ {P J S : Type 0} (predicate : J → P → P → Bool) (view : core.Contents P J S → step.State P) (join : J) (cores : List (core.Contents P J S)) (i : ℕ) (one mid : core.Contents P J S)
    (placed : ArePlaced join (length cores) 0 cores) (low : i < length cores) (at : one ≡ get_or cores i one) (same : view mid ≡ view one) (keeps : core.KeepsPlace one mid) where
  stands_one : StandsAt join (length cores) i one
  stands_one = let found = placed-at join (length cores) 0 cores i one placed low at in record { place = found.place ∙ omega arith; cores = found.cores; join_is = found.join_is }

  stands_mid : StandsAt join (length cores) i mid
  stands_mid = keeps-place join (length cores) i one mid stands_one keeps

  -- a core that was made ready
  pub prepared-placed : ArePlaced join (length (set cores i mid)) 0 (set cores i mid)
  prepared-placed = placed-set join cores i mid placed stands_mid

  pub prepared-states : map view (set cores i mid) ≡ map view cores
  prepared-states = states-same view cores i one mid low at same

  pub done : (last : core.Contents P J S) (message : Msg P) (to : step.Sends P) (entry : Option (Report P)) → view last ≡ step.after mid.place mid.cores (view mid) message → to ≡ step.sends mid.place mid.cores message
      → entry ≡ step.report (predicate mid.join) (view mid) message → core.KeepsPlace mid last → Done predicate view join cores i last message to entry
  done last message to entry state sends report kept =
      let all : mid.cores ≡ length (map view cores) = stands_mid.cores ∙ sym (length-map cores view) in
      let at_i : view one ≡ get_or (map view cores) i step.empty_state = at-mapped view cores i one low at ∙ get_or-any (map view cores) i (view one) step.empty_state (omega (arith, low, length-map cores view)) in
      record {
        sends_are = sends ∙ ap₂ (λ (p n : ℕ). step.sends p n message) stands_mid.place all;
        states =
            states-changed view cores i one last (λ state. step.after i (length (map view cores)) state message) low at
            (state ∙ ap₂ (λ (p n : ℕ). step.after p n (view mid) message) stands_mid.place all ∙ ap (λ (s : step.State P). step.after i (length (map view cores)) s message) same);
        entry_is = report ∙ ap₂ (λ (j : J) (s : step.State P). step.report (predicate j) s message) stands_mid.join_is (same ∙ at_i);
        placed = placed-set join cores i last placed (keeps-place join (length cores) i mid last stands_mid kept);
      }
