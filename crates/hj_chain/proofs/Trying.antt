-- One actor after another is tried.
use Rattle.std.proofs.Common.{◌≡◌, ℕ, zero, suc, ◌+◌, ◌*◌, ◌<◌, ◌≤◌, Bool, true, false, List, [], ◌∷◌, ◌⊎◌, inl, inr, length, Some, Option, refl, ap, sym, ◌∙◌, subst, arith, true≢false}
use Rattle.std.specs.List.{slice_get}
use Rattle.hj_base.specs.declared.numbers.CoreNo.{CoreNo}
use Rattle.hj_base.specs.declared.numbers.Side.{Side}
use Rattle.hj_base.specs.declared.numbers.Side.TheVariants.{Left, Right}
use Rattle.hj_msg.specs.declared.drain.Drained.{Drained}
use Rattle.hj_msg.specs.declared.drain.Drained.TheVariants.{Kept}
use Rattle.hj_msg.specs.declared.event.Pair.{Pair}
use Rattle.hj_msg.specs.declared.feed.Given.{Given}
use Rattle.hj_msg.specs.declared.feed.Given.TheVariants as given
use Rattle.hj_msg.specs.Feed.{FeedState, first_numbering, numbering_of}
use Rattle.hj_chain.specs.declared.actor.Actor.{Actor}
use Rattle.hj_chain.specs.declared.actor.Actor.TheVariants.{Admit, PortLeft, PortRight, Core, Collect}
use Rattle.hj_chain.specs.declared.actor.NotNow.{NotNow}
use Rattle.hj_chain.specs.declared.actor.Stepped.{Stepped}
use Rattle.hj_chain.specs.declared.actor.Stepped.TheVariants.{Did, NotEnabled, Memory}
use Rattle.hj_chain.specs.Chain.{Contents, FeedAnswer}
use Rattle.hj_chain.specs.Serial.{core_no, is_enabled, others}
use Rattle.hj_chain.specs.Steps.{GoesWith, IsGoing, Steps, StepsTo, asks, at_port, needs_memory}
use Rattle.hj_chain.specs.Sweep.{is_inner, Collects, Drains, StandsThere, Sweeps, Tried}
use Rattle.hj_chain.specs.Sweep as sweep
use Rattle.hj_chain.proofs.ActorOrder.{at-collection, at-left, at-right}
use Rattle.hj_chain.proofs.Advancing.{goes-unasked, same-join, same-kept, steps-unasked}
use Rattle.hj_chain.proofs.SerialRuns.{cores-stay}
use Rattle.hj_chain.proofs.Sweeping.{did-over, past}

pub slice-low : {X : Type 0} (xs : List X) (i : ℕ) (x : X) → slice_get xs i ≡ Some x → i < length xs
slice-low [] i x is = absurd (cc)
slice-low (y ∷ xs) zero x is = omega arith
slice-low (y ∷ xs) (suc i) x is = omega (arith, slice-low xs i x is)

pub before-or-at : (k at : ℕ) → k < at + 1 → (k < at) ⊎ (k ≡ at)
before-or-at zero zero low = inr refl
before-or-at zero (suc at) low = inl (omega arith)
before-or-at (suc k) zero low = absurd (omega (arith, low))
before-or-at (suc k) (suc at) low = elim (before-or-at k at (omega (arith, low))) [ inl less ↦ inl (omega (arith, less)) | inr same ↦ inr (ap suc same) ]

pub low-or-high : (k at : ℕ) → (k < at) ⊎ (at ≤ k)
low-or-high k zero = inr (omega arith)
low-or-high zero (suc at) = inl (omega arith)
low-or-high (suc k) (suc at) = elim (low-or-high k at) [ inl less ↦ inl (omega (arith, less)) | inr more ↦ inr (omega (arith, more)) ]

-- ---- actors that ask nothing

pub inner-asks : {P : Type 0} (actor : Actor) → is_inner actor ≡ true → (next : Option (Given P)) (ready : Bool) → asks actor next ready ≡ false
inner-asks Admit is next ready = absurd (true≢false (sym is))
inner-asks PortLeft is next ready = refl
inner-asks PortRight is next ready = refl
inner-asks (Core place end) is next ready = refl
inner-asks (Collect place) is next ready = refl

pub inner-collects : (actor : Actor) → is_inner actor ≡ true → (core : CoreNo) → actor ≡ Collect core → ⊥
inner-collects actor is core same = true≢false (sym is ∙ ap is_inner same)

-- any feed
abbrev silent : {P : Type 0} → FeedState → Given P → FeedState → Type 0
silent from given to = Unit {0}

abbrev not-ready : FeedState → Bool
not-ready feed = false

abbrev the-same : FeedState → FeedState
the-same feed = feed

module _ {P J : Type 0} (predicate : J → P → P → Bool) (old new : Contents P J) (actor : Actor) (unasks : (ready : Bool) → asks actor old.state.next ready ≡ false) (going : IsGoing predicate old) (result : Stepped) (tried : Tried predicate actor old result new) where
  abbrev any-feed : FeedState
  any-feed = record { numbering = numbering_of going.events; remaining = 0; stopped = true }

  goes-any : GoesWith predicate old any-feed
  goes-any = record { schedule = going.schedule; events = going.events; given = going.given; stands = going.stands; well_formed = going.well_formed; numbering = refl; stopped = λ is. refl }

  step-any : Steps silent not-ready (predicate old.join) actor old.state any-feed result new.state any-feed
  step-any = steps-unasked silent not-ready (predicate old.join) actor old.state any-feed result new.state unasks tried.step

  going-over : result ≡ Did → new.state.over ≡ false
  going-over did = did-over silent not-ready (predicate old.join) actor old.state any-feed result new.state any-feed step-any did ∙ going.going

  pub going-did : result ≡ Did → IsGoing predicate new
  going-did did =
      let onward = goes-unasked predicate old new actor tried.join any-feed goes-any result unasks tried.step tried.gathers in
      record { schedule = onward.schedule; events = onward.events; given = onward.given; stands = onward.stands; well_formed = onward.well_formed; going = going-over did }

  pub cores-did : result ≡ Did → length new.state.cores ≡ length old.state.cores
  cores-did did =
      cores-stay silent not-ready the-same predicate old new actor any-feed any-feed goes-any (subst (λ (r : Stepped). Steps silent not-ready (predicate old.join) actor old.state any-feed r new.state any-feed) did step-any)

-- ---- one actor is tried

pub port-inner : (port : Side) → is_inner (at_port port) ≡ true
port-inner Left = refl
port-inner Right = refl

module _ {P J : Type 0} (predicate : J → P → P → Bool) (old new : Contents P J) where
  -- a port, or an end of a core
  pub tried-port : (port : Side) (result : Stepped) → ((answer : FeedAnswer P) → StepsTo (predicate old.join) (at_port port) answer old.state result new.state) → new ≡ record old { state = new.state } → Tried predicate (at_port port) old result new
  tried-port Left result step others = record { step = step; join = same-join old new others; gathers = same-kept old new others }
  tried-port Right result step others = record { step = step; join = same-join old new others; gathers = same-kept old new others }

  pub tried-end : (core : CoreNo) (end : Side) (result : Stepped) → ((answer : FeedAnswer P) → StepsTo (predicate old.join) (Core core end) answer old.state result new.state) → new ≡ record old { state = new.state } → Tried predicate (Core core end) old result new
  tried-end core end result step others = record { step = step; join = same-join old new others; gathers = same-kept old new others }

  -- the same of one that did what it says
  pub tried-is : (actor : Actor) (result other : Stepped) → result ≡ other → Tried predicate actor old result new → Tried predicate actor old other new
  tried-is actor result other is tried = subst (λ (r : Stepped). Tried predicate actor old r new) is tried

  unchanged : (actor : Actor) (why : NotNow) → ((ready : Bool) → asks actor old.state.next ready ≡ false) → Tried predicate actor old (NotEnabled why) new → (is_enabled old.state actor ≡ false) × (new ≡ old)
  unchanged actor why unasks tried =
      let feed : FeedState = record { numbering = first_numbering; remaining = 0; stopped = true } in
      let p = past silent not-ready (predicate old.join) actor old new feed feed (NotEnabled why) why refl (steps-unasked silent not-ready (predicate old.join) actor old.state feed (NotEnabled why) new.state unasks tried.step) tried.gathers tried.join in
      (p.0, p.1)

  pub off-why : (actor : Actor) (result : Stepped) (why : NotNow) → result ≡ NotEnabled why → ((ready : Bool) → asks actor old.state.next ready ≡ false) → Tried predicate actor old result new → (is_enabled old.state actor ≡ false) × (new ≡ old)
  off-why actor result why is unasks tried = unchanged actor why unasks (tried-is actor result (NotEnabled why) is tried)

  -- an actor that needs no memory
  pub off-tried : (actor : Actor) (result : Stepped) → (result ≡ Did → ⊥) → needs_memory actor ≡ false → ((ready : Bool) → asks actor old.state.next ready ≡ false) → Tried predicate actor old result new → (is_enabled old.state actor ≡ false) × (new ≡ old)
  off-tried actor Did other spare unasks tried = absurd (other refl)
  off-tried actor (NotEnabled why) other spare unasks tried = unchanged actor why unasks tried
  off-tried actor Memory other spare unasks tried = absurd (true≢false (sym (tried.step (record { ready = false; given = given.Stop })).1 ∙ spare))

  pub off-put : {F : Type 0} (gives : F → Given P → F → Type 0) (is_ready : F → Bool) (from to : F) (result : Stepped) → (result ≡ Did → ⊥) → Steps gives is_ready (predicate old.join) Admit old.state from result new.state to → new ≡ record old { state = new.state }
      → (is_enabled old.state Admit ≡ false) × (new ≡ old) × (to ≡ from)
  off-put gives is_ready from to Did other step others = absurd (other refl)
  off-put gives is_ready from to (NotEnabled why) other step others = past gives is_ready (predicate old.join) Admit old new from to (NotEnabled why) why refl step (same-kept old new others) (same-join old new others)
  off-put gives is_ready from to Memory other step others = absurd (true≢false (sym step.chain.1))

pub port-spares : (port : Side) → needs_memory (at_port port) ≡ false
port-spares Left = refl
port-spares Right = refl

-- the ports stand behind the driver's put
pub left-there : {P J : Type 0} (chain : Contents P J) → StandsThere chain 1 PortLeft
left-there chain = record { stands = refl; behind = refl }

pub right-there : {P J : Type 0} (chain : Contents P J) → StandsThere chain 2 PortRight
right-there chain = record { stands = refl; behind = refl }

-- the ends of a core stand behind the ports, and its collection behind the ends of all
pub left-end-there : {P J : Type 0} (chain : Contents P J) (k : ℕ) → k < length chain.state.cores → StandsThere chain (2 * k + 3) (Core (core_no k) Left)
left-end-there chain k low = record { stands = at-left (length chain.state.cores) k (2 * k + 3) low refl; behind = omega arith }

pub right-end-there : {P J : Type 0} (chain : Contents P J) (k : ℕ) → k < length chain.state.cores → StandsThere chain (2 * k + 3 + 1) (Core (core_no k) Right)
right-end-there chain k low = record { stands = at-right (length chain.state.cores) k (2 * k + 3 + 1) low (omega arith); behind = omega arith }

pub collection-there : {P J : Type 0} (chain : Contents P J) (n k : ℕ) → length chain.state.cores ≡ n → k < n → StandsThere chain (2 * n + k + 3) (Collect (core_no k))
collection-there chain n k many low = record { stands = at-collection (length chain.state.cores) k (2 * n + k + 3) (omega (arith, many, low)) (omega (arith, many)); behind = omega (arith, many) }

-- a sweep goes on
module _ {P J : Type 0} (predicate : J → P → P → Bool) (first at : ℕ) (before moved : Bool) (begun now new : Contents P J) (actor : Actor) (more : Sweeps predicate first before begun at moved now) (there : StandsThere now at actor) where
  pub sweep-past : (is_enabled now.state actor ≡ false) × (new ≡ now) → Sweeps predicate first before begun (at + 1) moved new
  sweep-past off = subst (Sweeps predicate first before begun (at + 1) moved) (sym off.1) (sweep.passes at moved now actor more there off.0)

  pub sweep-on : (did : Bool) → did ≡ true → is_inner actor ≡ true → Tried predicate actor now Did new → Sweeps predicate first before begun (at + 1) did new
  sweep-on did is inner tried = subst (λ (b : Bool). Sweeps predicate first before begun (at + 1) b new) (sym is) (sweep.steps at moved now actor new more there inner tried)

-- a chain that goes on goes with some feed
pub any-goes : {P J : Type 0} (predicate : J → P → P → Bool) (chain : Contents P J) → IsGoing predicate chain → (feed : FeedState) × GoesWith predicate chain feed
any-goes predicate chain going = (
  record { numbering = numbering_of going.events; remaining = 0; stopped = true },
  record { schedule = going.schedule; events = going.events; given = going.given; stands = going.stands; well_formed = going.well_formed; numbering = refl; stopped = λ is. refl },
)

pub going-drained : {P J : Type 0} (predicate : J → P → P → Bool) (old new : Contents P J) → IsGoing predicate old → new ≡ record old { kept = new.kept } → ((feed : FeedState) → GoesWith predicate old feed → GoesWith predicate new feed) → IsGoing predicate new
going-drained {P} {J} predicate old new going others onward =
    let found = any-goes predicate old going in
    let goes = onward found.0 found.1 in
    record { schedule = goes.schedule; events = goes.events; given = goes.given; stands = goes.stands; well_formed = goes.well_formed; going = ap (λ (c : Contents P J). c.state.over) others ∙ going.going }

-- collections go on
module _ {P J D : Type 0} (takes : D → Pair P → Drained → D → Type 0) (predicate : J → P → P → Bool) (first at : ℕ) (before moved : Bool) (begun : Contents P J) (unfilled : D) (now : Contents P J) (filled : D) (core : CoreNo) (more : Collects takes predicate first before begun unfilled at moved now filled)
    (there : StandsThere now at (Collect core)) where
  pub collect-past : (new : Contents P J) → (is_enabled now.state (Collect core) ≡ false) × (new ≡ now) → Collects takes predicate first before begun unfilled (at + 1) moved new filled
  collect-past new off = subst (λ (c : Contents P J). Collects takes predicate first before begun unfilled (at + 1) moved c filled) (sym off.1) (sweep.passes at moved now filled (Collect core) more there off.0)

  pub collect-on : (mid new : Contents P J) (last : D) (did : Bool) → did ≡ true → Tried predicate (Collect core) now Did mid → Drains takes predicate mid filled Kept new last → Collects takes predicate first before begun unfilled (at + 1) did new last
  collect-on mid new last did is tried drains = subst (λ (b : Bool). Collects takes predicate first before begun unfilled (at + 1) b new last) (sym is) (sweep.collects at moved now filled core mid new last more there tried drains)
