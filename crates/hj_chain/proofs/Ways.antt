-- What each change of the links does to the messages under way on link k, to either side.
use Rattle.std.proofs.Common.{◌≡◌, ◌≢◌, ℕ, ◌+◌, ◌<◌, ◌⊎◌, inl, inr, ◌==◌, Bool, true, false, cond, List, [], ◌∷◌, ◌++◌, length, drop, refl, ap, sym, ◌∙◌, arith, append-nil}
use Rattle.std.proofs.lemmas.Bool.Decides.{eqb_tells}
use Rattle.hj_base.specs.declared.numbers.Side.{Side}
use Rattle.hj_base.specs.declared.numbers.Side.TheVariants.{Left, Right}
use Rattle.hj_msg.specs.Turns.{only_at}
use Rattle.hj_chain.specs.Queues.{Queues, no_messages}
use Rattle.hj_chain.specs.Links.{changed_at, link_at, put_rightwards, put_leftwards, take_rightwards, take_leftwards, at_port, put_in, take_out, incoming, take_in, send_out}
use Rattle.hj_chain.proofs.Places.{length-changed_at, get_or-changed_at, get_or-changed_other}

-- the list, or nothing
abbrev pub when : {M : Type 0} → Bool → List M → List M
when holds messages = cond holds messages []

pub when-nil : {M : Type 0} (b : Bool) → when {M = M} b [] ≡ []
when-nil true = refl
when-nil false = refl

-- two places are the same or not, as the test tells
pub same_place : (k i : ℕ) → ((k ≡ i) × ((k == i) ≡ true)) ⊎ ((k ≢ i) × ((k == i) ≡ false))
same_place k i = elim (eqb_tells k i) [ inl w ↦ inl (w.1, w.0) | inr w ↦ inr (w.1, w.0) ]

pub link_at-changed : {M : Type 0} (i : ℕ) (f : Queues M → Queues M) (links : List (Queues M)) (k : ℕ) → k < length links → link_at (changed_at i f links) k ≡ cond (k == i) (f (link_at links k)) (link_at links k)
link_at-changed {M} i f links k low = elim (same_place k i) [
  | inl w ↦
      let here : i < length links = omega (arith, w.0) in
      ap (λ j. link_at (changed_at i f links) j) w.0 ∙ get_or-changed_at i f links (no_messages 0) here ∙ ap (λ j. f (link_at links j)) (sym w.0) ∙ ap (λ b. cond b (f (link_at links k)) (link_at links k)) (sym w.1)
  | inr w ↦
      get_or-changed_other i k f links (no_messages 0) (λ same. w.0 (sym same)) ∙ ap (λ b. cond b (f (link_at links k)) (link_at links k)) (sym w.1)
]

-- One direction of link k, behind a change of the link at a place: it has further messages, is as it was, or lost its first message.
module _ {M : Type 0} (links : List (Queues M)) (k : ℕ) (low : k < length links) (way : Queues M → List M) (change : Queues M → Queues M) where
  way-at : (i : ℕ) (b : Bool) → (k == i) ≡ b → way (link_at (changed_at i change links) k) ≡ way (cond b (change (link_at links k)) (link_at links k))
  way-at i b is = ap way (link_at-changed i change links k low) ∙ ap (λ here. way (cond here (change (link_at links k)) (link_at links k))) is

  way-put : (messages : List M) → ((q : Queues M) → way (change q) ≡ way q ++ messages) → (i : ℕ) → way (link_at (changed_at i change links) k) ≡ way (link_at links k) ++ when (k == i) messages
  way-put messages puts i = by (k == i) refl
    where
      by : (b : Bool) → (k == i) ≡ b → way (link_at (changed_at i change links) k) ≡ way (link_at links k) ++ when (k == i) messages
      by true is = way-at i true is ∙ puts (link_at links k) ∙ ap (λ b. way (link_at links k) ++ when b messages) (sym is)
      by false is = way-at i false is ∙ sym (append-nil (way (link_at links k))) ∙ ap (λ b. way (link_at links k) ++ when b messages) (sym is)

  way-stays : ((q : Queues M) → way (change q) ≡ way q) → (i : ℕ) → way (link_at (changed_at i change links) k) ≡ way (link_at links k)
  way-stays stays i = by (k == i) refl
    where
      by : (b : Bool) → (k == i) ≡ b → way (link_at (changed_at i change links) k) ≡ way (link_at links k)
      by true is = way-at i true is ∙ stays (link_at links k)
      by false is = way-at i false is

  way-take : ((q : Queues M) → way (change q) ≡ drop 1 (way q)) → (i : ℕ) (message : M) (rest : List M) → way (link_at links i) ≡ message ∷ rest
      → way (link_at links k) ≡ when (k == i) (message ∷ []) ++ way (link_at (changed_at i change links) k)
  way-take takes i message rest is = elim (same_place k i) [
    | inl w ↦
        let now : way (link_at links k) ≡ message ∷ rest = ap (λ j. way (link_at links j)) w.0 ∙ is in
        let after : way (link_at (changed_at i change links) k) ≡ rest = way-at i true w.1 ∙ takes (link_at links k) ∙ ap (drop 1) now in
        now ∙ ap (λ ms. message ∷ ms) (sym after) ∙ ap (λ b. when b (message ∷ []) ++ way (link_at (changed_at i change links) k)) (sym w.1)
    | inr w ↦
        sym (way-at i false w.1) ∙ ap (λ b. when b (message ∷ []) ++ way (link_at (changed_at i change links) k)) (sym w.1)
  ]

module _ {M : Type 0} (links : List (Queues M)) (k : ℕ) (low : k < length links) where
  -- one change at a place
  pub rights-put_right : (i : ℕ) (messages : List M) → (link_at (changed_at i (put_rightwards messages) links) k).rightwards ≡ (link_at links k).rightwards ++ when (k == i) messages
  rights-put_right i messages = way-put links k low (λ q. q.rightwards) (put_rightwards messages) messages (λ q. refl) i

  pub lefts-put_right : (i : ℕ) (messages : List M) → (link_at (changed_at i (put_rightwards messages) links) k).leftwards ≡ (link_at links k).leftwards
  lefts-put_right i messages = way-stays links k low (λ q. q.leftwards) (put_rightwards messages) (λ q. refl) i

  pub rights-put_left : (i : ℕ) (messages : List M) → (link_at (changed_at i (put_leftwards messages) links) k).rightwards ≡ (link_at links k).rightwards
  rights-put_left i messages = way-stays links k low (λ q. q.rightwards) (put_leftwards messages) (λ q. refl) i

  pub lefts-put_left : (i : ℕ) (messages : List M) → (link_at (changed_at i (put_leftwards messages) links) k).leftwards ≡ (link_at links k).leftwards ++ when (k == i) messages
  lefts-put_left i messages = way-put links k low (λ q. q.leftwards) (put_leftwards messages) messages (λ q. refl) i

  pub rights-take_left : (i : ℕ) → (link_at (changed_at i take_leftwards links) k).rightwards ≡ (link_at links k).rightwards
  rights-take_left = way-stays links k low (λ q. q.rightwards) take_leftwards (λ q. refl)

  pub lefts-take_right : (i : ℕ) → (link_at (changed_at i take_rightwards links) k).leftwards ≡ (link_at links k).leftwards
  lefts-take_right = way-stays links k low (λ q. q.leftwards) take_rightwards (λ q. refl)

  pub rights-take_right : (i : ℕ) (message : M) (rest : List M) → (link_at links i).rightwards ≡ message ∷ rest
      → (link_at links k).rightwards ≡ when (k == i) (message ∷ []) ++ (link_at (changed_at i take_rightwards links) k).rightwards
  rights-take_right = way-take links k low (λ q. q.rightwards) take_rightwards (λ q. refl)

  pub lefts-take_left : (i : ℕ) (message : M) (rest : List M) → (link_at links i).leftwards ≡ message ∷ rest
      → (link_at links k).leftwards ≡ when (k == i) (message ∷ []) ++ (link_at (changed_at i take_leftwards links) k).leftwards
  lefts-take_left = way-take links k low (λ q. q.leftwards) take_leftwards (λ q. refl)

  -- at a port
  pub rights-put_in : (port : Side) (n : ℕ) (message : M) → (link_at (put_in port n message links) k).rightwards ≡ (link_at links k).rightwards ++ when (k == 0) (only_at port Left message)
  rights-put_in Left n message = rights-put_right 0 (message ∷ [])
  rights-put_in Right n message = rights-put_left n (message ∷ []) ∙ sym (append-nil _) ∙ ap (λ ms. (link_at links k).rightwards ++ ms) (sym (when-nil (k == 0)))

  pub lefts-put_in : (port : Side) (n : ℕ) (message : M) → (link_at (put_in port n message links) k).leftwards ≡ (link_at links k).leftwards ++ when (k == n) (only_at port Right message)
  lefts-put_in Left n message = lefts-put_right 0 (message ∷ []) ∙ sym (append-nil _) ∙ ap (λ ms. (link_at links k).leftwards ++ ms) (sym (when-nil (k == n)))
  lefts-put_in Right n message = lefts-put_left n (message ∷ [])

  pub rights-take_out : (port : Side) (n : ℕ) (message : M) (rest : List M) → at_port port n links ≡ message ∷ rest
      → (link_at links k).rightwards ≡ when (k == n) (only_at port Right message) ++ (link_at (take_out port n links) k).rightwards
  rights-take_out Left n message rest is = sym (rights-take_left 0) ∙ ap (λ ms. ms ++ (link_at (take_out Left n links) k).rightwards) (sym (when-nil (k == n)))
  rights-take_out Right n message rest is = rights-take_right n message rest is

  pub lefts-take_out : (port : Side) (n : ℕ) (message : M) (rest : List M) → at_port port n links ≡ message ∷ rest
      → (link_at links k).leftwards ≡ when (k == 0) (only_at port Left message) ++ (link_at (take_out port n links) k).leftwards
  lefts-take_out Left n message rest is = lefts-take_left 0 message rest is
  lefts-take_out Right n message rest is = sym (lefts-take_right n) ∙ ap (λ ms. ms ++ (link_at (take_out Right n links) k).leftwards) (sym (when-nil (k == 0)))

  -- at a core
  pub rights-take_in : (end : Side) (place : ℕ) (message : M) (rest : List M) → incoming end place links ≡ message ∷ rest
      → (link_at links k).rightwards ≡ when (k == place) (only_at end Left message) ++ (link_at (take_in end place links) k).rightwards
  rights-take_in Left place message rest is = rights-take_right place message rest is
  rights-take_in Right place message rest is = sym (rights-take_left (place + 1)) ∙ ap (λ ms. ms ++ (link_at (take_in Right place links) k).rightwards) (sym (when-nil (k == place)))

  pub lefts-take_in : (end : Side) (place : ℕ) (message : M) (rest : List M) → incoming end place links ≡ message ∷ rest
      → (link_at links k).leftwards ≡ when (k == place + 1) (only_at end Right message) ++ (link_at (take_in end place links) k).leftwards
  lefts-take_in Left place message rest is = sym (lefts-take_right place) ∙ ap (λ ms. ms ++ (link_at (take_in Left place links) k).leftwards) (sym (when-nil (k == place + 1)))
  lefts-take_in Right place message rest is = lefts-take_left (place + 1) message rest is

pub length-take_in : {M : Type 0} (end : Side) (place : ℕ) (links : List (Queues M)) → length (take_in end place links) ≡ length links
length-take_in Left place links = length-changed_at place take_rightwards links
length-take_in Right place links = length-changed_at (place + 1) take_leftwards links

pub length-put_in : {M : Type 0} (port : Side) (n : ℕ) (message : M) (links : List (Queues M)) → length (put_in port n message links) ≡ length links
length-put_in Left n message links = length-changed_at 0 (put_rightwards (message ∷ [])) links
length-put_in Right n message links = length-changed_at n (put_leftwards (message ∷ [])) links

-- what a core sends
pub rights-send_out : {M : Type 0} (links : List (Queues M)) (k : ℕ) → k < length links → (place : ℕ) (to_left to_right : List M)
    → (link_at (send_out place to_left to_right links) k).rightwards ≡ (link_at links k).rightwards ++ when (k == place + 1) to_right
rights-send_out links k low place to_left to_right =
    let still : k < length (changed_at place (put_leftwards to_left) links) = omega (arith, length-changed_at place (put_leftwards to_left) links) in
    rights-put_right (changed_at place (put_leftwards to_left) links) k still (place + 1) to_right ∙ ap (λ ms. ms ++ when (k == place + 1) to_right) (rights-put_left links k low place to_left)

pub lefts-send_out : {M : Type 0} (links : List (Queues M)) (k : ℕ) → k < length links → (place : ℕ) (to_left to_right : List M)
    → (link_at (send_out place to_left to_right links) k).leftwards ≡ (link_at links k).leftwards ++ when (k == place) to_left
lefts-send_out links k low place to_left to_right =
    let still : k < length (changed_at place (put_leftwards to_left) links) = omega (arith, length-changed_at place (put_leftwards to_left) links) in
    lefts-put_right (changed_at place (put_leftwards to_left) links) k still (place + 1) to_right ∙ lefts-put_left links k low place to_left
