-- What the messages under way weigh together, each by its direction, its link and itself, and how each step changes that.
use Rattle.std.proofs.Common.{◌≡◌, ℕ, ◌+◌, ◌<◌, List, [], ◌∷◌, length, drop, replicate, ap, ◌∙◌, arith}
use Rattle.std.proofs.lemmas.List.{get_or-replicate, length-replicate}
use Rattle.hj_base.specs.declared.numbers.Side.{Side}
use Rattle.hj_base.specs.declared.numbers.Side.TheVariants.{Left, Right}
use Rattle.hj_chain.specs.Queues.{Queues, no_messages}
use Rattle.hj_chain.specs.Links.{changed_at, link_at, put_rightwards, put_leftwards, take_rightwards, take_leftwards, at_port, put_in, take_out, incoming, take_in, send_out}
use Rattle.hj_chain.proofs.Places.{length-changed_at}
use Rattle.hj_chain.proofs.Ways.{length-take_in, length-put_in}
use Rattle.hj_chain.proofs.Totals.{sum_of, sum_of-append, total, total-changed, total-nothing}

-- what a message on a link weighs, on its way to the right or to the left
pub record Weights (M : Type 0) : Type 0 where
  pub rightwards : ℕ → M → ℕ
  pub leftwards : ℕ → M → ℕ

abbrev on_link : {M : Type 0} → Weights M → ℕ → Queues M → ℕ
on_link weights k link = sum_of (weights.rightwards k) link.rightwards + sum_of (weights.leftwards k) link.leftwards

abbrev pub load : {M : Type 0} → Weights M → List (Queues M) → ℕ
load weights links = total (on_link weights) links

-- the weight of a message where it is put in and taken out at a port, and where a core takes it
abbrev pub at_entry : {M : Type 0} → Weights M → Side → ℕ → M → ℕ
at_entry weights Left n message = weights.rightwards 0 message
at_entry weights Right n message = weights.leftwards n message

abbrev pub at_exit : {M : Type 0} → Weights M → Side → ℕ → M → ℕ
at_exit weights Left n message = weights.leftwards 0 message
at_exit weights Right n message = weights.rightwards n message

abbrev pub at_end : {M : Type 0} → Weights M → Side → ℕ → M → ℕ
at_end weights Left place message = weights.rightwards place message
at_end weights Right place message = weights.leftwards (place + 1) message

module _ {M : Type 0} (weights : Weights M) (links : List (Queues M)) (i : ℕ) (low : i < length links) where
  load-put_right : (messages : List M) → load weights (changed_at i (put_rightwards messages) links) ≡ load weights links + sum_of (weights.rightwards i) messages
  load-put_right messages = omega (
    arith,
    total-changed (on_link weights) i (put_rightwards messages) links (no_messages 0) low,
    sum_of-append (weights.rightwards i) (link_at links i).rightwards messages,
  )

  load-put_left : (messages : List M) → load weights (changed_at i (put_leftwards messages) links) ≡ load weights links + sum_of (weights.leftwards i) messages
  load-put_left messages = omega (
    arith,
    total-changed (on_link weights) i (put_leftwards messages) links (no_messages 0) low,
    sum_of-append (weights.leftwards i) (link_at links i).leftwards messages,
  )

  load-take_right : (message : M) (rest : List M) → (link_at links i).rightwards ≡ message ∷ rest → load weights (changed_at i take_rightwards links) + weights.rightwards i message ≡ load weights links
  load-take_right message rest is = omega (
    arith,
    total-changed (on_link weights) i take_rightwards links (no_messages 0) low,
    ap (sum_of (weights.rightwards i)) is,
    ap (λ ms. sum_of (weights.rightwards i) (drop 1 ms)) is,
  )

  load-take_left : (message : M) (rest : List M) → (link_at links i).leftwards ≡ message ∷ rest → load weights (changed_at i take_leftwards links) + weights.leftwards i message ≡ load weights links
  load-take_left message rest is = omega (
    arith,
    total-changed (on_link weights) i take_leftwards links (no_messages 0) low,
    ap (sum_of (weights.leftwards i)) is,
    ap (λ ms. sum_of (weights.leftwards i) (drop 1 ms)) is,
  )

-- what each action does to the links of a chain of n cores
module _ {M : Type 0} (weights : Weights M) (n : ℕ) (links : List (Queues M)) (all : length links ≡ n + 1) where
  pub load-put_in : (port : Side) (message : M) → load weights (put_in port n message links) ≡ load weights links + at_entry weights port n message
  load-put_in Left message = omega (arith, load-put_right weights links 0 (omega (arith, all)) (message ∷ []))
  load-put_in Right message = omega (arith, load-put_left weights links n (omega (arith, all)) (message ∷ []))

  pub load-take_out : (port : Side) (message : M) (rest : List M) → at_port port n links ≡ message ∷ rest → load weights (take_out port n links) + at_exit weights port n message ≡ load weights links
  load-take_out Left message rest is = load-take_left weights links 0 (omega (arith, all)) message rest is
  load-take_out Right message rest is = load-take_right weights links n (omega (arith, all)) message rest is

  load-take_in : (end : Side) (place : ℕ) (message : M) (rest : List M) → place < n → incoming end place links ≡ message ∷ rest → load weights (take_in end place links) + at_end weights end place message ≡ load weights links
  load-take_in Left place message rest low is = load-take_right weights links place (omega (arith, all, low)) message rest is
  load-take_in Right place message rest low is = load-take_left weights links (place + 1) (omega (arith, all, low)) message rest is

  load-send_out : (place : ℕ) (to_left to_right : List M) → place < n
      → load weights (send_out place to_left to_right links) ≡ load weights links + sum_of (weights.leftwards place) to_left + sum_of (weights.rightwards (place + 1)) to_right
  load-send_out place to_left to_right low =
      let links_left = changed_at place (put_leftwards to_left) links in
      let still : place + 1 < length links_left = omega (arith, all, low, length-changed_at place (put_leftwards to_left) links) in
      omega (arith, load-put_right weights links_left (place + 1) still to_right, load-put_left weights links place (omega (arith, all, low)) to_left)

module _ {M : Type 0} (weights : Weights M) (n : ℕ) (links : List (Queues M)) (all : length links ≡ n + 1) where
  pub load-handles : (end : Side) (place : ℕ) (message : M) (rest to_left to_right : List M) → place < n → incoming end place links ≡ message ∷ rest
      → load weights (send_out place to_left to_right (take_in end place links)) + at_end weights end place message
      ≡ load weights links + sum_of (weights.leftwards place) to_left + sum_of (weights.rightwards (place + 1)) to_right
  load-handles end place message rest to_left to_right low is =
      let still : length (take_in end place links) ≡ n + 1 = length-take_in end place links ∙ all in
      omega (arith, load-send_out weights n (take_in end place links) still place to_left to_right low, load-take_in weights n links all end place message rest low is)

  pub load-put_both : (one other : M) → load weights (put_in Right n other (put_in Left n one links)) ≡ load weights links + at_entry weights Left n one + at_entry weights Right n other
  load-put_both one other =
      let still : length (put_in Left n one links) ≡ n + 1 = length-put_in Left n one links ∙ all in
      omega (arith, load-put_in weights n (put_in Left n one links) still Right other, load-put_in weights n links all Left one)

-- where no message is under way
pub load-nothing : {M : Type 0} (weights : Weights M) (links : List (Queues M))
    → ((k : ℕ) → k < length links → (link_at links k).rightwards ≡ []) → ((k : ℕ) → k < length links → (link_at links k).leftwards ≡ []) → load weights links ≡ 0
load-nothing weights links no_rights no_lefts = total-nothing (on_link weights) links (no_messages 0) (λ k low. omega (arith, ap (sum_of (weights.rightwards k)) (no_rights k low), ap (sum_of (weights.leftwards k)) (no_lefts k low)))

pub load-begin : {M : Type 0} (weights : Weights M) (count capacity : ℕ) → load weights (replicate count (no_messages capacity)) ≡ 0
load-begin {M} weights count capacity =
    let links : List (Queues M) = replicate count (no_messages capacity) in
    let each : (k : ℕ) → k < length links → link_at links k ≡ no_messages capacity = λ k low. get_or-replicate count k (no_messages capacity) (no_messages 0) (omega (arith, low, length-replicate count (no_messages {M = M} capacity))) in
    load-nothing weights links (λ k low. ap (λ (q : Queues M). q.rightwards) (each k low)) (λ k low. ap (λ (q : Queues M). q.leftwards) (each k low))
