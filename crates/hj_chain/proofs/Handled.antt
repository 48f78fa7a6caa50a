-- How many messages of a kind came in at a core and were sent by it, told by the turns that it took.
use Rattle.std.proofs.Common.{◌≡◌, ℕ, ◌+◌, Bool, true, List, [], ◌∷◌, refl, ap, ap₂, ◌∙◌, arith}
use Rattle.std.specs.List.{AllByRecursion, flat_map}
use Rattle.hj_base.specs.declared.numbers.Side.{Side}
use Rattle.hj_base.specs.declared.numbers.Side.TheVariants.{Left, Right}
use Rattle.hj_base.specs.Journals.{Entry, puts, takes}
use Rattle.hj_msg.specs.declared.message.Msg.{Msg}
use Rattle.hj_msg.specs.Core as core
use Rattle.hj_msg.specs.Core.{Sends, State, after}
use Rattle.hj_msg.specs.Turns.{Turn, AreWhole, at_left, at_right, only_at}
use Rattle.hj_chain.proofs.Journals.{puts-append, takes-append, puts-entries, takes-entries, at_left-entries, at_right-entries}
use Rattle.hj_chain.proofs.Turning.{messages}
use Rattle.hj_chain.proofs.Counts.{count, count-append, count-le}
use Rattle.hj_chain.proofs.MessageKinds.{goes_right, goes_left, SendsRight, SendsLeft}
use Rattle.hj_chain.proofs.Directed.{ComesIn}

puts-turn_left : {P : Type 0} (turn : Turn P) → puts (at_left turn) ≡ turn.to_left
puts-turn_left turn = ap puts (at_left-entries turn) ∙ puts-entries turn.number (only_at turn.end Left turn.message) turn.to_left

puts-turn_right : {P : Type 0} (turn : Turn P) → puts (at_right turn) ≡ turn.to_right
puts-turn_right turn = ap puts (at_right-entries turn) ∙ puts-entries turn.number (only_at turn.end Right turn.message) turn.to_right

takes-turn_left : {P : Type 0} (turn : Turn P) → takes (at_left turn) ≡ only_at turn.end Left turn.message
takes-turn_left turn = ap takes (at_left-entries turn) ∙ takes-entries turn.number (only_at turn.end Left turn.message) turn.to_left

takes-turn_right : {P : Type 0} (turn : Turn P) → takes (at_right turn) ≡ only_at turn.end Right turn.message
takes-turn_right turn = ap takes (at_right-entries turn) ∙ takes-entries turn.number (only_at turn.end Right turn.message) turn.to_right

-- what was put on a side, by what was handled
module _ {P : Type 0} (matches : P → P → Bool) (place n : ℕ) (p q : Msg P → Bool) where
  sent_on : (at : Turn P → List (Entry (Msg P))) (side : Sends P → List (Msg P)) → ((turn : Turn P) → puts (at turn) ≡ side (record { left = turn.to_left; right = turn.to_right }))
      → ((m : Msg P) → count p (side (core.sends place n m)) ≡ count q (m ∷ [])) → (state : State P) (turns : List (Turn P)) → AreWhole matches place n state turns → count p (puts (flat_map at turns)) ≡ count q (messages turns)
  sent_on at side put sends state [] all = refl
  sent_on at side put sends state (turn ∷ turns) all =
      omega (
        arith,
        ap (count p) (puts-append (at turn) (flat_map at turns)),
        count-append p (puts (at turn)) (puts (flat_map at turns)),
        ap (count p) (put turn ∙ ap₂ (λ (l r : List (Msg P)). side (record { left = l; right = r })) all.0.left all.0.right),
        sends turn.message,
        sent_on at side put sends (after place n state turn.message) turns all.1,
      )

pub sent_right : {P : Type 0} (matches : P → P → Bool) (place n : ℕ) (state : State P) (turns : List (Turn P)) (p q : Msg P → Bool) → SendsRight p q place n → AreWhole matches place n state turns
    → count p (puts (flat_map at_right turns)) ≡ count q (messages turns)
sent_right {P} matches place n state turns p q sends all = sent_on matches place n p q at_right (λ (s : Sends P). s.right) puts-turn_right sends state turns all

pub sent_left : {P : Type 0} (matches : P → P → Bool) (place n : ℕ) (state : State P) (turns : List (Turn P)) (p q : Msg P → Bool) → SendsLeft p q place n → AreWhole matches place n state turns
    → count p (puts (flat_map at_left turns)) ≡ count q (messages turns)
sent_left {P} matches place n state turns p q sends all = sent_on matches place n p q at_left (λ (s : Sends P). s.left) puts-turn_left sends state turns all

-- a message is taken at one end or the other
at_either : {X : Type 0} (p : X → Bool) (end : Side) (x : X) → count p (only_at end Left x) + count p (only_at end Right x) ≡ count p (x ∷ [])
at_either p Left x = omega arith
at_either p Right x = omega arith

-- what came in at an end, where nothing of its kind comes in at the other one
module _ {P : Type 0} (p : Msg P → Bool) where
  came_in : (at : Turn P → List (Entry (Msg P))) (here other : Side) → ((turn : Turn P) → takes (at turn) ≡ only_at turn.end here turn.message)
      → ((turn : Turn P) → count p (only_at turn.end here turn.message) + count p (only_at turn.end other turn.message) ≡ count p (turn.message ∷ []))
      → ((turn : Turn P) → ComesIn turn → count p (only_at turn.end other turn.message) ≡ 0) → (turns : List (Turn P)) → AllByRecursion ComesIn turns → count p (takes (flat_map at turns)) ≡ count p (messages turns)
  came_in at here other took either none [] all = refl
  came_in at here other took either none (turn ∷ turns) all =
      omega (
        arith,
        ap (count p) (takes-append (at turn) (flat_map at turns)),
        count-append p (takes (at turn)) (takes (flat_map at turns)),
        ap (count p) (took turn),
        either turn,
        none turn all.0,
        came_in at here other took either none turns all.1,
      )

-- what goes right came in at the left end, and what goes left at the right end
pub came_right : {P : Type 0} (turns : List (Turn P)) (p : Msg P → Bool) → ((m : Msg P) → p m ≡ true → goes_right m ≡ true) → AllByRecursion ComesIn turns → count p (takes (flat_map at_left turns)) ≡ count p (messages turns)
came_right turns p right all =
    came_in p at_left Left Right takes-turn_left (λ turn. at_either p turn.end turn.message) (λ turn comes. omega (arith, count-le p goes_right right (only_at turn.end Right turn.message), comes.at_right)) turns all

pub came_left : {P : Type 0} (turns : List (Turn P)) (p : Msg P → Bool) → ((m : Msg P) → p m ≡ true → goes_left m ≡ true) → AllByRecursion ComesIn turns → count p (takes (flat_map at_right turns)) ≡ count p (messages turns)
came_left turns p left all =
    came_in p at_right Right Left takes-turn_right (λ turn. omega (arith, at_either p turn.end turn.message)) (λ turn comes. omega (arith, count-le p goes_left left (only_at turn.end Left turn.message), comes.at_left)) turns all
