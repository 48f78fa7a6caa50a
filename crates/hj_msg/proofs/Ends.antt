-- What stands in the journals of a core's ends, and of the driver's ports.
use Rattle.std.proofs.Common.{◌≡◌, ℕ, ◌+◌, Bool, cond, not, List, [], ◌∷◌, ◌++◌, map, refl, ap, arith}
use Rattle.std.specs.List.{flat_map, filter}
use Rattle.std.proofs.lemmas.List.{map-append}
use Rattle.std.proofs.lemmas.List.Elements.{filter-append}
use Rattle.hj_base.specs.declared.numbers.Side.{Side}
use Rattle.hj_base.specs.declared.numbers.Side.TheVariants.{Left, Right}
use Rattle.hj_base.specs.Journals.{Entry, puts, takes, put, taken}
use Rattle.hj_msg.specs.declared.message.Msg.{Msg}
use Rattle.hj_msg.specs.Turns.{Turn, at_left, at_right, only_at}
use Rattle.hj_msg.proofs.Counts.{count, count-append}

pub puts-append : {M : Type 0} (xs ys : List (Entry M)) → puts (xs ++ ys) ≡ puts xs ++ puts ys
puts-append xs ys = rw (filter-append (λ entry. entry.is_put) xs ys) (map-append (λ entry. entry.message) (filter (λ entry. entry.is_put) xs) (filter (λ entry. entry.is_put) ys))

pub takes-append : {M : Type 0} (xs ys : List (Entry M)) → takes (xs ++ ys) ≡ takes xs ++ takes ys
takes-append xs ys = rw (filter-append (λ entry. not entry.is_put) xs ys) (map-append (λ entry. entry.message) (filter (λ entry. not entry.is_put) xs) (filter (λ entry. not entry.is_put) ys))

-- entries that are all puts
pub puts-puts : {M : Type 0} (number : ℕ) (messages : List M) → puts (map (put number) messages) ≡ messages
puts-puts number [] = refl
puts-puts number (m ∷ messages) = ap (λ ms. m ∷ ms) (puts-puts number messages)

pub takes-puts : {M : Type 0} (number : ℕ) (messages : List M) → takes (map (put number) messages) ≡ []
takes-puts number [] = refl
takes-puts number (m ∷ messages) = takes-puts number messages

-- of one turn
puts-at_left : {P : Type 0} (turn : Turn P) → puts (at_left turn) ≡ turn.to_left
puts-at_left turn = go turn.end
  where
    go : (end : Side) → puts (only_at end Left (taken turn.number turn.message) ++ map (put turn.number) turn.to_left) ≡ turn.to_left
    go Left = puts-puts turn.number turn.to_left
    go Right = puts-puts turn.number turn.to_left

puts-at_right : {P : Type 0} (turn : Turn P) → puts (at_right turn) ≡ turn.to_right
puts-at_right turn = go turn.end
  where
    go : (end : Side) → puts (only_at end Right (taken turn.number turn.message) ++ map (put turn.number) turn.to_right) ≡ turn.to_right
    go Left = puts-puts turn.number turn.to_right
    go Right = puts-puts turn.number turn.to_right

takes-at : {P : Type 0} (turn : Turn P) (p : Msg P → Bool) → count p (takes (at_left turn)) + count p (takes (at_right turn)) ≡ cond (p turn.message) 1 0
takes-at {P} turn p = go turn.end
  where
    go : (end : Side) → count p (takes (only_at end Left (taken turn.number turn.message) ++ map (put turn.number) turn.to_left)) + count p (takes (only_at end Right (taken turn.number turn.message) ++ map (put turn.number) turn.to_right)) ≡ cond (p turn.message) 1 0
    go Left = omega (arith, ap (count p) (takes-puts turn.number turn.to_left), ap (count p) (takes-puts turn.number turn.to_right))
    go Right = omega (arith, ap (count p) (takes-puts turn.number turn.to_left), ap (count p) (takes-puts turn.number turn.to_right))

-- of turns
pub puts-left : {P : Type 0} (turns : List (Turn P)) → puts (flat_map at_left turns) ≡ flat_map (λ turn. turn.to_left) turns
puts-left [] = refl
puts-left (turn ∷ turns) = rw (puts-append (at_left turn) (flat_map at_left turns), puts-at_left turn, puts-left turns)

pub puts-right : {P : Type 0} (turns : List (Turn P)) → puts (flat_map at_right turns) ≡ flat_map (λ turn. turn.to_right) turns
puts-right [] = refl
puts-right (turn ∷ turns) = rw (puts-append (at_right turn) (flat_map at_right turns), puts-at_right turn, puts-right turns)

-- Each message that turns handle was taken at one end or the other.
pub count-takes : {P : Type 0} (p : Msg P → Bool) (turns : List (Turn P))
    → count p (takes (flat_map at_left turns)) + count p (takes (flat_map at_right turns)) ≡ count p (map (λ turn. turn.message) turns)
count-takes p [] = omega arith
count-takes p (turn ∷ turns) =
    omega (
      arith,
      ap (count p) (takes-append (at_left turn) (flat_map at_left turns)),
      ap (count p) (takes-append (at_right turn) (flat_map at_right turns)),
      count-append p (takes (at_left turn)) (takes (flat_map at_left turns)),
      count-append p (takes (at_right turn)) (takes (flat_map at_right turns)),
      takes-at turn p,
      count-takes p turns,
    )
