-- The ways of the messages: which end they are taken at, and in which order they go from core to core.
use Rattle.std.proofs.Common.{◌≡◌, ℕ, zero, suc, ◌+◌, ◌-◌, ◌<◌, ◌≤◌, Bool, true, false, cond, ◌||◌, ◌==◌, List, [], ◌∷◌, ◌++◌, map, refl, ap, ap₂, sym, ◌∙◌, subst, arith, append-nil, add-one, Some, None, Option, ◌⊎◌, inl, inr, true≢false}
use Rattle.std.specs.Option.{IfSome, option_to_list}
use Rattle.std.specs.List.{flat_map, AllByRecursion, list_any}
use Rattle.std.proofs.lemmas.List.{map-append}
use Rattle.std.proofs.lemmas.List.Concat.{flat_map-append}
use native.Mathlib.Decide.{dec_lt}
use Rattle.hj_base.specs.declared.numbers.Side.{Side}
use Rattle.hj_base.specs.declared.numbers.Side.TheVariants.{Left, Right}
use Rattle.hj_base.specs.Journals.{Entry, IsPrefix, puts, takes, put, taken}
use Rattle.hj_msg.specs.declared.message.Msg.{Msg}
use Rattle.hj_msg.specs.declared.message.Msg.TheVariants.{AckS}
use Rattle.hj_msg.specs.Core.{State, empty_state, after}
use Rattle.hj_msg.specs.Turns.{Turn, IsCut, AreWhole, all_of, handled, at_left, at_right, only_at}
use Rattle.hj_msg.specs.Run.{Run, IsRun, port_journal}
use Rattle.hj_msg.proofs.Counts.{count, count-append, count-prefix}
use Rattle.hj_msg.proofs.Ends.{takes-append, takes-puts}
use Rattle.hj_msg.proofs.TurnPuts.{all_put, against_unput, against_unsent, count-port-none, end_on, put_none, puts_end, puts_on}
use Rattle.hj_msg.proofs.Orders.{before, any-prefix, before-prefix, Lifts, lifted, lifted-any}
use Rattle.hj_msg.proofs.Sides.{opposite, goes_right, goes_left, goes_with, sends_on, Reaches}

abbrev pub is_AckS : {P : Type 0} → ℕ → Msg P → Bool
is_AckS number (AckS at) = at.0 == number
is_AckS number other = false

-- a message is taken at the end to which it goes
pub record TakenAt {P : Type 0} (here there : Turn P → List (Entry (Msg P))) (turn : Turn P) : Type 0 where
  pub one : (takes (here turn) ≡ turn.message ∷ []) × (takes (there turn) ≡ []) ⊎ (takes (here turn) ≡ []) × (takes (there turn) ≡ turn.message ∷ [])

taken_left : {P : Type 0} (turn : Turn P) → TakenAt at_left at_right turn
taken_left turn = record { one = go turn.end }
  where
    go : (end : Side) → (takes (only_at end Left (taken turn.number turn.message) ++ map (put turn.number) turn.to_left) ≡ turn.message ∷ []) × (takes (only_at end Right (taken turn.number turn.message) ++ map (put turn.number) turn.to_right) ≡ [])
        ⊎ (takes (only_at end Left (taken turn.number turn.message) ++ map (put turn.number) turn.to_left) ≡ []) × (takes (only_at end Right (taken turn.number turn.message) ++ map (put turn.number) turn.to_right) ≡ turn.message ∷ [])
    go Left = inl (ap (λ ms. turn.message ∷ ms) (takes-puts turn.number turn.to_left), takes-puts turn.number turn.to_right)
    go Right = inr (takes-puts turn.number turn.to_left, ap (λ ms. turn.message ∷ ms) (takes-puts turn.number turn.to_right))

-- the messages that go this way were all taken here
record SameOrder {P : Type 0} (p q : Msg P → Bool) (xs ys : List (Msg P)) : Type 0 where
  pub order : before p q xs ≡ before p q ys
  pub has : list_any q xs ≡ list_any q ys

taken_here : {P : Type 0} (here there : Turn P → List (Entry (Msg P))) (goes p q : Msg P → Bool) → ((turn : Turn P) → TakenAt here there turn)
    → ((m : Msg P) → goes m ≡ false → p m ≡ false) → ((m : Msg P) → goes m ≡ false → q m ≡ false)
    → (turns : List (Turn P)) → count goes (takes (flat_map there turns)) ≡ 0 → SameOrder p q (takes (flat_map here turns)) (map (λ turn. turn.message) turns)
taken_here here there goes p q at of_p of_q [] none = record { order = refl; has = refl }
taken_here {P} here there goes p q at of_p of_q (turn ∷ turns) none =
    let all : count goes (takes (there turn)) + count goes (takes (flat_map there turns)) ≡ 0
    = omega (arith, ap (count goes) (takes-append (there turn) (flat_map there turns)), count-append goes (takes (there turn)) (takes (flat_map there turns))) in
    let later = taken_here here there goes p q at of_p of_q turns (omega arith) in
    let front : takes (here turn ++ flat_map here turns) ≡ takes (here turn) ++ takes (flat_map here turns) = takes-append (here turn) (flat_map here turns) in
    elim (at turn).one [
      | inl is ↦ record {
        order = ap (before p q) (front ∙ ap (λ ms. ms ++ takes (flat_map here turns)) is.0) ∙ ap (λ b. cond (q turn.message) false (p turn.message || b)) later.order;
        has = ap (list_any q) (front ∙ ap (λ ms. ms ++ takes (flat_map here turns)) is.0) ∙ ap (λ b. q turn.message || b) later.has;
      }
      | inr is ↦
          let none_here : goes turn.message ≡ false = grind (arith, all, ap (count goes) is.1) in
          let not_p : p turn.message ≡ false = of_p turn.message none_here in
          let not_q : q turn.message ≡ false = of_q turn.message none_here in
          record {
            order = ap (before p q) (front ∙ ap (λ ms. ms ++ takes (flat_map here turns)) is.0) ∙ (rw (not_p, not_q) later.order);
            has = ap (list_any q) (front ∙ ap (λ ms. ms ++ takes (flat_map here turns)) is.0) ∙ (rw not_q later.has);
          }
    ]

-- What turns put on one side, against the messages that they handled: the order and the presence of what they turn into.
pub record Sent {P : Type 0} (p' q' p q : Msg P → Bool) (sent messages : List (Msg P)) : Type 0 where
  pub order : before p' q' sent ≡ before p q messages
  pub has : list_any q messages ≡ true

sent_by : {P : Type 0} (p' q' p q : Msg P → Bool) (to : Turn P → List (Msg P)) (f : Msg P → List (Msg P)) → ((m : Msg P) → Lifts p' q' p q f m)
    → (whole : List (Turn P)) (cut : Option (Turn P)) → AllByRecursion (λ turn. to turn ≡ f turn.message) whole → IfSome cut (λ turn. IsPrefix (to turn) (f turn.message))
    → list_any q' (flat_map to (whole ++ option_to_list cut)) ≡ true → Sent p' q' p q (flat_map to (whole ++ option_to_list cut)) (map (λ turn. turn.message) (whole ++ option_to_list cut))
sent_by {P} p' q' p q to f lifts whole cut all is h = go cut is h
  where
    wholes : (turns : List (Turn P)) → AllByRecursion (λ turn. to turn ≡ f turn.message) turns → flat_map to turns ≡ flat_map f (map (λ turn. turn.message) turns)
    wholes [] all = refl
    wholes (turn ∷ turns) all = ap₂ (λ xs ys. xs ++ ys) all.0 (wholes turns all.1)

    made : (last : List (Turn P)) (part : List (Msg P)) → flat_map to last ≡ part → (list_any q' part ≡ true → before p' q' part ≡ before p q (map (λ turn. turn.message) last))
        → (list_any q' part ≡ true → list_any q (map (λ turn. turn.message) last) ≡ true)
        → list_any q' (flat_map to (whole ++ last)) ≡ true → Sent p' q' p q (flat_map to (whole ++ last)) (map (λ turn. turn.message) (whole ++ last))
    made last part e base has h =
        let parts : flat_map to (whole ++ last) ≡ flat_map f (map (λ turn. turn.message) whole) ++ part = flat_map-append to whole last ∙ ap₂ (λ xs ys. xs ++ ys) (wholes whole all) e in
        let there : list_any q' (flat_map f (map (λ turn. turn.message) whole) ++ part) ≡ true = sym (ap (list_any q') parts) ∙ h in
        let messages : map (λ (turn : Turn P). turn.message) (whole ++ last) ≡ map (λ turn. turn.message) whole ++ map (λ turn. turn.message) last = map-append (λ turn. turn.message) whole last in
        record {
          order = ap (before p' q') parts ∙ lifted p' q' p q f lifts (map (λ turn. turn.message) whole) (map (λ turn. turn.message) last) part base there ∙ sym (ap (before p q) messages);
          has = ap (list_any q) messages ∙ lifted-any q' q f (λ m. (lifts m).second) (map (λ turn. turn.message) whole) (map (λ turn. turn.message) last) part has there;
        }

    go : (cut : Option (Turn P)) → IfSome cut (λ turn. IsPrefix (to turn) (f turn.message)) → list_any q' (flat_map to (whole ++ option_to_list cut)) ≡ true
        → Sent p' q' p q (flat_map to (whole ++ option_to_list cut)) (map (λ turn. turn.message) (whole ++ option_to_list cut))
    go None is h = made [] [] refl (λ g. absurd (true≢false (sym g))) (λ g. absurd (true≢false (sym g))) h
    go (Some turn) is h =
        let holds : list_any q' (to turn) ≡ true → q turn.message ≡ true = λ g. sym (lifts turn.message).second ∙ any-prefix q' is g in
        let none : list_any q' (to turn) ≡ true → before p' q' (to turn) ≡ false = λ g. sym (before-prefix p' q' is g) ∙ (lifts turn.message).apart (holds g) in
        made (turn ∷ []) (to turn) (append-nil (to turn)) (λ g. rw (holds g) (none g)) (λ g. rw (holds g) refl) h

whole_on : {P : Type 0} (side : Side) (matches : P → P → Bool) (place n : ℕ) (state : State P) (turns : List (Turn P))
    → AreWhole matches place n state turns → AllByRecursion (λ turn. puts_on side turn ≡ sends_on side place n turn.message) turns
whole_on side matches place n state [] whole = tt
whole_on Left matches place n state (turn ∷ turns) whole =
    (whole.0.right, whole_on Left matches place n (after place n state turn.message) turns whole.1)
whole_on Right matches place n state (turn ∷ turns) whole =
    (whole.0.left, whole_on Right matches place n (after place n state turn.message) turns whole.1)

cut_on : {P : Type 0} (side : Side) (place n : ℕ) (cut : Option (Turn P)) → IfSome cut (IsCut place n)
    → IfSome cut (λ turn. IsPrefix (puts_on side turn) (sends_on side place n turn.message))
cut_on side place n None is = tt
cut_on Left place n (Some turn) is = is.right
cut_on Right place n (Some turn) is = is.left

pub taken_at : {P : Type 0} (side : Side) (turn : Turn P) → TakenAt (end_on (opposite side)) (end_on side) turn
taken_at Left turn = taken_left turn
taken_at Right turn = record { one = elim (taken_left turn).one [ inl is ↦ inr (is.1, is.0) | inr is ↦ inl (is.1, is.0) ] }

module _ {P : Type 0} (run : Run P) (is : IsRun run) where
  -- What stands on a link goes the way of its end: what the right end puts goes left, and what the left end puts goes right.
  right_end_goes_left : (k : ℕ) → k ≤ run.cores → count goes_right (puts (run.link k).right) ≡ 0
  right_end_goes_left k within = go (dec_lt k run.cores)
    where
      go : Dec (k < run.cores) → count goes_right (puts (run.link k).right) ≡ 0
      go (yes low) =
          rw (is.steps k low).left (put_none Right goes_right k run.cores (against_unsent Right k run.cores) (all_of (is.turns k)) (all_put (is.steps k low)))
      go (no high) =
          let last : k ≡ run.cores = omega arith in rw (last, is.right_port) (count-port-none goes_right Right (against_unput Right) is.log)

  left_end_goes_right : (k : ℕ) → k ≤ run.cores → count goes_left (puts (run.link k).left) ≡ 0
  left_end_goes_right zero within = rw is.left_port (count-port-none goes_left Left (against_unput Left) is.log)
  left_end_goes_right (suc k) within =
      rw (← add-one k, (is.steps k within).right) (put_none Left goes_left k run.cores (against_unsent Left k run.cores) (all_of (is.turns k)) (all_put (is.steps k within)))

  -- so a core takes nothing that goes the way of a side at the end at which it puts that
  pub none_taken : (side : Side) (k : ℕ) → k < run.cores → count (goes_with side) (takes (flat_map (end_on side) (all_of (is.turns k)))) ≡ 0
  none_taken Left k low = omega (
    arith,
    ap (λ j. count goes_right (takes j)) (is.steps k low).right,
    count-prefix goes_right (is.links (k + 1) (omega arith)).leftwards.taken,
    right_end_goes_left (k + 1) (omega arith),
  )
  none_taken Right k low = omega (
    arith,
    ap (λ j. count goes_left (takes j)) (is.steps k low).left,
    count-prefix goes_left (is.links k (omega arith)).rightwards.taken,
    left_end_goes_right k (omega arith),
  )

  -- The port at which the rows of a side are put, and the end at which the core before, or the driver, puts them for a core:
  abbrev pub port_end : Side → List (Entry (Msg P))
  port_end Left = (run.link 0).left
  port_end Right = (run.link run.cores).right

  abbrev pub before_core : Side → ℕ → List (Entry (Msg P))
  before_core Left k = (run.link k).left
  before_core Right k = (run.link (k + 1)).right

  pub port_is : (side : Side) → port_end side ≡ port_journal side is.log
  port_is Left = is.left_port
  port_is Right = is.right_port

  pub reached : (side : Side) (k : ℕ) → k < run.cores → (others : ℕ) × Reaches run.cores side others k
  reached Left k low = (k, (refl, low))
  reached Right k low = (run.cores - (k + 1), (omega (arith, low), low))

  pub low_of : (side : Side) (others k : ℕ) → Reaches run.cores side others k → k < run.cores
  low_of Left others k at = at.1
  low_of Right others k at = at.1

  -- the core that they reach before another one
  pub nearer : (side : Side) (others k : ℕ) → Reaches run.cores side (suc others) k → (near : ℕ) × Reaches run.cores side others near
  nearer Left others k at = (others, (refl, omega (arith, at.0, at.1)))
  nearer Right others k at = (k + 1, (omega (arith, at.0), omega (arith, at.0)))

  -- Where the ways of both sides matter, a core and its neighbour are k and k + 1, or k + 1 and k.
  pub neighbours : (side : Side) (others near far : ℕ) → Reaches run.cores side others near → Reaches run.cores side (suc others) far
      → (Q : Side → ℕ → ℕ → Type 0) → ((k : ℕ) → k + 1 < run.cores → Q Left k (k + 1)) → ((k : ℕ) → k + 1 < run.cores → Q Right (k + 1) k) → Q side near far
  neighbours Left others near far at_near at_far Q to_right to_left =
      let e : near + 1 ≡ far = omega (arith, at_near.0, at_far.0) in subst (λ a. Q Left near a) e (to_right near (omega (arith, e, at_far.1)))
  neighbours Right others near far at_near at_far Q to_right to_left =
      let e : far + 1 ≡ near = omega (arith, at_near.0, at_far.0) in subst (λ a. Q Right a far) e (to_left far (omega (arith, e, at_near.1)))

  -- before the first core they are put at the port, and before any other by the one before
  pub before_first : (side : Side) (k : ℕ) → Reaches run.cores side 0 k → before_core side k ≡ port_end side
  before_first Left k at = ap (λ a. (run.link a).left) at.0
  before_first Right k at = ap (λ a. (run.link a).right) at.0

  pub before_next : (side : Side) (others near far : ℕ) → Reaches run.cores side others near → Reaches run.cores side (suc others) far
      → before_core side far ≡ flat_map (end_on side) (all_of (is.turns near))
  before_next side others near far at_near at_far =
      neighbours side others near far at_near at_far (λ side near far. before_core side far ≡ flat_map (end_on side) (all_of (is.turns near)))
      (λ k low. (is.steps k (omega arith)).right) (λ k low. (is.steps (k + 1) low).left)

  -- and there the core takes them, in order
  pub taken_before : (side : Side) (k : ℕ) → k < run.cores
      → IsPrefix (takes (flat_map (end_on (opposite side)) (all_of (is.turns k)))) (puts (before_core side k))
  taken_before Left k low =
      subst (λ j. IsPrefix (takes j) (puts (run.link k).left)) (is.steps k low).left (is.links k (omega arith)).rightwards.taken
  taken_before Right k low =
      subst (λ j. IsPrefix (takes j) (puts (run.link (k + 1)).right)) (is.steps k low).right (is.links (k + 1) (omega arith)).leftwards.taken

  came : (side : Side) (k : ℕ) → k < run.cores → (p q : Msg P → Bool) → ((m : Msg P) → goes_with side m ≡ false → p m ≡ false)
      → ((m : Msg P) → goes_with side m ≡ false → q m ≡ false)
      → list_any q (handled (is.turns k)) ≡ true → Sent p q p q (handled (is.turns k)) (puts (before_core side k))
  came side k low p q of_p of_q h =
      let same = taken_here (end_on (opposite side)) (end_on side) (goes_with side) p q (taken_at side) of_p of_q (all_of (is.turns k)) (none_taken side k low) in
      let prefix = taken_before side k low in
      let there : list_any q (takes (flat_map (end_on (opposite side)) (all_of (is.turns k)))) ≡ true = same.has ∙ h in
      record { order = sym same.order ∙ sym (before-prefix p q prefix there); has = any-prefix q prefix there }

  sent : (side : Side) (others near far : ℕ) → Reaches run.cores side others near → Reaches run.cores side (suc others) far
      → (p' q' p q : Msg P → Bool) → ((m : Msg P) → Lifts p' q' p q (λ m. sends_on side near run.cores m) m)
      → list_any q' (puts (before_core side far)) ≡ true → Sent p' q' p q (puts (before_core side far)) (handled (is.turns near))
  sent side others near far at_near at_far p' q' p q lifts h =
      let low = low_of side others near at_near in
      let are : puts (before_core side far) ≡ flat_map (puts_on side) (all_of (is.turns near)) = ap puts (before_next side others near far at_near at_far) ∙ puts_end side (all_of (is.turns near)) in
      let made = sent_by p' q' p q (puts_on side) (λ m. sends_on side near run.cores m) lifts (is.turns near).whole (is.turns near).cut
      (whole_on side run.matches near run.cores empty_state (is.turns near).whole (is.steps near low).whole) (cut_on side near run.cores (is.turns near).cut (is.steps near low).cut) (sym (ap (list_any q') are) ∙ h) in
      record { order = ap (before p' q') are ∙ made.order; has = made.has }

  -- from core to core
  pub passed_on : (side : Side) (others near far : ℕ) → Reaches run.cores side others near → Reaches run.cores side (suc others) far
      → (p' q' p q : Msg P → Bool) → ((m : Msg P) → goes_with side m ≡ false → p' m ≡ false) → ((m : Msg P) → goes_with side m ≡ false → q' m ≡ false)
      → ((m : Msg P) → Lifts p' q' p q (λ m. sends_on side near run.cores m) m)
      → list_any q' (handled (is.turns far)) ≡ true → Sent p' q' p q (handled (is.turns far)) (handled (is.turns near))
  passed_on side others near far at_near at_far p' q' p q of_p of_q lifts h =
      let there = came side far (low_of side (suc others) far at_far) p' q' of_p of_q h in
      let here = sent side others near far at_near at_far p' q' p q lifts there.has in
      record { order = there.order ∙ here.order; has = here.has }

  pub entered : (side : Side) (k : ℕ) → Reaches run.cores side 0 k → (p q : Msg P → Bool) → ((m : Msg P) → goes_with side m ≡ false → p m ≡ false) → ((m : Msg P) → goes_with side m ≡ false → q m ≡ false)
      → list_any q (handled (is.turns k)) ≡ true → Sent p q p q (handled (is.turns k)) (puts (port_end side))
  entered side k at p q of_p of_q h =
      subst (λ j. Sent p q p q (handled (is.turns k)) (puts j)) (before_first side k at) (came side k (low_of side 0 k at) p q of_p of_q h)

  -- what all cores send on comes to each core in the order in which it was put at the port
  pub along : (side : Side) (p q : Msg P → Bool) → ((m : Msg P) → goes_with side m ≡ false → p m ≡ false) → ((m : Msg P) → goes_with side m ≡ false → q m ≡ false)
      → ((k : ℕ) (m : Msg P) → Lifts p q p q (λ m. sends_on side k run.cores m) m) → (others k : ℕ) → Reaches run.cores side others k
      → list_any q (handled (is.turns k)) ≡ true → Sent p q p q (handled (is.turns k)) (puts (port_end side))
  along side p q of_p of_q lifts zero k at h = entered side k at p q of_p of_q h
  along side p q of_p of_q lifts (suc others) k at h =
      let near = nearer side others k at in
      let passed = passed_on side others near.0 k near.1 at p q p q of_p of_q (lifts near.0) h in
      let deeper = along side p q of_p of_q lifts others near.0 near.1 passed.has in
      record { order = passed.order ∙ deeper.order; has = deeper.has }
