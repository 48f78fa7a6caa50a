-- Two neighbours never each wait for the other: where one of them handled a message before it put another one, the other of
-- them put the first before it handled the second.
use Rattle.std.proofs.Common.{◌≡◌, ℕ, ◌+◌, ◌<◌, ◌≤◌, Bool, true, false, List, [], ◌∷◌, ◌++◌, map, refl, ap, ap₂, sym, ◌∙◌, subst, arith, append_assoc, true≢false}
use Rattle.std.specs.List.{flat_map, AllByRecursion, list_any}
use Rattle.hj_base.specs.declared.numbers.Side.{Side}
use Rattle.hj_base.specs.declared.numbers.Side.TheVariants.{Left, Right}
use Rattle.hj_base.specs.Journals.{Entry, puts, takes, put, taken}
use Rattle.hj_msg.specs.declared.message.Msg.{Msg}
use Rattle.hj_msg.specs.Core.{sends}
use Rattle.hj_msg.specs.Turns.{Turn, all_of, handled, at_left, at_right, only_at}
use Rattle.hj_msg.specs.Run.{Run, IsRun}
use Rattle.hj_msg.proofs.Counts.{count, count-append, count-prefix}
use Rattle.hj_msg.proofs.Ends.{puts-append, takes-append, puts-puts, takes-puts}
use Rattle.hj_msg.proofs.TurnPuts.{PutsOnly, all_put, puts_on, puts_only}
use Rattle.hj_msg.proofs.CrossingLemmas.{never_both}
use Rattle.hj_msg.proofs.Orders.{before}
use Rattle.hj_msg.proofs.Directions.{none_taken}
use Rattle.hj_msg.proofs.Sides.{opposite, goes_right, goes_left, sends_on}

-- at some moment of a journal a message of p was taken, and none of q put
pub record Waits {P : Type 0} (p q : Msg P → Bool) (journal : List (Entry (Msg P))) : Type 0 where
  pub front : List (Entry (Msg P))
  pub back : List (Entry (Msg P))
  pub is : journal ≡ front ++ back
  pub took : 1 ≤ count p (takes front)
  pub none : count q (puts front) ≡ 0

-- what a turn leaves at an end: its take, then its puts
record EndOf {P : Type 0} (goes : Msg P → Bool) (end there : Turn P → List (Entry (Msg P))) (to : Turn P → List (Msg P)) (turn : Turn P) : Type 0 where
  take : List (Entry (Msg P))
  rest : List (Entry (Msg P))
  is : end turn ≡ take ++ rest
  no_puts : puts take ≡ []
  all_puts : puts (end turn) ≡ to turn
  taken : goes turn.message ≡ true → count goes (takes (there turn)) ≡ 0 → takes take ≡ turn.message ∷ []

-- the entries of a turn at one of its ends, where it put these messages
abbrev entries_at : {P : Type 0} → Side → (Turn P → List (Msg P)) → Turn P → List (Entry (Msg P))
entries_at end to turn = only_at turn.end end (taken turn.number turn.message) ++ map (put turn.number) (to turn)

end_at : {P : Type 0} (end : Side) (goes : Msg P → Bool) (to other : Turn P → List (Msg P)) (turn : Turn P)
    → EndOf goes (entries_at end to) (entries_at (opposite end) other) to turn
end_at {P} end goes to other turn = record {
  take = only_at turn.end end (taken turn.number turn.message);
  rest = map (put turn.number) (to turn);
  is = refl;
  no_puts = none turn.end end;
  all_puts = puts-append (only_at turn.end end (taken turn.number turn.message)) (map (put turn.number) (to turn)) ∙ ap₂ (λ xs ys. xs ++ ys) (none turn.end end) (puts-puts turn.number (to turn));
  taken = λ passes away. here turn.end end passes away;
}
  where
    none : (its end : Side) → puts (only_at its end (taken turn.number turn.message)) ≡ []
    none Left Left = refl
    none Left Right = refl
    none Right Left = refl
    none Right Right = refl

    here : (its end : Side) → goes turn.message ≡ true
        → count goes (takes (only_at its (opposite end) (taken turn.number turn.message) ++ map (put turn.number) (other turn))) ≡ 0
        → takes (only_at its end (taken turn.number turn.message)) ≡ turn.message ∷ []
    here Left Left passes away = refl
    here Right Right passes away = refl
    here Left Right passes away = absurd (grind (arith, passes, away, ap (count goes) (takes-puts turn.number (other turn))))
    here Right Left passes away = absurd (grind (arith, passes, away, ap (count goes) (takes-puts turn.number (other turn))))

waits_behind : {P : Type 0} (p q : Msg P → Bool) (first rest : List (Entry (Msg P))) → count q (puts first) ≡ 0 → Waits p q rest → Waits p q (first ++ rest)
waits_behind p q first rest none wait = record {
  front = first ++ wait.front;
  back = wait.back;
  is = ap (λ j. first ++ j) wait.is ∙ sym (append_assoc first wait.front wait.back);
  took = omega (arith, wait.took, ap (count p) (takes-append first wait.front), count-append p (takes first) (takes wait.front));
  none = omega (arith, wait.none, none, ap (count q) (puts-append first wait.front), count-append q (puts first) (puts wait.front));
}

waits : {P : Type 0} (goes : Msg P → Bool) (end there : Turn P → List (Entry (Msg P))) (to : Turn P → List (Msg P)) (p q source : Msg P → Bool)
    → ((turn : Turn P) → EndOf goes end there to turn) → ((m : Msg P) → p m ≡ true → goes m ≡ true)
    → (turns : List (Turn P)) → AllByRecursion (λ turn. source turn.message ≡ false → count q (to turn) ≡ 0) turns
    → count goes (takes (flat_map there turns)) ≡ 0 → list_any p (map (λ turn. turn.message) turns) ≡ true → before source p (map (λ turn. turn.message) turns) ≡ false
    → Waits p q (flat_map end turns)
waits goes end there to p q source ends of_p [] all away has none = absurd (true≢false (sym has))
waits {P} goes end there to p q source ends of_p (turn ∷ turns) all away has none = go (p turn.message) refl (waits goes end there to p q source ends of_p turns all.1)
  where
    split : count goes (takes (there turn)) + count goes (takes (flat_map there turns)) ≡ 0
    split = omega (arith, away, ap (count goes) (takes-append (there turn) (flat_map there turns)), count-append goes (takes (there turn)) (takes (flat_map there turns)))

    go : (b : Bool) → p turn.message ≡ b
        → (count goes (takes (flat_map there turns)) ≡ 0 → list_any p (map (λ turn. turn.message) turns) ≡ true → before source p (map (λ turn. turn.message) turns) ≡ false → Waits p q (flat_map end turns))
        → Waits p q (flat_map end (turn ∷ turns))
    go true e deeper =
        let here = ends turn in
        record {
          front = here.take;
          back = here.rest ++ flat_map end turns;
          is = ap (λ j. j ++ flat_map end turns) here.is ∙ append_assoc here.take here.rest (flat_map end turns);
          took = rw (here.taken (of_p turn.message e) (omega (arith, split))) (grind (arith, e));
          none = rw here.no_puts refl;
        }
    go false e deeper =
        let source_none : source turn.message ≡ false = grind (arith, none, e) in
        let tail : before source p (map (λ (turn : Turn P). turn.message) turns) ≡ false = grind (arith, none, e) in
        let later : list_any p (map (λ (turn : Turn P). turn.message) turns) ≡ true = grind (arith, has, e) in
        waits_behind p q (end turn) (flat_map end turns) (omega (arith, ap (count q) (ends turn).all_puts, all.0 source_none)) (deeper (omega (arith, split)) later tail)

puts_from : {P : Type 0} (side : Side) (place n : ℕ) (q source : Msg P → Bool)
    → ((m : Msg P) → source m ≡ false → count q (sends_on side place n m) ≡ 0)
    → (turns : List (Turn P)) → AllByRecursion (PutsOnly place n) turns
    → AllByRecursion (λ turn. source turn.message ≡ false → count q (puts_on side turn) ≡ 0) turns
puts_from side place n q source from [] all = tt
puts_from side place n q source from (turn ∷ turns) all =
    (λ e. omega (arith, count-prefix q (puts_only side all.0), from turn.message e), puts_from side place n q source from turns all.1)

module _ {P : Type 0} (run : Run P) (is : IsRun run) where
  -- core k handled p, which goes left, and no source of q before it; so it took p before it put q
  pub waits_right : (k : ℕ) (low : k < run.cores) (p q source : Msg P → Bool) → ((m : Msg P) → p m ≡ true → goes_left m ≡ true) → ((m : Msg P) → source m ≡ false → count q (sends k run.cores m).right ≡ 0)
      → list_any p (handled (is.turns k)) ≡ true → before source p (handled (is.turns k)) ≡ false → Waits p q (run.link (k + 1)).left
  waits_right k low p q source of_p from has none =
      subst (λ j. Waits p q j) (sym (is.steps k low).right)
      (waits goes_left at_right at_left (λ turn. turn.to_right) p q source (end_at Right goes_left (λ turn. turn.to_right) (λ turn. turn.to_left)) of_p (all_of (is.turns k))
      (puts_from Left k run.cores q source from (all_of (is.turns k)) (all_put (is.steps k low))) (none_taken run is Right k low) has none)

  pub waits_left : (k : ℕ) (low : k < run.cores) (p q source : Msg P → Bool) → ((m : Msg P) → p m ≡ true → goes_right m ≡ true) → ((m : Msg P) → source m ≡ false → count q (sends k run.cores m).left ≡ 0)
      → list_any p (handled (is.turns k)) ≡ true → before source p (handled (is.turns k)) ≡ false → Waits p q (run.link k).right
  waits_left k low p q source of_p from has none =
      subst (λ j. Waits p q j) (sym (is.steps k low).left)
      (waits goes_right at_left at_right (λ turn. turn.to_left) p q source (end_at Left goes_right (λ turn. turn.to_left) (λ turn. turn.to_right)) of_p (all_of (is.turns k))
      (puts_from Right k run.cores q source from (all_of (is.turns k)) (all_put (is.steps k low))) (none_taken run is Left k low) has none)

  pub never_opposed : (k : ℕ) → k ≤ run.cores → (p q : Msg P → Bool) → Waits p q (run.link k).left → Waits q p (run.link k).right → ⊥
  never_opposed k within p q here there =
      never_both (run.link k) (is.links k within) p q here.front here.back there.front there.back here.is there.is here.took here.none there.took there.none
