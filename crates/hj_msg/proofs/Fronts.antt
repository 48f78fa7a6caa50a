-- What a core handled in front of a report.
use Rattle.std.proofs.Common.{◌≡◌, ℕ, Bool, true, false, cond, not, ◌||◌, ◌&&◌, List, [], ◌∷◌, ◌++◌, map, fold, Some, None, Option, refl, ap, sym, ◌∙◌, arith, append_assoc, inl, inr, true≢false}
use Rattle.std.specs.List.{list_any, flat_map}
use Rattle.std.specs.Option.{IfSome, option_to_list}
use Rattle.std.proofs.lemmas.List.{map-append}
use Rattle.std.proofs.lemmas.List.Concat.{flat_map-append}
use Rattle.hj_base.specs.declared.numbers.Side.{Side}
use Rattle.hj_base.specs.declared.numbers.Side.TheVariants.{Left, Right}
use Rattle.hj_base.specs.Journals.{Entry, puts}
use Rattle.hj_msg.specs.declared.message.Msg.{Msg}
use Rattle.hj_msg.specs.declared.message.Msg.TheVariants.{CloseL, CloseR}
use Rattle.hj_msg.specs.declared.message.Report.{Report}
use Rattle.hj_msg.specs.declared.message.Report.TheVariants.{Ended, NoMemory}
use Rattle.hj_msg.specs.Punctuation.{is_end}
use Rattle.hj_msg.specs.Core.{State, empty_state, after, report}
use Rattle.hj_msg.specs.Turns.{Turn, Turns, IsCut, AreWhole, TakesTurns, all_of, handled}
use Rattle.hj_msg.proofs.Orders.{before, any-append, before-done, before-open}
use Rattle.hj_msg.proofs.Reports.{puts-reports}
use Rattle.hj_msg.proofs.Sides.{is_close}

-- what comes before a message stands in front of it, and in front of each place behind it
pub front_of : {X : Type 0} (p q : X → Bool) (front back : List X) (x : X) → (q x || list_any q front) ≡ true → before p q (front ++ x ∷ back) ≡ true → list_any p front ≡ true
front_of {X} p q [] back x some h = nothing (q x) some h
  where
    nothing : (b : Bool) → (b || false) ≡ true → cond b false (p x || before p q back) ≡ true → false ≡ true
    nothing true some h = h
    nothing false some h = some
front_of p q (y ∷ front) back x some h = grind (arith, some, h, front_of p q front back x)

-- The first report that passes a test, with what was handled in front of it: what stands there was reported before it.
pub record FirstTold {P : Type 0} (matches : P → P → Bool) (place n : ℕ) (state : State P) (p q : Report P → Bool) (p' : Msg P → Bool) (messages : List (Msg P)) (reports : List (Report P)) : Type 0 where
  pub front : List (Msg P)
  pub message : Msg P
  pub back : List (Msg P)
  pub is : messages ≡ front ++ message ∷ back
  pub passes : list_any q (option_to_list (report matches (fold (after place n) state front) message)) ≡ true
  pub order : list_any p' front ≡ true → before p q reports ≡ true

first_told : {P : Type 0} (matches : P → P → Bool) (place n : ℕ) (state : State P) (p q : Report P → Bool) (p' : Msg P → Bool) → ((state : State P) (m : Msg P) → list_any p (option_to_list (report matches state m)) ≡ p' m)
    → (turns : List (Turn P)) → AreWhole matches place n state turns → list_any q (flat_map (λ turn. turn.reports) turns) ≡ true
    → FirstTold matches place n state p q p' (map (λ turn. turn.message) turns) (flat_map (λ turn. turn.reports) turns)
first_told matches place n state p q p' lifts [] whole h = absurd (true≢false (sym h))
first_told {P} matches place n state p q p' lifts (turn ∷ turns) whole h = go (list_any q turn.reports) refl (first_told matches place n (after place n state turn.message) p q p' lifts turns whole.1)
  where
    rest : List (Report P)
    rest = flat_map (λ turn. turn.reports) turns

    go : (b : Bool) → list_any q turn.reports ≡ b → (list_any q (flat_map (λ (turn : Turn P). turn.reports) turns) ≡ true → FirstTold matches place n (after place n state turn.message) p q p' (map (λ turn. turn.message) turns) (flat_map (λ turn. turn.reports) turns))
        → FirstTold matches place n state p q p' (turn.message ∷ map (λ turn. turn.message) turns) (turn.reports ++ flat_map (λ turn. turn.reports) turns)
    go true e deeper = record {
      front = [];
      message = turn.message;
      back = map (λ turn. turn.message) turns;
      is = refl;
      passes = sym (ap (list_any q) whole.0.reports) ∙ e;
      order = λ none. absurd (true≢false (sym none));
    }
    go false e deeper =
        let later : list_any q rest ≡ true = grind (arith, h, e, any-append q turn.reports rest) in
        let found = deeper later in
        let here : list_any p turn.reports ≡ p' turn.message = ap (list_any p) whole.0.reports ∙ lifts state turn.message in
        record {
          front = turn.message ∷ found.front;
          message = found.message;
          back = found.back;
          is = ap (λ ms. turn.message ∷ ms) found.is;
          passes = found.passes;
          order = λ some. before-open p q turn.reports rest e ∙ grind (arith, here, some, found.order);
        }

-- the same of all that a core reported
pub first_of : {P : Type 0} {matches : P → P → Bool} {place n : ℕ} {turns : Turns P} {left right : List (Entry (Msg P))} {reports : List (Entry (Report P))}
    → TakesTurns matches place n turns left right reports → (p q : Report P → Bool) (p' : Msg P → Bool) → ((state : State P) (m : Msg P) → list_any p (option_to_list (report matches state m)) ≡ p' m)
    → q NoMemory ≡ false → list_any q (puts reports) ≡ true → FirstTold matches place n empty_state p q p' (handled turns) (puts reports)
first_of {P} {matches = matches} {place = place} {n = n} {turns = turns} {reports = reports} core p q p' lifts no_memory h =
    let found = first_told matches place n empty_state p q p' lifts turns.whole core.whole whole_has in
    record {
      front = found.front;
      message = found.message;
      back = found.back ++ map (λ turn. turn.message) (option_to_list turns.cut);
      is = map-append (λ turn. turn.message) turns.whole (option_to_list turns.cut) ∙ ap (λ ms. ms ++ map (λ turn. turn.message) (option_to_list turns.cut)) found.is
          ∙ append_assoc found.front (found.message ∷ found.back) (map (λ turn. turn.message) (option_to_list turns.cut));
      passes = found.passes;
      order = λ some. ap (before p q) parts ∙ before-done p q (flat_map (λ turn. turn.reports) turns.whole) (flat_map (λ turn. turn.reports) (option_to_list turns.cut)) whole_has ∙ found.order some;
    }
  where
    parts : puts reports ≡ flat_map (λ turn. turn.reports) turns.whole ++ flat_map (λ turn. turn.reports) (option_to_list turns.cut)
    parts = ap puts core.reports ∙ puts-reports (all_of turns) ∙ flat_map-append (λ turn. turn.reports) turns.whole (option_to_list turns.cut)

    no_cut : (cut : Option (Turn P)) → IfSome cut (IsCut place n) → list_any q (flat_map (λ (turn : Turn P). turn.reports) (option_to_list cut)) ≡ false
    no_cut None is = refl
    no_cut (Some turn) is = elim is.reports [
      | inl e ↦ any-append q turn.reports [] ∙ ap (λ rs. list_any q rs || false) e
      | inr e ↦ any-append q turn.reports [] ∙ ap (λ rs. list_any q rs || false) e ∙ (rw no_memory refl)
    ]

    whole_has : list_any q (flat_map (λ (turn : Turn P). turn.reports) turns.whole) ≡ true
    whole_has = grind (arith, sym (ap (list_any q) parts) ∙ h, no_cut turns.cut core.cut, any-append q (flat_map (λ (turn : Turn P). turn.reports) turns.whole) (flat_map (λ (turn : Turn P). turn.reports) (option_to_list turns.cut)))

or_next : (a b c d : Bool) → d ≡ (a || b) → (d || c) ≡ (a || (b || c))
or_next true b c d e = rw e refl
or_next false b c d e = rw e refl

or_false : (a : Bool) → a ≡ (a || false)
or_false true = refl
or_false false = refl

or_true : (a : Bool) → true ≡ (a || true)
or_true true = refl
or_true false = refl

-- which closes a core handled
abbrev pub closed : {P : Type 0} → Side → State P → Bool
closed Left state = state.closed_left
closed Right state = state.closed_right

closed_step : {P : Type 0} (side : Side) (place n : ℕ) (state : State P) (m : Msg P) → closed side (after place n state m) ≡ (closed side state || is_close side m)
closed_step Left place n state CloseL = or_true state.closed_left
closed_step Left place n state other = or_false state.closed_left
closed_step Right place n state CloseR = or_true state.closed_right
closed_step Right place n state other = or_false state.closed_right

pub closed_by : {P : Type 0} (side : Side) (place n : ℕ) (state : State P) (front : List (Msg P)) → closed side (fold (after place n) state front) ≡ (closed side state || list_any (is_close side) front)
closed_by side place n state [] = or_false (closed side state)
closed_by side place n state (m ∷ front) =
    closed_by side place n (after place n state m) front ∙ or_next (closed side state) (is_close side m) (list_any (is_close side) front) (closed side (after place n state m)) (closed_step side place n state m)

pub none_closed : (P : Type 0) (side : Side) → closed side (empty_state {P = P}) ≡ false
none_closed P Left = refl
none_closed P Right = refl

-- at its end a core has handled both closes
abbrev ended : (P : Type 0) → Option (Report P)
ended P = Some Ended

both_closed : (P : Type 0) (b c : Bool) → list_any is_end (option_to_list (cond (not b && c) (ended P) None)) ≡ true → c ≡ true
both_closed P true c h = absurd (true≢false (sym h))
both_closed P false true h = refl
both_closed P false false h = absurd (true≢false (sym h))

pub ends_closed : {P : Type 0} (matches : P → P → Bool) (state : State P) (m : Msg P) → list_any is_end (option_to_list (report matches state m)) ≡ true → (side : Side) → (is_close side m || closed side state) ≡ true
ends_closed matches state CloseL h Left = refl
ends_closed {P} matches state CloseL h Right = both_closed P state.closed_left state.closed_right h
ends_closed {P} matches state CloseR h Left = both_closed P state.closed_right state.closed_left h
ends_closed matches state CloseR h Right = refl
ends_closed matches state other h side = absurd (true≢false (sym h))
