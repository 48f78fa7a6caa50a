-- What each link carries: the messages that its journals show as put and not yet taken, in their order.
use Rattle.std.proofs.Common.{◌≡◌, ℕ, zero, suc, ◌+◌, ◌<◌, ◌≤◌, ◌⊎◌, inl, inr, ◌==◌, Bool, true, false, cond, List, [], ◌∷◌, ◌++◌, length, replicate, Some, refl, ap, sym, ◌∙◌, subst, arith, append-nil, append_assoc, length-append}
use Rattle.std.proofs.lemmas.List.{get_or-replicate}
use Rattle.hj_base.specs.declared.numbers.Side.{Side}
use Rattle.hj_base.specs.declared.numbers.Side.TheVariants.{Left, Right}
use Rattle.hj_base.specs.Journals.{Entry, puts, takes}
use Rattle.hj_base.specs.Link.{TookBeforePut}
use Rattle.hj_msg.specs.declared.event.Event.{Event}
use Rattle.hj_msg.specs.declared.feed.Given.{Given}
use Rattle.hj_msg.specs.declared.message.Msg.{Msg}
use Rattle.hj_msg.specs.declared.message.Msg.TheVariants.{CloseL, CloseR}
use Rattle.hj_msg.specs.Core.{sends}
use Rattle.hj_msg.specs.Driver.{receipt, message_of, port_of}
use Rattle.hj_chain.specs.declared.actor.Actor.{Actor}
use Rattle.hj_chain.specs.Queues.{Queues, no_messages}
use Rattle.hj_chain.specs.Links.{link_at, put_in, take_in}
use Rattle.hj_chain.specs.Chain.{FeedAnswer, ChainState, Action, drives, handles, after_action, empty_chain, capacity}
use Rattle.hj_chain.specs.Reached.{Reached, StepHistory, no_history, recorded, history_of, left_end, right_end}
use Rattle.hj_msg.specs.Feed.{event_in}
use Rattle.hj_chain.proofs.Doing.{Doing, inquires, admits, shuts, receives, works, gathers, taken_by}
use Rattle.hj_chain.proofs.Shape.{Shape, links-length}
use Rattle.hj_chain.proofs.Induction.{by_steps}
use Rattle.hj_chain.proofs.Ways.{when, when-nil, rights-put_in, lefts-put_in, rights-take_out, lefts-take_out, rights-take_in, lefts-take_in, rights-send_out, lefts-send_out, length-take_in, length-put_in}
use Rattle.hj_chain.proofs.Journals.{puts-append, takes-append, entries, puts-entries, takes-entries, left_took, left_sent, right_took, right_sent, left_end-more, right_end-more}

-- A queue before and after: the first messages were taken, and then others put behind.
pub record Moves {M : Type 0} (took sent before after : List M) : Type 0 where
  pub rest : List M
  pub is_before : before ≡ took ++ rest
  pub is_after : after ≡ rest ++ sent

-- Of each direction, what was put is what was taken and then what is under way; and no two messages, one from each end, were
-- each taken before the other one was put.
pub record Carries {M : Type 0} (left right : List (Entry M)) (rights lefts : List M) : Type 0 where
  pub rightwards : puts left ≡ takes right ++ rights
  pub leftwards : puts right ≡ takes left ++ lefts
  pub in_time : (p q : ℕ) → TookBeforePut left q p → TookBeforePut right p q → ⊥

-- where a list that goes on is cut: in its first part, or behind it
pub cut : {X : Type 0} (before after first more : List X) → before ++ after ≡ first ++ more → ((rest : List X) × (first ≡ before ++ rest)) ⊎ ((rest : List X) × (before ≡ first ++ rest))
cut [] after first more is = inl (first, refl)
cut (x ∷ before) after [] more is = inr (x ∷ before, refl)
cut {X} (x ∷ before) after (y ∷ first) more is =
    let head : x ≡ y = cc in
    let tails : before ++ after ≡ first ++ more = cc in
    elim (cut before after first more tails) [
      | inl w ↦ inl (w.0, ap (λ (z : X). z ∷ first) (sym head) ∙ ap (λ (zs : List X). x ∷ zs) w.1)
      | inr w ↦ inr (w.0, ap (λ (z : X). z ∷ before) head ∙ ap (λ (zs : List X). y ∷ zs) w.1)
    ]

-- what is appended to a journal, behind all that the other end took, makes no two such messages
still_in_time : {M : Type 0} (one more other : List (Entry M)) → length (takes other) ≤ length (puts one) → ((p q : ℕ) → TookBeforePut one q p → TookBeforePut other p q → ⊥)
    → (p q : ℕ) → TookBeforePut (one ++ more) q p → TookBeforePut other p q → ⊥
still_in_time one more other within old p q before behind =
    let took_before : length (takes behind.before) ≤ length (takes other) = omega (arith, ap (λ j. length (takes j)) behind.moment, ap length (takes-append behind.before behind.after), length-append (takes behind.before) (takes behind.after)) in
    elim (cut before.before before.after one more (sym before.moment)) [
      | inl w ↦ old p q (record { before = before.before; after = w.0; moment = w.1; took = before.took; yet_to_put = before.yet_to_put; put = omega (arith, took_before, within, behind.took) }) behind
      | inr w ↦ absurd (omega (arith, ap (λ j. length (puts j)) w.1, ap length (puts-append one w.0), length-append (puts one) (puts w.0), before.yet_to_put, behind.took, took_before, within))
    ]

module _ {M : Type 0} (number : ℕ) (l r l' r' : List (Entry M)) (rights lefts rights' lefts' lt ls rt rs : List M) where
  pub carries-more : Carries l r rights lefts → l' ≡ l ++ entries number lt ls → r' ≡ r ++ entries number rt rs → Moves rt ls rights rights' → Moves lt rs lefts lefts' → Carries l' r' rights' lefts'
  carries-more old left right going_right going_left =
      let puts_l : puts l' ≡ puts l ++ ls = ap puts left ∙ puts-append l (entries number lt ls) ∙ ap (λ ms. puts l ++ ms) (puts-entries number lt ls) in
      let takes_l : takes l' ≡ takes l ++ lt = ap takes left ∙ takes-append l (entries number lt ls) ∙ ap (λ ms. takes l ++ ms) (takes-entries number lt ls) in
      let puts_r : puts r' ≡ puts r ++ rs = ap puts right ∙ puts-append r (entries number rt rs) ∙ ap (λ ms. puts r ++ ms) (puts-entries number rt rs) in
      let takes_r : takes r' ≡ takes r ++ rt = ap takes right ∙ takes-append r (entries number rt rs) ∙ ap (λ ms. takes r ++ ms) (takes-entries number rt rs) in
      let few_r : length (takes r) ≤ length (puts l) = omega (arith, ap length old.rightwards, length-append (takes r) rights) in
      let few_l : length (takes l') ≤ length (puts r) = omega (arith, ap length takes_l, length-append (takes l) lt, ap length old.leftwards, length-append (takes l) lefts, ap length going_left.is_before, length-append lt going_left.rest) in
      let first : (p q : ℕ) → TookBeforePut l' q p → TookBeforePut r p q → ⊥ =
      subst (λ (j : List (Entry M)). (p q : ℕ) → TookBeforePut j q p → TookBeforePut r p q → ⊥) (sym left) (still_in_time l (entries number lt ls) r few_r old.in_time) in
      let both : (q p : ℕ) → TookBeforePut r' p q → TookBeforePut l' q p → ⊥ =
      subst (λ (j : List (Entry M)). (q p : ℕ) → TookBeforePut j p q → TookBeforePut l' q p → ⊥) (sym right) (still_in_time r (entries number rt rs) l' few_l (λ q p x y. first p q y x)) in
      record {
        rightwards =
            puts_l ∙ ap (λ ms. ms ++ ls) (old.rightwards ∙ ap (λ ms. takes r ++ ms) going_right.is_before ∙ sym (append_assoc (takes r) rt going_right.rest)) ∙ append_assoc (takes r ++ rt) going_right.rest ls
            ∙ ap (λ ms. (takes r ++ rt) ++ ms) (sym going_right.is_after) ∙ ap (λ ms. ms ++ rights') (sym takes_r);
        leftwards =
            puts_r ∙ ap (λ ms. ms ++ rs) (old.leftwards ∙ ap (λ ms. takes l ++ ms) going_left.is_before ∙ sym (append_assoc (takes l) lt going_left.rest)) ∙ append_assoc (takes l ++ lt) going_left.rest rs
            ∙ ap (λ ms. (takes l ++ lt) ++ ms) (sym going_left.is_after) ∙ ap (λ ms. ms ++ lefts') (sym takes_l);
        in_time = λ p q x y. both q p y x;
      }

abbrev pub rights : {P : Type 0} → ChainState P → ℕ → List (Msg P)
rights chain k = (link_at chain.links k).rightwards

abbrev pub lefts : {P : Type 0} → ChainState P → ℕ → List (Msg P)
lefts chain k = (link_at chain.links k).leftwards

-- What an action does to the queues of link k.
module _ {P : Type 0} (matches : P → P → Bool) (chain : ChainState P) (k : ℕ) (low : k < length chain.links) (answer : FeedAnswer P) where
  abbrev n : ℕ
  n = length chain.cores

  pub moves-right : (action : Action P) → Doing chain action → Moves (right_took n action k) (left_sent n action k) (rights chain k) (rights (after_action matches chain (Some action) answer) k)
  moves-right action (inquires is) = record { rest = rights chain k; is_before = refl; is_after = sym (append-nil _) }
  moves-right action (admits event is free) = record {
    rest = rights chain k;
    is_before = ap (λ ms. ms ++ rights chain k) (sym (when-nil (k == n)));
    is_after = rights-put_in chain.links k low (port_of event) n (message_of event);
  }
  moves-right action (shuts is free) =
      let still : k < length (put_in Left n CloseL chain.links) = omega (arith, length-put_in Left n (let m : Msg P = CloseL in m) chain.links) in
      record {
        rest = rights chain k;
        is_before = ap (λ ms. ms ++ rights chain k) (sym (when-nil (k == n)));
        is_after = rights-put_in (put_in Left n CloseL chain.links) k still Right n CloseR ∙ ap (λ ms. rights (record chain { links = put_in Left n CloseL chain.links }) k ++ ms) (when-nil (k == 0)) ∙ append-nil _ ∙ rights-put_in chain.links k low Left n CloseL;
      }
  moves-right action (receives port message rest is) = record {
    rest = rights (after_action matches chain (Some (drives (receipt port message))) answer) k;
    is_before = rights-take_out chain.links k low port n message rest is;
    is_after = sym (append-nil _) ∙ ap (λ ms. rights (after_action matches chain (Some (drives (receipt port message))) answer) k ++ ms) (sym (when-nil (k == 0)));
  }
  moves-right action (works place end message rest here is room) =
      let still : k < length (take_in end place chain.links) = omega (arith, length-take_in end place chain.links) in
      record {
        rest = rights (record chain { links = take_in end place chain.links }) k;
        is_before = rights-take_in chain.links k low end place message rest is;
        is_after = rights-send_out (take_in end place chain.links) k still place (sends place n message).left (sends place n message).right;
      }
  moves-right action (gathers place report rest here is) = record { rest = rights chain k; is_before = refl; is_after = sym (append-nil _) }

  pub moves-left : (action : Action P) → Doing chain action → Moves (left_took action k) (right_sent n action k) (lefts chain k) (lefts (after_action matches chain (Some action) answer) k)
  moves-left action (inquires is) = record { rest = lefts chain k; is_before = refl; is_after = sym (append-nil _) }
  moves-left action (admits event is free) = record {
    rest = lefts chain k;
    is_before = ap (λ ms. ms ++ lefts chain k) (sym (when-nil (k == 0)));
    is_after = lefts-put_in chain.links k low (port_of event) n (message_of event);
  }
  moves-left action (shuts is free) =
      let still : k < length (put_in Left n CloseL chain.links) = omega (arith, length-put_in Left n (let m : Msg P = CloseL in m) chain.links) in
      record {
        rest = lefts chain k;
        is_before = ap (λ ms. ms ++ lefts chain k) (sym (when-nil (k == 0)));
        is_after = lefts-put_in (put_in Left n CloseL chain.links) k still Right n CloseR ∙ ap (λ ms. ms ++ when (k == n) (CloseR ∷ [])) (lefts-put_in chain.links k low Left n CloseL ∙ ap (λ ms. lefts chain k ++ ms) (when-nil (k == n)) ∙ append-nil _);
      }
  moves-left action (receives port message rest is) = record {
    rest = lefts (after_action matches chain (Some (drives (receipt port message))) answer) k;
    is_before = lefts-take_out chain.links k low port n message rest is;
    is_after = sym (append-nil _) ∙ ap (λ ms. lefts (after_action matches chain (Some (drives (receipt port message))) answer) k ++ ms) (sym (when-nil (k == n)));
  }
  moves-left action (works place end message rest here is room) =
      let still : k < length (take_in end place chain.links) = omega (arith, length-take_in end place chain.links) in
      record {
        rest = lefts (record chain { links = take_in end place chain.links }) k;
        is_before = lefts-take_in chain.links k low end place message rest is;
        is_after = lefts-send_out (take_in end place chain.links) k still place (sends place n message).left (sends place n message).right;
      }
  moves-left action (gathers place report rest here is) = record { rest = lefts chain k; is_before = refl; is_after = sym (append-nil _) }

-- nothing was put yet
carries-nothing : {M : Type 0} (l r : List (Entry M)) (going_right going_left : List M) → l ≡ [] → r ≡ [] → going_right ≡ [] → going_left ≡ [] → Carries l r going_right going_left
carries-nothing l r going_right going_left left right no_rights no_lefts = record {
  rightwards = ap puts left ∙ sym no_rights ∙ ap (λ j. takes j ++ going_right) (sym right);
  leftwards = ap puts right ∙ sym no_lefts ∙ ap (λ j. takes j ++ going_left) (sym left);
  in_time = λ p q before behind. absurd (omega (arith, before.put, ap (λ j. length (puts j)) left));
}

pub left_end-nothing : (P : Type 0) (k : ℕ) → left_end {P = P} no_history k ≡ []
left_end-nothing P zero = refl
left_end-nothing P (suc k) = refl

pub neither : {X : Type 0} (b : Bool) → cond {A = List X} b [] [] ≡ []
neither true = refl
neither false = refl

-- the place of a core that handles a message
pub in_chain : {P : Type 0} (chain : ChainState P) (action : Action P) → Doing chain action → (place : ℕ) (end : Side) (message : Msg P) → action ≡ handles place end message → place < length chain.cores
in_chain chain action (admits event is free) place end message same = absurd (cc)
in_chain chain action (inquires is) place end message same = absurd (cc)
in_chain chain action (shuts is free) place end message same = absurd (cc)
in_chain chain action (receives port other rest is) place end message same = absurd (cc)
in_chain chain action (works here side other rest low is room) place end message same = let e : here ≡ place = cc in omega (arith, low, e)
in_chain chain action (gathers here report rest low is) place end message same = absurd (cc)

module _ {P : Type 0} (matches : P → P → Bool) (n most : ℕ) where
  abbrev Carried : ℕ → List (Event P) → ChainState P → StepHistory P → Type 0
  Carried number events chain history = (k : ℕ) → k ≤ n → Carries (left_end history k) (right_end n history k) (rights chain k) (lefts chain k)

  nothing_yet : (first : Given P) → Carried 0 (event_in (Some first)) (empty_chain n most first) no_history
  nothing_yet first k within =
      let empty : link_at (replicate (n + 1) (no_messages (capacity most))) k ≡ no_messages {M = Msg P} (capacity most) = get_or-replicate (n + 1) k (no_messages (capacity most)) (no_messages 0) (omega arith) in
      carries-nothing _ _ _ _ (left_end-nothing P k) (neither (k == n)) (ap (λ (q : Queues (Msg P)). q.rightwards) empty) (ap (λ (q : Queues (Msg P)). q.leftwards) empty)

  carried-step : (number : ℕ) (events : List (Event P)) (chain : ChainState P) (history : StepHistory P) (action : Action P) (answer : FeedAnswer P)
      → Shape n most chain → Doing chain action → Carried number events chain history
      → Carried (suc number) (events ++ taken_by action answer) (after_action matches chain (Some action) answer) (recorded matches chain number (Some action) history)
  carried-step number events chain history action answer shape doing old k within =
      let c = length chain.cores in
      let low : k < length chain.links = omega (arith, links-length n most chain shape) in
      let same : Carries (left_end history k) (right_end c history k) (rights chain k) (lefts chain k) = subst (λ (m : ℕ). Carries (left_end history k) (right_end m history k) (rights chain k) (lefts chain k)) (sym shape.cores) (old k within) in
      let new : Carries (left_end (recorded matches chain number (Some action) history) k) (right_end c (recorded matches chain number (Some action) history) k) (rights (after_action matches chain (Some action) answer) k) (lefts (after_action matches chain (Some action) answer) k) =
      carries-more number (left_end history k) (right_end c history k) _ _ (rights chain k) (lefts chain k) _ _ (left_took action k) (left_sent c action k) (right_took c action k) (right_sent c action k) same
      (left_end-more matches chain number history action k) (right_end-more matches chain number history action (in_chain chain action doing) k) (moves-right matches chain k low answer action doing) (moves-left matches chain k low answer action doing) in
      subst (λ (m : ℕ). Carries (left_end (recorded matches chain number (Some action) history) k) (right_end m (recorded matches chain number (Some action) history) k) (rights (after_action matches chain (Some action) answer) k) (lefts (after_action matches chain (Some action) answer) k)) shape.cores new

  pub carried : {schedule : List Actor} {events : List (Event P)} {chain : ChainState P} (reached : Reached matches n most schedule events chain)
      → (k : ℕ) → k ≤ n → Carries (left_end (history_of reached) k) (right_end n (history_of reached) k) (rights chain k) (lefts chain k)
  carried reached = by_steps matches n most Carried nothing_yet carried-step reached
