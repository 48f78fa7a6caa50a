-- What the seats of a table know, at a step of either end, and where a seat is cut or two are joined.
use Rattle.std.proofs.Common.{◌≡◌, ℕ, Bool, true, false, not, suc, zero, ◌+◌, ◌<◌, List, [], ◌∷◌, ◌++◌, All, length, set, get_or, sym, refl, ◌∙◌, subst, ⊎_elim, length-set, true≢false}
use mathlib.Core.Option.{some, some-injective, some-ne-none}
use lib.ListN.{get_elem?}
use Rattle.std.proofs.lemmas.List.{length-map}
use Rattle.atomic_table.specs.Table.{State, Splits, Joins, opening}
use Rattle.atomic_table.proofs.Lists.{at_set}
use Rattle.hj_link.specs.declared.table.MessageSlot.{MessageSlot}
use Rattle.hj_link.specs.declared.table.Capacities.{Capacities}
use Rattle.hj_link.specs.declared.table.EndState.{EndState}
use Rattle.hj_link.specs.declared.table.SeatView.{SeatView}
use Rattle.hj_link.specs.Words.{words_of, capacity_of, base_of}
use Rattle.hj_link.specs.Flow.{IsEmpty}
use Rattle.hj_link.specs.Rule.{Rule, Knows, Opposed, opened, new_end}
use Rattle.hj_link.specs.Steps.{has_end, end_of, with_end, left_alone, right_alone, both_ends, neither}
use Rattle.hj_link.proofs.Flows.{Row, at_end}
use Rattle.hj_link.proofs.Opposites.{swapped, both_start}

only : {A : Type 0} (a b : A) (j : ℕ) → get_elem? (a ∷ []) j ≡ some b → (j ≡ 0) × (a ≡ b)
only a b zero e = (refl, some-injective a b e)
only a b (suc j) e = absurd (some-ne-none b (sym e))

module _ {M : Type 0} where
  abbrev pub other_of : {c : Capacities} {s : State (MessageSlot M) (SeatView M)} → Bool → Rule c s → EndState M
  other_of true r = r.right
  other_of false r = r.left

  -- both directions, told from the end of a side, over any words
  abbrev pub From : Bool → Capacities → List ℕ → Row M → EndState M → EndState M → Type 0
  From side c ws hs one two = Opposed (capacity_of side c) (base_of side c) (capacity_of (not side) c) (base_of (not side) c)
      (get_or ws (words_of side).puts 0) (get_or ws (words_of side).other_takes 0) (get_or ws (words_of side).other_puts 0) (get_or ws (words_of side).takes 0) hs one two

  left_knows : (c : Capacities) (s : State (MessageSlot M) (SeatView M)) (r : Rule c s) (v : SeatView M) → v.left ≡ r.left → v.capacities ≡ c → From true v.capacities s.words s.homes v.left r.right
  left_knows c s r v is same = subst (λ (z : Capacities). From true z s.words s.homes v.left r.right) (sym same) (subst (λ (e : EndState M). From true c s.words s.homes e r.right) (sym is) r.flows)

  right_knows : (c : Capacities) (s : State (MessageSlot M) (SeatView M)) (r : Rule c s) (v : SeatView M) → v.right ≡ r.right → v.capacities ≡ c → From false v.capacities s.words s.homes v.right r.left
  right_knows c s r v is same = subst (λ (z : Capacities). From false z s.words s.homes v.right r.left) (sym same) (subst (λ (e : EndState M). From false c s.words s.homes e r.left) (sym is) (swapped _ _ _ _ _ _ _ _ _ _ _ r.flows))

  -- both directions as the seat of the end of a side knows them
  pub side_knows : (side : Bool) (c : Capacities) (s : State (MessageSlot M) (SeatView M)) (r : Rule c s) (id : ℕ) (v : SeatView M) → get_elem? s.views id ≡ some v → has_end side v ≡ true → From side v.capacities s.words s.homes (end_of side v) (other_of side r)
  side_knows true c s r id v at has = let mine = (r.each_seat id v at).of_left has in left_knows c s r v mine.1 mine.2
  side_knows false c s r id v at has = let mine = (r.each_seat id v at).of_right has in right_knows c s r v mine.1 mine.2

  left_goes : (c : Capacities) (s : State (MessageSlot M) (SeatView M)) (r : Rule c s) (id : ℕ) (v : SeatView M) → get_elem? s.views id ≡ some v → v.has_left ≡ true → (e : EndState M) (words : List ℕ) (homes : Row M) → length words ≡ 64 → length homes ≡ length s.homes
      → From true v.capacities words homes e r.right → Rule c record { words = words; homes = homes; views = set s.views id (with_end true v e) }
  left_goes c s r id v at has e words homes wide sized flows = let mine = r.each_seat id v at in let own = mine.of_left has in record {
    left_id = r.left_id;
    right_id = r.right_id;
    left = e;
    right = r.right;
    wide = wide;
    sized = sized ∙ r.sized;
    flows = subst (λ (z : Capacities). From true z words homes e r.right) own.2 flows;
    each_seat = (λ j u there. ⊎_elim
        (λ t. subst (λ (z : SeatView M). Knows c r.left_id r.right_id e r.right j z) t.1 (record { of_left = (λ _. (t.0 ∙ own.0, refl, own.2)); of_right = (λ h. let o = mine.of_right h in (t.0 ∙ o.0, o.1, o.2)) }))
        (λ t. let old = r.each_seat j u t.1 in record { of_left = (λ h. absurd (t.0 ((old.of_left h).0 ∙ sym own.0))); of_right = old.of_right })
        (at_set s.views id j (with_end true v e) u there));
  }

  right_goes : (c : Capacities) (s : State (MessageSlot M) (SeatView M)) (r : Rule c s) (id : ℕ) (v : SeatView M) → get_elem? s.views id ≡ some v → v.has_right ≡ true → (e : EndState M) (words : List ℕ) (homes : Row M) → length words ≡ 64 → length homes ≡ length s.homes
      → From false v.capacities words homes e r.left → Rule c record { words = words; homes = homes; views = set s.views id (with_end false v e) }
  right_goes c s r id v at has e words homes wide sized flows = let mine = r.each_seat id v at in let own = mine.of_right has in record {
    left_id = r.left_id;
    right_id = r.right_id;
    left = r.left;
    right = e;
    wide = wide;
    sized = sized ∙ r.sized;
    flows = swapped _ _ _ _ _ _ _ _ _ _ _ (subst (λ (z : Capacities). From false z words homes e r.left) own.2 flows);
    each_seat = (λ j u there. ⊎_elim
        (λ t. subst (λ (z : SeatView M). Knows c r.left_id r.right_id r.left e j z) t.1 (record { of_right = (λ _. (t.0 ∙ own.0, refl, own.2)); of_left = (λ h. let o = mine.of_left h in (t.0 ∙ o.0, o.1, o.2)) }))
        (λ t. let old = r.each_seat j u t.1 in record { of_right = (λ h. absurd (t.0 ((old.of_right h).0 ∙ sym own.0))); of_left = old.of_left })
        (at_set s.views id j (with_end false v e) u there));
  }

  -- a table after a step of the end of a side
  pub side_goes : (side : Bool) (c : Capacities) (s : State (MessageSlot M) (SeatView M)) (r : Rule c s) (id : ℕ) (v : SeatView M) → get_elem? s.views id ≡ some v → has_end side v ≡ true → (e : EndState M) (words : List ℕ) (homes : Row M) → length words ≡ 64 → length homes ≡ length s.homes
      → From side v.capacities words homes e (other_of side r) → Rule c record { words = words; homes = homes; views = set s.views id (with_end side v e) }
  side_goes true c s r id v at has e words homes wide sized o = left_goes c s r id v at has e words homes wide sized o
  side_goes false c s r id v at has e words homes wide sized o = right_goes c s r id v at has e words homes wide sized o

  -- a table of which only the seats change
  reseated : {c : Capacities} {s : State (MessageSlot M) (SeatView M)} (r : Rule c s) (left_id right_id : ℕ) (views : List (SeatView M)) → ((j : ℕ) (u : SeatView M) → get_elem? views j ≡ some u → Knows c left_id right_id r.left r.right j u)
      → Rule c record { words = s.words; homes = s.homes; views = views }
  reseated r left_id right_id views each = record {
    left_id = left_id;
    right_id = right_id;
    left = r.left;
    right = r.right;
    wide = r.wide;
    sized = r.sized;
    flows = r.flows;
    each_seat = each;
  }

  -- the first seat has both ends, and is cut in two
  pub splits : (c : Capacities) (id : ℕ) (v : SeatView M) → v.has_left ≡ true → v.has_right ≡ true → Splits (Rule c) id v (left_alone v) (right_alone v)
  splits c id v hl hr s r at = let mine = r.each_seat id v at in let l = mine.of_left hl in let g = mine.of_right hr in let new : ℕ = length s.views in let m : List (SeatView M) = set s.views id (left_alone v) in
      reseated r id new (m ++ right_alone v ∷ [])
      (λ j u there. ⊎_elim
      (λ old. ⊎_elim
      (λ t. subst (λ (z : SeatView M). Knows c id new r.left r.right j z) t.1 (record { of_left = (λ _. (t.0, l.1, l.2)); of_right = (λ h. absurd (true≢false (sym h))) }))
      (λ t. let o = r.each_seat j u t.1 in record { of_left = (λ h. absurd (t.0 ((o.of_left h).0 ∙ sym l.0))); of_right = (λ h. absurd (t.0 ((o.of_right h).0 ∙ sym g.0))) })
      (at_set s.views id j (left_alone v) u old))
      (λ t. subst (λ (z : SeatView M). Knows c id new r.left r.right j z) t.1 (record { of_right = (λ _. (t.0 ∙ length-set s.views id (left_alone v), g.1, g.2)); of_left = (λ h. absurd (true≢false (sym h))) }))
      (at_end m (right_alone v) u j there))

  -- the seats of the two ends are joined
  pub joins : (c : Capacities) (id : ℕ) (v : SeatView M) (other : ℕ) (w : SeatView M) → v.has_left ≡ true → v.has_right ≡ false → w.has_right ≡ true → w.has_left ≡ false → Joins (Rule c) id v other w (both_ends v w) neither
  joins c id v other w vl vr wr wl s r at ne at' = let there' = ⊎_elim (λ t. absurd (ne t.0)) (λ t. t.1) (at_set s.views id other (both_ends v w) w at') in
      let mine = (r.each_seat id v at).of_left vl in let its = (r.each_seat other w there').of_right wr in
      reseated r id id (set (set s.views id (both_ends v w)) other neither)
      (λ j u there. ⊎_elim
      (λ t. subst (λ (z : SeatView M). Knows c id id r.left r.right j z) t.1 (record { of_left = (λ h. absurd (true≢false (sym h))); of_right = (λ h. absurd (true≢false (sym h))) }))
      (λ t. ⊎_elim
      (λ q. subst (λ (z : SeatView M). Knows c id id r.left r.right j z) q.1 (record { of_left = (λ _. (q.0, mine.1, mine.2)); of_right = (λ _. (q.0, its.1, mine.2)) }))
      (λ q. let o = r.each_seat j u q.1 in record { of_left = (λ h. absurd (q.0 ((o.of_left h).0 ∙ sym mine.0))); of_right = (λ h. absurd (t.0 ((o.of_right h).0 ∙ sym its.0))) })
      (at_set s.views id j (both_ends v w) u t.1))
      (at_set (set s.views id (both_ends v w)) other j neither u there))

  zero_words : {c : Capacities} {hs : Row M} (w x y z : ℕ) → w ≡ 0 → x ≡ 0 → y ≡ 0 → z ≡ 0 → Opposed c.rightwards 0 c.leftwards c.rightwards 0 0 0 0 hs new_end new_end → Opposed c.rightwards 0 c.leftwards c.rightwards w x y z hs new_end new_end
  zero_words {c} {hs} w x y z p q r s o = subst (λ (u : ℕ). Opposed c.rightwards 0 c.leftwards c.rightwards w x y u hs new_end new_end) (sym s)
      (subst (λ (u : ℕ). Opposed c.rightwards 0 c.leftwards c.rightwards w x u 0 hs new_end new_end) (sym r)
      (subst (λ (u : ℕ). Opposed c.rightwards 0 c.leftwards c.rightwards w u 0 0 hs new_end new_end) (sym q)
      (subst (λ (u : ℕ). Opposed c.rightwards 0 c.leftwards c.rightwards u 0 0 0 hs new_end new_end) (sym p) o)))

  -- the table as it is made
  pub starts : (c : Capacities) (ws : List ℕ) (xs : List (MessageSlot M)) → All IsEmpty xs → 0 < c.rightwards → length xs ≡ c.rightwards + c.leftwards → length ws ≡ 64 → get_or ws 0 0 ≡ 0 → get_or ws 16 0 ≡ 0 → get_or ws 32 0 ≡ 0 → get_or ws 48 0 ≡ 0 → Rule c (opening ws xs (opened c))
  starts c ws xs empty pos long wide p q r s = record {
    left_id = 0;
    right_id = 0;
    left = new_end;
    right = new_end;
    wide = wide;
    sized = length-map xs (λ (y : MessageSlot M). some y) ∙ long;
    flows = zero_words {c = c} _ _ _ _ p q r s (both_start c.rightwards c.leftwards xs empty pos long);
    each_seat = (λ j u there. let t = only (opened c) u j there in subst (λ (z : SeatView M). Knows c 0 0 new_end new_end j z) t.1 (record { of_left = (λ _. (t.0, refl, refl)); of_right = (λ _. (t.0, refl, refl)) }));
  }
