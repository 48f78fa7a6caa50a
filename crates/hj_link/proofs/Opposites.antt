-- The steps of one end keep both directions. Those of the other end follow by `swapped`.
use Rattle.std.proofs.Common.{◌≡◌, ◌≢◌, ℕ, Bool, true, false, ◌+◌, ◌%◌, ◌^◌, ◌==◌, ◌<◌, ◌≤◌, suc, zero, List, [], ◌∷◌, ◌++◌, All, length, map, set, sym, refl, ap, ◌∙◌, subst, arith, mod-lt, le_refl, length-append, true≢false}
use Rattle.std.proofs.lemmas.Bool.{eqb-true}
use Rattle.std.proofs.lemmas.List.{length-map}
use Rattle.std.proofs.lemmas.List.Elements.{All-head, All-tail}
use mathlib.Core.Option.{none, some, some-ne-none}
use mathlib.Core.Option as maybe
use lib.ListN.{get_elem?}
use Rattle.hj_base.specs.Journals.{Entry, puts}
use Rattle.hj_base.specs.Link.{TookBeforePut, Flows}
use Rattle.atomic_table.proofs.Lists.{set_else}
use Rattle.hj_link.specs.declared.table.MessageSlot.{MessageSlot}
use Rattle.hj_link.specs.declared.table.MessageSlot.TheVariants.{Empty, Filled}
use Rattle.hj_link.specs.declared.turn_no.TurnNo.{TurnNo}
use Rattle.hj_link.specs.declared.table.EndState.{EndState}
use Rattle.hj_link.specs.Flow.{Flow, IsEmpty}
use Rattle.hj_link.specs.Rule.{Opposed, entry_of, journal_of, sent, got, new_end}
use Rattle.hj_link.specs.Steps.{noted, saw_takes, saw_puts, set_putting, set_fetching, after_put, after_take}
use Rattle.hj_link.proofs.Flows.{Row, with_slot, prefix_length, prefix_trans, prefix_refl, flow_looks_for_room, flow_looks_for_message, flow_reserves, flow_publishes, flow_fetches, flow_publishes_take}
use Rattle.hj_link.proofs.Looking.{looked_for_message, looked_for_room, looks_at, looks_put, looks_start, looks_take}
use Rattle.hj_link.proofs.Journals.{sent_more, got_more, sent_same, got_same, journal_more, in_time_after_put, in_time_after_take}

module _ {M : Type 0} where
  -- a flow does not see the slots of the other direction
  frame : (k base a b : ℕ) (hs : Row M) (sent got known : List M) (kt : ℕ) (x y : Bool) (j : ℕ) (z : maybe.Option (MessageSlot M)) → ((p : ℕ) → base + p % k ≢ j) → Flow k base a b hs sent got known kt x y → Flow k base a b (set hs j z) sent got known kt x y
  frame k base a b hs sent got known kt x y j z ne f = with_slot f j z x y f.free_there f.some_there
      (λ p m le at home. let q = f.full p m le at home in (q.0, set_else hs j (base + p % k) z (ne p) ∙ q.1))
      (λ p le lt home. let q = f.vacant p le lt home in (q.0, set_else hs j (base + p % k) z (ne p) ∙ q.1))

  pub swapped : (k base k' base' a b c d : ℕ) (hs : Row M) (one two : EndState M) → Opposed k base k' base' a b c d hs one two → Opposed k' base' k base c d a b hs two one
  swapped k base k' base' a b c d hs one two o = record { apart = (λ p q e. o.apart q p (sym e)); there = o.back; back = o.there; in_time = (λ p q t u. o.in_time q p u t); looks_there = o.looks_back; looks_back = o.looks_there }

  pub both_look_for_room : (k base k' base' a b c d : ℕ) (hs : Row M) (one two : EndState M) → Opposed k base k' base' a b c d hs one two → Opposed k base k' base' a b c d hs (saw_takes k one (length (got two))) two
  both_look_for_room k base k' base' a b c d hs one two o = record {
    apart = o.apart;
    there = flow_looks_for_room _ _ _ _ _ _ _ _ _ _ _ o.there;
    back = o.back;
    in_time = o.in_time;
    looks_there = looked_for_room k (length (sent one)) (length (got two)) one.full_looks two.empty_looks one.full_at two.empty_at two.fulls_before one.empties_before o.looks_there (length (sent one) == length (got two) + k) (λ e. eqb-true _ _ e);
    looks_back = o.looks_back;
  }

  pub both_look_for_message : (k base k' base' a b c d : ℕ) (hs : Row M) (one two : EndState M) → Opposed k base k' base' a b c d hs one two → Opposed k base k' base' a b c d hs (saw_puts one (sent two)) two
  both_look_for_message k base k' base' a b c d hs one two o = record {
    apart = o.apart;
    there = o.there;
    back = flow_looks_for_message _ _ _ _ _ _ _ _ _ _ _ o.back;
    in_time = o.in_time;
    looks_there = o.looks_there;
    looks_back = looked_for_message k' (length (sent two)) (length (got one)) two.full_looks one.empty_looks two.full_at one.empty_at one.fulls_before two.empties_before o.looks_back (length (sent two) == length (got one)) (λ e. eqb-true _ _ e);
  }

  pub both_reserve : (k base k' base' a b c d : ℕ) (hs : Row M) (one two : EndState M) → Opposed k base k' base' a b c d hs one two → one.putting ≡ false → length (sent one) < one.known_takes + k
      → (t : TurnNo) × (get_elem? hs (base + length (sent one) % k) ≡ some (some (Empty t))) × Opposed k base k' base' a b c d (set hs (base + length (sent one) % k) none) (set_putting one true) two
  both_reserve k base k' base' a b c d hs one two o idle room = let n : ℕ = length (sent one) in
      let f = flow_reserves _ _ _ _ _ _ _ _ _ _ (subst (λ (x : Bool). Flow k base a b hs (sent one) (got two) two.known one.known_takes x two.fetching) idle o.there) room in
      (f.0, f.1, record { apart = o.apart; there = f.2; back = frame k' base' c d hs (sent two) (got one) one.known two.known_takes two.putting one.fetching (base + n % k) none (λ p e. o.apart n p (sym e)) o.back; in_time = o.in_time; looks_there = o.looks_there; looks_back = o.looks_back })

  pub both_put : (k base k' base' a b c d : ℕ) (hs : Row M) (one two : EndState M) (t : TurnNo) (m : M) (new : ℕ) → Opposed k base k' base' a b c d hs one two → one.putting ≡ true → new ≡ (length (sent one) + 1) % 2 ^ 64
      → Opposed k base k' base' new b c d (set hs (base + length (sent one) % k) (some (Filled t m))) (after_put one t.number m two.empty_looks) two
  both_put k base k' base' a b c d hs one two t m new o out is = let n : ℕ = length (sent one) in let i : ℕ = base + n % k in let z : maybe.Option (MessageSlot M) = some (Filled t m) in
      let f = flow_publishes _ _ _ _ _ _ _ _ _ _ t m new (subst (λ (x : Bool). Flow k base a b hs (sent one) (got two) two.known one.known_takes x two.fetching) out o.there) is in
      let more : length (puts (journal_of one ++ entry_of (noted true t.number m) ∷ [])) ≡ n + 1 = ap (λ (l : List (Entry M)). length (puts l)) (sym (journal_more one.journal (noted true t.number m))) ∙ ap length (sent_more one.journal t.number m) ∙ length-append (sent one) (m ∷ []) in
      let g : ℕ = length (got two) in let kn : ℕ = length two.known in let le1 : g ≤ kn = prefix_length _ _ o.there.taken in let le2 : kn ≤ n = prefix_length _ _ o.there.learned in record {
        apart = o.apart;
        there = subst (λ (l : List M). Flow k base new b (set hs i z) l (got two) two.known one.known_takes false two.fetching) (sym (sent_more one.journal t.number m)) f;
        back = subst (λ (l : List M). Flow k' base' c d (set hs i z) (sent two) l one.known two.known_takes two.putting one.fetching) (sym (got_same one.journal t.number m))
            (frame k' base' c d hs (sent two) (got one) one.known two.known_takes two.putting one.fetching i z (λ p e. o.apart n p (sym e)) o.back);
        in_time = (λ p q u. in_time_after_put (journal_of one) (journal_of two) (entry_of (noted true t.number m)) more (omega arith) o.in_time p q (subst (λ (l : List (Entry M)). TookBeforePut l q p) (journal_more one.journal (noted true t.number m)) u));
        looks_there = looks_at k (n + 1) _ g g one.full_looks two.empty_looks one.full_at two.empty_at two.fulls_before (one.empties_before ++ two.empty_looks ∷ []) (sym (ap length (sent_more one.journal t.number m) ∙ length-append (sent one) (m ∷ []))) refl
            (looks_put k n g one.full_looks two.empty_looks one.full_at two.empty_at two.fulls_before one.empties_before o.looks_there);
        looks_back = looks_at k' (length (sent two)) (length (sent two)) (length (got one)) _ two.full_looks one.empty_looks two.full_at one.empty_at one.fulls_before two.empties_before refl (sym (ap length (got_same one.journal t.number m))) o.looks_back;
      }

  pub both_fetch : (k base k' base' a b c d : ℕ) (hs : Row M) (one two : EndState M) → Opposed k base k' base' a b c d hs one two → one.fetching ≡ false → length (got one) < length one.known
      → (t : TurnNo) × (x : M) × (get_elem? one.known (length (got one)) ≡ some x) × (get_elem? hs (base' + length (got one) % k') ≡ some (some (Filled t x))) × Opposed k base k' base' a b c d (set hs (base' + length (got one) % k') none) (set_fetching one true) two
  both_fetch k base k' base' a b c d hs one two o idle some_one = let g : ℕ = length (got one) in
      let f = flow_fetches _ _ _ _ _ _ _ _ _ _ (subst (λ (x : Bool). Flow k' base' c d hs (sent two) (got one) one.known two.known_takes two.putting x) idle o.back) some_one in
      (f.0, f.1, f.2, f.3, record { apart = o.apart; there = frame k base a b hs (sent one) (got two) two.known one.known_takes one.putting two.fetching (base' + g % k') none (λ p e. o.apart p g e) o.there; back = f.4; in_time = o.in_time; looks_there = o.looks_there; looks_back = o.looks_back })

  pub both_take : (k base k' base' a b c d : ℕ) (hs : Row M) (one two : EndState M) (t : TurnNo) (x : M) (new : ℕ) → Opposed k base k' base' a b c d hs one two → one.fetching ≡ true → get_elem? one.known (length (got one)) ≡ some x → new ≡ (length (got one) + 1) % 2 ^ 64
      → Opposed k base k' base' a b c new (set hs (base' + length (got one) % k') (some (Empty t))) (after_take one t.number x two.full_looks) two
  both_take k base k' base' a b c d hs one two t x new o out next is = let g : ℕ = length (got one) in let i : ℕ = base' + g % k' in let z : maybe.Option (MessageSlot M) = some (Empty t) in
      let f = flow_publishes_take _ _ _ _ _ _ _ _ _ _ x t new (subst (λ (y : Bool). Flow k' base' c d hs (sent two) (got one) one.known two.known_takes two.putting y) out o.back) next is in
      let same : length (puts (journal_of one ++ entry_of (noted false t.number x) ∷ [])) ≡ length (puts (journal_of one)) = ap (λ (l : List (Entry M)). length (puts l)) (sym (journal_more one.journal (noted false t.number x))) ∙ ap length (sent_same one.journal t.number x) in record {
        apart = o.apart;
        there = subst (λ (l : List M). Flow k base a b (set hs i z) l (got two) two.known one.known_takes one.putting two.fetching) (sym (sent_same one.journal t.number x))
            (frame k base a b hs (sent one) (got two) two.known one.known_takes one.putting two.fetching i z (λ p e. o.apart p g e) o.there);
        back = subst (λ (l : List M). Flow k' base' c new (set hs i z) (sent two) l one.known two.known_takes two.putting false) (sym (got_more one.journal t.number x)) f;
        in_time = (λ p q u. in_time_after_take (journal_of one) (journal_of two) (entry_of (noted false t.number x)) same o.in_time p q (subst (λ (l : List (Entry M)). TookBeforePut l q p) (journal_more one.journal (noted false t.number x)) u));
        looks_there = looks_at k (length (sent one)) _ (length (got two)) (length (got two)) one.full_looks two.empty_looks one.full_at two.empty_at two.fulls_before one.empties_before (sym (ap length (sent_same one.journal t.number x))) refl o.looks_there;
        looks_back = looks_at k' (length (sent two)) (length (sent two)) (g + 1) _ two.full_looks one.empty_looks two.full_at one.empty_at (one.fulls_before ++ two.full_looks ∷ []) two.empties_before refl (sym (ap length (got_more one.journal t.number x) ∙ length-append (got one) (x ∷ [])))
            (looks_take k' (length (sent two)) g two.full_looks one.empty_looks two.full_at one.empty_at one.fulls_before two.empties_before o.looks_back);
      }

  pub flows_of : (k base a b : ℕ) (hs : Row M) (from to : EndState M) (known : List M) (kt : ℕ) (x y : Bool) → Flow k base a b hs (sent from) (got to) known kt x y → Flows k (journal_of from) (journal_of to)
  flows_of k base a b hs from to known kt x y f = let n : ℕ = length (sent from) in let g : ℕ = length (got to) in let p : kt ≤ g = f.stale in let q : n ≤ kt + k = f.within in record { taken = prefix_trans _ _ _ f.taken f.learned; room = omega arith }

  -- a slot of a list of empty ones
  empty_there : (xs : List (MessageSlot M)) (i : ℕ) → All IsEmpty xs → i < length xs → (t : TurnNo) × (get_elem? (map some xs) i ≡ some (some (Empty t)))
  empty_there [] i empty h = absurd (omega arith)
  empty_there (x ∷ xs) zero empty h = let head = All-head IsEmpty x xs empty in (head.0, ap (λ (z : MessageSlot M). some (some z)) head.1)
  empty_there (x ∷ xs) (suc i) empty h = empty_there xs i (All-tail IsEmpty x xs empty) (omega arith)

  -- a direction as it is made
  flow_starts : (k base : ℕ) (xs : List (MessageSlot M)) → All IsEmpty xs → base + k ≤ length xs → Flow k base 0 0 (map some xs) [] [] [] 0 false false
  flow_starts k base xs empty long = record {
    fits = grind (arith, length-map xs (λ (y : MessageSlot M). some y), long);
    put_is = refl;
    take_is = refl;
    learned = prefix_refl [];
    taken = prefix_refl [];
    stale = le_refl 0;
    within = omega arith;
    free_there = (λ e. absurd (true≢false (sym e)));
    some_there = (λ e. absurd (true≢false (sym e)));
    full = (λ p m le at home. absurd (some-ne-none m (sym at)));
    vacant = (λ p le lt home. let i : ℕ = p % k in let pos : 0 < k = omega arith in let small : i < k = mod-lt p pos in let l : ℕ = length xs in let fit : base + k ≤ l = long in empty_there xs (base + i) empty (omega arith));
  }

  pub both_start : (k k' : ℕ) (xs : List (MessageSlot M)) → All IsEmpty xs → 0 < k → length xs ≡ k + k' → Opposed k 0 k' k 0 0 0 0 (map some xs) new_end new_end
  both_start k k' xs empty pos long = let l : ℕ = length xs in let is : l ≡ k + k' = long in record {
    apart = (λ p q e. let i : ℕ = p % k in let j : ℕ = q % k' in let small : i < k = mod-lt p pos in let same : 0 + i ≡ k + j = e in omega arith);
    there = flow_starts k 0 xs empty (omega arith);
    back = flow_starts k' k xs empty (omega arith);
    in_time = (λ p q t u. let z : p < 0 = t.put in omega arith);
    looks_there = looks_start k;
    looks_back = looks_start k';
  }
