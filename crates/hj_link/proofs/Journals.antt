-- What one entry more means for a journal, and for two that are in time.
use Rattle.std.proofs.Common.{◌≡◌, ℕ, Bool, true, false, ◌+◌, ◌<◌, ◌≤◌, ◌⊎◌, List, [], ◌∷◌, ◌++◌, length, map, sym, refl, ap, ◌∙◌, subst, ⊎_elim, inl, inr, arith}
use Rattle.hj_base.specs.Journals.{Entry, puts, takes}
use Rattle.hj_base.specs.Link.{TookBeforePut}
use Rattle.hj_link.specs.declared.table.JournalEntry.{JournalEntry}
use Rattle.hj_link.specs.Rule.{entry_of, InTime}
use Rattle.hj_link.specs.Steps.{noted}

module _ {A : Type 0} where
  abbrev head_or : A → List A → A
  head_or x [] = x
  head_or x (y ∷ ys) = y

  abbrev tail_of : List A → List A
  tail_of [] = []
  tail_of (y ∷ ys) = ys

  begins_one : (e b : A) (bs after : List A) → e ∷ [] ≡ (b ∷ bs) ++ after → b ∷ bs ≡ e ∷ []
  begins_one e b [] after is = λ i. sym (ap (head_or e) is) i ∷ []
  begins_one e b (c ∷ cs) after is = absurd (let l : 1 ≡ 2 + length (cs ++ after) = ap length is ∙ omega arith in omega arith)

  -- a beginning of a list with one entry more is all of it, or a beginning of the list
  pub begins : (xs : List A) (e : A) (before after : List A) → xs ++ e ∷ [] ≡ before ++ after → (before ≡ xs ++ e ∷ []) ⊎ ((more : List A) × (xs ≡ before ++ more))
  begins xs e [] after is = inr (xs, refl)
  begins [] e (b ∷ bs) after is = inl (begins_one e b bs after is)
  begins (x ∷ xs) e (b ∷ bs) after is = let h : x ≡ b = ap (head_or x) is in ⊎_elim (λ whole. inl (λ i. sym h i ∷ whole i)) (λ part. inr (part.0, (λ i. h i ∷ part.1 i))) (begins xs e bs after (ap tail_of is))

module _ {M : Type 0} where
  -- one put, or one take, more
  sent_more_by : (n : JournalEntry M) (ns : List (JournalEntry M)) (t : ℕ) (x : M) → puts (map entry_of (ns ++ noted true t x ∷ [])) ≡ puts (map entry_of ns) ++ x ∷ [] → (b : Bool) → n.is_put ≡ b → puts (map entry_of ((n ∷ ns) ++ noted true t x ∷ [])) ≡ puts (map entry_of (n ∷ ns)) ++ x ∷ []
  sent_more_by n ns t x ih true is = rw is (ap (λ (l : List M). n.message ∷ l) ih)
  sent_more_by n ns t x ih false is = rw is (ih)

  pub sent_more : (j : List (JournalEntry M)) (t : ℕ) (x : M)
      → puts (map entry_of (j ++ noted true t x ∷ [])) ≡ puts (map entry_of j) ++ x ∷ []
  sent_more [] t x = refl
  sent_more (n ∷ ns) t x = sent_more_by n ns t x (sent_more ns t x) n.is_put refl

  got_more_by : (n : JournalEntry M) (ns : List (JournalEntry M)) (t : ℕ) (x : M) → takes (map entry_of (ns ++ noted false t x ∷ [])) ≡ takes (map entry_of ns) ++ x ∷ [] → (b : Bool) → n.is_put ≡ b → takes (map entry_of ((n ∷ ns) ++ noted false t x ∷ [])) ≡ takes (map entry_of (n ∷ ns)) ++ x ∷ []
  got_more_by n ns t x ih true is = rw is (ih)
  got_more_by n ns t x ih false is = rw is (ap (λ (l : List M). n.message ∷ l) ih)

  pub got_more : (j : List (JournalEntry M)) (t : ℕ) (x : M)
      → takes (map entry_of (j ++ noted false t x ∷ [])) ≡ takes (map entry_of j) ++ x ∷ []
  got_more [] t x = refl
  got_more (n ∷ ns) t x = got_more_by n ns t x (got_more ns t x) n.is_put refl

  got_same_by : (n : JournalEntry M) (ns : List (JournalEntry M)) (t : ℕ) (x : M) → takes (map entry_of (ns ++ noted true t x ∷ [])) ≡ takes (map entry_of ns) → (b : Bool) → n.is_put ≡ b → takes (map entry_of ((n ∷ ns) ++ noted true t x ∷ [])) ≡ takes (map entry_of (n ∷ ns))
  got_same_by n ns t x ih true is = rw is ih
  got_same_by n ns t x ih false is = rw is (ap (λ (l : List M). n.message ∷ l) ih)

  sent_same_by : (n : JournalEntry M) (ns : List (JournalEntry M)) (t : ℕ) (x : M) → puts (map entry_of (ns ++ noted false t x ∷ [])) ≡ puts (map entry_of ns) → (b : Bool) → n.is_put ≡ b → puts (map entry_of ((n ∷ ns) ++ noted false t x ∷ [])) ≡ puts (map entry_of (n ∷ ns))
  sent_same_by n ns t x ih true is = rw is (ap (λ (l : List M). n.message ∷ l) ih)
  sent_same_by n ns t x ih false is = rw is ih

  -- a put, or a take, leaves the other kind as it was
  pub got_same : (j : List (JournalEntry M)) (t : ℕ) (x : M) → takes (map entry_of (j ++ noted true t x ∷ [])) ≡ takes (map entry_of j)
  got_same [] t x = refl
  got_same (n ∷ ns) t x = got_same_by n ns t x (got_same ns t x) n.is_put refl

  pub sent_same : (j : List (JournalEntry M)) (t : ℕ) (x : M) → puts (map entry_of (j ++ noted false t x ∷ [])) ≡ puts (map entry_of j)
  sent_same [] t x = refl
  sent_same (n ∷ ns) t x = sent_same_by n ns t x (sent_same ns t x) n.is_put refl

  pub journal_more : (j : List (JournalEntry M)) (n : JournalEntry M) → map entry_of (j ++ n ∷ []) ≡ map entry_of j ++ entry_of n ∷ []
  journal_more [] n = refl
  journal_more (x ∷ xs) n = ap (λ (l : List (Entry M)). entry_of x ∷ l) (journal_more xs n)

  -- `took` of a longer journal is `took` of the journal, but for the put that was added last
  pub took_before : (j : List (Entry M)) (e : Entry M) (q p : ℕ) → TookBeforePut (j ++ e ∷ []) q p → p < length (puts j) → TookBeforePut j q p
  took_before j e q p t small = ⊎_elim
      (λ whole. let l : length (puts (j ++ e ∷ [])) ≤ p = subst (λ (z : List (Entry M)). length (puts z) ≤ p) whole t.yet_to_put in let m : p < length (puts (j ++ e ∷ [])) = t.put in absurd (omega arith))
      (λ part. record { before = t.before; after = part.0; moment = part.1; took = t.took; yet_to_put = t.yet_to_put; put = small })
      (begins j e t.before t.after t.moment)

  takes_grow_by : (x : Entry M) (xs ys : List (Entry M)) → length (takes xs) ≤ length (takes (xs ++ ys)) → (b : Bool) → x.is_put ≡ b → length (takes (x ∷ xs)) ≤ length (takes ((x ∷ xs) ++ ys))
  takes_grow_by x xs ys ih true is = rw is ih
  takes_grow_by x xs ys ih false is = rw is (let h : length (takes xs) ≤ length (takes (xs ++ ys)) = ih in omega arith)

  takes_grow : (xs ys : List (Entry M)) → length (takes xs) ≤ length (takes (xs ++ ys))
  takes_grow [] ys = omega arith
  takes_grow (x ∷ xs) ys = takes_grow_by x xs ys (takes_grow xs ys) x.is_put refl

  -- what was taken by then was taken
  pub took_is_taken : (j before after : List (Entry M)) → j ≡ before ++ after → length (takes before) ≤ length (takes j)
  took_is_taken j before after is = subst (λ (z : List (Entry M)). length (takes before) ≤ length (takes z)) (sym is) (takes_grow before after)

  -- An end's take crosses nothing new: only its puts can.
  pub in_time_after_take : (one two : List (Entry M)) (e : Entry M) → length (puts (one ++ e ∷ [])) ≡ length (puts one)
      → InTime one two → InTime (one ++ e ∷ []) two
  in_time_after_take one two e same old p q t = old p q (took_before one e q p t (subst (λ (z : ℕ). p < z) same t.put))

  -- Nor does its put: whoever took that message before some put of its own took more than there was.
  pub in_time_after_put : (one two : List (Entry M)) (e : Entry M) → length (puts (one ++ e ∷ [])) ≡ length (puts one) + 1 → length (takes two) ≤ length (puts one)
      → InTime one two → InTime (one ++ e ∷ []) two
  in_time_after_put one two e more flows old p q t u = let n : ℕ = length (puts one) in let early = took_is_taken two u.before u.after u.moment in
      let a : p < length (takes u.before) = u.took in let b : length (takes u.before) ≤ length (takes two) = early in let c : length (takes two) ≤ n = flows in
      old p q (took_before one e q p t (let g : p < n = omega arith in g)) u
