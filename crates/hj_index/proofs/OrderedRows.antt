-- The rows of an ordered store and their keys, through the changes of the rows.
use Rattle.std.proofs.Common.{◌≡◌, ℕ, Bool, true, false, not, ◌&&◌, ◌||◌, cond, nat_eq, List, [], ◌∷◌, None, Some, Option, option_map, option_and_then, refl, sym, ap, subst, ◌∙◌}
use Rattle.std.proofs.lemmas.Bool.{eqb-true, eqb-false}
use Rattle.hj_value.specs.declared.field.Field.{Field}
use Rattle.hj_msg.specs.Store.{Resting, with_entry, with_settled, without_entry, AreDistinct}
use Rattle.hj_index.specs.declared.ordered_index.OrderedIndex.{OrderedIndex}
use Rattle.hj_index.specs.OrderedIndex.{is_key, key_of, stands, OrderedKey}
use Rattle.hj_index.specs.OrderedStore.{key_at, AreOrdered}
use Rattle.hj_rows.specs.Places.{row_at}
use Rattle.hj_index.proofs.OrderedKeys.{other_number}

-- ---- the row of a number

module _ {P : Type 0} where
  pub row-with : (x : Resting P) (rows : List (Resting P)) (n : ℕ) → row_at n (with_entry x rows) ≡ cond (nat_eq x.no n) (Some x.row) (row_at n rows)
  row-with x [] n = by (nat_eq x.no n)
    where
      by : (b : Bool) → option_map (λ (entry : Resting P). entry.row) (cond b (Some x) None) ≡ cond b (Some x.row) None
      by true = refl
      by false = refl
  row-with x (y ∷ ys) n = by (nat_eq y.no x.no) refl (nat_eq x.no n) refl (nat_eq y.no n) refl (row-with x ys n)
    where
      by : (a : Bool) → nat_eq y.no x.no ≡ a → (b : Bool) → nat_eq x.no n ≡ b → (c : Bool) → nat_eq y.no n ≡ c
          → row_at n (with_entry x ys) ≡ cond (nat_eq x.no n) (Some x.row) (row_at n ys)
          → row_at n (with_entry x (y ∷ ys)) ≡ cond (nat_eq x.no n) (Some x.row) (row_at n (y ∷ ys))
      by true p true q c r later = rw (p, q) refl
      by true p false q true r later = absurd (eqb-false x.no n q (sym (eqb-true y.no x.no p) ∙ eqb-true y.no n r))
      by true p false q false r later = rw (p, q, r) refl
      by false p true q true r later = absurd (eqb-false y.no x.no p (eqb-true y.no n r ∙ sym (eqb-true x.no n q)))
      by false p false q true r later = rw (p, q, r) refl
      by false p b q false r later = rw (p, r) later

  abbrev nothing : Option P
  nothing = None

  pub row-without : (m : ℕ) (rows : List (Resting P)) (n : ℕ) → row_at n (without_entry m rows) ≡ cond (nat_eq m n) None (row_at n rows)
  row-without m [] n = by (nat_eq m n)
    where
      by : (b : Bool) → nothing ≡ cond b nothing nothing
      by true = refl
      by false = refl
  row-without m (y ∷ ys) n = by (nat_eq y.no m) refl (nat_eq m n) refl (nat_eq y.no n) refl (row-without m ys n)
    where
      by : (a : Bool) → nat_eq y.no m ≡ a → (b : Bool) → nat_eq m n ≡ b → (c : Bool) → nat_eq y.no n ≡ c
          → row_at n (without_entry m ys) ≡ cond (nat_eq m n) None (row_at n ys)
          → row_at n (without_entry m (y ∷ ys)) ≡ cond (nat_eq m n) None (row_at n (y ∷ ys))
      by true p true q c r later = rw p (later ∙ rw q refl)
      by true p false q true r later = absurd (eqb-false m n q (sym (eqb-true y.no m p) ∙ eqb-true y.no n r))
      by true p false q false r later = rw (p, r) later
      by false p true q true r later = absurd (eqb-false y.no m p (eqb-true y.no n r ∙ sym (eqb-true m n q)))
      by false p false q true r later = rw (p, q, r) refl
      by false p b q false r later = rw (p, r) later

  pub row-settled : (m : ℕ) (rows : List (Resting P)) (n : ℕ) → row_at n (with_settled m rows) ≡ row_at n rows
  row-settled m [] n = refl
  row-settled m (y ∷ ys) n = by (nat_eq y.no n) refl (row-settled m ys n)
    where
      by : (c : Bool) → nat_eq y.no n ≡ c → row_at n (with_settled m ys) ≡ row_at n ys → row_at n (with_settled m (y ∷ ys)) ≡ row_at n (y ∷ ys)
      by true r later = rw r refl
      by false r later = rw r later

-- ---- the index

module _ (own : ℕ) (rows : List (Resting (List Field))) (index new : OrderedIndex) (ordered : AreOrdered own rows index) where
  pub settled_ordered : (n : ℕ) → AreDistinct (with_settled n rows) → AreOrdered own (with_settled n rows) index
  settled_ordered n distinct = record {
    distinct = distinct;
    indexed = λ key. ordered.indexed key ∙ ap (λ (row : Option (List Field)). is_key key (option_and_then (key_of own key.1) row)) (sym (row-settled n rows key.1));
  }

  pub put_ordered : (x : Resting (List Field)) (put : List (Resting (List Field))) → put ≡ with_entry x rows → AreDistinct put
      → ((key : OrderedKey) → stands new key ≡ (is_key key (key_of own x.no x.row) || (not (is_key key (key_at own rows x.no)) && stands index key)))
      → AreOrdered own put new
  put_ordered x put is distinct change =
      subst (λ (held : List (Resting (List Field))). AreOrdered own held new) (sym is) (record { distinct = subst AreDistinct is distinct; indexed = λ key. change key ∙ by key (nat_eq x.no key.1) refl })
    where
      old : Option (List Field)
      old = row_at x.no rows

      self : (b c : Bool) → (b || (not c && c)) ≡ b
      self true c = refl
      self false true = refl
      self false false = refl

      away : (key : OrderedKey) (row : Option (List Field)) → nat_eq x.no key.1 ≡ false → is_key key (option_and_then (key_of own x.no) row) ≡ false
      away key None e = refl
      away key (Some row) e = other_number own x.no row key e

      at : (key : OrderedKey) → row_at key.1 (with_entry x rows) ≡ cond (nat_eq x.no key.1) (Some x.row) (row_at key.1 rows)
      at key = row-with x rows key.1

      by : (key : OrderedKey) (b : Bool) → nat_eq x.no key.1 ≡ b
          → (is_key key (key_of own x.no x.row) || (not (is_key key (key_at own rows x.no)) && stands index key)) ≡ is_key key (key_at own (with_entry x rows) key.1)
      by key true e =
          let same : x.no ≡ key.1 = eqb-true x.no key.1 e in
          ap (λ b. is_key key (key_of own x.no x.row) || (not (is_key key (key_at own rows x.no)) && b)) (ordered.indexed key ∙ ap (λ n. is_key key (key_at own rows n)) (sym same))
          ∙ (self (is_key key (key_of own x.no x.row)) (is_key key (key_at own rows x.no))
          ∙ (ap (λ n. is_key key (key_of own n x.row)) same
          ∙ ap (λ (row : Option (List Field)). is_key key (option_and_then (key_of own key.1) row)) (sym (at key ∙ ap (λ b. cond b (Some x.row) (row_at key.1 rows)) e))))
      by key false e =
          ap (λ b. b || (not (is_key key (key_at own rows x.no)) && stands index key)) (other_number own x.no x.row key e)
          ∙ (ap (λ b. not b && stands index key) (away key old e)
          ∙ (ordered.indexed key
          ∙ ap (λ (row : Option (List Field)). is_key key (option_and_then (key_of own key.1) row)) (sym (at key ∙ ap (λ b. cond b (Some x.row) (row_at key.1 rows)) e))))

  pub taken_ordered : (n : ℕ) → AreDistinct (without_entry n rows)
      → ((key : OrderedKey) → stands new key ≡ (not (is_key key (key_at own rows n)) && stands index key))
      → AreOrdered own (without_entry n rows) new
  taken_ordered n distinct change = record { distinct = distinct; indexed = λ key. change key ∙ by key (nat_eq n key.1) refl }
    where
      none : (c : Bool) → (not c && c) ≡ false
      none true = refl
      none false = refl

      away : (key : OrderedKey) (row : Option (List Field)) → nat_eq n key.1 ≡ false
          → is_key key (option_and_then (key_of own n) row) ≡ false
      away key None e = refl
      away key (Some row) e = other_number own n row key e

      by : (key : OrderedKey) (b : Bool) → nat_eq n key.1 ≡ b → (not (is_key key (key_at own rows n)) && stands index key) ≡ is_key key (key_at own (without_entry n rows) key.1)
      by key true e =
          let same : n ≡ key.1 = eqb-true n key.1 e in
          ap (λ b. not (is_key key (key_at own rows n)) && b) (ordered.indexed key ∙ ap (λ n. is_key key (key_at own rows n)) (sym same))
          ∙ (none (is_key key (key_at own rows n))
          ∙ ap (λ (row : Option (List Field)). is_key key (option_and_then (key_of own key.1) row)) (sym (row-without n rows key.1 ∙ ap (λ b. cond b None (row_at key.1 rows)) e)))
      by key false e =
          ap (λ b. not b && stands index key) (away key (row_at n rows) e)
          ∙ (ordered.indexed key
          ∙ ap (λ (row : Option (List Field)). is_key key (option_and_then (key_of own key.1) row)) (sym (row-without n rows key.1 ∙ ap (λ b. cond b None (row_at key.1 rows)) e)))
