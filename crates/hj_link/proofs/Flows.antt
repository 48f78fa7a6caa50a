-- The steps keep one direction.
use Rattle.std.proofs.Common.{◌≡◌, ℕ, Bool, true, false, suc, zero, ◌+◌, ◌%◌, ◌^◌, ◌<◌, ◌≤◌, ◌≢◌, ◌⊎◌, List, [], ◌∷◌, ◌++◌, length, set, sym, refl, ap, ◌∙◌, subst, ⊎_elim, inl, inr, mod-lt, le_refl, arith, length-append, length-set, append_assoc, append-nil, true≢false}
use mathlib.Core.Logic.{dite}
use mathlib.Core.Option.{none, some, some-injective, some-ne-none}
use mathlib.Core.Option as maybe
use native.Mathlib.Decide.{ℕ_discrete, dec_le}
use native.Mathlib.Nat.{add-mod_right}
use lib.ListN.{get_elem?}
use Rattle.hj_base.specs.Journals.{IsPrefix}
use Rattle.atomic_table.proofs.Lists.{set_here, set_else, at_longer, one_turn}
use Rattle.hj_link.specs.declared.table.MessageSlot.{MessageSlot}
use Rattle.hj_link.specs.declared.table.MessageSlot.TheVariants.{Empty, Filled}
use Rattle.hj_link.specs.declared.turn_no.TurnNo.{TurnNo}
use Rattle.hj_link.specs.Flow.{Flow, AreFilled, AreVacant}

module _ {A : Type 0} where
  pub at_within : (l : List A) (i : ℕ) (a : A) → get_elem? l i ≡ some a → i < length l
  at_within [] i a e = absurd (some-ne-none a (sym e))
  at_within (x ∷ xs) zero a e = omega arith
  at_within (x ∷ xs) (suc i) a e = let h = at_within xs i a e in omega arith

  pub there : (l : List A) (i : ℕ) → i < length l → (a : A) × (get_elem? l i ≡ some a)
  there [] i h = absurd (omega arith)
  there (x ∷ xs) zero h = (x, refl)
  there (x ∷ xs) (suc i) h = there xs i (omega arith)

  pub at_end : (l : List A) (a b : A) (i : ℕ) → get_elem? (l ++ a ∷ []) i ≡ some b → (get_elem? l i ≡ some b) ⊎ ((i ≡ length l) × (a ≡ b))
  at_end [] a b zero e = inr (refl, some-injective a b e)
  at_end [] a b (suc j) e = absurd (some-ne-none b (sym e))
  at_end (x ∷ xs) a b zero e = inl e
  at_end (x ∷ xs) a b (suc j) e = ⊎_elim (λ t. inl t) (λ t. inr (ap suc t.0, t.1)) (at_end xs a b j e)

  prefix_by : (xs ys rest : List A) (a : A) → ys ≡ xs ++ rest → get_elem? ys (length xs) ≡ some a → IsPrefix (xs ++ a ∷ []) ys
  prefix_by [] ys [] a is at = absurd (some-ne-none a (sym (ap (λ (l : List A). get_elem? l 0) (sym is) ∙ at)))
  prefix_by [] ys (r ∷ rs) a is at = record { rest = rs; is = is ∙ ap (λ (z : A). z ∷ rs) (some-injective r a (ap (λ (l : List A). get_elem? l 0) (sym is) ∙ at)) }
  prefix_by (x ∷ xs) ys rest a is at = let q = prefix_by xs (xs ++ rest) rest a refl (ap (λ (l : List A). get_elem? l (suc (length xs))) (sym is) ∙ at) in record { rest = q.rest; is = is ∙ ap (λ (l : List A). x ∷ l) q.is }

  pub next_prefix : (xs ys : List A) (a : A) → IsPrefix xs ys → get_elem? ys (length xs) ≡ some a → IsPrefix (xs ++ a ∷ []) ys
  next_prefix xs ys a p at = prefix_by xs ys p.rest a p.is at

  pub prefix_length : (xs ys : List A) → IsPrefix xs ys → length xs ≤ length ys
  prefix_length xs ys p = omega (arith, ap length p.is, length-append xs p.rest)

  pub prefix_at : (xs ys : List A) (i : ℕ) (a : A) → IsPrefix xs ys → get_elem? xs i ≡ some a → get_elem? ys i ≡ some a
  prefix_at xs ys i a p at = ap (λ (l : List A). get_elem? l i) p.is ∙ at_longer xs p.rest i a at

  pub longer_prefix : (xs ys : List A) (a : A) → IsPrefix xs ys → IsPrefix xs (ys ++ a ∷ [])
  longer_prefix xs ys a p = record { rest = p.rest ++ a ∷ []; is = ap (λ (l : List A). l ++ a ∷ []) p.is ∙ grind (arith, append_assoc) }

  pub prefix_trans : (xs ys zs : List A) → IsPrefix xs ys → IsPrefix ys zs → IsPrefix xs zs
  prefix_trans xs ys zs p q = record { rest = p.rest ++ q.rest; is = q.is ∙ ap (λ (l : List A). l ++ q.rest) p.is ∙ grind (arith, append_assoc) }

  pub prefix_refl : (xs : List A) → IsPrefix xs xs
  prefix_refl xs = record { rest = []; is = sym (append-nil xs) }

order : (p q : ℕ) → (p ≤ q) ⊎ (q < p)
order p q = dite (dec_le p q) (λ y. inl y) (λ n. inr (omega arith))

-- two places less than a lap apart lie in different slots
pub apart : (c base p q g : ℕ) → g ≤ p → p < g + c → g ≤ q → q < g + c → p ≢ q → base + p % c ≢ base + q % c
apart c base p q g a b d e ne same = let x : ℕ = p % c in let y : ℕ = q % c in let s : base + x ≡ base + y = same in let eq : x ≡ y = omega arith in
    ⊎_elim (λ le. ne (one_turn p q c le (omega arith) eq)) (λ lt. ne (sym (one_turn q p c (omega arith) (omega arith) (sym eq)))) (order p q)

pub inside : (c base p n : ℕ) → 0 < c → base + c ≤ n → base + p % c < n
inside c base p n pos fits = let x : ℕ = p % c in let lt : x < c = mod-lt p pos in omega arith

abbrev pub Row : Type 0 → Type 0
Row M = List (maybe.Option (MessageSlot M))

module _ {M : Type 0} where
  -- a direction as it was, but for one slot and for which slots are out
  pub with_slot : {c base pw tw : ℕ} {hs : Row M} {sent got known : List M} {kt : ℕ} {a b : Bool} (f : Flow c base pw tw hs sent got known kt a b) (k : ℕ) (z : maybe.Option (MessageSlot M)) (a' b' : Bool)
      → (a' ≡ true → length sent < kt + c) → (b' ≡ true → length got < length known) → AreFilled c base (set hs k z) sent got b' → AreVacant c base (set hs k z) sent got a'
      → Flow c base pw tw (set hs k z) sent got known kt a' b'
  with_slot {c} {base} {hs = hs} f k z a' b' free some_one full vacant = record {
    fits = subst (λ (n : ℕ). base + c ≤ n) (sym (length-set hs k z)) f.fits;
    put_is = f.put_is;
    take_is = f.take_is;
    learned = f.learned;
    taken = f.taken;
    stale = f.stale;
    within = f.within;
    free_there = free;
    some_there = some_one;
    full = full;
    vacant = vacant;
  }

  -- the putting end saw that g were taken
  pub flow_looks_for_room : (c base pw tw : ℕ) (hs : Row M) (sent got known : List M) (kt : ℕ) (a b : Bool) → Flow c base pw tw hs sent got known kt a b → Flow c base pw tw hs sent got known (length got) a b
  flow_looks_for_room c base pw tw hs sent got known kt a b f = let old = f.stale in let w = f.within in record {
    fits = f.fits;
    put_is = f.put_is;
    take_is = f.take_is;
    learned = f.learned;
    taken = f.taken;
    stale = le_refl (length got);
    within = omega arith;
    free_there = (λ t. let r = f.free_there t in omega arith);
    some_there = f.some_there;
    full = f.full;
    vacant = f.vacant;
  }

  -- the taking end saw all the puts
  pub flow_looks_for_message : (c base pw tw : ℕ) (hs : Row M) (sent got known : List M) (kt : ℕ) (a b : Bool) → Flow c base pw tw hs sent got known kt a b → Flow c base pw tw hs sent got sent kt a b
  flow_looks_for_message c base pw tw hs sent got known kt a b f = let more = prefix_length known sent f.learned in record {
    fits = f.fits;
    put_is = f.put_is;
    take_is = f.take_is;
    learned = prefix_refl sent;
    taken = prefix_trans got known sent f.taken f.learned;
    stale = f.stale;
    within = f.within;
    free_there = f.free_there;
    some_there = (λ t. let r = f.some_there t in omega arith);
    full = f.full;
    vacant = f.vacant;
  }

  -- the slot of the next place to put into is taken out
  pub flow_reserves : (c base pw tw : ℕ) (hs : Row M) (sent got known : List M) (kt : ℕ) (b : Bool) → Flow c base pw tw hs sent got known kt false b → length sent < kt + c
      → (t : TurnNo) × (get_elem? hs (base + length sent % c) ≡ some (some (Empty t))) × Flow c base pw tw (set hs (base + length sent % c) none) sent got known kt true b
  flow_reserves c base pw tw hs sent got known kt b f room = let n : ℕ = length sent in let g : ℕ = length got in let k : ℕ = base + n % c in let old : kt ≤ g = f.stale in
      let gl : g ≤ length known = prefix_length got known f.taken in let kl : length known ≤ n = prefix_length known sent f.learned in
      let v = f.vacant n (le_refl n) (omega arith) (λ _. refl) in (
        v.0,
        v.1,
        with_slot f k none true b (λ _. room) f.some_there
            (λ p m le at home. let lt : p < n = at_within sent p m at in let x = f.full p m le at home in (x.0, set_else hs k (base + p % c) none (apart c base p n g le (omega arith) (omega arith) (omega arith) (λ e. omega arith)) ∙ x.1))
            (λ p le lt home. let ne : p ≢ n = (λ e. true≢false (home e)) in let x = f.vacant p le lt (λ e. absurd (ne e)) in (x.0, set_else hs k (base + p % c) none (apart c base p n g (omega arith) lt (omega arith) (omega arith) ne) ∙ x.1)),
      )

  -- the put is published, and the slot comes home
  pub flow_publishes : (c base pw tw : ℕ) (hs : Row M) (sent got known : List M) (kt : ℕ) (b : Bool) (t : TurnNo) (m : M) (new : ℕ) → Flow c base pw tw hs sent got known kt true b → new ≡ (length sent + 1) % 2 ^ 64
      → Flow c base new tw (set hs (base + length sent % c) (some (Filled t m))) (sent ++ m ∷ []) got known kt false b
  flow_publishes c base pw tw hs sent got known kt b t m new f is = let n : ℕ = length sent in let g : ℕ = length got in let k : ℕ = base + n % c in let old : kt ≤ g = f.stale in let room : n < kt + c = f.free_there refl in
      let gl : g ≤ length known = prefix_length got known f.taken in let kl : length known ≤ n = prefix_length known sent f.learned in
      let long : length (sent ++ m ∷ []) ≡ n + 1 = omega (arith, length-append sent (m ∷ [])) in record {
        fits = subst (λ (z : ℕ). base + c ≤ z) (sym (length-set hs k (some (Filled t m)))) f.fits;
        put_is = is ∙ ap (λ (z : ℕ). z % 2 ^ 64) (sym long);
        take_is = f.take_is;
        learned = longer_prefix known sent m f.learned;
        taken = f.taken;
        stale = f.stale;
        within = omega arith;
        free_there = (λ e. absurd (true≢false (sym e)));
        some_there = f.some_there;
        full = (λ p x le at home. ⊎_elim
            (λ here. let lt : p < n = at_within sent p x here in let z = f.full p x le here home in (z.0, set_else hs k (base + p % c) (some (Filled t m)) (apart c base p n g le (omega arith) (omega arith) (omega arith) (λ e. omega arith)) ∙ z.1))
            (λ new_one. let is_n : p ≡ n = new_one.0 in (t, ap (λ (z : ℕ). get_elem? (set hs k (some (Filled t m))) (base + z % c)) is_n ∙ set_here hs k (some (Filled t m)) (inside c base n (length hs) (omega arith) f.fits) ∙ ap (λ (z : M). some (some (Filled t z))) new_one.1))
            (at_end sent m x p at));
        vacant = (λ p le lt home. let ne : p ≢ n = (λ e. omega arith) in let z = f.vacant p (omega arith) lt (λ e. absurd (ne e)) in (z.0, set_else hs k (base + p % c) (some (Filled t m)) (apart c base p n g (omega arith) lt (omega arith) (omega arith) ne) ∙ z.1));
      }

  -- the slot of the next known put is taken out, and holds its message
  pub flow_fetches : (c base pw tw : ℕ) (hs : Row M) (sent got known : List M) (kt : ℕ) (a : Bool) → Flow c base pw tw hs sent got known kt a false → length got < length known
      → (t : TurnNo) × (x : M) × (get_elem? known (length got) ≡ some x) × (get_elem? hs (base + length got % c) ≡ some (some (Filled t x))) × Flow c base pw tw (set hs (base + length got % c) none) sent got known kt a true
  flow_fetches c base pw tw hs sent got known kt a f some_one = let n : ℕ = length sent in let g : ℕ = length got in let k : ℕ = base + g % c in let old : kt ≤ g = f.stale in
      let w : n ≤ kt + c = f.within in let kl : length known ≤ n = prefix_length known sent f.learned in let pos : 0 < c = omega arith in
      let next = there known g some_one in let x = next.0 in let lies = f.full g x (le_refl g) (prefix_at known sent g x f.learned next.1) (λ _. refl) in (
        lies.0,
        x,
        next.1,
        lies.1,
        with_slot f k none a true f.free_there (λ _. some_one)
            (λ p m le at home. let lt : p < n = at_within sent p m at in let ne : p ≢ g = (λ e. true≢false (home e)) in let z = f.full p m le at (λ e. absurd (ne e)) in (z.0, set_else hs k (base + p % c) none (apart c base p g g le (omega arith) (le_refl g) (omega arith) ne) ∙ z.1))
            (λ p le lt home. let ne : p ≢ g = (λ e. omega arith) in let z = f.vacant p le lt home in (z.0, set_else hs k (base + p % c) none (apart c base p g g (omega arith) lt (le_refl g) (omega arith) ne) ∙ z.1)),
      )

  -- the take is published, and the slot comes home empty
  pub flow_publishes_take : (c base pw tw : ℕ) (hs : Row M) (sent got known : List M) (kt : ℕ) (a : Bool) (x : M) (t : TurnNo) (new : ℕ) → Flow c base pw tw hs sent got known kt a true → get_elem? known (length got) ≡ some x → new ≡ (length got + 1) % 2 ^ 64
      → Flow c base pw new (set hs (base + length got % c) (some (Empty t))) sent (got ++ x ∷ []) known kt a false
  flow_publishes_take c base pw tw hs sent got known kt a x t new f next is = let n : ℕ = length sent in let g : ℕ = length got in let k : ℕ = base + g % c in let old : kt ≤ g = f.stale in
      let w : n ≤ kt + c = f.within in let kl : length known ≤ n = prefix_length known sent f.learned in let gl : g < length known = f.some_there refl in let pos : 0 < c = omega arith in
      let long : length (got ++ x ∷ []) ≡ g + 1 = omega (arith, length-append got (x ∷ [])) in record {
        fits = subst (λ (z : ℕ). base + c ≤ z) (sym (length-set hs k (some (Empty t)))) f.fits;
        put_is = f.put_is;
        take_is = is ∙ ap (λ (z : ℕ). z % 2 ^ 64) (sym long);
        learned = f.learned;
        taken = next_prefix got known x f.taken next;
        stale = omega arith;
        within = f.within;
        free_there = f.free_there;
        some_there = (λ e. absurd (true≢false (sym e)));
        full = (λ p m le at home. let lt : p < n = at_within sent p m at in let ne : p ≢ g = (λ e. omega arith) in let z = f.full p m (omega arith) at (λ e. absurd (ne e)) in (z.0, set_else hs k (base + p % c) (some (Empty t)) (apart c base p g g (omega arith) (omega arith) (le_refl g) (omega arith) ne) ∙ z.1));
        vacant = (λ p le lt home. dite (ℕ_discrete p (g + c))
            (λ e. (t, ap (λ (z : ℕ). get_elem? (set hs k (some (Empty t))) (base + z)) (ap (λ (z : ℕ). z % c) e ∙ add-mod_right g c) ∙ set_here hs k (some (Empty t)) (inside c base g (length hs) pos f.fits)))
            (λ ne. let other : p ≢ g = (λ e. omega arith) in let z = f.vacant p le (omega arith) home in (z.0, set_else hs k (base + p % c) (some (Empty t)) (apart c base p g g (omega arith) (omega arith) (le_refl g) (omega arith) other) ∙ z.1)));
      }
