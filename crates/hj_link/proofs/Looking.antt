-- The steps keep what is known of the looks.
use Rattle.std.proofs.Common.{◌≡◌, ℕ, Bool, true, false, ◌+◌, ◌<◌, ◌≤◌, List, [], ◌∷◌, ◌++◌, length, sym, refl, subst, ⊎_elim, arith, append-nil, length-append}
use mathlib.Core.Option.{some-ne-none}
use Rattle.hj_link.specs.Looks.{Looks}
use Rattle.hj_link.specs.Steps.{one_if, mark_if}
use Rattle.hj_link.proofs.Flows.{at_end, at_within}

pushed : (l : List ℕ) (x n : ℕ) → length l ≡ n → length (l ++ x ∷ []) ≡ n + 1
pushed l x n is = omega (arith, is, length-append l (x ∷ []))

module _ (k s g f e : ℕ) (fa ea fb eb : List ℕ) (old : Looks k s g f e fa ea fb eb) where
  -- a look that found the direction full
  looks_full : s ≡ g + k → Looks k s g (f + 1) e (fa ++ s ∷ []) ea fb eb
  looks_full full = record {
    each_full = pushed fa s f old.each_full;
    each_empty = old.each_empty;
    each_put = old.each_put;
    each_take = old.each_take;
    puts_by_then = (λ q p at. ⊎_elim (λ there. old.puts_by_then q p there) (λ here. let is : s ≡ p = here.1 in (omega arith, omega arith)) (at_end fa s p q at));
    takes_by_then = old.takes_by_then;
    fulls_by_then = (λ t l at. let low : l ≤ f = old.fulls_by_then t l at in omega arith);
    empties_by_then = old.empties_by_then;
    was_full = (λ q p t l at before le. ⊎_elim
        (λ there. old.was_full q p t l there before le)
        (λ here. let is : s ≡ p = here.1 in let n : ℕ = length fb in let low : t < n = at_within fb t l before in let all : n ≡ g = old.each_take in omega arith)
        (at_end fa s p q at));
    was_empty = old.was_empty;
  }

  -- a look that found it empty
  looks_empty : s ≡ g → Looks k s g f (e + 1) fa (ea ++ g ∷ []) fb eb
  looks_empty empty = record {
    each_full = old.each_full;
    each_empty = pushed ea g e old.each_empty;
    each_put = old.each_put;
    each_take = old.each_take;
    puts_by_then = old.puts_by_then;
    takes_by_then = (λ q t at. ⊎_elim (λ there. old.takes_by_then q t there) (λ here. let is : g ≡ t = here.1 in omega arith) (at_end ea g t q at));
    fulls_by_then = old.fulls_by_then;
    empties_by_then = (λ p l at. let low : l ≤ e = old.empties_by_then p l at in omega arith);
    was_full = old.was_full;
    was_empty = (λ q t p l at before le. ⊎_elim
        (λ there. old.was_empty q t p l there before le)
        (λ here. let is : g ≡ t = here.1 in let n : ℕ = length eb in let low : p < n = at_within eb p l before in let all : n ≡ s = old.each_put in omega arith)
        (at_end ea g t q at));
  }

  -- any look, of which it is known what it found
  pub looked_for_room : (full : Bool) → (full ≡ true → s ≡ g + k) → Looks k s g (f + one_if full) e (fa ++ mark_if full s) ea fb eb
  looked_for_room true is = looks_full (is refl)
  looked_for_room false is = subst (λ (l : List ℕ). Looks k s g (f + 0) e l ea fb eb) (sym (append-nil fa)) (subst (λ (n : ℕ). Looks k s g n e fa ea fb eb) (let same : f ≡ f + 0 = omega arith in same) old)

  pub looked_for_message : (empty : Bool) → (empty ≡ true → s ≡ g) → Looks k s g f (e + one_if empty) fa (ea ++ mark_if empty g) fb eb
  looked_for_message true is = looks_empty (is refl)
  looked_for_message false is = subst (λ (l : List ℕ). Looks k s g f (e + 0) fa l fb eb) (sym (append-nil ea)) (subst (λ (n : ℕ). Looks k s g f n fa ea fb eb) (let same : e ≡ e + 0 = omega arith in same) old)

  -- a put
  pub looks_put : Looks k (s + 1) g f e fa ea fb (eb ++ e ∷ [])
  looks_put = record {
    each_full = old.each_full;
    each_empty = old.each_empty;
    each_put = pushed eb e s old.each_put;
    each_take = old.each_take;
    puts_by_then = (λ q p at. let was = old.puts_by_then q p at in let low : p ≤ s = was.0 in (omega arith, was.1));
    takes_by_then = old.takes_by_then;
    fulls_by_then = old.fulls_by_then;
    empties_by_then = (λ p l at. ⊎_elim (λ there. old.empties_by_then p l there) (λ here. let is : e ≡ l = here.1 in omega arith) (at_end eb e l p at));
    was_full = old.was_full;
    was_empty = (λ q t p l at before le. ⊎_elim
        (λ there. old.was_empty q t p l at there le)
        (λ here. let is : e ≡ l = here.1 in let n : ℕ = length ea in let low : q < n = at_within ea q t at in let all : n ≡ e = old.each_empty in absurd (omega arith))
        (at_end eb e l p before));
  }

  -- a take
  pub looks_take : Looks k s (g + 1) f e fa ea (fb ++ f ∷ []) eb
  looks_take = record {
    each_full = old.each_full;
    each_empty = old.each_empty;
    each_put = old.each_put;
    each_take = pushed fb f g old.each_take;
    puts_by_then = old.puts_by_then;
    takes_by_then = (λ q t at. let low : t ≤ g = old.takes_by_then q t at in omega arith);
    fulls_by_then = (λ t l at. ⊎_elim (λ there. old.fulls_by_then t l there) (λ here. let is : f ≡ l = here.1 in omega arith) (at_end fb f l t at));
    empties_by_then = old.empties_by_then;
    was_full = (λ q p t l at before le. ⊎_elim
        (λ there. old.was_full q p t l at there le)
        (λ here. let is : f ≡ l = here.1 in let n : ℕ = length fa in let low : q < n = at_within fa q p at in let all : n ≡ f = old.each_full in absurd (omega arith))
        (at_end fb f l t before));
    was_empty = old.was_empty;
  }

-- as many puts and takes as these
pub looks_at : (k s s' g g' f e : ℕ) (fa ea fb eb : List ℕ) → s ≡ s' → g ≡ g' → Looks k s g f e fa ea fb eb → Looks k s' g' f e fa ea fb eb
looks_at k s s' g g' f e fa ea fb eb p q l = subst (λ (n : ℕ). Looks k n g' f e fa ea fb eb) p (subst (λ (n : ℕ). Looks k s n f e fa ea fb eb) q l)

-- no look was made
pub looks_start : (k : ℕ) → Looks k 0 0 0 0 [] [] [] []
looks_start k = record {
  each_full = refl;
  each_empty = refl;
  each_put = refl;
  each_take = refl;
  puts_by_then = (λ q p at. absurd (some-ne-none p (sym at)));
  takes_by_then = (λ q t at. absurd (some-ne-none t (sym at)));
  fulls_by_then = (λ t l at. absurd (some-ne-none l (sym at)));
  empties_by_then = (λ p l at. absurd (some-ne-none l (sym at)));
  was_full = (λ q p t l at before le. absurd (some-ne-none p (sym at)));
  was_empty = (λ q t p l at before le. absurd (some-ne-none t (sym at)));
}
