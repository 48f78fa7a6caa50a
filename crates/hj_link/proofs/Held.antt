-- What an end's seat is between the steps of a put and of a take.
use Rattle.std.proofs.Common.{◌≡◌, ℕ, Bool, true, false, [], ◌∷◌, length, sym, ap, ◌∙◌, subst, refl}
use mathlib.Core.Option.{some}
use lib.ListN.{get_elem?}
use Rattle.atomic_table.specs.Table.{rest}
use Rattle.hj_link.specs.declared.table.MessageSlot.{MessageSlot}
use Rattle.hj_link.specs.declared.table.MessageSlot.TheVariants.{Empty, Filled}
use Rattle.hj_link.specs.declared.turn_no.TurnNo.{TurnNo}
use Rattle.hj_link.specs.Rule.{Seated, got}
use Rattle.hj_link.specs.Steps.{IsLaid, IsEmptied, has_end, own, changed, put_slot, take_slot, set_putting, set_fetching, reserves, fetches, holding, holding_taken}

module _ {M : Type 0} where
  -- the slot that was taken out is the one that is exchanged
  pub reserved_slot : (side : Bool) (old mid : Seated M) (slot : ℕ) → slot ≡ put_slot side old → reserves side old mid → (y : MessageSlot M) × (mid.1 ≡ (slot, y) ∷ rest mid.1)
  reserved_slot side old mid slot is did = (Empty did.0, ap (λ (z : Seated M). z.1) did.1 ∙ (λ i. (sym is i, Empty did.0) ∷ sym (ap (λ (z : Seated M). rest z.1) did.1) i))

  -- the slot of the next place is out, and a message was laid into it
  pub holds_laid : (side : Bool) (old mid new : Seated M) (slot : ℕ) (t : TurnNo) (x : M) → old.1 ≡ [] → slot ≡ put_slot side old → reserves side old mid → new ≡ (mid.0, (slot, Filled t x) ∷ rest mid.1) → new ≡ holding side old (Filled t x)
  holds_laid side old mid new slot t x none_out is did laid = laid ∙ ap (λ (z : Seated M). (z.0, (slot, Filled t x) ∷ rest z.1)) did.1 ∙ (λ i. (changed side old (set_putting (own side old) true), (is i, Filled t x) ∷ none_out i))

  pub is_laid : (side : Bool) (old new : Seated M) (t : TurnNo) (x : M) → has_end side old.0 ≡ true → new ≡ holding side old (Filled t x) → IsLaid side new
  is_laid true old new t x has is = subst (λ (z : Seated M). IsLaid true z) (sym is) (record { turn = t; message = x; has = has; is_out = refl; held = refl })
  is_laid false old new t x has is = subst (λ (z : Seated M). IsLaid false z) (sym is) (record { turn = t; message = x; has = has; is_out = refl; held = refl })

  pub fetched_slot : (side : Bool) (old mid : Seated M) (slot : ℕ) → slot ≡ take_slot side old → fetches side old mid → (y : MessageSlot M) × (mid.1 ≡ (slot, y) ∷ rest mid.1)
  fetched_slot side old mid slot is did = (Filled did.0 did.1, ap (λ (z : Seated M). z.1) did.3 ∙ (λ i. (sym is i, Filled did.0 did.1) ∷ sym (ap (λ (z : Seated M). rest z.1) did.3) i))

  -- the slot of the next known put is out, and was emptied
  pub holds_emptied : (side : Bool) (old mid new : Seated M) (slot : ℕ) (t : TurnNo) → old.1 ≡ [] → slot ≡ take_slot side old → fetches side old mid → new ≡ (mid.0, (slot, Empty t) ∷ rest mid.1) → new ≡ holding_taken side old (Empty t)
  holds_emptied side old mid new slot t none_out is did laid = laid ∙ ap (λ (z : Seated M). (z.0, (slot, Empty t) ∷ rest z.1)) did.3 ∙ (λ i. (changed side old (set_fetching (own side old) true), (is i, Empty t) ∷ none_out i))

  pub is_emptied : (side : Bool) (old new : Seated M) (t : TurnNo) (x : M) → has_end side old.0 ≡ true → get_elem? (own side old).known (length (got (own side old))) ≡ some x → new ≡ holding_taken side old (Empty t) → IsEmptied side new
  is_emptied true old new t x has next is = subst (λ (z : Seated M). IsEmptied true z) (sym is) (record { turn = t; message = x; has = has; is_out = refl; held = refl; next = next })
  is_emptied false old new t x has next is = subst (λ (z : Seated M). IsEmptied false z) (sym is) (record { turn = t; message = x; has = has; is_out = refl; held = refl; next = next })
