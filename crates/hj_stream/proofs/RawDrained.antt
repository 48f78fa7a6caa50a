-- What a drain of raw items sent, item by item.
use Rattle.std.proofs.Common.{◌≡◌, ℕ, zero, suc, List, [], ◌∷◌, ◌++◌, map, replicate, refl, sym, ap, subst, ◌∙◌}
use Rattle.std.proofs.KnownBytes.{Appends-nil, Appends-trans}
use Rattle.std.specs.Io.KnownBytes.{Appends}
use Rattle.hj_value.specs.declared.field.Field.{Field}
use Rattle.hj_msg.specs.declared.drain.Drained.{Drained}
use Rattle.hj_msg.specs.declared.drain.Drained.TheVariants.{Kept, Refused}
use Rattle.hj_raw.specs.Drain.{AreKept, Offer, TakesItems, items_in}
use Rattle.hj_raw.specs.Items.{Item}
use Rattle.hj_raw.specs.Text.{item_text, raw_text}
use Rattle.hj_stream.specs.Draining.{SendsLine}
use Rattle.hj_stream.proofs.Drained.{Draining, SendsFront, line_before, line_kept, line_refused}

module _ {D : Type 0} (takes : D → Item (List Field) → Drained → D → Type 0) (view : D → Draining)
    (each : (old : D) (item : Item (List Field)) (answer : Drained) (new : D) → takes old item answer new → SendsLine (item_text item) answer (view new).last (view old).told (view new).told (view old).faults (view new).faults) where
  pub all_items_kept : (offers : List (Offer (List Field))) (from to : D) → TakesItems takes from offers to → AreKept offers → Appends (view from).told (view to).told (raw_text (items_in offers)) × ((view to).faults ≡ (view from).faults)
  all_items_kept [] from to all kept = subst (λ (d : D). Appends (view from).told (view d).told [] × ((view d).faults ≡ (view from).faults)) (sym all) (Appends-nil (view from).told, refl)
  all_items_kept (one ∷ later) from to all kept =
      let first = line_kept (item_text one.item) one.answer (view from) (view all.0) (each from one.item one.answer all.0 all.1) (cc) in
      let rest = all_items_kept later all.0 to all.2 (cc) in
      (Appends-trans (view from).told (view all.0).told (view to).told (item_text one.item) (raw_text (items_in later)) first.0 rest.0, rest.1 ∙ first.1)

  pub last_item_refused : (kept : ℕ) (offers : List (Offer (List Field))) (from to : D) → TakesItems takes from offers to → map (λ one. one.answer) offers ≡ replicate kept Kept ++ Refused ∷ [] → SendsFront (raw_text (items_in offers)) (view from) (view to)
  last_item_refused zero [] from to all answers = absurd (let wrong : [] ≡ Refused ∷ [] = answers in cc)
  last_item_refused (suc kept) [] from to all answers = absurd (let wrong : [] ≡ Kept ∷ (replicate kept Kept ++ Refused ∷ []) = answers in cc)
  last_item_refused zero (one ∷ []) from to all answers =
      let refused : one.answer ≡ Refused = cc in
      subst (λ (d : D). SendsFront (raw_text (one.item ∷ [])) (view from) (view d)) (sym all.2)
      (line_refused (item_text one.item) one.answer (view from) (view all.0) (each from one.item one.answer all.0 all.1) refused)
  last_item_refused zero (one ∷ other ∷ later) from to all answers = absurd (let wrong : one.answer ∷ other.answer ∷ map (λ o. o.answer) later ≡ Refused ∷ [] = answers in cc)
  last_item_refused (suc kept) (one ∷ later) from to all answers =
      let first = line_kept (item_text one.item) one.answer (view from) (view all.0) (each from one.item one.answer all.0 all.1) (cc) in
      line_before (item_text one.item) (raw_text (items_in later)) (view from) (view all.0) (view to) first (last_item_refused kept later all.0 to all.2 (cc))

-- what every item keeps, all keep
pub kept_by_items : {P D X : Type 0} (takes : D → Item P → Drained → D → Type 0) (of : D → X) → ((old : D) (item : Item P) (answer : Drained) (new : D) → takes old item answer new → of new ≡ of old) → (offers : List (Offer P)) (from to : D)
    → TakesItems takes from offers to → of to ≡ of from
kept_by_items takes of each [] from to all = ap of all
kept_by_items takes of each (one ∷ later) from to all = kept_by_items takes of each later all.0 to all.2 ∙ each from one.item one.answer all.0 all.1
