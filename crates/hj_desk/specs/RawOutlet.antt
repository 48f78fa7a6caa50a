-- Raw items that are given.
use Rattle.std.specs.Prelude.{◌≡◌, ℕ, Bool, false, List, ◌++◌}
use Rattle.hj_base.specs.Journals.{IsPrefix}
use Rattle.hj_msg.specs.declared.drain.Drained.{Drained}
use Rattle.hj_msg.specs.declared.drain.Drained.TheVariants.{Kept, Refused}
use Rattle.hj_msg.specs.Punctuation.{punctuation}
use Rattle.hj_raw.specs.Drain.{AreKept, IsLastRefused, Offer, TakesItems, items_in}
use Rattle.hj_raw.specs.Items.{Item, TakenReport, lists_of, raw_items}
use Rattle.hj_desk.specs.declared.raw.RawOutlet.{RawOutlet}

-- How items were answered: each one was kept; or the last one was refused, and each other one kept.
abbrev pub AreAnswered : {P : Type 0} → Drained → List (Offer P) → Type 0
AreAnswered Kept offers = AreKept offers
AreAnswered Refused offers = IsLastRefused offers

-- The drain took items, the first ones of the raw items of these reports. As long as memory lasted the others wait, and the mark of the
-- reports is known.
pub record GivesRaw {P D : Type 0} (takes : D → Item P → Drained → D → Type 0) (begun : RawOutlet P D) (cores : ℕ) (taken : List (TakenReport P)) (over : Bool) (answer : Drained) (now : RawOutlet P D) : Type 0 where
  pub offers : List (Offer P)
  pub drain : TakesItems takes begun.drain offers now.drain
  pub answered : AreAnswered answer offers
  pub begins : IsPrefix (items_in offers) (raw_items cores taken)
  pub waits : over ≡ false → items_in offers ++ now.items.items ≡ raw_items cores taken
  pub mark : over ≡ false → now.items.mark ≡ punctuation (lists_of cores taken)
