-- How a run ends that gives the raw items of its reports.
use Rattle.std.specs.Prelude.{◌≡◌, Bool, true, List}
use Rattle.hj_base.specs.Journals.{IsPrefix}
use Rattle.hj_msg.specs.declared.fin.Fin.{Fin}
use Rattle.hj_msg.specs.declared.fin.Fin.TheVariants as fin
use Rattle.hj_raw.specs.Drain.{AreKept, IsLastRefused, Offer, items_in}
use Rattle.hj_raw.specs.Items.{Item}

-- Where all is done, no event is to come, and the drain kept all of these items; else it took the first of them.
abbrev pub EndsRaw : {P : Type 0} → Fin → Bool → List (Offer P) → List (Item P) → Type 0
EndsRaw fin.Done stopped offers items = (stopped ≡ true) × AreKept offers × (items_in offers ≡ items)
EndsRaw fin.Refused stopped offers items = IsLastRefused offers × IsPrefix (items_in offers) items
EndsRaw fin.Memory stopped offers items = AreKept offers × IsPrefix (items_in offers) items
