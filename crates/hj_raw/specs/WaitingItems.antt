-- Items that wait to be written.
use Rattle.std.specs.Prelude.{List, [], ◌++◌, map, None}
use Rattle.std.specs.declared.option.Option.{Option}
use Rattle.hj_msg.specs.declared.message.Report.{Report}
use Rattle.hj_msg.specs.Met.{pairs_of}
use Rattle.hj_msg.specs.Punctuation.{Mark as Meaning}
use Rattle.hj_collect.specs.Marks.{meaning}
use Rattle.hj_raw.specs.declared.item.RawItem.{RawItem}
use Rattle.hj_raw.specs.declared.item.RawItem.TheVariants.{Pair, Mark}
use Rattle.hj_raw.specs.Items.{Item, joined, marked, mark_behind}

-- the items that wait, and the mark of the reports so far
pub record WaitingItems (P : Type 0) : Type 0 where
  pub items : List (Item P)
  pub mark : Option Meaning

module _ {P : Type 0} where
  abbrev pub item_of : RawItem P → Item P
  item_of (Pair pair) = joined pair
  item_of (Mark mark) = marked (meaning mark)

  abbrev pub items_of : List (RawItem P) → List (Item P)
  items_of items = map item_of items

  -- no report was kept
  abbrev pub nothing_waits : WaitingItems P
  nothing_waits = record { items = []; mark = None }

  -- with the items of a report more, behind which this is the mark
  abbrev pub with_report : Report P → Option Meaning → WaitingItems P → WaitingItems P
  with_report report mark old = record { items = (old.items ++ map joined (pairs_of report)) ++ mark_behind old.mark mark; mark = mark }
