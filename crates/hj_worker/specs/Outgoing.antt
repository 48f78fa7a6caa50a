-- What a worker puts for a message, one thing after another, and what its takes and puts leave in the journals of its ends.
use Rattle.std.specs.Prelude.{ℕ, ◌+◌, Bool, List, [], ◌∷◌, ◌++◌, length, map, fold, option_to_list, None}
use Rattle.std.specs.declared.option.Option.{Option}
use Rattle.hj_base.specs.declared.numbers.Side.{Side}
use Rattle.hj_base.specs.declared.numbers.Side.TheVariants.{Left, Right}
use Rattle.hj_base.specs.Journals.{Entry, put, taken}
use Rattle.hj_msg.specs.declared.message.Msg.{Msg}
use Rattle.hj_msg.specs.declared.message.Report.{Report}
use Rattle.hj_msg.specs.Core.{State, Sends, sends, report}
use Rattle.hj_core.specs.declared.way.Way.{Way}
use Rattle.hj_core.specs.Sent.{passed_on}

-- one thing that is put: a message on the left link or on the right one, or a report
pub data Outgoing (P : Type 0) : Type 0 where
  leftwards : (message : Msg P) → Outgoing P
  rightwards : (message : Msg P) → Outgoing P
  reported : (entry : Report P) → Outgoing P

-- the journals of the ends of a worker: at its left link, at its right one, and of its reports
pub record Journals (P : Type 0) : Type 0 where
  pub left : List (Entry (Msg P))
  pub right : List (Entry (Msg P))
  pub reports : List (Entry (Report P))

module _ {P : Type 0} where
  -- what goes to the left, then what goes to the right, then the report
  abbrev pub in_order : Sends P → Option (Report P) → List (Outgoing P)
  in_order sent entry = map leftwards sent.left ++ (map rightwards sent.right ++ map reported (option_to_list entry))

  -- All that the core of this place among `n` sends and reports of a message, in order.
  abbrev pub outgoing : (P → P → Bool) → ℕ → ℕ → State P → Msg P → List (Outgoing P)
  outgoing matches place n state message = in_order (sends place n message) (report matches state message)

  -- what is put of a message that goes on this way, and of which nothing is reported
  abbrev pub passed : Way → Msg P → List (Outgoing P)
  passed way message = in_order (passed_on way message) None

  -- the journals with one more put, under the number of a turn
  abbrev pub with_put : ℕ → Journals P → Outgoing P → Journals P
  with_put number journals (leftwards message) = record journals { left = journals.left ++ put number message ∷ [] }
  with_put number journals (rightwards message) = record journals { right = journals.right ++ put number message ∷ [] }
  with_put number journals (reported entry) = record journals { reports = journals.reports ++ put number entry ∷ [] }

  -- the journals with more puts
  abbrev pub with_puts : ℕ → Journals P → List (Outgoing P) → Journals P
  with_puts number journals items = fold (with_put number) journals items

  -- the journals with one more take, at an end
  abbrev pub with_take : ℕ → Side → Msg P → Journals P → Journals P
  with_take number Left message journals = record journals { left = journals.left ++ taken number message ∷ [] }
  with_take number Right message journals = record journals { right = journals.right ++ taken number message ∷ [] }

  -- how many takes and puts there are
  abbrev pub entries_in : Journals P → ℕ
  entries_in journals = length journals.left + length journals.right + length journals.reports
