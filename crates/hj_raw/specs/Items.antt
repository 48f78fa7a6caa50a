-- What is written of the cores' reports as they are taken: the pairs that they met, and between them marks that tell up to which
-- number all pairs have come (punctuation: Roy, Teubner and Gemulla, PVLDB 2014).
use Rattle.std.specs.Prelude.{ℕ, List, [], ◌∷◌, ◌++◌, map, fold, replicate, None, Some, if◌then◌else◌}
use Rattle.std.specs.declared.option.Option.{Option}
use Rattle.hj_msg.specs.declared.event.Pair.{Pair}
use Rattle.hj_msg.specs.declared.message.Report.{Report}
use Rattle.hj_msg.specs.Met.{pairs_of}
use Rattle.hj_msg.specs.Punctuation.{Mark, punctuation}
use Rattle.hj_collect.specs.Marks.{is_same}
use Rattle.hj_collect.specs.StandsFor.{with_report}

pub data Item (P : Type 0) : Type 0 where
  joined : Pair P → Item P
  marked : Mark → Item P

-- a report that was taken of the core at a place, under the number of a turn
pub record TakenReport (P : Type 0) : Type 0 where
  pub turn : ℕ
  pub core : ℕ
  pub report : Report P

-- the reports of each core, with one more
abbrev pub with_taken : {P : Type 0} → List (List (Report P)) → TakenReport P → List (List (Report P))
with_taken lists taken = with_report taken.core taken.report lists

-- the reports of each of so many cores, of those that were taken
abbrev pub lists_of : {P : Type 0} → ℕ → List (TakenReport P) → List (List (Report P))
lists_of cores taken = fold with_taken (replicate cores []) taken

-- the mark behind a report: the punctuation, where there is one that differs from that before the report
abbrev pub mark_behind : {P : Type 0} → Option Mark → Option Mark → List (Item P)
mark_behind before None = []
mark_behind before (Some now) = if is_same before (Some now) then [] else marked now ∷ []

-- The items of a report, behind those whose lists these are: its pairs, and then the mark.
abbrev pub items_of_report : {P : Type 0} → List (List (Report P)) → TakenReport P → List (Item P)
items_of_report lists taken = map joined (pairs_of taken.report) ++ mark_behind (punctuation lists) (punctuation (with_taken lists taken))

-- the items of reports, one report after another, behind those whose lists these are
abbrev pub items_behind : {P : Type 0} → List (List (Report P)) → List (TakenReport P) → List (Item P)
items_behind lists [] = []
items_behind lists (first ∷ later) = items_of_report lists first ++ items_behind (with_taken lists first) later

-- The raw items of the reports that were taken of so many cores.
abbrev pub raw_items : {P : Type 0} → ℕ → List (TakenReport P) → List (Item P)
raw_items cores taken = items_behind (replicate cores []) taken
