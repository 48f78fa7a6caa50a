-- The reports that were taken of all cores, in the order of the turns.
use Rattle.std.specs.Prelude.{◌≡◌, ℕ, ◌==◌, List, [], filter, map, slice_index_or}
use Rattle.std.specs.List.Sorted.{IsStrictlyIncreasing}
use Rattle.hj_base.specs.Journals.{Entry, taken}
use Rattle.hj_msg.specs.declared.message.Report.{Report}
use Rattle.hj_raw.specs.Items.{TakenReport}

module _ {P : Type 0} where
  abbrev pub turns_in : List (TakenReport P) → List ℕ
  turns_in reports = map (λ one. one.turn) reports

  -- the takes of a core's reports among these
  abbrev pub takes_of : ℕ → List (TakenReport P) → List (Entry (Report P))
  takes_of core reports = map (λ one. taken one.turn one.report) (filter (λ one. one.core == core) reports)

  -- These reports were taken, as the journals of the receivers tell, core by core. Their turns rise.
  pub record AreTaken (journals : List (List (Entry (Report P)))) (reports : List (TakenReport P)) : Type 0 where
    pub rising : IsStrictlyIncreasing (turns_in reports)
    pub each : (core : ℕ) → slice_index_or journals core [] ≡ takes_of core reports
