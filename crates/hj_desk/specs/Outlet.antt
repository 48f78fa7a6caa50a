-- What becomes of the reports that are taken of the cores.
use Rattle.std.specs.Prelude.{◌≡◌, ℕ, ◌<◌, Bool, true, false, List, [], ◌∷◌, ◌++◌}
use Rattle.hj_msg.specs.declared.drain.Drained.{Drained}
use Rattle.hj_msg.specs.declared.drain.Drained.TheVariants.{Kept}
use Rattle.hj_msg.specs.declared.message.Report.{Report}
use Rattle.hj_collect.specs.Collector.{CollectorState}
use Rattle.hj_collect.specs.StandsFor as collect
use Rattle.hj_raw.specs.Items.{TakenReport, lists_of}

-- A report was taken of one of so many cores behind others, and the collector took note of all of them.
pub record IsNoted {P : Type 0} (collector : CollectorState) (cores : ℕ) (taken : List (TakenReport P))
    (next : TakenReport P) : Type 0 where
  pub known : next.core < cores
  pub follows : collect.StandsFor collector (lists_of cores (taken ++ next ∷ []))

module _ {P O : Type 0} (gave : O → ℕ → List (TakenReport P) → Bool → Drained → O → Type 0) (collector : CollectorState) where
  -- What an outlet gave of the reports before this one, it gave of those with this one.
  abbrev pub KeepsReport : Report P → O → O → Type 0
  KeepsReport report old new =
      (begun : O) (cores : ℕ) (taken : List (TakenReport P)) (next : TakenReport P) (over : Bool) → next.report ≡ report → IsNoted collector cores taken next → gave begun cores taken over Kept old → gave begun cores (taken ++ next ∷ []) over Kept new

  -- the same, but that memory ran out
  abbrev pub LosesReport : Report P → O → O → Type 0
  LosesReport report old new =
      (begun : O) (cores : ℕ) (taken : List (TakenReport P)) (next : TakenReport P) (over : Bool) → next.report ≡ report → IsNoted collector cores taken next → gave begun cores taken over Kept old → gave begun cores (taken ++ next ∷ []) true Kept new

  -- Where all that an outlet gave was kept, it gave more, the last of which had this answer.
  abbrev pub GivesDue : Drained → O → O → Type 0
  GivesDue answer old new = (begun : O) (cores : ℕ) (taken : List (TakenReport P)) → collect.StandsFor collector (lists_of cores taken) → gave begun cores taken false Kept old → gave begun cores taken false answer new
