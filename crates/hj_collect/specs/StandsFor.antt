-- A collector stands for lists of reports, one for each core: it keeps the marks that they give.
use Rattle.std.specs.Prelude.{◌≡◌, ℕ, List, [], ◌∷◌, ◌++◌, map, slice_set, slice_index_or}
use Rattle.hj_base.specs.declared.numbers.Side.TheVariants.{Left, Right}
use Rattle.hj_msg.specs.declared.message.Report.{Report}
use Rattle.hj_msg.specs.Punctuation.{mark_of}
use Rattle.hj_collect.specs.Collector.{CollectorState}

pub record StandsFor {P : Type 0} (collector : CollectorState) (lists : List (List (Report P))) : Type 0 where
  pub left : collector.left ≡ map (mark_of Left) lists
  pub right : collector.right ≡ map (mark_of Right) lists

-- the lists with one report more of a core, behind those that it has
abbrev pub with_report : {P : Type 0} → ℕ → Report P → List (List (Report P)) → List (List (Report P))
with_report core report lists = slice_set lists core (slice_index_or lists core [] ++ report ∷ [])
