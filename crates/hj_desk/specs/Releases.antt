-- Pairs that are given of those that were met.
use Rattle.std.specs.Prelude.{◌≡◌, Bool, false, List, ◌++◌, IsPermutation}
use Rattle.hj_base.specs.Journals.{IsPrefix}
use Rattle.hj_msg.specs.declared.event.Pair.{Pair}
use Rattle.hj_msg.specs.declared.message.Report.{Report}
use Rattle.hj_msg.specs.Run.{Run, IsRun}
use Rattle.hj_msg.specs.Met.{AreReportsOf, met}
use Rattle.hj_msg.specs.Emission.{emitted}

-- Of these lists of reports, in whatever run they are: the pairs given are the first ones of those that are emitted, and as
-- long as memory lasted each other pair that was met is kept.
pub record Releases {P : Type 0} (lists : List (List (Report P))) (over : Bool) (kept given : List (Pair P)) : Type 0 where
  pub in_order : (run : Run P) → IsRun run → AreReportsOf run lists → IsPrefix given (emitted lists)
  pub others : over ≡ false → (run : Run P) → IsRun run → AreReportsOf run lists → IsPermutation (given ++ kept) (met lists)
