-- The least of marks, with how many of them it is.
use Rattle.std.specs.Prelude.{◌≡◌, List, count_by}
use Rattle.std.specs.declared.option.Option.{Option}
use Rattle.hj_msg.specs.Punctuation.{Mark}
use Rattle.hj_collect.specs.declared.least.LeastMark.{LeastMark}
use Rattle.hj_collect.specs.declared.least.LeastNumber.{LeastNumber}
use Rattle.hj_collect.specs.declared.reach.Reach.TheVariants.{UpTo}
use Rattle.hj_collect.specs.Marks.{least_of, is_same}
use Rattle.hj_collect.specs.Reach.{reached}

pub record IsLeast (least : LeastMark) (marks : List (Option Mark)) : Type 0 where
  pub mark : reached least.mark ≡ least_of marks
  pub holders : least.holders ≡ count_by (is_same (reached least.mark)) marks

-- the same of numbers
abbrev pub IsLowest : LeastNumber → List (Option Mark) → Type 0
IsLowest lowest marks = IsLeast (record { mark = UpTo lowest.no; holders = lowest.holders }) marks
