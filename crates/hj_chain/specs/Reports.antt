-- What is seen of the queues in which the cores' reports wait to be collected.
use Rattle.std.specs.Prelude.{ℕ, List, [], replicate, slice_index_or}
use Rattle.hj_msg.specs.declared.message.Report.{Report}

pub record ReportQueues (P : Type 0) : Type 0 where
  -- how many reports each queue holds at most
  pub capacity : ℕ
  -- the queue of each core, the report that was put first in front
  pub queues : List (List (Report P))

-- the queues of n cores, with no reports
abbrev pub no_reports : {P : Type 0} → ℕ → ℕ → ReportQueues P
no_reports n capacity = record { capacity = capacity; queues = replicate n [] }

abbrev pub queue_at : {P : Type 0} → List (List (Report P)) → ℕ → List (Report P)
queue_at queues place = slice_index_or queues place []
