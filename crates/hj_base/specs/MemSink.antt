-- A sink that keeps its bytes in memory, and fails at the writes that were listed.
use Rattle.std.specs.Prelude.{◌≡◌, ◌++◌, ℕ, List, Contains, length, min, take}
use Rattle.hj_base.specs.declared.sink.Put.{Put}
use Rattle.hj_base.specs.declared.sink.Put.TheVariants as put
use Rattle.hj_base.specs.Counts.{one_more}

pub record SinkState : Type 0 where
  -- what was written
  pub bytes : List ℕ
  -- the most bytes that one write takes
  pub chunk : ℕ
  -- how many writes were answered, but for those that were refused for memory
  pub writes : ℕ
  -- the writes that fail, counted from 1
  pub failing : List ℕ
  pub faults : ℕ
  pub refusals : ℕ

-- The next write is one of those that fail.
abbrev pub IsFailing : SinkState → Type 0
IsFailing sink = Contains sink.failing (one_more sink.writes)

-- the sink after a write of a piece was answered
abbrev pub after_write : Put → List ℕ → SinkState → SinkState
after_write (put.Wrote m) piece old = record old { bytes = old.bytes ++ take m piece; writes = one_more old.writes }
after_write put.Failed piece old = record old { writes = one_more old.writes; faults = one_more old.faults; refusals = one_more old.refusals }
after_write put.Memory piece old = record old { refusals = one_more old.refusals }

-- A write takes as many bytes as it may.
abbrev pub TakesAll : Put → ℕ → List ℕ → Type 0
TakesAll (put.Wrote m) chunk piece = m ≡ min chunk (length piece)
TakesAll put.Failed chunk piece = Unit {0}
TakesAll put.Memory chunk piece = Unit {0}
