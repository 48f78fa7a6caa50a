-- What a write does to a sink: the bytes that it holds, where it tells them, its faults and its refusals.
use Rattle.std.specs.Prelude.{◌≡◌, ℕ, ◌≤◌, List, length, take}
use Rattle.std.specs.Io.KnownBytes.{Appends, Keeps}
use Rattle.std.specs.declared.option.Option.{Option}
use Rattle.hj_base.specs.declared.sink.Put.{Put}
use Rattle.hj_base.specs.declared.sink.Put.TheVariants as put
use Rattle.hj_base.specs.Counts.{Rose}

-- A front of the piece was appended, or nothing.
abbrev pub Writes : Put → List ℕ → Option (List ℕ) → Option (List ℕ) → Type 0
Writes (put.Wrote m) piece old new = (1 ≤ m) × (m ≤ length piece) × Appends old new (take m piece)
Writes put.Failed piece old new = Keeps old new
Writes put.Memory piece old new = Keeps old new

-- The count of faults never falls, and a write failed only where it rose.
abbrev pub CountsFault : Put → ℕ → ℕ → Type 0
CountsFault (put.Wrote m) old new = new ≡ old
CountsFault put.Failed old new = (old ≤ new) × Rose old new
CountsFault put.Memory old new = new ≡ old

-- The count of refusals never falls, and a write was refused, for a fault or for memory, only where it rose.
abbrev pub CountsRefusal : Put → ℕ → ℕ → Type 0
CountsRefusal (put.Wrote m) old new = new ≡ old
CountsRefusal put.Failed old new = (old ≤ new) × Rose old new
CountsRefusal put.Memory old new = (old ≤ new) × Rose old new
