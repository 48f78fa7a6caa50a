use Rattle.std.proofs.Common.{◌≡◌, fold, take}
use Rattle.hj_index.specs.Keys.{mixed}
use Rattle.hj_index.proofs.keys.mixed_bytes.Given as goal

abbrev pub invariant-loop-byte : goal.invariant-loop-byte
invariant-loop-byte l = l.key ≡ fold mixed 14695981039346656037 (take l.byte-index l.bytes)
