-- What stands of a real sink.
use Rattle.std.specs.Prelude.{ℕ}
use Rattle.hj_net.specs.declared.output.BehindOutput.{BehindOutput}
use Rattle.hj_net.specs.declared.sink.RealSink.{RealSink}

-- the writer that the sink writes to
abbrev pub writer_of : {W : Type 0} → RealSink W → W
writer_of sink = sink.writer

-- how often it failed or took nothing
abbrev pub faults_of : {W : Type 0} → RealSink W → ℕ
faults_of sink = sink.faults

-- the writer that stands behind an output
abbrev pub writer_behind : {W E : Type 0} → BehindOutput W E → E
writer_behind behind = behind.writer
