use Rattle.std.proofs.Common.{arith}
use Rattle.hj_trace.proofs.Streams.{stands_next}
use Rattle.hj_trace.proofs.stream.TextStream.look_further.Goals as goal

pub returns-in-Bytes-clause-next : goal.returns-in-Bytes-clause-next
returns-in-Bytes-clause-next g c = stands_next c.read.new.buf 0 c.in-Bytes.count (omega (arith, c.in-Bytes.ensures.reads.0)) (omega (arith, c.in-Bytes.ensures.reads.1))
