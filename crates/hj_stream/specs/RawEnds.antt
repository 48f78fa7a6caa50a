-- What is seen of a drain of raw items.
use Rattle.hj_base.specs.declared.output.Sent.{Sent}
use Rattle.hj_stream.specs.declared.raw.RawLineDrain.{RawLineDrain}

-- how it sent its last line
abbrev pub last_sent : {K : Type 0} → RawLineDrain K → Sent
last_sent drain = drain.last
