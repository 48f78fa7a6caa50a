use Rattle.hj_relay.proofs.ReadBack.{relay_read_back}
use Rattle.hj_relay.proofs.laws.relay_reads_back.Goals as goal

pub returns : goal.returns
returns c = relay_read_back
