use Rattle.hj_relay.proofs.ReadBack.{lines_read_back}
use Rattle.hj_relay.proofs.laws.relay_lines_read_back.Goals as goal

pub returns : goal.returns
returns c = lines_read_back
