use Rattle.hj_relay.proofs.Pairs.{times_never_fall}
use Rattle.hj_relay.proofs.laws.relay_times_never_fall.Goals as goal

pub returns : goal.returns
returns c = times_never_fall
