use Rattle.hj_event.proofs.Whole.{are_well_formed}
use Rattle.hj_event.proofs.laws.events_are_well_formed.Goals as goal

pub returns : goal.returns
returns c = are_well_formed
