use Rattle.hj_event.proofs.Whole.{are_quiet_within, are_quiet_only_after}
use Rattle.hj_event.proofs.laws.silence_is_told.Goals as goal

pub returns-clause-within : goal.returns-clause-within
returns-clause-within c = are_quiet_within

pub returns-clause-only_after : goal.returns-clause-only_after
returns-clause-only_after c = are_quiet_only_after
