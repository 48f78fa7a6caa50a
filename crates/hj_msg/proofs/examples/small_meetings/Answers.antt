use Rattle.hj_msg.proofs.MeetingExampleLemmas.{left_first_meets, between_meets, right_first_meets}
use Rattle.hj_msg.proofs.examples.small_meetings.Goals as goal

pub returns-clause-left_first : goal.returns-clause-left_first
returns-clause-left_first c = left_first_meets

pub returns-clause-between : goal.returns-clause-between
returns-clause-between c = between_meets

pub returns-clause-right_first : goal.returns-clause-right_first
returns-clause-right_first c = right_first_meets
