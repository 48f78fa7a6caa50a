use Rattle.hj_collect.proofs.Following.{new_follows, least_follows, ended_follows}
use Rattle.hj_collect.proofs.laws.collectors_follow_their_reports.Goals as goal

pub returns-clause-new : goal.returns-clause-new
returns-clause-new g c = new_follows

pub returns-clause-punctuation : goal.returns-clause-punctuation
returns-clause-punctuation g c = least_follows

pub returns-clause-ended : goal.returns-clause-ended
returns-clause-ended g c = ended_follows
