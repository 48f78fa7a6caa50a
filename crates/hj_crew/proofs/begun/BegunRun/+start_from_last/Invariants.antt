use Rattle.std.proofs.Common.{vec_len}
use Rattle.hj_crew.proofs.begun.BegunRun.+start_from_last.Given as goal

abbrev pub decreases-start_from_last : goal.decreases-start_from_last
decreases-start_from_last g l = vec_len l.self.now.teams
