use Rattle.hj_msg.proofs.MetOnce.{met_once}
use Rattle.hj_msg.proofs.OnlyMatches.{met_only_matches}
use Rattle.hj_msg.proofs.AllMet.{met_all, met_at_its_place}
use Rattle.hj_msg.proofs.Emitting.{meets_the_join}
use Rattle.hj_msg.proofs.meeting.matches_are_met_once.Goals as goal

pub returns-clause-once : goal.returns-clause-once
returns-clause-once g c = λ run is lists of_run i j. met_once run is i j lists of_run

pub returns-clause-only : goal.returns-clause-only
returns-clause-only g c = λ run is lists of_run pair h. met_only_matches run is lists of_run pair h

pub returns-clause-each : goal.returns-clause-each
returns-clause-each g c = λ run is lists of_run pair match all. met_all run is lists of_run pair match all

pub returns-clause-place : goal.returns-clause-place
returns-clause-place g c = λ run is lists of_run pair match all. met_at_its_place run is lists of_run pair match all

pub returns-clause-complete : goal.returns-clause-complete
returns-clause-complete g c = λ run is. meets_the_join run is
