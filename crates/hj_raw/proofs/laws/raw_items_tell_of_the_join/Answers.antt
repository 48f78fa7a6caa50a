use Rattle.hj_raw.proofs.Telling.{tells, tells_all}
use Rattle.hj_raw.proofs.laws.raw_items_tell_of_the_join.Goals as goal

pub returns-clause-tells : goal.returns-clause-tells
returns-clause-tells g c = λ run is taken are. tells run is taken are

pub returns-clause-all : goal.returns-clause-all
returns-clause-all g c = λ run is complete taken are all_taken. tells_all run is taken are complete all_taken
