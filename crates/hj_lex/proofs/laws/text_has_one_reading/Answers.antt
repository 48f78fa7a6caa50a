use Rattle.hj_lex.proofs.Reading.{has_reading, has_one_reading}
use Rattle.hj_lex.proofs.laws.text_has_one_reading.Goals as goal

pub returns-clause-some : goal.returns-clause-some
returns-clause-some c = has_reading

pub returns-clause-one : goal.returns-clause-one
returns-clause-one c = has_one_reading
