use Rattle.hj_msg.proofs.WithinPunctuation.{met_within}
use Rattle.hj_msg.proofs.Emitting.{emitted_is, emits_prefix, emits_all}
use Rattle.hj_msg.proofs.Growing.{punctuation_stays, emission_grows}
use Rattle.hj_msg.proofs.emission.punctuation_never_overtakes.Goals as goal

pub returns-clause-met : goal.returns-clause-met
returns-clause-met g c = λ run is lists of_run pair match h. met_within run is lists of_run pair match h

pub returns-clause-within : goal.returns-clause-within
returns-clause-within g c = λ run is lists of_run. emitted_is run is lists of_run

pub returns-clause-in_order : goal.returns-clause-in_order
returns-clause-in_order g c = λ run is lists of_run. emits_prefix run is lists of_run

pub returns-clause-whole : goal.returns-clause-whole
returns-clause-whole g c = λ run is. emits_all run is

pub returns-clause-stays : goal.returns-clause-stays
returns-clause-stays g c = λ run is lists longer are number h. punctuation_stays run is lists longer are number h

pub returns-clause-grows : goal.returns-clause-grows
returns-clause-grows g c = λ run is lists longer are. emission_grows run is lists longer are
