use Rattle.hj_msg.proofs.ExampleLemmas.{is_run, is_complete}
use Rattle.hj_msg.proofs.examples.small_run.Goals as goal

pub returns-clause-run : goal.returns-clause-run
returns-clause-run c = is_run

pub returns-clause-complete : goal.returns-clause-complete
returns-clause-complete c = is_complete
