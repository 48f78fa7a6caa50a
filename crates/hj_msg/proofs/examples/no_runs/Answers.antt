use Rattle.hj_msg.proofs.NoRunLemmas.{not_unacknowledged, not_early, not_overfull, not_crossed, keeps_all_else}
use Rattle.hj_msg.proofs.examples.no_runs.Goals as goal

pub returns-clause-unacknowledged : goal.returns-clause-unacknowledged
returns-clause-unacknowledged c = not_unacknowledged

pub returns-clause-early_report : goal.returns-clause-early_report
returns-clause-early_report c = not_early

pub returns-clause-overfull : goal.returns-clause-overfull
returns-clause-overfull c = not_overfull

pub returns-clause-crossed : goal.returns-clause-crossed
returns-clause-crossed c = not_crossed

pub returns-clause-crossed_keeps_all_else : goal.returns-clause-crossed_keeps_all_else
returns-clause-crossed_keeps_all_else c = keeps_all_else
