use Rattle.hj_desk.proofs.Runs.{lawful-over, is_run, all_reports, begins_join}
use Rattle.hj_desk.proofs.Whole.{whole_join}
use Rattle.hj_desk.proofs.laws.desks_give_the_join.Goals as goal

pub returns-clause-lawful : goal.returns-clause-lawful
returns-clause-lawful g c = λ desk feed history stood. lawful-over desk.driver.flight desk.next feed _ history.events stood.drives.stands.lawful stood.fed

pub returns-clause-run : goal.returns-clause-run
returns-clause-run g c = λ workers desk feed history stood parts. is_run workers desk feed history stood parts

pub returns-clause-reports : goal.returns-clause-reports
returns-clause-reports g c = λ workers desk feed history stood parts. all_reports workers desk feed history stood parts

pub returns-clause-in_order : goal.returns-clause-in_order
returns-clause-in_order g c = λ workers desk feed history stood parts over kept given released. begins_join workers desk feed history stood parts over kept given released

pub returns-clause-whole : goal.returns-clause-whole
returns-clause-whole g c = λ workers desk feed history stood parts uncut done given released. whole_join workers desk feed history stood parts uncut done given released
