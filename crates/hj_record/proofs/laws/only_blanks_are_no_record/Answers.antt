use Rattle.hj_record.proofs.Blanks.{all_blank}
use Rattle.hj_record.proofs.laws.only_blanks_are_no_record.Goals as goal

pub returns : goal.returns
returns c = all_blank
