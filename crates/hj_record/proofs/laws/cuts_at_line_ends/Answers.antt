use Rattle.hj_record.proofs.Cuttings.{split_cuts, cut_is_split}
use Rattle.hj_record.proofs.laws.cuts_at_line_ends.Goals as goal

pub returns-clause-cut : goal.returns-clause-cut
returns-clause-cut c = split_cuts

pub returns-clause-only : goal.returns-clause-only
returns-clause-only c = cut_is_split
