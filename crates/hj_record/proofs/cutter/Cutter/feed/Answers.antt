use Rattle.hj_record.proofs.Leads.{leads_from_takes}
use Rattle.hj_record.proofs.cutter.Cutter.feed.Goals as goal

pub returns-clause-leads : goal.returns-clause-leads
returns-clause-leads c = λ none. leads_from_takes _ _ _ _ c.take.ensures
