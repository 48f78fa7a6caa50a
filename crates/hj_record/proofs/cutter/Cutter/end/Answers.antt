use Rattle.std.proofs.Common.{true, rules}
use Rattle.hj_record.specs.declared.fault.PieceFault.TheVariants as fault
use Rattle.hj_record.specs.declared.cutter.Fed.TheVariants as fed
use Rattle.hj_record.specs.contracts.cutter.Cutter.{the_view}
use Rattle.hj_record.proofs.Leads.{leads_from_closes}
use Rattle.hj_record.proofs.cutter.Cutter.end.Goals as goal

pub returns-then-self-clause-leads : goal.returns-then-self-clause-leads
returns-then-self-clause-leads c = λ none.
    rw c.fail.ensures.answer (leads_from_closes (fed.Bad fault.OpenQuote) c.args.self.now c.fail.new.self (search rules) (search rules) (search rules))

pub returns-clause-leads : goal.returns-clause-leads
returns-clause-leads c = λ none.
    let old = the_view c.self.inside in
    rw (← c.self.view_is) (leads_from_closes (fed.Piece 0) old (record old { whole = true }) (search rules) (search rules) (search rules))
