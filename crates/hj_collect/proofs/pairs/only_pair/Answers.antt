use Rattle.std.proofs.Common.{sym, ◌∙◌}
use Rattle.hj_collect.proofs.PairLists.{only}
use Rattle.hj_collect.proofs.pairs.only_pair.Goals as goal

pub returns-clause-one : goal.returns-clause-one
returns-clause-one g c =
    only c.args.report.now c.in-Handled.side c.in-Handled.no c.in-Handled.row c.in-Handled.partners c.in-Some.partner.now c.in_ok-of.field-0 c.in-Handled.is (sym c.len.ensures ∙ c.if-len-ne1.false) c.in-Some.ensures
    c.in_ok-of.ensures
