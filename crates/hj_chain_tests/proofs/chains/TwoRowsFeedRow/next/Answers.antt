use Rattle.std.proofs.Common.{◌∙◌, arith}
use Rattle.hj_chain_tests.proofs.TwoRows.{gives-row, first_row, later_row}
use Rattle.hj_chain_tests.proofs.chains.TwoRowsFeedRow.next.Goals.{then-self-eq0, else-self-eq0}
use Rattle.hj_chain_tests.proofs.chains.TwoRowsFeedRow.next.Goals as goal

pub returns-clause-answers : goal.returns-clause-answers
returns-clause-answers c =
    gives-row c.args.self.now.first c.if-self-eq0.side c.args.self.now.given c.args.self.now.stopped _ (omega (arith, c.args.self.now.few, c.if-self-eq2.false)) c.if-self.false
    (elim c.if-self-eq0.branch [
      | then-self-eq0 w ↦ w.side-is ∙ first_row c.args.self.now.first c.args.self.now.given w.if-self-eq0.true
      | else-self-eq0 w ↦ later_row c.args.self.now.first c.if-self-eq0.side c.args.self.now.given w.if-self-eq0.false (w.side-is ∙ w.other-side.ensures)
    ])
