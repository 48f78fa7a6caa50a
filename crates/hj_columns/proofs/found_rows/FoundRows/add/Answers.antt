use Rattle.hj_columns.proofs.Finding.{in_order-push}
use Rattle.hj_columns.proofs.found_rows.FoundRows.add.Goals as goal

pub returns-clause-order : goal.returns-clause-order
returns-clause-order g c = λ _ order.
    let pushed = in_order-push c.args.self.now c.push.new.self c.args.no c.args.row c.if-no-self.false c.in_ok-push.ensures.ok order in
    record { sorted = pushed.0; below = pushed.1 }
