use Rattle.hj_event.proofs.OrderLaws.{rows_in_order, rows_as_read, ties_stay}
use Rattle.hj_event.proofs.laws.rows_are_in_order.Goals as goal

pub returns-clause-in_order : goal.returns-clause-in_order
returns-clause-in_order c = rows_in_order

pub returns-clause-ties : goal.returns-clause-ties
returns-clause-ties c = λ rows time. ties_stay time rows

pub returns-clause-without : goal.returns-clause-without
returns-clause-without c = rows_as_read
