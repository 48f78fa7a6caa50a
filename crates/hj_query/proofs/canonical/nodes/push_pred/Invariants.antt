use Rattle.std.proofs.Common.{◌≡◌, ◌++◌}
use Rattle.hj_query.specs.Canonical.{pred_text}
use Rattle.hj_query.specs.Grammar.{columns_of}
use Rattle.hj_query.specs.Unwritten.{turns, unwritten}
use Rattle.hj_query.proofs.canonical.nodes.push_pred.Given as goal

abbrev pub invariant-pieces : goal.invariant-pieces
invariant-pieces l =
    l.text.items ++ unwritten (columns_of l.query) l.todo.items ≡ l.fn.text.items ++ pred_text (columns_of l.query) l.pred

abbrev pub decreases-pieces : goal.decreases-pieces
decreases-pieces l = turns l.todo.items
