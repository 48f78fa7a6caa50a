use Rattle.hj_query.specs.Grammar.{columns_of}
use Rattle.hj_query.proofs.Writing.{piece_taken}
use Rattle.hj_query.proofs.canonical.nodes.push_pred.Goals as goal

pub pieces-preserved : goal.pieces-preserved
pieces-preserved c =
    piece_taken (columns_of c.args.query.now) c.pieces.todo.items c.pop.new.self.items c.in-Some.piece c.pieces.text.items _ _
    c.in-Some.ensures.items c.in_ok-push_piece.ensures.whole c.pieces.invariant
