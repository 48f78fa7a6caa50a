use Rattle.std.proofs.Common.{◌++◌, codes, ap, refl, sym, ◌∙◌}
use Rattle.hj_query.specs.Canonical.{pred_text}
use Rattle.hj_query.specs.Grammar.{columns_of}
use Rattle.hj_query.specs.Unwritten.{piece_text, unwritten}
use Rattle.hj_query.proofs.Writing.{two_more}
use Rattle.hj_query.proofs.canonical.nodes.push_piece.Goals as goal

pub returns-in_ok-push-in-Enclosed-2-clause-whole : goal.returns-in_ok-push-in-Enclosed-2-clause-whole
returns-in_ok-push-in-Enclosed-2-clause-whole c =
    let columns = columns_of c.args.query.now in
    two_more columns c.args.todo.now.items _ _ _ _ c.args.text.now.items _ (codes "(") (pred_text columns c.in-Enclosed.pred.now) (codes ")")
    c.in_ok-push_bytes-in-Enclosed.ensures c.in_ok-push-in-Enclosed.ensures.items c.in_ok-push-in-Enclosed-2.ensures.items refl refl
    ∙ ap (λ piece. (c.args.text.now.items ++ piece_text columns piece) ++ unwritten columns c.args.todo.now.items) (sym c.in-Enclosed.is)
