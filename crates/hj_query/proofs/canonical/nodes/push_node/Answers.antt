use Rattle.std.proofs.Common.{◌++◌, ◌||◌, codes, ap, refl, sym, ◌∙◌}
use Rattle.hj_query.specs.Canonical.{enclosed_if, is_and, is_or, pred_text}
use Rattle.hj_query.specs.Grammar.{columns_of}
use Rattle.hj_query.specs.Unwritten.{unwritten}
use Rattle.hj_query.proofs.Writing.{one_more, three_more}
use Rattle.hj_query.proofs.canonical.nodes.push_node.Goals as goal

pub returns-in_ok-push-in-Or-3-clause-whole : goal.returns-in_ok-push-in-Or-3-clause-whole
returns-in_ok-push-in-Or-3-clause-whole c =
    let columns = columns_of c.args.query.now in
    let right = c.in-Or.right.value in
    three_more columns c.args.todo.now.items _ _ _ _ _ _ c.args.text.now.items (pred_text columns c.in-Or.left.value) (codes " or ") (enclosed_if (is_or right) (pred_text columns right))
    c.in_ok-push-in-Or.ensures.items c.in_ok-push-in-Or-2.ensures.items c.in_ok-push-in-Or-3.ensures.items
    (ap (pred_text columns) c.deref-in-Or-2.ensures) refl
    (c.operand.ensures.text columns ∙ ap (λ needed. enclosed_if needed (pred_text columns c.deref.result.now)) (c.is_or.ensures ∙ ap is_or c.deref-in-Or.ensures) ∙ ap (λ pred. enclosed_if (is_or right) (pred_text columns pred)) c.deref.ensures)
    ∙ ap (λ pred. (c.args.text.now.items ++ pred_text columns pred) ++ unwritten columns c.args.todo.now.items) (sym c.in-Or.is)

pub returns-in_ok-push-in-And-3-clause-whole : goal.returns-in_ok-push-in-And-3-clause-whole
returns-in_ok-push-in-And-3-clause-whole c =
    let columns = columns_of c.args.query.now in
    let left = c.in-And.left.value in
    let right = c.in-And.right.value in
    three_more columns c.args.todo.now.items _ _ _ _ _ _ c.args.text.now.items (enclosed_if (is_or left) (pred_text columns left)) (codes " and ") (enclosed_if (is_or right || is_and right) (pred_text columns right))
    c.in_ok-push-in-And.ensures.items c.in_ok-push-in-And-2.ensures.items c.in_ok-push-in-And-3.ensures.items
    (c.operand-in-And-2.ensures.text columns ∙ ap (λ needed. enclosed_if needed (pred_text columns c.deref-in-And-3.result.now)) (c.is_or-in-And.ensures ∙ ap is_or c.deref-in-And-4.ensures) ∙ ap (λ pred. enclosed_if (is_or left) (pred_text columns pred)) c.deref-in-And-3.ensures)
    refl
    (c.operand-in-And.ensures.text columns ∙ ap (λ needed. enclosed_if needed (pred_text columns c.deref-in-And.result.now)) (c.is_joined.ensures ∙ ap (λ pred. is_or pred || is_and pred) c.deref-in-And-2.ensures) ∙ ap (λ pred. enclosed_if (is_or right || is_and right) (pred_text columns pred)) c.deref-in-And.ensures)
    ∙ ap (λ pred. (c.args.text.now.items ++ pred_text columns pred) ++ unwritten columns c.args.todo.now.items) (sym c.in-And.is)

pub returns-in_ok-push-in-Not-clause-whole : goal.returns-in_ok-push-in-Not-clause-whole
returns-in_ok-push-in-Not-clause-whole c =
    let columns = columns_of c.args.query.now in
    let inner = c.in-Not.inner.value in
    one_more columns c.args.todo.now.items _ _ c.args.text.now.items _ (codes "not ") (enclosed_if (is_or inner || is_and inner) (pred_text columns inner))
    c.in_ok-push_bytes-in-Not.ensures c.in_ok-push-in-Not.ensures.items
    (c.operand-in-Not.ensures.text columns ∙ ap (λ needed. enclosed_if needed (pred_text columns c.deref-in-Not.result.now)) (c.is_joined-in-Not.ensures ∙ ap (λ pred. is_or pred || is_and pred) c.deref-in-Not-2.ensures) ∙ ap (λ pred. enclosed_if (is_or inner || is_and inner) (pred_text columns pred)) c.deref-in-Not.ensures)
    ∙ ap (λ pred. (c.args.text.now.items ++ pred_text columns pred) ++ unwritten columns c.args.todo.now.items) (sym c.in-Not.is)
