use Rattle.std.proofs.Common.{◌≡◌, ◌-◌, get_or, false, sym, ap, ◌∙◌, rules}
use Rattle.hj_collect.proofs.InOrder.{in_order-push}
use Rattle.hj_collect.proofs.ordered.is_in_order.Goals as goal

pub returns-in-Some : goal.returns-in-Some
returns-in-Some g c = λ apart ordered.
    let items = c.args.in_order.now.items in
    let last = c.in-Some.last.now in
    let before : c.is_due_before.result ≡ false = search (rules, apart) in
    in_order-push items last c.args.kept.now ordered (c.in-Some.ensures.lookup ∙ ap (λ n. get_or items (n - 1) last) c.args.in_order.now.ok.0) (sym c.is_due_before.ensures ∙ before)
