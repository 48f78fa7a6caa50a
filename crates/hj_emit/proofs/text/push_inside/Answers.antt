use Rattle.std.proofs.Common.{◌≡◌, ◌==◌, ◌++◌, false, sym, ap, ◌∙◌}
use Rattle.std.specs.List.{list_any}
use Rattle.hj_emit.proofs.Steps.{escaped_same}
use Rattle.hj_emit.proofs.text.push_inside.Goals as goal

pub returns : goal.returns
returns c =
    let none : list_any (λ byte. byte == 34) c.args.bytes.now ≡ false = sym c.requires ∙ c.if-has_quote.false in
    c.in_ok-extend_from_slice.ensures.items ∙ ap (λ l. c.args.text.now.items ++ l) (sym (escaped_same c.args.bytes.now none))
