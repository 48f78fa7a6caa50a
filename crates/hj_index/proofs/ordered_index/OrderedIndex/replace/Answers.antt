use Rattle.std.proofs.Common.{◌&&◌, not, sym, ap, ◌∙◌}
use Rattle.std.specs.Option.{option_eq}
use Rattle.hj_index.specs.OrderedIndex.{is_key, stands}
use Rattle.hj_index.proofs.OrderedKeys.{key_eq, negated, replaced_other}
use Rattle.hj_index.proofs.ordered_index.OrderedIndex.replace.Goals as goal

pub returns-then-ne : goal.returns-then-ne
returns-then-ne c = λ other.
    c.remove.ensures other
    ∙ (ap (λ b. not (is_key other c.args.replaced) && b) (c.fill.ensures other)
    ∙ replaced_other c.args.replaced c.args.key other (stands c.args.self.now other) (negated (option_eq key_eq c.args.replaced c.args.key) (sym c.ne.ensures ∙ c.if-ne.true)))
