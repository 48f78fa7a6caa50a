use Rattle.std.proofs.Common.{◌-ℤ◌, ap, ap₂, rules, ◌∙◌}
use Rattle.std.proofs.lemmas.Int.{to_z-of_z}
use Rattle.std.specs.Prelude.{FitsSigned}
use Rattle.std.specs.Int.{saturate_to_bits, w128}
use Rattle.hj_eval.specs.Filter.{key_of, most_of}
use Rattle.hj_eval.proofs.Filtering.{high_made}
use Rattle.hj_eval.proofs.filter.Need.high_key.Goals as goal

pub returns-in-Some : goal.returns-in-Some
returns-in-Some c = λ exact cut.
    let bound : FitsSigned w128 c.in-Some.most = search rules in
    let taken : FitsSigned w128 c.saturating_sub.result = search rules in
    high_made (most_of c.args.self) c.in-Some.most c.args.other exact c.saturating_sub.result c.key_of.result c.in-Some.ensures.most c.in-Some.ensures.short cut
    (c.saturating_sub.ensures ∙ ap₂ (λ a b. saturate_to_bits 127 (a -ℤ b)) (to_z-of_z w128 c.in-Some.most bound) (to_z-of_z w128 c.args.other c.ranges.other))
    (c.key_of.ensures ∙ ap key_of (to_z-of_z w128 c.saturating_sub.result taken))
