use Rattle.std.proofs.Common.{◌≡◌, true, Some, option_map, subst, rules, ◌∙◌}
use Rattle.std.proofs.lemmas.Int.{to_z-of_z}
use Rattle.std.specs.Prelude.{FitsSigned}
use Rattle.std.specs.Int.{saturate_to_bits, w128}
use Rattle.hj_base.specs.declared.numbers.Side.{Side}
use Rattle.hj_msg.specs.Quiet.{other_side}
use Rattle.hj_eval.specs.Filter.{difference, number_of}
use Rattle.hj_eval.proofs.Filtering.{range_made}
use Rattle.hj_eval.proofs.filter.Filter.range.Goals as goal

pub returns : goal.returns
returns c =
    let fits : FitsSigned w128 c.in_ok-other.other = search rules in
    let same = to_z-of_z w128 c.in_ok-other.other fits in
    range_made (difference (number_of (other_side c.args.side) c.args.against.now true) c.args.self.now.first.now c.args.self.now.second.now) c.args.self.now.need c.in_ok-other.other c.low_key.result c.high_key.result
    (subst (λ (side : Side). Some c.in_ok-other.other ≡ option_map (saturate_to_bits 127) (difference (number_of side c.args.against.now true) c.args.self.now.first.now c.args.self.now.second.now)) c.other_side.ensures c.in_ok-other.ensures)
    (λ exact cut. c.low_key.ensures exact (same ∙ cut)) (λ exact cut. c.high_key.ensures exact (same ∙ cut))
