use Rattle.std.proofs.Common.{nat_le, ◌∙◌}
use Rattle.hj_columns.proofs.Masks.{mask_of_four}
use Rattle.hj_columns.proofs.mask.at_most.Goals as goal

pub returns : goal.returns
returns c =
    c.joined.ensures
    ∙ mask_of_four (λ key. nat_le key c.args.high) c.args.from _ _ _ _ c.args.keys.now c.requires c.at_most16.ensures.mask c.at_most16-2.ensures.mask c.at_most16-3.ensures.mask c.at_most16-4.ensures.mask
