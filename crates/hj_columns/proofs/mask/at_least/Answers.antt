use Rattle.std.proofs.Common.{nat_le, ◌∙◌}
use Rattle.hj_columns.proofs.Masks.{mask_of_four}
use Rattle.hj_columns.proofs.mask.at_least.Goals as goal

pub returns : goal.returns
returns c =
    c.joined.ensures
    ∙ mask_of_four (nat_le c.args.low) c.args.from _ _ _ _ c.args.keys.now c.requires c.at_least16.ensures.mask c.at_least16-2.ensures.mask c.at_least16-3.ensures.mask c.at_least16-4.ensures.mask
