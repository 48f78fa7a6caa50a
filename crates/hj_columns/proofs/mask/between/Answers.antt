use Rattle.std.proofs.Common.{◌∙◌}
use Rattle.hj_columns.specs.Masks.{is_in}
use Rattle.hj_columns.proofs.Masks.{mask_of_four}
use Rattle.hj_columns.proofs.mask.between.Goals as goal

pub returns : goal.returns
returns c =
    c.joined.ensures
    ∙ mask_of_four (is_in c.args.range) c.args.from _ _ _ _ c.args.keys.now c.requires c.between16.ensures.mask c.between16-2.ensures.mask c.between16-3.ensures.mask c.between16-4.ensures.mask
