use Rattle.std.proofs.Common.{◌==◌, ◌∙◌}
use Rattle.hj_columns.proofs.Masks.{mask_of_four}
use Rattle.hj_columns.proofs.mask.equal.Goals as goal

pub returns : goal.returns
returns c =
    c.joined.ensures
    ∙ mask_of_four (λ key. key == c.args.wanted) c.args.from _ _ _ _ c.args.keys.now c.requires c.equal16.ensures.mask c.equal16-2.ensures.mask c.equal16-3.ensures.mask c.equal16-4.ensures.mask
