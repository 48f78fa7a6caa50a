use Rattle.std.proofs.Common.{◌<◌, ◌^◌, ℕ, nat_le, ap₂, subst, sym, ◌∙◌}
use Rattle.std.proofs.lemmas.Simd.{length-chunk}
use Rattle.std.specs.Prelude.{bit_and}
use Rattle.std.specs.Simd.Lanes.{chunk}
use Rattle.hj_columns.specs.Masks.{is_in}
use Rattle.hj_columns.proofs.Masks.{both_masks, mask_below}
use Rattle.hj_columns.proofs.mask.between16.Goals as goal

pub returns : goal.returns
returns c =
    let v = chunk c.args.from 16 c.args.keys.now in
    let long = length-chunk c.args.from 16 c.args.keys.now c.requires in
    let mask = ap₂ bit_and c.at_least16.ensures.mask c.at_most16.ensures.mask ∙ both_masks (nat_le c.args.range.low) (λ key. nat_le key c.args.range.high) v in
    record {
      mask = mask;
      small = subst (λ (n : ℕ). n < 2 ^ 16) (sym mask) (mask_below (is_in c.args.range) v long);
    }
