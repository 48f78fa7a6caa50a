use Rattle.std.proofs.Common.{◌<◌, ◌^◌, ℕ, nat_le, subst, sym}
use Rattle.std.proofs.lemmas.Simd.{length-chunk}
use Rattle.std.specs.Simd.Lanes.{chunk}
use Rattle.hj_columns.proofs.Masks.{mask_below, splat_mask}
use Rattle.hj_columns.proofs.mask.at_least16.Goals as goal

pub returns : goal.returns
returns c =
    let v = chunk c.args.from 16 c.args.keys.now in
    let long = length-chunk c.args.from 16 c.args.keys.now c.requires in
    let mask = splat_mask c.args.low v long in
    record {
      mask = mask;
      small = subst (λ (n : ℕ). n < 2 ^ 16) (sym mask) (mask_below (nat_le c.args.low) v long);
    }
