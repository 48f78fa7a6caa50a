use Rattle.std.proofs.Common.{◌==◌, ◌<◌, ◌^◌, ℕ, arith, subst, sym, w64}
use Rattle.std.proofs.lemmas.Simd.{bitmask_splat, length-chunk}
use Rattle.std.specs.Simd.Lanes.{chunk}
use Rattle.hj_columns.proofs.Masks.{mask_below}
use Rattle.hj_columns.proofs.mask.equal16.Goals as goal

pub returns : goal.returns
returns c =
    let v = chunk c.args.from 16 c.args.keys.now in
    let long = length-chunk c.args.from 16 c.args.keys.now c.requires in
    let mask = bitmask_splat w64 (λ a b. a == b) v 16 c.args.wanted long (omega arith) in
    record {
      mask = mask;
      small = subst (λ (n : ℕ). n < 2 ^ 16) (sym mask) (mask_below (λ key. key == c.args.wanted) v long);
    }
