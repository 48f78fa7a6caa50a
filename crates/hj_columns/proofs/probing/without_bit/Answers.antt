use Rattle.std.proofs.Common.{◌≡◌, ◌<◌, ◌≤◌, ◌*◌, ◌^◌, ◌%◌, ℕ, Bool, true, false, nat_lt, arith, refl, ap}
use Rattle.std.specs.Prelude.{bit_and}
use Rattle.std.specs.Int.{bit_at, bit_not, w64}
use Rattle.std.proofs.lemmas.Bool.{ltb-false, ltb-true}
use Rattle.std.proofs.lemmas.Nat.{and_le_l}
use Rattle.std.proofs.lemmas.Nat.Bits.{bit_at_clear_other, bit_at_clear_same}
use Rattle.hj_columns.proofs.probing.without_bit.Goals as goal

pub returns-clause-cleared : goal.returns-clause-cleared
returns-clause-cleared c = bit_at_clear_same w64 c.args.mask c.args.bit c.requires

pub returns-clause-others : goal.returns-clause-others
returns-clause-others c = λ k low other. bit_at_clear_other w64 c.args.mask c.args.bit c.requires k low other

fewer : (mask cleared z o : ℕ) → cleared ≤ mask → z ≡ 0 → o ≡ 1 → (cleared ≡ mask → z ≡ o) → cleared < mask
fewer mask cleared z o le zero one same = by (nat_lt cleared mask) refl
  where
    by : (b : Bool) → nat_lt cleared mask ≡ b → cleared < mask
    by true h = ltb-true cleared mask h
    by false h =
        let above = ltb-false cleared mask h in
        let clash = same (omega arith) in
        absurd (omega (arith, clash, zero, one))

pub returns-clause-less : goal.returns-clause-less
returns-clause-less c = λ one.
    let cleared = bit_and c.args.mask (bit_not w64 (1 * 2 ^ c.args.bit % 2 ^ 64)) in
    fewer c.args.mask cleared (bit_at cleared c.args.bit) (bit_at c.args.mask c.args.bit) (and_le_l c.args.mask (bit_not w64 (1 * 2 ^ c.args.bit % 2 ^ 64))) (bit_at_clear_same w64 c.args.mask c.args.bit c.requires) one
    (λ same. ap (λ n. bit_at n c.args.bit) same)
