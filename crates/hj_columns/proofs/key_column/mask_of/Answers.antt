use Rattle.std.proofs.Common.{◌≡◌, ◌+◌, ℕ, arith, subst}
use Rattle.std.specs.Int.{bit_at}
use Rattle.std.proofs.lemmas.Nat.Bits.{bit_at_ones}
use Rattle.hj_columns.proofs.Covering.{all-in, covered}
use Rattle.hj_columns.proofs.key_column.mask_of.Goals as goal

pub loop-at-init : goal.loop-at-init
loop-at-init g c = λ k low _. bit_at_ones 64 k low

pub loop-at-preserved : goal.loop-at-preserved
loop-at-preserved g c = λ k low all.
    covered c.args.columns.now c.args.ranges.now c.loop-at.at (c.args.from + k) c.loop-at.mask c.within-mask.result k c.index-columns-at.result _ c.as_slice.result.now c.index-columns-at.is c.as_slice.ensures.value (c.loop-at.invariant k low)
    (c.within-mask.ensures k low) all

pub returns-then-mask-eq0 : goal.returns-then-mask-eq0
returns-then-mask-eq0 g c = λ k low all.
    subst (λ (n : ℕ). bit_at n k ≡ 1) c.if-mask-eq0.true
    (covered c.args.columns.now c.args.ranges.now c.loop-at.at (c.args.from + k) c.loop-at.mask c.within-mask.result k c.index-columns-at.result _ c.as_slice.result.now c.index-columns-at.is c.as_slice.ensures.value (c.loop-at.invariant k low)
    (c.within-mask.ensures k low) (all-in c.args.columns.now c.args.ranges.now (c.loop-at.at + 1) (c.args.from + k) (omega arith) all))
