use Rattle.std.proofs.Common.{◌==◌, ℕ, nat_le, get_or, ap, ◌∙◌, ◌+◌}
use Rattle.std.specs.Int.{bit_at}
use Rattle.hj_columns.specs.Masks.{is_in}
use Rattle.hj_columns.proofs.Masks.{bit_of_mask, only_high, only_low, only_one}
use Rattle.hj_columns.proofs.mask.within.Goals as goal

pub returns-then-range : goal.returns-then-range
returns-then-range c = λ k low.
    let key = get_or c.args.keys.now (c.args.from + k) 0 in
    only_one c.args.range.low key c.args.range.high (bit_at c.equal.result k) c.if-range.true
    (ap (λ (n : ℕ). bit_at n k) c.equal.ensures ∙ bit_of_mask (λ key. key == c.args.range.low) c.args.keys.now c.args.from k c.requires low)

pub returns-then-range-eq18446744073709551615 : goal.returns-then-range-eq18446744073709551615
returns-then-range-eq18446744073709551615 c = λ k low.
    let key = get_or c.args.keys.now (c.args.from + k) 0 in
    only_low (nat_le c.args.range.low key) key c.args.range.high (bit_at c.at_least.result k) (c.type_inv.keys (c.args.from + k)).fits c.if-range-eq18446744073709551615.true
    (ap (λ (n : ℕ). bit_at n k) c.at_least.ensures ∙ bit_of_mask (nat_le c.args.range.low) c.args.keys.now c.args.from k c.requires low)

pub returns-then-range-eq0 : goal.returns-then-range-eq0
returns-then-range-eq0 c = λ k low.
    let key = get_or c.args.keys.now (c.args.from + k) 0 in
    only_high c.args.range.low key (nat_le key c.args.range.high) (bit_at c.at_most.result k) c.if-range-eq0.true
    (ap (λ (n : ℕ). bit_at n k) c.at_most.ensures ∙ bit_of_mask (λ key. nat_le key c.args.range.high) c.args.keys.now c.args.from k c.requires low)

pub returns : goal.returns
returns c = λ k low.
    ap (λ (n : ℕ). bit_at n k) c.between.ensures ∙ bit_of_mask (is_in c.args.range) c.args.keys.now c.args.from k c.requires low
