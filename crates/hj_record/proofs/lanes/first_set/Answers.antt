use Rattle.std.proofs.Common.{sym, ap, ◌∙◌, arith}
use Rattle.std.proofs.lemmas.Simd.{leading_from_mask_l, trailing_mask_l}
use lib.Count.{count_trailing_zeros}
use Rattle.hj_record.proofs.lanes.first_set.Goals as goal

pub returns-then-mask-eq0 : goal.returns-then-mask-eq0
returns-then-mask-eq0 c = λ test lanes long is. sym (leading_from_mask_l test lanes (sym is ∙ c.if-mask-eq0.true) ∙ long)

pub returns-else-mask-eq0 : goal.returns-else-mask-eq0
returns-else-mask-eq0 c = λ test lanes long is. ap (count_trailing_zeros 64) is ∙ trailing_mask_l test 64 lanes (omega arith) (omega (arith, is))
