use Rattle.std.proofs.Common.{◌≡◌, ◌∙◌, ◌-◌, true, false, sym, arith}
use Rattle.hj_collect.specs.Marks.{is_same}
use Rattle.hj_collect.specs.Reach.{reached}
use Rattle.hj_collect.proofs.LeastMarks.{without_other, without_same}
use Rattle.hj_collect.proofs.least.LeastMark.without.Goals as goal

pub returns-then-not-is_same-clause-least : goal.returns-then-not-is_same-clause-least
returns-then-not-is_same-clause-least c marks is =
    let apart : is_same (reached c.args.mark) (reached c.args.self.mark) ≡ false = sym c.is_same.ensures ∙ c.if-not-is_same.true in
    let counts = without_other (reached c.args.mark) (reached c.args.self.mark) c.args.self.holders marks (is.mark, is.holders) apart in
    record { mark = counts.0; holders = counts.1 }

pub returns-clause-least : goal.returns-clause-least
returns-clause-least c marks is =
    let same : is_same (reached c.args.mark) (reached c.args.self.mark) ≡ true = sym c.is_same.ensures ∙ c.if-not-is_same.false in
    let fewer : c.saturating_sub-holders.result ≡ c.args.self.holders - 1 = c.saturating_sub-holders.ensures in
    let counts = without_same (reached c.args.mark) (reached c.args.self.mark) c.args.self.holders marks (is.mark, is.holders) same (omega arith) in
    record { mark = counts.0; holders = fewer ∙ counts.1 }
