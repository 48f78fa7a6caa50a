use Rattle.hj_collect.specs.Reach.{reached}
use Rattle.hj_collect.proofs.MarkOrder.{less_by_cmp, same_by_cmp, greater_by_cmp}
use Rattle.hj_collect.proofs.LeastMarks.{with_less, with_same, with_greater}
use Rattle.hj_collect.proofs.least.LeastMark.with.Goals as goal

pub returns-in-Less : goal.returns-in-Less
returns-in-Less c marks is =
    let counts = with_less (reached c.args.mark) (reached c.args.self.mark) c.args.self.holders marks (is.mark, is.holders) (less_by_cmp (reached c.args.mark) (reached c.args.self.mark) c.in-Less.ensures) in
    record { mark = counts.0; holders = counts.1 }

pub returns-in-Equal : goal.returns-in-Equal
returns-in-Equal c marks is =
    let counts = with_same (reached c.args.mark) (reached c.args.self.mark) c.args.self.holders marks (is.mark, is.holders) (same_by_cmp (reached c.args.mark) (reached c.args.self.mark) c.in-Equal.ensures) in
    record { mark = counts.0; holders = counts.1 }

pub returns-in-Greater : goal.returns-in-Greater
returns-in-Greater c marks is =
    let counts = with_greater (reached c.args.mark) (reached c.args.self.mark) c.args.self.holders marks (is.mark, is.holders) (greater_by_cmp (reached c.args.mark) (reached c.args.self.mark) c.in-Greater.ensures) in
    record { mark = counts.0; holders = counts.1 }
