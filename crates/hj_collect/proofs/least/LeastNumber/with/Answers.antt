use Rattle.std.proofs.Common.{◌<◌, Some, ap, arith}
use Rattle.hj_msg.specs.Punctuation.{up_to}
use Rattle.hj_collect.proofs.MarkOrder.{less_number}
use Rattle.hj_collect.proofs.LeastMarks.{with_less, with_same, with_greater}
use Rattle.hj_collect.proofs.least.LeastNumber.with.Goals as goal

pub returns-then-no-self : goal.returns-then-no-self
returns-then-no-self c marks is =
    let counts = with_less (Some (up_to c.args.no.0)) (Some (up_to c.args.self.no.0)) c.args.self.holders marks (is.mark, is.holders) (less_number c.args.no.0 c.args.self.no.0 c.if-no-self.true) in
    record { mark = counts.0; holders = counts.1 }

pub returns-then-no-self-2 : goal.returns-then-no-self-2
returns-then-no-self-2 c marks is =
    let counts = with_same (Some (up_to c.args.no.0)) (Some (up_to c.args.self.no.0)) c.args.self.holders marks (is.mark, is.holders) (ap (λ n. Some (up_to n)) c.if-no-self-2.true) in
    record { mark = counts.0; holders = counts.1 }

pub returns : goal.returns
returns c marks is =
    let above : c.args.self.no.0 < c.args.no.0 = omega (arith, c.if-no-self.false, c.if-no-self-2.false) in
    let counts = with_greater (Some (up_to c.args.no.0)) (Some (up_to c.args.self.no.0)) c.args.self.holders marks (is.mark, is.holders) (less_number c.args.self.no.0 c.args.no.0 above) in
    record { mark = counts.0; holders = counts.1 }
