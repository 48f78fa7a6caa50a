use Rattle.std.proofs.Common.{[], refl}
use Rattle.hj_verify.proofs.Comparing.{all_used, compare_failed, differs_there, longer}
use Rattle.hj_verify.proofs.output.OutputCheck.end.Goals as goal

pub returns-then-self-clause-ends : goal.returns-then-self-clause-ends
returns-then-self-clause-ends g c = λ text start before agrees. differs_there text [] start before c.args.self.now (g.O.Outside.state c.args.outside.now) agrees c.if-self.true

pub returns-in-End-clause-ends : goal.returns-in-End-clause-ends
returns-in-End-clause-ends g c = λ text start before agrees. record {
  uses = all_used text [] start before c.args.self.now (g.O.Outside.state c.args.outside.now) agrees c.if-self.false c.look.new.self (g.O.Outside.state c.look.new.outside) c.in-End.ensures.looks;
  used_up = c.in-End.ensures.next;
}

pub returns-in-Byte-clause-ends : goal.returns-in-Byte-clause-ends
returns-in-Byte-clause-ends g c = λ text start before agrees.
    longer text [] start before c.args.self.now (g.O.Outside.state c.args.outside.now) agrees c.if-self.false c.look.new.self (g.O.Outside.state c.look.new.outside) c.in-Byte.ensures.looks _ c.in-Byte.ensures.next

pub returns-in-Failed-clause-ends : goal.returns-in-Failed-clause-ends
returns-in-Failed-clause-ends g c = λ text start before agrees.
    let read = compare_failed text [] start before c.args.self.now (g.O.Outside.state c.args.outside.now) agrees c.look.new.self (g.O.Outside.state c.look.new.outside) [] c.in-Failed.ensures.looks in
    (refl, read.0, read.1)
