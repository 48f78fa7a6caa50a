use Rattle.std.proofs.Common.{[], refl}
use Rattle.hj_verify.proofs.ReadLines.{goes_on_there, looked, read_fails}
use Rattle.hj_verify.proofs.trace.read_end.Goals as goal

pub returns-in-End-clause-reads : goal.returns-in-End-clause-reads
returns-in-End-clause-reads g c = λ text start before uses. record {
  uses = looked text start before c.args.trace.now (g.O.Outside.state c.args.outside.now) uses c.look.new.self (g.O.Outside.state c.look.new.outside) c.in-End.ensures.looks;
  used_up = c.in-End.ensures.next;
}

pub returns-in-Byte-clause-reads : goal.returns-in-Byte-clause-reads
returns-in-Byte-clause-reads g c = λ text start before uses. (
  refl,
  goes_on_there text start before c.args.trace.now (g.O.Outside.state c.args.outside.now) uses c.look.new.self (g.O.Outside.state c.look.new.outside) _ c.in-Byte.ensures.looks c.in-Byte.ensures.next,
)

pub returns-in-Failed-clause-reads : goal.returns-in-Failed-clause-reads
returns-in-Failed-clause-reads g c = λ text start before uses.
    let read = read_fails text start before c.args.trace.now (g.O.Outside.state c.args.outside.now) uses c.look.new.self (g.O.Outside.state c.look.new.outside) [] c.in-Failed.ensures.looks in
    (refl, read.0, read.1)
