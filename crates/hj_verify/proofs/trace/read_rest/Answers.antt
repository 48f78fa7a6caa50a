use Rattle.std.proofs.Common.{refl}
use Rattle.hj_verify.proofs.ReadLines.{read_fails, rest_differs, rest_read}
use Rattle.hj_verify.proofs.trace.read_rest.Goals as goal

pub returns-in-Same-clause-reads : goal.returns-in-Same-clause-reads
returns-in-Same-clause-reads g c = λ text start before uses.
    rest_read text start before c.args.trace.now (g.O.Outside.state c.args.outside.now) uses c.compare.new.self (g.O.Outside.state c.compare.new.outside) c.args.expected.now c.in-Same.ensures.compares

pub returns-in-Differs-clause-reads : goal.returns-in-Differs-clause-reads
returns-in-Differs-clause-reads g c = λ text start before uses. (
  refl,
  rest_differs text start before c.args.trace.now (g.O.Outside.state c.args.outside.now) uses c.compare.new.self (g.O.Outside.state c.compare.new.outside) c.args.expected.now _ c.in-Differs.ensures.compares,
)

pub returns-in-Failed-clause-reads : goal.returns-in-Failed-clause-reads
returns-in-Failed-clause-reads g c = λ text start before uses.
    let read = read_fails text start before c.args.trace.now (g.O.Outside.state c.args.outside.now) uses c.compare.new.self (g.O.Outside.state c.compare.new.outside) c.in-Failed.ensures.compares.same c.in-Failed.ensures.compares.uses in
    (refl, read.0, read.1)
