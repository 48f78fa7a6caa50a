use Rattle.std.proofs.Common.{◌≡◌, ℕ, length, true, false, refl, ap, subst, arith, length-append}
use Rattle.hj_verify.specs.Output.{CountsBytes}
use Rattle.hj_verify.proofs.Comparing.{compare_failed, compared}
use Rattle.hj_verify.proofs.output.OutputCheck.compare.Goals as goal

pub returns-in-Same-clause-compares : goal.returns-in-Same-clause-compares
returns-in-Same-clause-compares g c = λ text start before agrees.
    let compares = c.in-Same.ensures.compares in
    let long : length c.args.expected.now ≡ length compares.same = omega (arith, ap length compares.expects, length-append compares.same compares.missing, ap length compares.ends) in
    compared text c.args.expected.now start before c.args.self.now (g.O.Outside.state c.args.outside.now) agrees c.if-self.false c.compare.new.self (g.O.Outside.state c.compare.new.outside) compares.same compares.missing compares.expects compares.uses false compares.ends
    c.count.result c.count.new.self
    (subst (λ (n : ℕ). CountsBytes c.count.result n (record { stream = c.compare.new.self; same = c.args.self.now.same; differs = false }) c.count.new.self) long
    (subst (λ differs. CountsBytes c.count.result (length c.args.expected.now) (record { stream = c.compare.new.self; same = c.args.self.now.same; differs = differs }) c.count.new.self) c.if-self.false c.count.ensures))

pub returns-in-Differs-clause-compares : goal.returns-in-Differs-clause-compares
returns-in-Differs-clause-compares g c = λ text start before agrees.
    let compares = c.in-Differs.ensures.compares in
    compared text c.args.expected.now start before c.args.self.now (g.O.Outside.state c.args.outside.now) agrees c.if-self.false c.compare.new.self (g.O.Outside.state c.compare.new.outside) compares.same compares.missing compares.expects compares.uses true compares.ends.1
    c.count-in-Differs.result c.count-in-Differs.new.self
    (subst (λ (n : ℕ). CountsBytes c.count-in-Differs.result n (record { stream = c.compare.new.self; same = c.args.self.now.same; differs = true }) c.count-in-Differs.new.self) compares.ends.0 c.count-in-Differs.ensures)

pub returns-in-Failed-clause-compares : goal.returns-in-Failed-clause-compares
returns-in-Failed-clause-compares g c = λ text start before agrees.
    let read = compare_failed text c.args.expected.now start before c.args.self.now (g.O.Outside.state c.args.outside.now) agrees c.compare.new.self (g.O.Outside.state c.compare.new.outside) c.in-Failed.ensures.compares.same c.in-Failed.ensures.compares.uses in
    (refl, read.0, read.1)
