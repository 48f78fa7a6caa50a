use Rattle.std.proofs.Common.{◌<◌, length, ap, arith, refl, sym}
use Rattle.std.proofs.lemmas.Result.{err_from_is_err_and}
use Rattle.hj_query.specs.declared.fault.QueryFault.TheVariants as faults
use Rattle.hj_query.specs.declared.pred.Op.{Op}
use Rattle.hj_query.specs.declared.pred.Op.TheVariants as ops
use Rattle.hj_query.specs.Faults.{compared_types, no_comparison, right_sum}
use Rattle.hj_query.specs.Grammar.{compared, op_sign}
use Rattle.hj_query.proofs.Lists.{sign_no_end}
use Rattle.hj_query.proofs.condition.comparison.Goals as goal

op_some : (op : Op) → 0 < length (op_sign op)
op_some ops.Eq = omega arith
op_some ops.Ne = omega arith
op_some ops.Lt = omega arith
op_some ops.Le = omega arith
op_some ops.Gt = omega arith
op_some ops.Ge = omega arith

pub returns-in_default-clause-read : goal.returns-in_default-clause-read
returns-in_default-clause-read c =
    λ here is ends at _. no_comparison c.args.left _ is ends (record { no_op = c.in_default.ensures; no_within = c.requires }) c.expected.ensures

pub skip-requires : goal.skip-requires
skip-requires c = sign_no_end (op_sign c.in-Some.op) c.args.cursor.now (op_some c.in-Some.op) c.in-Some.ensures

pub returns-in_err-right-clause-read : goal.returns-in_err-right-clause-read
returns-in_err-right-clause-read c =
    λ here is ends at. let p = err_from_is_err_and c.from_residual.result c.from_residual.ensures.1 in
    rw (p.1, p.2) (λ other. right_sum c.in-Some.op c.args.left _ _ is (record { found = c.in-Some.ensures; left = c.skip.ensures.behind }) (c.in_err-right.ensures.read other))

pub returns-then-not-can_compare-clause-read : goal.returns-then-not-can_compare-clause-read
returns-then-not-can_compare-clause-read c =
    λ here is ends at _. compared_types c.in-Some.op c.args.left c.in_ok-right.right _ _ _ is (record { found = c.in-Some.ensures; left = c.skip.ensures.behind }) c.in_ok-right.ensures.read.0 c.in_ok-right.ensures.read.1 (sym c.if-not-can_compare.ensures) (ap faults.Types (sym at))

pub returns-clause-read : goal.returns-clause-read
returns-clause-read c =
    λ here is ends at. compared c.in-Some.op c.args.left c.in_ok-right.right _ _ is (record { found = c.in-Some.ensures; left = c.skip.ensures.behind }) c.in_ok-right.ensures.read.0 c.in_ok-right.ensures.read.1 (sym c.if-not-can_compare.ensures) refl
