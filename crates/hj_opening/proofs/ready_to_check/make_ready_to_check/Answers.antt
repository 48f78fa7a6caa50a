use Rattle.std.proofs.Common.{◌∙◌, ap}
use Rattle.std.proofs.lemmas.Result.{err_from_is_err_and}
use Rattle.hj_base.specs.declared.outside.Role.TheVariants as role
use Rattle.hj_base.specs.Outside.{RoleState}
use Rattle.hj_opening.specs.Orders.{chain_seen, checked_names_seen}
use Rattle.hj_opening.specs.Words.{pair_lines}
use Rattle.hj_opening.proofs.Verified.{all_opened, ends_before, output_unopened, trace_unopened}
use Rattle.hj_opening.proofs.ready_to_check.make_ready_to_check.Goals as goal

pub returns-in_err-query-clause-ready : goal.returns-in_err-query-clause-ready
returns-in_err-query-clause-ready g c =
    let p = err_from_is_err_and c.from_residual.result c.from_residual.ensures.1 in
    rw (p.1, p.2) (ends_before pair_lines (chain_seen c.args.check.size) c.args.check.query.now (checked_names_seen c.args.check) c.args.check.limit (g.O.Outside.under c.args.outside.now) (g.O.Outside.state c.args.outside.now)
    c.in_err-query.field-0.0 (g.O.Outside.state c.make_ready.new.outside) (c.in_err-query.ensures.ready pair_lines))

pub returns-in_err-open-clause-ready : goal.returns-in_err-open-clause-ready
returns-in_err-open-clause-ready g c =
    let p = err_from_is_err_and c.from_residual-in_err-open.result c.from_residual-in_err-open.ensures.1 in
    let fails = c.in_err-open.ensures in
    rw (p.1, p.2) (trace_unopened pair_lines (chain_seen c.args.check.size) c.args.check.query.now (checked_names_seen c.args.check) c.args.check.limit (g.O.Outside.under c.args.outside.now) (g.O.Outside.state c.args.outside.now)
    (g.O.Outside.state c.make_ready.new.outside) c.in_ok-query.query (c.in_ok-query.ensures.ready pair_lines)
    (g.O.Outside.state c.open.new.outside) c.in_err-open.field-0.0 (g.O.Outside.under c.make_ready.new.outside c.args.check.trace.now) fails.others fails.opens)

pub returns-in_err-open-2-clause-ready : goal.returns-in_err-open-2-clause-ready
returns-in_err-open-2-clause-ready g c =
    let p = err_from_is_err_and c.from_residual-in_err-open-2.result c.from_residual-in_err-open-2.ensures.1 in
    let first = c.in_ok-open.ensures in
    let fails = c.in_err-open-2.ensures in
    rw (p.1, p.2) (output_unopened pair_lines (chain_seen c.args.check.size) c.args.check.query.now (checked_names_seen c.args.check) c.args.check.limit (g.O.Outside.under c.args.outside.now) (g.O.Outside.state c.args.outside.now)
    (g.O.Outside.state c.make_ready.new.outside) c.in_ok-query.query (c.in_ok-query.ensures.ready pair_lines)
    (g.O.Outside.state c.open.new.outside) (g.O.Outside.state c.open-2.new.outside) (g.O.Outside.under c.make_ready.new.outside c.args.check.trace.now) first.opens first.others fails.others
    c.in_err-open-2.field-0.0 (g.O.Outside.under c.open.new.outside c.args.check.output.now) fails.opens)

pub returns-clause-ready : goal.returns-clause-ready
returns-clause-ready g c =
    let asked = c.in_ok-query.ensures in
    let first = c.in_ok-open.ensures in
    let second = c.in_ok-open-2.ensures in
    all_opened pair_lines (chain_seen c.args.check.size) c.args.check.query.now (checked_names_seen c.args.check) c.args.check.limit (g.O.Outside.under c.args.outside.now) (g.O.Outside.state c.args.outside.now)
    (g.O.Outside.state c.make_ready.new.outside) c.in_ok-query.query (asked.ready pair_lines)
    (g.O.Outside.state c.open.new.outside) (g.O.Outside.state c.open-2.new.outside) (g.O.Outside.under c.make_ready.new.outside c.args.check.trace.now) first.opens first.others second.others
    (g.O.Outside.under c.open.new.outside c.args.check.output.now) (asked.names c.args.check.trace.now) (first.names c.args.check.output.now ∙ asked.names c.args.check.output.now) second.opens

pub open-requires : goal.open-requires
open-requires g c = (c.in_ok-query.ensures.ready pair_lines).others role.Trace (λ has. has)

pub open-requires-2 : goal.open-requires-2
open-requires-2 g c = ap (λ (s : RoleState). s.phase) (c.in_ok-open.ensures.others role.Output (λ e. cc)) ∙ (c.in_ok-query.ensures.ready pair_lines).others role.Output (λ has. has)
