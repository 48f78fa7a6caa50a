use Rattle.std.proofs.Common.{◌∙◌}
use Rattle.std.proofs.lemmas.Result.{err_from_is_err_and}
use Rattle.hj_opening.specs.Orders.{names_seen, source_seen}
use Rattle.hj_opening.proofs.Readying.{both_opened, left_unopened, query_refused, right_unopened}
use Rattle.hj_opening.proofs.ready.make_ready.Goals as goal

pub returns-in_err-query-clause-ready : goal.returns-in_err-query-clause-ready
returns-in_err-query-clause-ready g c = λ kind.
    let p = err_from_is_err_and c.from_residual.result c.from_residual.ensures.1 in
    rw (p.1, p.2) (query_refused kind (source_seen c.args.join.source) (names_seen c.args.join) c.args.join.limit (g.O.Outside.under c.args.outside.now) (g.O.Outside.state c.args.outside.now) c.requires (g.O.Outside.state c.query_of.new.outside) c.in_err-query.field-0.0 c.in_err-query.ensures.gets)

pub returns-in_err-open-clause-ready : goal.returns-in_err-open-clause-ready
returns-in_err-open-clause-ready g c = λ kind.
    let p = err_from_is_err_and c.from_residual-in_err-open.result c.from_residual-in_err-open.ensures.1 in
    let fails = c.in_err-open.ensures in
    rw (p.1, p.2) (left_unopened kind (source_seen c.args.join.source) (names_seen c.args.join) c.args.join.limit (g.O.Outside.under c.args.outside.now) (g.O.Outside.state c.args.outside.now) c.requires (g.O.Outside.state c.query_of.new.outside) c.in_ok-query.query c.in_ok-query.ensures.gets
    (g.O.Outside.state c.open.new.outside) c.in_err-open.field-0.0 (g.O.Outside.under c.query_of.new.outside c.args.join.left.now) fails.others fails.opens)

pub returns-in_err-open-2-clause-ready : goal.returns-in_err-open-2-clause-ready
returns-in_err-open-2-clause-ready g c = λ kind.
    let p = err_from_is_err_and c.from_residual-in_err-open-2.result c.from_residual-in_err-open-2.ensures.1 in
    let first = c.in_ok-open.ensures in
    let fails = c.in_err-open-2.ensures in
    rw (p.1, p.2) (right_unopened kind (source_seen c.args.join.source) (names_seen c.args.join) c.args.join.limit (g.O.Outside.under c.args.outside.now) (g.O.Outside.state c.args.outside.now) c.requires (g.O.Outside.state c.query_of.new.outside) c.in_ok-query.query c.in_ok-query.ensures.gets
    (g.O.Outside.state c.open.new.outside) (g.O.Outside.state c.open-2.new.outside) (g.O.Outside.under c.query_of.new.outside c.args.join.left.now) first.opens first.others fails.others c.in_err-open-2.field-0.0 (g.O.Outside.under c.open.new.outside c.args.join.right.now) fails.opens)

pub returns-clause-ready : goal.returns-clause-ready
returns-clause-ready g c = λ kind.
    let asked = c.in_ok-query.ensures in
    let first = c.in_ok-open.ensures in
    let second = c.in_ok-open-2.ensures in
    both_opened kind (source_seen c.args.join.source) (names_seen c.args.join) c.args.join.limit (g.O.Outside.under c.args.outside.now) (g.O.Outside.state c.args.outside.now) c.requires (g.O.Outside.state c.query_of.new.outside) c.in_ok-query.query asked.gets
    (g.O.Outside.state c.open.new.outside) (g.O.Outside.state c.open-2.new.outside) (g.O.Outside.under c.query_of.new.outside c.args.join.left.now) first.opens first.others second.others
    (g.O.Outside.under c.open.new.outside c.args.join.right.now) (asked.names c.args.join.left.now) (first.names c.args.join.right.now ∙ asked.names c.args.join.right.now) second.opens
