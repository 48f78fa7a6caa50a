use Rattle.std.proofs.Common.{◌∙◌}
use Rattle.std.proofs.lemmas.Result.{err_from_is_err_and}
use Rattle.hj_opening.specs.RunTwice.{twice_names}
use Rattle.hj_opening.proofs.TwiceReadying.{all_opened, left_failed, right_failed, third_failed}
use Rattle.hj_opening.proofs.twice.make_twice_ready.Goals as goal

pub returns-in_err-open-clause-ready : goal.returns-in_err-open-clause-ready
returns-in_err-open-clause-ready g c =
    let p = err_from_is_err_and c.from_residual-in_err-open.result c.from_residual-in_err-open.ensures.1 in
    let names = twice_names c.args.joins in
    let fails = c.in_err-open.ensures in
    rw (p.1, p.2) (left_failed names c.args.joins.limit (g.O.Outside.under c.args.outside.now) (g.O.Outside.state c.args.outside.now) c.requires c.in_ok-queries.queries (g.O.Outside.state c.read_both.new.outside) c.in_ok-queries.ensures.gets
    (g.O.Outside.state c.open.new.outside) fails.others c.in_err-open.field-0.0 (g.O.Outside.under c.read_both.new.outside names.streams.left) fails.opens)

pub returns-in_err-open-2-clause-ready : goal.returns-in_err-open-2-clause-ready
returns-in_err-open-2-clause-ready g c =
    let p = err_from_is_err_and c.from_residual-in_err-open-2.result c.from_residual-in_err-open-2.ensures.1 in
    let names = twice_names c.args.joins in
    let left = c.in_ok-open.ensures in
    let fails = c.in_err-open-2.ensures in
    rw (p.1, p.2) (right_failed names c.args.joins.limit (g.O.Outside.under c.args.outside.now) (g.O.Outside.state c.args.outside.now) c.requires c.in_ok-queries.queries (g.O.Outside.state c.read_both.new.outside) c.in_ok-queries.ensures.gets
    (g.O.Outside.state c.open.new.outside) left.others (g.O.Outside.under c.read_both.new.outside names.streams.left) left.opens
    (g.O.Outside.state c.open-2.new.outside) fails.others c.in_err-open-2.field-0.0 (g.O.Outside.under c.open.new.outside names.streams.right) fails.opens)

pub returns-in_err-open-3-clause-ready : goal.returns-in_err-open-3-clause-ready
returns-in_err-open-3-clause-ready g c =
    let p = err_from_is_err_and c.from_residual-in_err-open-3.result c.from_residual-in_err-open-3.ensures.1 in
    let names = twice_names c.args.joins in
    let left = c.in_ok-open.ensures in
    let right = c.in_ok-open-2.ensures in
    let fails = c.in_err-open-3.ensures in
    rw (p.1, p.2) (third_failed names c.args.joins.limit (g.O.Outside.under c.args.outside.now) (g.O.Outside.state c.args.outside.now) c.requires c.in_ok-queries.queries (g.O.Outside.state c.read_both.new.outside) c.in_ok-queries.ensures.gets
    (g.O.Outside.state c.open.new.outside) left.others (g.O.Outside.under c.read_both.new.outside names.streams.left) left.opens
    (g.O.Outside.state c.open-2.new.outside) right.others (g.O.Outside.under c.open.new.outside names.streams.right) right.opens
    (g.O.Outside.state c.open-3.new.outside) fails.others c.in_err-open-3.field-0.0 (g.O.Outside.under c.open-2.new.outside names.third) fails.opens)

pub returns-clause-ready : goal.returns-clause-ready
returns-clause-ready g c =
    let names = twice_names c.args.joins in
    let read = c.in_ok-queries.ensures in
    let left = c.in_ok-open.ensures in
    let right = c.in_ok-open-2.ensures in
    let third = c.in_ok-open-3.ensures in
    all_opened names c.args.joins.limit (g.O.Outside.under c.args.outside.now) (g.O.Outside.state c.args.outside.now) c.requires c.in_ok-queries.queries (g.O.Outside.state c.read_both.new.outside) read.gets
    (g.O.Outside.state c.open.new.outside) left.others (g.O.Outside.under c.read_both.new.outside names.streams.left) left.opens
    (g.O.Outside.state c.open-2.new.outside) right.others (g.O.Outside.under c.open.new.outside names.streams.right) right.opens
    (g.O.Outside.state c.open-3.new.outside) third.others (g.O.Outside.under c.open-2.new.outside names.third)
    (read.names names.streams.left) (left.names names.streams.right ∙ read.names names.streams.right) (right.names names.third ∙ left.names names.third ∙ read.names names.third) third.opens
