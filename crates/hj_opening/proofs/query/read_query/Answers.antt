use Rattle.std.proofs.lemmas.Result.{err_from_is_err_and}
use Rattle.hj_opening.proofs.QueryReading.{gets_query, unopened, unread}
use Rattle.hj_opening.proofs.query.read_query.Goals as goal

pub returns-in_err-open-clause-gets : goal.returns-in_err-open-clause-gets
returns-in_err-open-clause-gets g c =
    let p = err_from_is_err_and c.from_residual.result c.from_residual.ensures.1 in
    let fails = c.in_err-open.ensures in
    rw (p.1, p.2) (unopened c.args.role c.args.name.now (g.O.Outside.under c.args.outside.now) (g.O.Outside.state c.args.outside.now) (g.O.Outside.state c.open.new.outside) (g.O.Outside.state c.open.new.outside) c.in_err-open.field-0.0 fails.opens c.requires fails.others)

pub returns-in_err-text-clause-gets : goal.returns-in_err-text-clause-gets
returns-in_err-text-clause-gets g c =
    let p = err_from_is_err_and c.from_residual-in_err-text.result c.from_residual-in_err-text.ensures.1 in
    let opened = c.in_ok-open.ensures in
    let fails = c.in_err-text.ensures in
    rw (p.1, p.2) (unread c.args.role c.args.name.now (g.O.Outside.under c.args.outside.now) (g.O.Outside.state c.args.outside.now) (g.O.Outside.state c.open.new.outside) (g.O.Outside.state c.read_text.new.outside) opened.opens opened.others fails.others c.in_err-text.field-0.0 fails.reads)

pub returns-clause-gets : goal.returns-clause-gets
returns-clause-gets g c =
    let opened = c.in_ok-open.ensures in
    let reads = c.in_ok-text.ensures in
    gets_query c.args.role c.args.name.now (g.O.Outside.under c.args.outside.now) (g.O.Outside.state c.args.outside.now) (g.O.Outside.state c.open.new.outside) (g.O.Outside.state c.read_text.new.outside) opened.opens opened.others reads.others c.parsed.result c.in_ok-text.text.items c.deref.result.now c.deref.ensures.value reads.reads c.parsed.ensures
