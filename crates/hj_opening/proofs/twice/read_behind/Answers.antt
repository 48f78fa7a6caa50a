use Rattle.std.proofs.lemmas.Result.{err_from_is_err_and}
use Rattle.hj_opening.proofs.TwiceReading.{read_both_behind, unfit_behind, unread_behind}
use Rattle.hj_opening.proofs.twice.read_behind.Goals as goal

pub returns-in_err-second-clause-gets : goal.returns-in_err-second-clause-gets
returns-in_err-second-clause-gets g c = λ names limit under before behind.
    let p = err_from_is_err_and c.from_residual.result c.from_residual.ensures.1 in
    rw (p.1, p.2) (unread_behind c.args.first c.args.name.now names limit under before (g.O.Outside.under c.args.outside.now) (g.O.Outside.state c.args.outside.now) behind (g.O.Outside.state c.read_second.new.outside) c.in_err-second.field-0.0 c.in_err-second.ensures.gets)

pub returns-then-fits-clause-gets : goal.returns-then-fits-clause-gets
returns-then-fits-clause-gets g c = λ names limit under before behind.
    read_both_behind c.args.first c.args.name.now names limit under before (g.O.Outside.under c.args.outside.now) (g.O.Outside.state c.args.outside.now) behind (g.O.Outside.state c.read_second.new.outside) c.in_ok-second.second c.in_ok-second.ensures.gets (c.fits.ensures.0 c.if-fits.true)

pub returns-else-fits-clause-gets : goal.returns-else-fits-clause-gets
returns-else-fits-clause-gets g c = λ names limit under before behind.
    unfit_behind c.args.first c.args.name.now names limit under before (g.O.Outside.under c.args.outside.now) (g.O.Outside.state c.args.outside.now) behind (g.O.Outside.state c.read_second.new.outside) c.in_ok-second.second c.in_ok-second.ensures.gets (λ fit. let e = c.if-fits.ensures.1 fit in cc)
