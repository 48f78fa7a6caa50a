use Rattle.std.proofs.Common.{refl}
use Rattle.std.proofs.lemmas.Result.{err_from_is_err_and}
use Rattle.hj_opening.specs.RunTwice.{twice_names}
use Rattle.hj_opening.proofs.TwiceReading.{first_refused}
use Rattle.hj_opening.proofs.twice.read_both.Goals as goal

pub returns-in_err-first-clause-gets : goal.returns-in_err-first-clause-gets
returns-in_err-first-clause-gets g c =
    let p = err_from_is_err_and c.from_residual.result c.from_residual.ensures.1 in
    rw (p.1, p.2) (first_refused (twice_names c.args.joins) c.args.joins.limit (g.O.Outside.under c.args.outside.now) (g.O.Outside.state c.args.outside.now) c.requires (g.O.Outside.state c.read_query.new.outside) c.in_err-first.field-0.0 c.in_err-first.ensures.gets)

pub returns-clause-gets : goal.returns-clause-gets
returns-clause-gets g c =
    let names = twice_names c.args.joins in
    let got = c.in_ok-first.ensures in
    c.read_behind.ensures.gets names c.args.joins.limit (g.O.Outside.under c.args.outside.now) (g.O.Outside.state c.args.outside.now)
    (record { second = refl; none = c.requires; gets = got.gets; told_as = got.names names.second })
