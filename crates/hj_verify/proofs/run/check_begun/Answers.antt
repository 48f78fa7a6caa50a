use Rattle.std.proofs.Common.{refl}
use Rattle.std.proofs.lemmas.Result.{err_from_is_err_and}
use Rattle.hj_replay.specs.Feeds.{roles_of}
use Rattle.hj_verify.specs.Checked.{feeding}
use Rattle.hj_verify.proofs.Beginning.{checking_first, open_first, run_fails}
use Rattle.hj_verify.proofs.run.check_begun.Goals as goal

pub returns-in_err-go_on-clause-checks : goal.returns-in_err-go_on-clause-checks
returns-in_err-go_on-clause-checks g c = λ query n flight start first.
    let p = err_from_is_err_and c.from_residual.result c.from_residual.ensures.1 in
    rw (p.1, p.2) (run_fails query n flight start c.args.chain.now (feeding c.args.feed.now) first _ c.in_err-go_on.ensures)

pub check_lines-requires : goal.check_lines-requires
check_lines-requires g c κs = (
  (refl, tt),
  (
    c.requires.goes,
    open_first (roles_of {O = g.row.O.Denot} {outside = g.O.Outside} c.args.feed.now) c.requires.trace c.requires.output c.new-trace.result c.new-trace.ensures c.new-output.result.stream c.new-output.ensures.stream,
  ),
)

pub returns-clause-checks : goal.returns-clause-checks
returns-clause-checks g c = λ query n flight start first.
    record {
      trace = c.check_lines.new.texts.trace;
      output = c.check_lines.new.texts.output.stream;
      checks =
          c.check_lines.ensures.checks query n flight start
          (checking_first query n flight start c.args.chain.now (feeding c.args.feed.now) first c.in_ok-go_on.ensures c.new-trace.result c.new-trace.ensures c.new-output.result c.new-output.ensures.stream c.new-output.ensures.same c.new-output.ensures.differs);
    }
