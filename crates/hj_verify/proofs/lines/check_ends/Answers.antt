use Rattle.std.proofs.lemmas.Result.{err_from_is_err_and}
use Rattle.hj_base.specs.declared.outside.Role.TheVariants as role
use Rattle.hj_msg.specs.Feed.{events_in}
use Rattle.hj_verify.specs.Checked.{fresh}
use Rattle.hj_verify.proofs.Ends.{agrees_third, all_ends, due_ends, outside_thrice, outside_twice, trace_ends_wrong, trace_used_second}
use Rattle.hj_verify.proofs.FeedBeside.{outside_beside}
use Rattle.hj_verify.proofs.Kept.{kept_first, kept_output}
use Rattle.hj_verify.proofs.Open.{goes_apart}
use Rattle.hj_verify.proofs.Stopping.{trace_isnt_output}
use Rattle.hj_verify.proofs.lines.check_ends.Goals as goal

pub returns-in_err-next_pairs : goal.returns-in_err-next_pairs
returns-in_err-next_pairs g c =
    let p = err_from_is_err_and c.from_residual.result c.from_residual.ensures.1 in
    rw (p.1, p.2)
    (record {
      outside = outside_beside {O = g.row.O.Denot} {outside = g.O.Outside} role.Output c.args.feed.now.feed c.next_pairs.new.feed c.next_pairs.ensures.beside;
      checks = λ query n flight start under done.
          due_ends {O = g.row.O.Denot} {outside = g.O.Outside} query n flight start c.args.number c.args.chain.now c.args.feed.now c.args.texts.now.trace c.args.texts.now.output under c.next_pairs.new.chain c.next_pairs.new.output c.next_pairs.new.feed c.next_pairs.ensures.beside c.next_pairs.ensures.state c.next_pairs.ensures.join _
          (c.in_err-next_pairs.ensures.checks under.schedule (events_in under.fed.answers) under.given under.pairs (fresh role.Output) (start.roles role.Output) under.gave under.agrees);
    })

pub trace_end-requires : goal.trace_end-requires
trace_end-requires g c =
    let kept_0 = kept_first {O = g.row.O.Denot} {outside = g.O.Outside} c.args.feed.now c.args.chain.now c.args.texts.now.trace c.args.texts.now.output.stream c.requires.goes c.requires.are_open in
    let kept_1 = kept_output {O = g.row.O.Denot} {outside = g.O.Outside} c.args.feed.now c.args.feed.now c.args.chain.now c.args.texts.now.trace c.args.texts.now.output.stream kept_0 c.next_pairs.new.feed c.next_pairs.ensures.beside c.next_pairs.new.chain c.next_pairs.ensures.goes c.next_pairs.new.output.stream c.next_pairs.ensures.role c.next_pairs.ensures.read in
    record { of = kept_1.are_open.trace_role; goes = kept_1.are_open.trace_open }

pub returns-in_err-trace_end : goal.returns-in_err-trace_end
returns-in_err-trace_end g c =
    let p = err_from_is_err_and c.from_residual-in_err-trace_end.result c.from_residual-in_err-trace_end.ensures.1 in
    rw (p.1, p.2)
    (record {
      outside = outside_twice {O = g.row.O.Denot} {outside = g.O.Outside} c.args.feed.now.feed c.next_pairs.new.feed c.trace_end.new.feed c.trace_end.new.feed role.Output role.Trace c.next_pairs.ensures.beside c.trace_end.ensures.beside;
      checks = λ query n flight start under done.
          let due = c.in_ok-next_pairs.ensures.checks under.schedule (events_in under.fed.answers) under.given under.pairs (fresh role.Output) (start.roles role.Output) under.gave under.agrees in
          trace_ends_wrong {O = g.row.O.Denot} {outside = g.O.Outside} query n flight start c.args.number c.args.chain.now c.args.feed.now c.args.texts.now.trace c.args.texts.now.output under c.next_pairs.new.chain c.next_pairs.new.output c.next_pairs.new.feed c.next_pairs.ensures.beside c.next_pairs.ensures.state c.next_pairs.ensures.join done c.requires.goes due c.trace_end.new.trace c.trace_end.new.feed c.trace_end.ensures.beside _
          (c.in_err-trace_end.ensures.reads under.lines (fresh role.Trace) (start.roles role.Trace) (trace_used_second {O = g.row.O.Denot} {outside = g.O.Outside} query n flight start c.args.number c.args.chain.now c.args.feed.now c.args.texts.now.trace c.args.texts.now.output under c.next_pairs.new.chain c.next_pairs.new.output c.next_pairs.new.feed c.next_pairs.ensures.beside c.next_pairs.ensures.state c.next_pairs.ensures.join));
    })

pub output_end-requires : goal.output_end-requires
output_end-requires g c =
    let kept_0 = kept_first {O = g.row.O.Denot} {outside = g.O.Outside} c.args.feed.now c.args.chain.now c.args.texts.now.trace c.args.texts.now.output.stream c.requires.goes c.requires.are_open in
    let kept_1 = kept_output {O = g.row.O.Denot} {outside = g.O.Outside} c.args.feed.now c.args.feed.now c.args.chain.now c.args.texts.now.trace c.args.texts.now.output.stream kept_0 c.next_pairs.new.feed c.next_pairs.ensures.beside c.next_pairs.new.chain c.next_pairs.ensures.goes c.next_pairs.new.output.stream c.next_pairs.ensures.role c.next_pairs.ensures.read in
    record {
      of = kept_1.are_open.output_role;
      goes = goes_apart role.Trace c.next_pairs.new.output.stream (g.O.Outside.state c.next_pairs.new.feed.outside.now) (g.O.Outside.state c.trace_end.new.feed.outside.now) c.trace_end.ensures.beside.others kept_1.are_open.output_role trace_isnt_output kept_1.are_open.output_open;
    }

pub returns : goal.returns
returns g c = record {
  outside = outside_thrice {O = g.row.O.Denot} {outside = g.O.Outside} c.args.feed.now.feed c.next_pairs.new.feed c.trace_end.new.feed c.output_end.new.feed role.Output role.Trace role.Output c.next_pairs.ensures.beside c.trace_end.ensures.beside c.output_end.ensures.beside;
  checks = λ query n flight start under done.
      let due = c.in_ok-next_pairs.ensures.checks under.schedule (events_in under.fed.answers) under.given under.pairs (fresh role.Output) (start.roles role.Output) under.gave under.agrees in
      let whole = c.in_ok-trace_end.ensures.reads under.lines (fresh role.Trace) (start.roles role.Trace) (trace_used_second {O = g.row.O.Denot} {outside = g.O.Outside} query n flight start c.args.number c.args.chain.now c.args.feed.now c.args.texts.now.trace c.args.texts.now.output under c.next_pairs.new.chain c.next_pairs.new.output c.next_pairs.new.feed c.next_pairs.ensures.beside c.next_pairs.ensures.state c.next_pairs.ensures.join) in
      all_ends {O = g.row.O.Denot} {outside = g.O.Outside} query n flight start c.args.number c.args.chain.now c.args.feed.now c.args.texts.now.trace c.args.texts.now.output under c.next_pairs.new.chain c.next_pairs.new.output c.next_pairs.new.feed c.next_pairs.ensures.beside c.next_pairs.ensures.state c.next_pairs.ensures.join done c.requires.goes due c.trace_end.new.trace c.trace_end.new.feed c.trace_end.ensures.beside whole c.output_end.new.output.stream c.output_end.new.feed c.output_end.ensures.beside c.output_end.result
      (c.output_end.ensures.ends _ (fresh role.Output) (start.roles role.Output) (agrees_third {O = g.row.O.Denot} {outside = g.O.Outside} query n flight start c.args.number c.args.chain.now c.args.feed.now c.args.texts.now.trace c.args.texts.now.output under c.next_pairs.new.chain c.next_pairs.new.output c.next_pairs.new.feed c.next_pairs.ensures.beside c.next_pairs.ensures.state c.next_pairs.ensures.join done c.requires.goes due c.trace_end.new.trace c.trace_end.new.feed c.trace_end.ensures.beside));
}
