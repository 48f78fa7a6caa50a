use Rattle.std.proofs.Common.{◌++◌, ◌∷◌, [], ℕ, List, refl, subst}
use Rattle.std.specs.Prelude.{Err}
use Rattle.std.proofs.lemmas.Result.{err_from_is_err_and}
use Rattle.hj_base.specs.declared.outside.Role.TheVariants as role
use Rattle.hj_msg.specs.Feed.{events_in}
use Rattle.hj_trace.specs.Actors.{actor_text}
use Rattle.hj_verify.specs.Checked.{fresh}
use Rattle.hj_verify.specs.Lines.{ReadsRest}
use Rattle.hj_verify.proofs.FeedBeside.{over, state_beside}
use Rattle.hj_verify.proofs.Kept.{kept_made, kept_maker, kept_output, kept_rest}
use Rattle.hj_verify.proofs.LineSteps.{due_fewer, due_line, line_fewer, maker_still, maker_stops, maker_there, rest_stops, step_stops, whole_line}
use Rattle.hj_verify.proofs.Made.{if_ok}
use Rattle.hj_verify.proofs.line.check_line.Goals as goal

pub returns-in_err-actor : goal.returns-in_err-actor
returns-in_err-actor g c =
    let kept_1 = kept_maker {O = g.row.O.Denot} {outside = g.O.Outside} c.args.feed.now c.args.chain.now c.args.texts.now.trace c.args.texts.now.output.stream c.requires.goes c.requires.are_open c.next_maker.new.feed c.next_maker.ensures.beside c.next_maker.new.trace c.next_maker.ensures.role c.next_maker.ensures.read in
    let p = err_from_is_err_and c.from_residual.result c.from_residual.ensures.1 in
    rw (p.1, p.2)
    (record {
      outside = kept_1.same;
      goes = kept_1.goes;
      are_open = kept_1.are_open;
      fewer = tt;
      checks = λ query n flight start under not_done.
          maker_stops {O = g.row.O.Denot} {outside = g.O.Outside} query n flight start c.args.number c.args.chain.now c.args.feed.now c.args.texts.now.trace c.args.texts.now.output under c.next_maker.new.feed c.next_maker.ensures.beside c.next_maker.new.trace not_done _ (c.in_err-actor.ensures.reads under.lines (fresh role.Trace) (start.roles role.Trace) under.trace_used);
    })

pub make_step-requires : goal.make_step-requires
make_step-requires g c κs =
    let kept_1 = kept_maker {O = g.row.O.Denot} {outside = g.O.Outside} c.args.feed.now c.args.chain.now c.args.texts.now.trace c.args.texts.now.output.stream c.requires.goes c.requires.are_open c.next_maker.new.feed c.next_maker.ensures.beside c.next_maker.new.trace c.next_maker.ensures.role c.next_maker.ensures.read in
    ((refl, tt), kept_1.goes)

pub returns-in_err-make_step : goal.returns-in_err-make_step
returns-in_err-make_step g c =
    let kept_2 = kept_made {O = g.row.O.Denot} {outside = g.O.Outside} c.args.feed.now c.args.chain.now c.args.texts.now.trace c.args.texts.now.output.stream c.requires.goes c.requires.are_open c.next_maker.new.feed c.next_maker.ensures.beside c.next_maker.new.trace c.next_maker.ensures.role c.next_maker.ensures.read c.make_step.new.feed c.make_step.ensures.asked c.make_step.new.chain c.make_step.ensures.goes in
    let p = err_from_is_err_and c.from_residual-in_err-make_step.result c.from_residual-in_err-make_step.ensures.1 in
    rw (p.1, p.2)
    (record {
      outside = kept_2.same;
      goes = kept_2.goes;
      are_open = kept_2.are_open;
      fewer = tt;
      checks = λ query n flight start under not_done.
          let reads = c.in_ok-actor.ensures.reads under.lines (fresh role.Trace) (start.roles role.Trace) under.trace_used in
          step_stops {O = g.row.O.Denot} {outside = g.O.Outside} query n flight start c.args.number c.args.chain.now c.args.feed.now c.args.texts.now.trace c.args.texts.now.output under c.next_maker.new.feed c.next_maker.ensures.beside c.next_maker.new.trace c.in_ok-actor.actor reads not_done c.make_step.new.chain c.make_step.new.feed c.make_step.new.line.items c.make_step.ensures.asked _ c.in_err-make_step.ensures.makes;
    })

pub next_rest-requires : goal.next_rest-requires
next_rest-requires g c =
    let kept_2 = kept_made {O = g.row.O.Denot} {outside = g.O.Outside} c.args.feed.now c.args.chain.now c.args.texts.now.trace c.args.texts.now.output.stream c.requires.goes c.requires.are_open c.next_maker.new.feed c.next_maker.ensures.beside c.next_maker.new.trace c.next_maker.ensures.role c.next_maker.ensures.read c.make_step.new.feed c.make_step.ensures.asked c.make_step.new.chain c.make_step.ensures.goes in
    record { of = kept_2.are_open.trace_role; goes = kept_2.are_open.trace_open }

pub returns-in_err-next_rest : goal.returns-in_err-next_rest
returns-in_err-next_rest g c =
    let kept_3 = kept_rest {O = g.row.O.Denot} {outside = g.O.Outside} c.args.feed.now c.args.chain.now c.args.texts.now.trace c.args.texts.now.output.stream c.requires.goes c.requires.are_open c.next_maker.new.feed c.next_maker.ensures.beside c.next_maker.new.trace c.next_maker.ensures.role c.next_maker.ensures.read c.make_step.new.feed c.make_step.ensures.asked c.make_step.new.chain c.make_step.ensures.goes c.next_rest.new.feed c.next_rest.ensures.beside c.next_rest.new.trace c.next_rest.ensures.role c.next_rest.ensures.read in
    let p = err_from_is_err_and c.from_residual-in_err-next_rest.result c.from_residual-in_err-next_rest.ensures.1 in
    rw (p.1, p.2)
    (record {
      outside = kept_3.same;
      goes = kept_3.goes;
      are_open = kept_3.are_open;
      fewer = tt;
      checks = λ query n flight start under not_done.
          let reads = c.in_ok-actor.ensures.reads under.lines (fresh role.Trace) (start.roles role.Trace) under.trace_used in
          let on = maker_there {O = g.row.O.Denot} {outside = g.O.Outside} query n flight start c.args.number c.args.chain.now c.args.feed.now c.args.texts.now.trace c.args.texts.now.output under c.next_maker.new.feed c.next_maker.ensures.beside c.next_maker.new.trace c.in_ok-actor.actor reads in
          let made = c.in_ok-make_step.ensures.makes in
          let still = maker_still {O = g.row.O.Denot} {outside = g.O.Outside} query n flight start c.args.number c.args.chain.now c.make_step.new.chain (over c.next_maker.new.feed) c.make_step.new.feed c.in_ok-actor.actor c.next_maker.new.trace c.args.texts.now.output on c.make_step.new.line.items made in
          rest_stops {O = g.row.O.Denot} {outside = g.O.Outside} query n flight start c.args.number c.args.chain.now c.make_step.new.chain (over c.next_maker.new.feed) c.make_step.new.feed c.in_ok-actor.actor c.next_maker.new.trace c.args.texts.now.output on c.make_step.new.line.items made c.next_rest.new.feed c.next_rest.ensures.beside c.next_rest.new.trace not_done c.in_err-next_rest.field-0.0
          (subst (λ (l : List ℕ). ReadsRest (Err c.in_err-next_rest.field-0.0) l c.args.number (on.so.lines ++ (actor_text c.in_ok-actor.actor ++ 44 ∷ [])) (fresh role.Trace) (start.roles role.Trace) c.next_rest.new.trace (g.O.Outside.state c.next_rest.new.feed.outside.now c.next_rest.new.trace.role)) c.deref.ensures.value (c.in_err-next_rest.ensures.reads _ (fresh role.Trace) (start.roles role.Trace) still));
    })

pub next_pairs-requires : goal.next_pairs-requires
next_pairs-requires g c κs =
    let kept_3 = kept_rest {O = g.row.O.Denot} {outside = g.O.Outside} c.args.feed.now c.args.chain.now c.args.texts.now.trace c.args.texts.now.output.stream c.requires.goes c.requires.are_open c.next_maker.new.feed c.next_maker.ensures.beside c.next_maker.new.trace c.next_maker.ensures.role c.next_maker.ensures.read c.make_step.new.feed c.make_step.ensures.asked c.make_step.new.chain c.make_step.ensures.goes c.next_rest.new.feed c.next_rest.ensures.beside c.next_rest.new.trace c.next_rest.ensures.role c.next_rest.ensures.read in
    ((refl, tt), ((_, kept_3.goes), (kept_3.are_open.output_role, kept_3.are_open.output_open)))

pub returns-in-Collect : goal.returns-in-Collect
returns-in-Collect g c =
    let kept_1 = kept_maker {O = g.row.O.Denot} {outside = g.O.Outside} c.args.feed.now c.args.chain.now c.args.texts.now.trace c.args.texts.now.output.stream c.requires.goes c.requires.are_open c.next_maker.new.feed c.next_maker.ensures.beside c.next_maker.new.trace c.next_maker.ensures.role c.next_maker.ensures.read in
    let kept_3 = kept_rest {O = g.row.O.Denot} {outside = g.O.Outside} c.args.feed.now c.args.chain.now c.args.texts.now.trace c.args.texts.now.output.stream c.requires.goes c.requires.are_open c.next_maker.new.feed c.next_maker.ensures.beside c.next_maker.new.trace c.next_maker.ensures.role c.next_maker.ensures.read c.make_step.new.feed c.make_step.ensures.asked c.make_step.new.chain c.make_step.ensures.goes c.next_rest.new.feed c.next_rest.ensures.beside c.next_rest.new.trace c.next_rest.ensures.role c.next_rest.ensures.read in
    let kept_4 = kept_output {O = g.row.O.Denot} {outside = g.O.Outside} c.args.feed.now (over c.next_rest.new.feed) c.make_step.new.chain c.next_rest.new.trace c.args.texts.now.output.stream kept_3 c.next_pairs.new.feed c.next_pairs.ensures.beside c.next_pairs.new.chain c.next_pairs.ensures.goes c.next_pairs.new.output.stream c.next_pairs.ensures.role c.next_pairs.ensures.read in
    record {
      outside = kept_4.same;
      goes = kept_4.goes;
      are_open = kept_4.are_open;
      fewer =
          if_ok c.next_pairs.result
          (due_fewer c.make_step.new.chain.state c.next_pairs.new.chain.state _ _ _ c.next_pairs.ensures.state (state_beside {O = g.row.O.Denot} {outside = g.O.Outside} role.Output c.next_rest.new.feed c.next_pairs.new.feed c.next_pairs.ensures.beside) (line_fewer {O = g.row.O.Denot} {outside = g.O.Outside} c.args.chain.now c.make_step.new.chain c.in_ok-actor.actor c.args.feed.now c.next_maker.new.feed c.make_step.new.feed c.next_rest.new.feed c.next_maker.ensures.beside c.next_rest.ensures.beside c.requires.goes c.in_ok-make_step.ensures.makes.step c.in_ok-make_step.ensures.answers));
      checks = λ query n flight start under not_done.
          let next = whole_line {O = g.row.O.Denot} {outside = g.O.Outside} query n flight start c.args.number c.args.chain.now c.make_step.new.chain c.args.feed.now c.make_step.new.feed c.args.texts.now.trace c.args.texts.now.output under c.next_maker.new.feed c.next_maker.ensures.beside c.next_maker.new.trace c.in_ok-actor.actor
          (c.in_ok-actor.ensures.reads under.lines (fresh role.Trace) (start.roles role.Trace) under.trace_used) c.make_step.new.line.items _ c.in_ok-make_step.ensures.makes c.deref.ensures.value c.make_step.ensures.join kept_1.goes c.next_rest.new.feed c.next_rest.ensures.beside c.next_rest.new.trace
          (λ text. c.in_ok-next_rest.ensures.reads text (fresh role.Trace) (start.roles role.Trace)) in
          due_line {O = g.row.O.Denot} {outside = g.O.Outside} query n flight start c.args.number c.make_step.new.chain c.next_pairs.new.chain (over c.next_rest.new.feed) c.next_rest.new.trace c.args.texts.now.output c.next_pairs.new.output next c.next_pairs.new.feed c.next_pairs.ensures.beside c.next_pairs.ensures.state c.next_pairs.ensures.join c.next_pairs.result
          (c.next_pairs.ensures.checks next.schedule (events_in next.fed.answers) next.given next.pairs (fresh role.Output) (start.roles role.Output) next.gave next.agrees);
    }

pub returns-in_default : goal.returns-in_default
returns-in_default g c =
    let kept_1 = kept_maker {O = g.row.O.Denot} {outside = g.O.Outside} c.args.feed.now c.args.chain.now c.args.texts.now.trace c.args.texts.now.output.stream c.requires.goes c.requires.are_open c.next_maker.new.feed c.next_maker.ensures.beside c.next_maker.new.trace c.next_maker.ensures.role c.next_maker.ensures.read in
    let kept_3 = kept_rest {O = g.row.O.Denot} {outside = g.O.Outside} c.args.feed.now c.args.chain.now c.args.texts.now.trace c.args.texts.now.output.stream c.requires.goes c.requires.are_open c.next_maker.new.feed c.next_maker.ensures.beside c.next_maker.new.trace c.next_maker.ensures.role c.next_maker.ensures.read c.make_step.new.feed c.make_step.ensures.asked c.make_step.new.chain c.make_step.ensures.goes c.next_rest.new.feed c.next_rest.ensures.beside c.next_rest.new.trace c.next_rest.ensures.role c.next_rest.ensures.read in
    record {
      outside = kept_3.same;
      goes = kept_3.goes;
      are_open = kept_3.are_open;
      fewer = line_fewer {O = g.row.O.Denot} {outside = g.O.Outside} c.args.chain.now c.make_step.new.chain c.in_ok-actor.actor c.args.feed.now c.next_maker.new.feed c.make_step.new.feed c.next_rest.new.feed c.next_maker.ensures.beside c.next_rest.ensures.beside c.requires.goes c.in_ok-make_step.ensures.makes.step c.in_ok-make_step.ensures.answers;
      checks = λ query n flight start under not_done.
          whole_line {O = g.row.O.Denot} {outside = g.O.Outside} query n flight start c.args.number c.args.chain.now c.make_step.new.chain c.args.feed.now c.make_step.new.feed c.args.texts.now.trace c.args.texts.now.output under c.next_maker.new.feed c.next_maker.ensures.beside c.next_maker.new.trace c.in_ok-actor.actor
          (c.in_ok-actor.ensures.reads under.lines (fresh role.Trace) (start.roles role.Trace) under.trace_used) c.make_step.new.line.items _ c.in_ok-make_step.ensures.makes c.deref.ensures.value c.make_step.ensures.join kept_1.goes c.next_rest.new.feed c.next_rest.ensures.beside c.next_rest.new.trace
          (λ text. c.in_ok-next_rest.ensures.reads text (fresh role.Trace) (start.roles role.Trace));
    }
