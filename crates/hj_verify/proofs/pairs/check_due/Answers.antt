use Rattle.std.proofs.Common.{refl, ◌∙◌}
use Rattle.std.proofs.lemmas.Result.{err_from_is_err_and}
use Rattle.hj_chain.proofs.Draining.{fewer, join-stays, state-stays}
use Rattle.hj_trace.proofs.Streams.{changes_then}
use Rattle.hj_verify.proofs.Due.{gave_all, gave_more}
use Rattle.hj_verify.proofs.pairs.check_due.Goals as goal

pub loop-pair-init : goal.loop-pair-init
loop-pair-init g c = record {
  state = refl;
  join = refl;
  goes = λ feed goes. goes;
  role = refl;
  read = c.requires.output;
  gave = λ schedule events given pairs start before has agrees. record { given = given; has = has; agrees = agrees };
  others = λ other apart. refl;
  names = λ name. refl;
}

pub loop-pair-smaller : goal.loop-pair-smaller
loop-pair-smaller g c = fewer c.loop-pair.chain.kept c.pair.new.self.kept _ c.in-Some.ensures.kept

pub loop-pair-preserved : goal.loop-pair-preserved
loop-pair-preserved g c =
    let held = c.loop-pair.invariant in
    record {
      state = state-stays c.loop-pair.chain c.pair.new.self c.pair.ensures.others ∙ held.state;
      join = join-stays c.loop-pair.chain c.pair.new.self c.pair.ensures.others ∙ held.join;
      goes = λ feed goes. c.pair.ensures.goes feed (held.goes feed goes);
      role = c.check_pair.ensures.role ∙ held.role;
      read = c.check_pair.ensures.read;
      gave = λ schedule events given pairs start before has agrees.
          let gave = held.gave schedule events given pairs start before has agrees in
          gave_more c.loop-pair.chain c.pair.new.self c.pair.ensures.others schedule events pairs c.in-Some.pair c.in-Some.ensures.kept gave.given gave.has (c.in-Some.ensures.pair schedule events gave.given gave.has.stands)
          start before c.check_pair.new.output (g.O.Outside.state c.check_pair.new.outside c.check_pair.new.output.stream.role) (c.in_ok-check_pair.ensures.compares _ start before gave.agrees);
      others = changes_then c.args.output.now.stream.role c.loop-pair.output.stream.role (g.O.Outside.state c.args.outside.now) (g.O.Outside.state c.loop-pair.outside) (g.O.Outside.state c.check_pair.new.outside) held.role held.others c.check_pair.ensures.others;
      names = λ name. c.check_pair.ensures.names name ∙ held.names name;
    }

pub returns-in_err-check_pair-clause-checks : goal.returns-in_err-check_pair-clause-checks
returns-in_err-check_pair-clause-checks g c = λ schedule events given pairs start before has agrees.
    let gave = c.loop-pair.invariant.gave schedule events given pairs start before has agrees in
    let p = err_from_is_err_and c.from_residual.result c.from_residual.ensures.1 in
    rw (p.1, p.2) (c.in_err-check_pair.ensures.compares _ start before gave.agrees)

pub returns-clause-checks : goal.returns-clause-checks
returns-clause-checks g c = λ schedule events given pairs start before has agrees.
    let gave = c.loop-pair.invariant.gave schedule events given pairs start before has agrees in
    gave_all c.loop-pair.chain c.pair.new.self c.in_default.ensures.unchanged schedule events pairs start before c.loop-pair.output (g.O.Outside.state c.loop-pair.outside c.loop-pair.output.stream.role) gave
    (c.in_default.ensures.pair schedule events gave.given gave.has.stands)
