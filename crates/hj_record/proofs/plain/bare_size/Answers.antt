use Rattle.std.proofs.Common.{take, subst, All, arith}
use Rattle.std.proofs.lemmas.List.{take_rest}
use Rattle.hj_record.specs.Plain.{IsBare}
use Rattle.hj_record.proofs.Ahead.{all_further}
use Rattle.hj_record.proofs.plain.bare_size.Goals as goal

pub returns-then-bare-lt-LANES-clause-bare : goal.returns-then-bare-lt-LANES-clause-bare
returns-then-bare-lt-LANES-clause-bare c =
    all_further IsBare c.args.text.now c.loop-at.at c.bare_ahead-bare.result c.loop-at.invariant.bare c.bare_ahead-bare.ensures.bare

pub loop-at-preserved : goal.loop-at-preserved
loop-at-preserved c = record {
  within = omega arith;
  bare = all_further IsBare c.args.text.now c.loop-at.at c.bare_ahead-bare.result c.loop-at.invariant.bare c.bare_ahead-bare.ensures.bare;
}

pub returns-clause-bare : goal.returns-clause-bare
returns-clause-bare c =
    let text = c.args.text.now in
    let at = c.loop-at.at in
    all_further IsBare text at c.bare_of_few.result c.loop-at.invariant.bare
    (subst (λ l. All IsBare (take c.bare_of_few.result l)) (take_rest text at) c.bare_of_few.ensures.bare)
