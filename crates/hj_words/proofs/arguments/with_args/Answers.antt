use Rattle.hj_words.specs.Arguments.{rule_at}
use Rattle.hj_words.proofs.Given.{added, one_more}
use Rattle.hj_words.proofs.arguments.with_args.Goals as goal

pub loop-name-preserved : goal.loop-name-preserved
loop-name-preserved c =
    one_more (rule_at c.args.place) c.args.names.now c.loop-name.name-index _ _ _ _ c.loop-name-test.true (added c.in_ok-command.ensures c.argument.ensures.local c.argument.ensures.rule) c.loop-name.invariant
