use Rattle.std.proofs.Common.{◌≡◌, map, drop}
use Rattle.std.specs.List.{fold}
use Rattle.clap.specs.Simple.{with_rule}
use Rattle.clap.specs.Words.{app_of}
use Rattle.hj_words.specs.Arguments.{rule_at}
use Rattle.hj_words.proofs.arguments.with_args.Given as goal

-- the arguments that are left lead to the command that is wanted
abbrev pub invariant-loop-name : goal.invariant-loop-name
invariant-loop-name l =
    fold with_rule (app_of l.command) (map (rule_at l.place) (map (λ n. n.now) (drop l.name-index l.names)))
    ≡ fold with_rule (app_of l.initial.command) (map (rule_at l.place) (map (λ n. n.now) l.names))
