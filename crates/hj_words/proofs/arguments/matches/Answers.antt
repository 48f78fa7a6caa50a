use Rattle.std.proofs.Common.{◌≡◌, map}
use Rattle.std.specs.Prelude.{string_bytes}
use Rattle.clap.specs.Words.{app_of}
use Rattle.hj_words.specs.Arguments.{command_app}
use Rattle.hj_words.proofs.Given.{accepted, built_up, refuses, words_refused}
use Rattle.hj_words.proofs.arguments.matches.Goals as goal

pub returns-clause-ok : goal.returns-clause-ok
returns-clause-ok c =
    let is : app_of c.in_ok-command-2.command ≡ command_app c.args.name.now (map (λ o. o.now) c.args.options.now) (map (λ n. n.now) c.args.names.now) =
    built_up c.args.name.now (map (λ o. o.now) c.args.options.now) (map (λ n. n.now) c.args.names.now) _ _ _ c.bare.ensures c.in_ok-command.ensures c.in_ok-command-2.ensures in
    accepted _ _ (map string_bytes c.args.words.now) _ is c.in_ok-try_get_matches_from.ensures.kinds c.in_ok-try_get_matches_from.ensures.matches

pub returns-in_err-try_get_matches_from-clause-err : goal.returns-in_err-try_get_matches_from-clause-err
returns-in_err-try_get_matches_from-clause-err c =
    let is : app_of c.in_ok-command-2.command ≡ command_app c.args.name.now (map (λ o. o.now) c.args.options.now) (map (λ n. n.now) c.args.names.now) =
    built_up c.args.name.now (map (λ o. o.now) c.args.options.now) (map (λ n. n.now) c.args.names.now) _ _ _ c.bare.ensures c.in_ok-command.ensures c.in_ok-command-2.ensures in
    words_refused c.from_residual-in_err-try_get_matches_from.result c.in_err-try_get_matches_from.field-0.0 _ c.from_residual-in_err-try_get_matches_from.ensures.1
    (λ other. refuses _ _ (map string_bytes c.args.words.now) c.in_err-try_get_matches_from.field-0.0 is c.in_err-try_get_matches_from.ensures.kinds other)
