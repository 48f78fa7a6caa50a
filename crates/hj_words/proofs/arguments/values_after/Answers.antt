use Rattle.std.proofs.Common.{◌≡◌, List, None, map, subst₂}
use Rattle.std.specs.Prelude.{IfErr, IfOk, string_bytes}
use Rattle.hj_words.specs.Arguments.{Carries, command_app}
use Rattle.hj_words.specs.Values.{Text, given}
use Rattle.hj_words.specs.declared.order.Usage.TheVariants as usage
use Rattle.hj_words.proofs.Found.{verb_read}
use Rattle.hj_words.proofs.Given.{IsRead, carried_matches, refused_words, texts_of}
use Rattle.hj_words.proofs.arguments.values_after.Goals as goal

pub returns-clause-ok : goal.returns-clause-ok
returns-clause-ok c =
    let options : List Text = map (λ o. o.now) c.options.result.now in
    let names : List Text = map (λ n. n.now) c.names.result.now in
    let read : IsRead (command_app c.title.result.now options names) options names = rw (c.title.ensures, c.options.ensures, c.names.ensures) (verb_read c.args.verb) in
    subst₂ (λ (options names : List Text). IfOk c.matches.result (Carries options names (map string_bytes c.args.words.now))) c.options.ensures c.names.ensures
    (carried_matches _ options names (map string_bytes c.args.words.now) read (texts_of c.args.words.now) _ c.matches.ensures.ok)

pub returns-clause-err : goal.returns-clause-err
returns-clause-err c =
    let options : List Text = map (λ o. o.now) c.options.result.now in
    let names : List Text = map (λ n. n.now) c.names.result.now in
    let read : IsRead (command_app c.title.result.now options names) options names = rw (c.title.ensures, c.options.ensures, c.names.ensures) (verb_read c.args.verb) in
    subst₂ (λ (options names : List Text). IfErr c.matches.result (λ fault. fault ≡ usage.Words → given options names (map string_bytes c.args.words.now) ≡ None)) c.options.ensures c.names.ensures
    (refused_words _ options names (map string_bytes c.args.words.now) read (texts_of c.args.words.now) _ c.matches.ensures.err)
