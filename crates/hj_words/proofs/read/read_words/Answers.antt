use Rattle.std.proofs.Common.{◌≡◌, Option, Some, None, IfErr, IfOk, string_bytes, rules, subst, sym, ◌∙◌}
use Rattle.hj_words.specs.Verbs.{verb_of}
use Rattle.hj_words.specs.declared.order.Order.{Order}
use Rattle.hj_words.specs.declared.order.Usage.TheVariants as usage
use Rattle.hj_words.proofs.Looking.{spelled_behind, spelled_by}
use Rattle.hj_words.proofs.read.read_words.Goals as goal

pub returns-clause-ok : goal.returns-clause-ok
returns-clause-ok c =
    let found : verb_of (string_bytes c.command-item.result) ≡ Some c.in-Some.verb = search rules in
    subst (λ (order : Option Order). IfOk c.read_order.result (λ read. order ≡ Some read))
    (sym (spelled_behind string_bytes c.args.words.now c.command-item.result c.in-Some.verb c.in-len1-up.len_at_least c.command-item.is found
    ∙ spelled_by c.in-Some.verb _ c.in_ok-matches.matches c.in_ok-matches.ensures.ok))
    c.read_order.ensures.ok

pub returns-clause-err : goal.returns-clause-err
returns-clause-err c =
    let found : verb_of (string_bytes c.command-item.result) ≡ Some c.in-Some.verb = search rules in
    subst (λ (order : Option Order). IfErr c.read_order.result (λ fault. fault ≡ usage.Words → order ≡ None))
    (sym (spelled_behind string_bytes c.args.words.now c.command-item.result c.in-Some.verb c.in-len1-up.len_at_least c.command-item.is found
    ∙ spelled_by c.in-Some.verb _ c.in_ok-matches.matches c.in_ok-matches.ensures.ok))
    c.read_order.ensures.err
