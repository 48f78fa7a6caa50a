use Rattle.std.proofs.Common.{◌∙◌, rules, tests}
use Rattle.std.proofs.lemmas.Iterator.Adapters.{YieldsList-from_bytes}
use Rattle.std.proofs.lemmas.Iterator.Search.{all_from_yields_List}
use Rattle.std.specs.Char.{is_ascii_digit}
use Rattle.hj_words.proofs.NumberWord.{list_all-digits}
use Rattle.hj_words.proofs.values.are_digits.Goals as goal

pub returns : goal.returns
returns c =
    all_from_yields_List is_ascii_digit _ _ _ c.all.ensures.ran (YieldsList-from_bytes c.args.word.now cc) (λ x b q k. search (rules, tests))
    ∙ list_all-digits c.args.word.now
