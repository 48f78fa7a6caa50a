use Rattle.std.proofs.Common.{◌≡◌, ◌<◌, ◌≤◌, true, List, ℕ, ap, arith, sym, ◌∙◌}
use Rattle.std.proofs.lemmas.Result.{err_from_is_err_and}
use Rattle.hj_lex.specs.declared.token.TokenKind.TheVariants as kinds
use Rattle.hj_query.specs.declared.setting.Setting.{Setting}
use Rattle.hj_query.specs.Faults.{no_value, range_fault, too_large}
use Rattle.hj_query.specs.Grammar.{given, most_of, setting_word}
use Rattle.hj_query.specs.Lexemes.{Lexeme, IsWord, behind, next_is}
use Rattle.hj_query.proofs.setting.read_setting.Goals as goal

taken : (setting : Setting) (word : List ℕ) (here rest : List Lexeme) → word ≡ setting_word setting → next_is kinds.Name word here ≡ true → rest ≡ behind here → IsWord (setting_word setting) here rest
taken setting word here rest is found left = record { found = ap (λ word. next_is kinds.Name word here) (sym is) ∙ found; left = left }

pub returns-in_err-value-clause-read : goal.returns-in_err-value-clause-read
returns-in_err-value-clause-read c =
    let p = err_from_is_err_and c.from_residual.result c.from_residual.ensures.1 in
    rw (p.1, p.2) (no_value c.skip.new.self (taken c.args.setting c.word.result.now _ _ c.word.ensures (sym c.if-not-is_word.ensures.is) c.skip.ensures.behind)
    c.in_err-value.ensures.read.0 c.in_err-value.ensures.read.1)

pub returns-then-value-most-clause-read : goal.returns-then-value-most-clause-read
returns-then-value-most-clause-read c =
    let high : most_of c.args.setting < c.in_ok-value.value = omega arith in
    too_large c.in_ok-value.value c.skip.new.self _ (taken c.args.setting c.word.result.now _ _ c.word.ensures (sym c.if-not-is_word.ensures.is) c.skip.ensures.behind)
    c.in_ok-value.ensures.read.0 high (c.range_fault.ensures ∙ ap (range_fault c.args.setting) c.place-place.ensures)

pub returns-clause-read : goal.returns-clause-read
returns-clause-read c =
    let low : c.in_ok-value.value ≤ most_of c.args.setting = omega arith in
    given c.skip.new.self (taken c.args.setting c.word.result.now _ _ c.word.ensures (sym c.if-not-is_word.ensures.is) c.skip.ensures.behind) c.in_ok-value.ensures.read.0 low
