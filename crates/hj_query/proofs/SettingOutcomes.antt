-- Reading a setting: each list of tokens begins with one, or has a first fault, in one way.
use Rattle.std.proofs.Common.{◌≡◌, ◌⊎◌, inl, inr, ℕ, ◌<◌, ◌≤◌, true, List, ap, refl, sym, ◌∙◌, subst, arith}
use Rattle.std.proofs.lemmas.Bool.{cases_lt}
use Rattle.hj_lex.specs.declared.token.TokenKind.TheVariants as kinds
use Rattle.hj_query.specs.declared.fault.QueryFault.{QueryFault}
use Rattle.hj_query.specs.declared.fault.Wanted.TheVariants as wants
use Rattle.hj_query.specs.declared.setting.Setting.{Setting}
use Rattle.hj_query.specs.Faults.{FaultsSetting, IsExpected, no_value, range_fault, too_large}
use Rattle.hj_query.specs.Grammar.{IsSetting, absent, given, most_of, setting_word}
use Rattle.hj_query.specs.Lexemes.{Lexeme, behind, next_is, place, IsNumber, LacksKind, LacksWord}
use Rattle.hj_query.proofs.Choices.{Either, one_either, one_is, one_test}
use Rattle.hj_query.proofs.Outcomes.{IsOne, Outcome, Then, fault, one_by, one_then, read}
use Rattle.hj_query.proofs.TokenOutcomes.{NumberGives, number_one}
use Rattle.hj_query.proofs.WindowOutcomes.{word_at}

abbrev pub SettingGives : Setting → List Lexeme → Outcome ℕ → Type 0
SettingGives setting here (read value rest) = IsSetting setting here value rest
SettingGives setting here (fault found) = FaultsSetting setting here found

-- a number that was read, by its range
abbrev RangeGives : Setting → List Lexeme → ℕ → List Lexeme → Outcome ℕ → Type 0
RangeGives setting number value rest =
    Either (value ≤ most_of setting) (λ end. end ≡ read value rest) (most_of setting < value) (λ end. end ≡ fault (range_fault setting (place number)))

in_or_out : (most value : ℕ) → (value ≤ most) ⊎ (most < value)
in_or_out most value = size (cases_lt most value)
  where
    size : (most < value) ⊎ (value ≤ most) → (value ≤ most) ⊎ (most < value)
    size (inl gt) = inr gt
    size (inr le) = inl le

not_outside : (most value : ℕ) → value ≤ most → most < value → ⊥
not_outside most value le gt = omega (arith, le, gt)

range_one : (setting : Setting) (number : List Lexeme) (value : ℕ) (rest : List Lexeme) → IsOne (RangeGives setting number value rest)
range_one setting number value rest =
    one_either (value ≤ most_of setting) (λ end. end ≡ read value rest) (most_of setting < value) (λ end. end ≡ fault (range_fault setting (place number)))
    (in_or_out (most_of setting) value) (not_outside (most_of setting) value) (λ _. one_is _) (λ _. one_is _)

-- the number behind the word
abbrev NumberedGives : Setting → List Lexeme → Outcome ℕ → Type 0
NumberedGives setting number = Then (NumberGives wants.Number number) (RangeGives setting number)

numbered_one : (setting : Setting) (number : List Lexeme) → IsOne (NumberedGives setting number)
numbered_one setting number =
    one_then (NumberGives wants.Number number) (RangeGives setting number) (number_one wants.Number number) (λ value rest n. range_one setting number value rest)

abbrev WordedGives : Setting → List Lexeme → Outcome ℕ → Type 0
WordedGives setting here =
    Either (next_is kinds.Name (setting_word setting) here ≡ true) (NumberedGives setting (behind here))
    (LacksWord (setting_word setting) here) (λ end. end ≡ read 0 here)

worded_one : (setting : Setting) (here : List Lexeme) → IsOne (WordedGives setting here)
worded_one setting here =
    one_test (next_is kinds.Name (setting_word setting) here) (NumberedGives setting (behind here)) (λ end. end ≡ read 0 here) (numbered_one setting (behind here)) (one_is _)

to_setting : (setting : Setting) (here : List Lexeme) (end : Outcome ℕ) → WordedGives setting here end → SettingGives setting here end
to_setting setting here end (inl (t, inl (found, (l, x), e))) = subst (SettingGives setting here) (sym e) (no_value (behind here) (word_at (setting_word setting) here t) l x)
to_setting setting here end (inl (t, inr (value, (rest, n, inl (le, e))))) = subst (SettingGives setting here) (sym e) (given (behind here) (word_at (setting_word setting) here t) n le)
to_setting setting here end (inl (t, inr (value, (rest, n, inr (gt, e))))) =
    subst (SettingGives setting here) (sym e) (too_large value (behind here) rest (word_at (setting_word setting) here t) n gt refl)
to_setting setting here end (inr (lacks, e)) = subst (SettingGives setting here) (sym e) (absent lacks refl refl)

from_setting : (setting : Setting) (here : List Lexeme) (end : Outcome ℕ) → SettingGives setting here end → WordedGives setting here end
from_setting setting here (read value rest) (absent lacks none same) =
    inr (lacks, ap (λ (value : ℕ). read value rest) none ∙ ap (λ (rest : List Lexeme). read 0 rest) same)
from_setting setting here (read value rest) (given number w n le) =
    inl (w.found, inr (value, (rest, subst (λ number. IsNumber value number rest) w.left n, inl (le, refl))))
from_setting setting here (fault found) (no_value number w l x) =
    inl (w.found, inl (found, subst (λ number. LacksKind kinds.Number number × IsExpected wants.Number number found) w.left (l, x), refl))
from_setting setting here (fault found) (too_large value number rest w n gt e) =
    inl (
      w.found,
      inr (
        value,
        (
          rest,
          subst (λ number. IsNumber value number rest) w.left n,
          inr (gt, ap (λ (f : QueryFault). fault f) (e ∙ ap (λ (number : List Lexeme). range_fault setting (place number)) w.left)),
        ),
      ),
    )

pub setting_one : (setting : Setting) (here : List Lexeme) → IsOne (SettingGives setting here)
setting_one setting here =
    one_by (WordedGives setting here) (SettingGives setting here) (λ end h. to_setting setting here end h) (λ end h. from_setting setting here end h) (worded_one setting here)
