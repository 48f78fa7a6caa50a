-- A port's word: its digits, and their value where `parse` refuses it.
use Rattle.std.proofs.Common.{◌&&◌, ◌≡◌, ℕ, ◌^◌, true, List, [], ◌∷◌, refl, ap, arith, inl, inr, None, Ok, Err, Result}
use Rattle.std.proofs.lemmas.Bool.{cases_lt}
use Rattle.std.proofs.lemmas.Grind.{common_steps}
use Rattle.std.proofs.lemmas.Str.Parse.{IsNumeralModel, numerals_by_value, tells_all_ascii_digits, parse_digits}
use Rattle.std.specs.Char.{is_ascii_digit}
use Rattle.std.specs.List.{list_all}
use Rattle.std.specs.Result.{result_ok}
use Rattle.std.specs.Str.{all_ascii_digits}
use Rattle.std.specs.Str.Parse.{digits_value, ParsesUnsigned}
use Rattle.hj_net.specs.Address.{port_of}

pub list_all-digits : (ds : List ℕ) → list_all is_ascii_digit ds ≡ all_ascii_digits ds
list_all-digits [] = refl
list_all-digits (c ∷ cs) = ap (λ b. is_ascii_digit c && b) (list_all-digits cs)

digits : IsNumeralModel (λ ds. all_ascii_digits ds ≡ true) (digits_value 10)
digits = numerals_by_value (λ ds. all_ascii_digits ds ≡ true) tells_all_ascii_digits

-- digits that `parse` refuses spell no port: there are none, or their value does not fit
pub refused : {E : Type 0} (bs : List ℕ) (r : Result ℕ E) → result_ok r ≡ None → ParsesUnsigned 16 10 bs r → all_ascii_digits bs ≡ true → port_of bs ≡ None
refused bs (Ok n) is h all = absurd (cc)
refused [] (Err e) is h all = refl
refused (c ∷ cs) (Err e) is h all =
    elim (cases_lt (digits_value 10 (c ∷ cs)) (2 ^ 16)) as (λ _. port_of (c ∷ cs) ≡ None) [
      | inl fits ↦ absurd (parse_digits digits 16 (c ∷ cs) (Err e) h all (omega arith, fits))
      | inr wide ↦ grind (arith, common_steps, all, wide)
    ]
