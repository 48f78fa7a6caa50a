use Rattle.std.proofs.Common.{◌≡◌, ℕ, ◌<◌, ◌^◌, pos, neg_ℤ, ap, arith, refl, sym, w64}
use Rattle.std.proofs.lemmas.Int.{ints, to_z-of_z}
use Rattle.std.proofs.lemmas.Result.{err_from_is_err_and}
use Rattle.std.specs.Prelude.{◌-ℤ◌}
use mir.Val.{of_z, to_z}
use Rattle.hj_query.specs.declared.sum.Term.TheVariants as terms
use Rattle.hj_query.specs.Faults.{no_digits}
use Rattle.hj_query.specs.Grammar.{of_negative, of_number, of_text}
use Rattle.hj_query.proofs.term.term.Goals as goal

small : (n : ℕ) → n < 2 ^ 63 → to_z w64 n ≡ pos n
small n h = omega (arith, ints)

negated : (n : ℕ) → n < 2 ^ 63 → to_z w64 (of_z w64 (pos 0 -ℤ to_z w64 n)) ≡ neg_ℤ (pos n)
negated n h = grind (arith, ints, to_z-of_z)

pub returns-then-is_word-clause-read : goal.returns-then-is_word-clause-read
returns-then-is_word-clause-read c = c.column.ensures.read

pub returns-then-is_number-clause-read : goal.returns-then-is_number-clause-read
returns-then-is_number-clause-read c =
    of_number c.in_ok-number.field-0 c.in_ok-number.ensures.read.0 (ap terms.Number (small c.in_ok-number.field-0 c.in_ok-number.ensures.read.1))

pub returns-in_err-number-2-clause-read : goal.returns-in_err-number-2-clause-read
returns-in_err-number-2-clause-read c =
    let p = err_from_is_err_and c.from_residual-in_err-number-2.result c.from_residual-in_err-number-2.ensures.1 in
    rw (p.1, p.2) (λ _. no_digits c.skip.new.self (record { found = sym c.if-is_sign.ensures.is; left = c.skip.ensures.behind }) c.in_err-number-2.ensures.read.0 c.in_err-number-2.ensures.read.1)

pub returns-then-is_sign-clause-read : goal.returns-then-is_sign-clause-read
returns-then-is_sign-clause-read c =
    of_negative c.in_ok-number-2.field-0 c.skip.new.self (record { found = sym c.if-is_sign.ensures.is; left = c.skip.ensures.behind }) c.in_ok-number-2.ensures.read.0 (ap terms.Number (negated c.in_ok-number-2.field-0 c.in_ok-number-2.ensures.read.1))

pub returns-clause-read : goal.returns-clause-read
returns-clause-read c = of_text c.in_ok-text.field-0 c.in_ok-text.ensures.read refl
