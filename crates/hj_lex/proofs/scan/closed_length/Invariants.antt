use Rattle.std.proofs.Common.{◌≡◌, ℕ, ◌≤◌, ◌-◌, ◌++◌, ◌∷◌, List, length, drop}
use Rattle.hj_lex.specs.Tokens.{doubled, quote}
use Rattle.hj_lex.proofs.scan.closed_length.Given as goal

abbrev pub invariant-inside : goal.invariant-inside
invariant-inside l = record { some : 1 ≤ l.at; within : l.at ≤ length l.rest; inside : (value : List ℕ) × (l.rest ≡ quote ∷ (doubled value ++ drop l.at l.rest)) }

abbrev pub decreases-inside : goal.decreases-inside
decreases-inside l = length l.rest - l.at
