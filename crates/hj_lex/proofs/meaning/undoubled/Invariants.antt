use Rattle.std.proofs.Common.{◌≤◌, ◌-◌, length}
use Rattle.hj_lex.proofs.Values.{Left}
use Rattle.hj_lex.proofs.meaning.undoubled.Given as goal

abbrev pub invariant-inside : goal.invariant-inside
invariant-inside l = record { within : l.at ≤ length l.word; left : Left l.word l.value.items l.at }

abbrev pub decreases-inside : goal.decreases-inside
decreases-inside l = length l.word - l.at
