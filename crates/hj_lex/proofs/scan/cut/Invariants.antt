use Rattle.std.proofs.Common.{◌≡◌, ◌≤◌, ◌-◌, false, length, drop}
use Rattle.hj_lex.specs.Tokens.{begins, is_blank}
use Rattle.hj_lex.proofs.Cutting.{CutsSoFar}
use Rattle.hj_lex.proofs.scan.cut.Given as goal

abbrev pub invariant-loop-at : goal.invariant-loop-at
invariant-loop-at l = record { within : l.at ≤ length l.text; black : begins is_blank (drop l.at l.text) ≡ false; so_far : CutsSoFar l.text l.tokens l.at }

abbrev pub decreases-loop-at : goal.decreases-loop-at
decreases-loop-at l = length l.text - l.at
