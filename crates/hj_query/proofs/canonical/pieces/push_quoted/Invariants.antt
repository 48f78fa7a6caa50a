use Rattle.std.proofs.Common.{◌≡◌, [], ◌∷◌, ◌++◌, drop}
use Rattle.hj_lex.specs.Tokens.{doubled, quote}
use Rattle.hj_query.proofs.canonical.pieces.push_quoted.Given as goal

abbrev pub invariant-loop-byte : goal.invariant-loop-byte
invariant-loop-byte l = l.text.items ++ doubled (drop l.byte-index l.value) ≡ (l.fn.text.items ++ quote ∷ []) ++ doubled l.value
