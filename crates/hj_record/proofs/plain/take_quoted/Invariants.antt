use Rattle.std.proofs.Common.{◌≡◌, ◌-◌, List, ℕ, [], ◌∷◌, ◌++◌, length}
use Rattle.hj_record.proofs.PlainLemmas.{AtQuote}
use Rattle.hj_record.proofs.plain.take_quoted.Given as goal

abbrev pub invariant-loop-quote : goal.invariant-loop-quote
invariant-loop-quote l = (field : List ℕ) × (l.fields ≡ l.fn.fields ++ field ∷ []) × AtQuote l.fn.fields field l.text l.quote

abbrev pub decreases-loop-quote : goal.decreases-loop-quote
decreases-loop-quote l = length l.text - l.quote
