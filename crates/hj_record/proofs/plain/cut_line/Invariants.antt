use Rattle.std.proofs.Common.{◌≡◌, ◌-◌, ◌≤◌, [], drop, length}
use Rattle.csv.specs.declared.parser.State.TheVariants as st
use Rattle.hj_record.specs.Plain.{reads}
use Rattle.hj_record.proofs.plain.cut_line.Given as goal

abbrev pub invariant-loop-used : goal.invariant-loop-used
invariant-loop-used l = (l.at ≤ length l.text) × (reads st.StartField [] [] l.text ≡ reads st.StartField l.fields [] (drop l.at l.text))

abbrev pub decreases-loop-used : goal.decreases-loop-used
decreases-loop-used l = length l.text - l.at
