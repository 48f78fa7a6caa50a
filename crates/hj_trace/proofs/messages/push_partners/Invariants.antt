use Rattle.std.proofs.Common.{◌≡◌, ◌++◌, take}
use Rattle.hj_trace.specs.Messages.{partners_text}
use Rattle.hj_trace.proofs.messages.push_partners.Given as goal

abbrev pub invariant-loop-at : goal.invariant-loop-at
invariant-loop-at g l = l.text.items ≡ l.initial.text.items ++ partners_text (take l.at l.partners)
