-- The texts of messages and of reports in a trace: the name of the kind, and the number.
use Rattle.std.specs.Prelude.{ℕ, zero, suc, List, [], ◌∷◌, ◌++◌, codes}
use Rattle.std.specs.Fmt.{decimal}
use Rattle.std.specs.List.{flat_map}
use Rattle.hj_msg.specs.declared.message.Msg.{Msg}
use Rattle.hj_msg.specs.declared.message.Msg.TheVariants.{R, AckS, EndS, ExpS, QuietL, CloseL, S, EndR, ExpR, QuietR, CloseR}
use Rattle.hj_msg.specs.declared.message.Report.{Report}
use Rattle.hj_msg.specs.declared.message.Report.TheVariants.{Handled, Quiet, Ended, NoMemory}
use Rattle.hj_msg.specs.declared.partner.Partner.{Partner}

-- what stands where nothing is taken, put or reported
abbrev pub nothing : List ℕ
nothing = codes "-"

-- A message: the name of its kind, and the number that it carries. The closes carry none.
abbrev pub message_text : {P : Type 0} → Msg P → List ℕ
message_text (R at row) = codes "R" ++ decimal at.0
message_text (AckS at) = codes "AckS" ++ decimal at.0
message_text (EndS at) = codes "EndS" ++ decimal at.0
message_text (ExpS at) = codes "ExpS" ++ decimal at.0
message_text (QuietL at) = codes "QuietL" ++ decimal at.0
message_text CloseL = codes "CloseL"
message_text (S at row) = codes "S" ++ decimal at.0
message_text (EndR at) = codes "EndR" ++ decimal at.0
message_text (ExpR at) = codes "ExpR" ++ decimal at.0
message_text (QuietR at) = codes "QuietR" ++ decimal at.0
message_text CloseR = codes "CloseR"

-- Messages in their order, with a plus between two of them.
abbrev pub messages_text : {P : Type 0} → List (Msg P) → List ℕ
messages_text [] = nothing
messages_text (first ∷ others) = message_text first ++ flat_map (λ other. codes "+" ++ message_text other) others

-- The numbers of a row's partners, if there are some: behind a colon, with a plus between two of them.
abbrev pub partners_text : {P : Type 0} → List (Partner P) → List ℕ
partners_text [] = []
partners_text (first ∷ others) = codes ":" ++ decimal first.no.0 ++ flat_map (λ other. codes "+" ++ decimal other.no.0) others

-- what stands before the number of the partner at a place
abbrev pub sign_before : ℕ → List ℕ
sign_before zero = codes ":"
sign_before (suc place) = codes "+"

-- A report: an arrival that was handled, by its number, with its partners; a quiet event, by its number; or the end.
abbrev pub report_text : {P : Type 0} → Report P → List ℕ
report_text (Handled at side row partners) = codes "H" ++ decimal at.0 ++ partners_text partners
report_text (Quiet at side) = codes "Q" ++ decimal at.0
report_text Ended = codes "Ended"
report_text NoMemory = codes "NoMemory"
