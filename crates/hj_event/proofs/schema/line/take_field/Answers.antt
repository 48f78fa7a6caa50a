use Rattle.std.proofs.Common.{sym}
use Rattle.hj_event.proofs.PlainLines.{text_taken}
use Rattle.hj_event.proofs.schema.line.take_field.Goals as goal

pub returns-in_ok-text-in-Text : goal.returns-in_ok-text-in-Text
returns-in_ok-text-in-Text c =
    text_taken c.args.schema.now.columns c.args.column c.in_ok-column.column.now c.in_ok-text-in-Text.text c.in_ok-text-in-Text.size c.args.behind c.args.bytes.now (sym c.in_ok-column.ensures) c.in-Text.is c.in_ok-text-in-Text.ensures
