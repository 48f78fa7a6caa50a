use Rattle.std.proofs.Common.{◌∙◌, sym, ap}
use Rattle.hj_event.specs.SchemaRows.{value_of}
use Rattle.hj_event.proofs.ReadRows.{value_of-text, value_of-no_text}
use Rattle.hj_event.proofs.schema.read.read_field.Goals as goal

pub returns-in-Some : goal.returns-in-Some
returns-in-Some c =
    value_of-text c.args.column c.args.bytes.now c.in-Some.text c.in-Some.ensures.0 c.in-Some.ensures.1
    ∙ ap (λ kind. value_of c.args.column kind c.args.bytes.now) (sym c.in-Text.is)

pub returns-in-None : goal.returns-in-None
returns-in-None c =
    value_of-no_text c.args.column c.args.bytes.now c.in-None.ensures
    ∙ ap (λ kind. value_of c.args.column kind c.args.bytes.now) (sym c.in-Text.is)
