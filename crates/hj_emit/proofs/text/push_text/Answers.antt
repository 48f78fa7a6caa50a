use Rattle.std.proofs.Common.{◌≡◌, ◌++◌, [], ◌∷◌, false, sym, ap, ◌∙◌, append_assoc}
use Rattle.csv.specs.Writing.{default_writer, field_text, needs_quotes}
use Rattle.hj_emit.proofs.Plain.{plain_text}
use Rattle.hj_emit.proofs.text.push_text.Goals as goal

pub returns : goal.returns
returns c =
    let plain : needs_quotes default_writer c.args.bytes.now ≡ false = sym c.marks_in-marks.ensures.special ∙ c.if-marks.false in
    c.in_ok-push.ensures.items ∙ ap (λ l. l ++ 44 ∷ []) (c.in_ok-extend_from_slice.ensures.items ∙ ap (λ l. c.args.text.now.items ++ l) (sym (plain_text c.args.bytes.now plain)))
    ∙ append_assoc c.args.text.now.items (field_text default_writer c.args.bytes.now) (44 ∷ [])
