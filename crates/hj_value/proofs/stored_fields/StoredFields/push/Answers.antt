use Rattle.std.proofs.Common.{◌∙◌, sym, ap, ◌++◌, ◌∷◌, []}
use Rattle.hj_value.specs.declared.field.Field.TheVariants as field
use Rattle.hj_value.proofs.Places.{fields_of-push}
use Rattle.hj_value.proofs.stored_fields.StoredFields.push.Goals as goal

pub returns-in_ok-stored-in-Text-clause-ok : goal.returns-in_ok-stored-in-Text-clause-ok
returns-in_ok-stored-in-Text-clause-ok c =
    fields_of-push c.self.inside.texts.items c.add_text.new.texts.items c.bytes.result.now c.self.inside.fields.items c.push_reserved.new.self.items c.in_ok-stored-in-Text.stored c.args.field c.args.self.now
    c.in_ok-stored-in-Text.ensures.texts
    (c.push_reserved.ensures.items ∙ ap (λ fields. fields ++ c.in_ok-stored-in-Text.stored ∷ []) c.reserve.ensures.items)
    c.in_ok-stored-in-Text.ensures.place
    (c.in-Text.is ∙ ap (λ bytes. field.Text bytes) (sym c.bytes.ensures.value))
    c.self.view_is
    c.self.invariant
