use Rattle.std.proofs.Common.{length, rules}
use Rattle.hj_record.proofs.FieldLemmas.{AreEnds_push, fields_in_push}
use Rattle.hj_record.proofs.fields.Fields.push.Goals as goal

pub invariant_of-self-2 : goal.invariant_of-self-2
invariant_of-self-2 c =
    rw (c.in_ok-push.ensures.items, c.in_ok-reserve.ensures.items) (AreEnds_push c.self.inside.ends.items (length c.self.inside.bytes.items) c.len-end.result _ c.self.invariant (search rules) (search rules))

pub returns-clause-ok : goal.returns-clause-ok
returns-clause-ok c =
    rw (c.in_ok-push.ensures.items, c.in_ok-reserve.ensures.items, c.in_ok-extend_from_slice.ensures.items, ← c.self.view_is)
    (fields_in_push c.self.inside.bytes.items c.self.inside.ends.items c.args.field.now c.len-end.result c.self.invariant (search rules))
