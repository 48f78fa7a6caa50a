use Rattle.std.proofs.Common.{◌-◌, ◌<◌, length, rules, arith}
use Rattle.hj_record.specs.Fields.{fields_in}
use Rattle.hj_record.proofs.FieldLemmas.{AreEnds_grow, fields_in_grow, length-fields_from}
use Rattle.hj_record.proofs.fields.Fields.extend_last.Goals as goal

pub invariant_of-self-2 : goal.invariant_of-self-2
invariant_of-self-2 c =
    let some : 0 < length (fields_in c.self.inside.bytes.items c.self.inside.ends.items) = rw c.self.view_is c.requires in
    let count = length-fields_from 0 c.self.inside.bytes.items c.self.inside.ends.items in
    AreEnds_grow c.self.inside.ends.items (length c.self.inside.bytes.items) c.len.result _ (c.len-last.result - 1) c.self.invariant (search rules) (search rules) (omega (arith, c.len-last.ensures))

pub returns-clause-ok : goal.returns-clause-ok
returns-clause-ok c =
    let some : 0 < length (fields_in c.self.inside.bytes.items c.self.inside.ends.items) = rw c.self.view_is c.requires in
    let count = length-fields_from 0 c.self.inside.bytes.items c.self.inside.ends.items in
    rw (c.in_ok-extend_from_slice.ensures.items, ← c.self.view_is)
    (fields_in_grow c.self.inside.bytes.items c.self.inside.ends.items c.args.more.now c.len.result (c.len-last.result - 1) c.self.invariant (search rules) (omega (arith, c.len-last.ensures)))
