use Rattle.std.proofs.Common.{rules}
use Rattle.hj_record.proofs.FieldLemmas.{length-fields_from}
use Rattle.hj_record.proofs.fields.Fields.len.Goals as goal

pub returns : goal.returns
returns c = rw (← c.self.view_is) (search (rules, length-fields_from))
