use Rattle.hj_record.proofs.PlainLemmas.{last_taken}
use Rattle.hj_record.proofs.plain.cut_line.Goals as goal

pub returns-in-Last : goal.returns-in-Last
returns-in-Last c =
    last_taken c.args.text.now c.loop-used.at c.loop-used.fields c.take_field.new.fields c.in_ok-used.field-0 c.in-Last.is c.requires.field c.loop-used.invariant.1 c.in_ok-used.ensures
