use Rattle.std.proofs.Common.{Ok, subst}
use Rattle.hj_event.specs.declared.stop.ReadStep.{ReadStep}
use Rattle.hj_event.specs.declared.stop.ReadStep.TheVariants as read_step
use Rattle.hj_event.specs.Taking.{Advances, refused_in}
use Rattle.hj_event.proofs.SourceLemmas.{kept_at_end, looks}
use Rattle.hj_event.proofs.row_source.RowSource.read_other.Goals as goal

pub returns-in-Ok-More-clause-goes_on : goal.returns-in-Ok-More-clause-goes_on
returns-in-Ok-More-clause-goes_on c =
    let old = c.self.inside in
    let more : Advances (Ok read_step.More) old.reader c.cut.new.self = subst (λ (f : ReadStep). Advances (Ok f) old.reader c.cut.new.self) c.in-Ok-More.field-0-is c.in-Ok-More.ensures in
    let going = (rw (← c.self.view_is) at c.requires.going) in
    rw (← c.self.view_is)
    (looks old.reader c.cut.new.self old.next old.waiting c.take_sure-in-Ok-More.new.waiting c.take_sure-in-Ok-More.result (refused_in old.ahead) c.is_none.result
    (c.is_known.ensures.next c.if-is_known.false) going c.take_sure-in-Ok-More.ensures.in_order c.take_sure-in-Ok-More.ensures.takes c.is_none.ensures more)

pub invariant_of-self-in-Ok-End : goal.invariant_of-self-in-Ok-End
invariant_of-self-in-Ok-End c =
    let old = c.self.inside in
    let ends : Advances (Ok read_step.End) old.reader c.cut.new.self = subst (λ (f : ReadStep). Advances (Ok f) old.reader c.cut.new.self) c.in-Ok-End.field-0-is c.in-Ok-End.ensures in
    kept_at_end old.reader c.cut.new.self old.next old.waiting (c.is_known.ensures.next c.if-is_known.false) (rw (← c.self.view_is) at c.requires.late) ends
