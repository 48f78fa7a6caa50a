use Rattle.std.proofs.Common.{sym, ◌∙◌}
use Rattle.hj_event.proofs.SourceLemmas.{gives_taken, straight_without}
use Rattle.hj_event.proofs.row_source.RowSource.take_straight.Goals as goal

pub returns-then-slack-eq0 : goal.returns-then-slack-eq0
returns-then-slack-eq0 c =
    rw (← c.self.view_is) (straight_without c.take_line.result c.self.inside.reader c.take_line.new.self c.self.inside.next c.self.inside.waiting c.self.inside.ahead c.self.invariant (sym c.slack.ensures ∙ c.if-slack-eq0.true) c.take_line.ensures)

pub returns-in-Some : goal.returns-in-Some
returns-in-Some c =
    let old = c.self.inside in
    rw (← c.self.view_is)
    (gives_taken old.reader old.next c.take.new.self c.in-Some.row old.waiting old.ahead c.read_on.new.self (sym c.take.ensures.value ∙ c.in-Some.is) c.take.ensures.after c.self.invariant.is_next c.read_on.ensures.ended c.in_ok-read_on.ensures.same)
