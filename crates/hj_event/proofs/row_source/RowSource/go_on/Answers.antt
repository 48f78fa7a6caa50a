use Rattle.std.proofs.Common.{sym, ◌∙◌}
use Rattle.hj_event.proofs.SourceLemmas.{gives_taken, goes_on_without}
use Rattle.hj_event.proofs.row_source.RowSource.go_on.Goals as goal

pub returns-then-slack-eq0 : goal.returns-then-slack-eq0
returns-then-slack-eq0 c =
    rw (← c.self.view_is) (goes_on_without c.cut.result c.self.inside.reader c.cut.new.self c.self.inside.next c.self.inside.waiting c.self.inside.ahead c.self.invariant (sym c.slack.ensures ∙ c.if-slack-eq0.true) c.cut.ensures)

pub returns-in-Some : goal.returns-in-Some
returns-in-Some c =
    let old = c.self.inside in
    rw (← c.self.view_is)
    (gives_taken old.reader old.next c.take.new.self c.in-Some.row old.waiting old.ahead c.read_on.new.self (sym c.take.ensures.value ∙ c.in-Some.is) c.take.ensures.after c.self.invariant.is_next c.read_on.ensures.ended c.in_ok-read_on.ensures.same)
