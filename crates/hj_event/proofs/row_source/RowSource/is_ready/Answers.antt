use Rattle.std.proofs.Common.{inr, sym, ◌∙◌}
use Rattle.hj_event.proofs.SourceLemmas.{tells_without}
use Rattle.hj_event.proofs.row_source.RowSource.is_ready.Goals as goal

pub returns-then-slack-eq0 : goal.returns-then-slack-eq0
returns-then-slack-eq0 c =
    rw (← c.self.view_is) (λ has. inr (inr (tells_without c.self.inside.reader c.self.inside.next c.self.inside.waiting c.self.inside.ahead c.self.invariant (sym c.slack.ensures ∙ c.if-slack-eq0.true) (c.has_line.ensures has))))
