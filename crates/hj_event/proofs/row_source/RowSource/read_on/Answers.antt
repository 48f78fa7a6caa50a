use Rattle.std.proofs.Common.{false, sym, ◌∙◌}
use Rattle.hj_event.proofs.SourceLemmas.{reads_rows}
use Rattle.hj_event.proofs.row_source.RowSource.read_on.Goals as goal

pub loop-preserved : goal.loop-preserved
loop-preserved c =
    let straight = reads_rows false c.args.self.now c.loop.self c.read_straight.new.self c.in_ok-read_straight.ensures.goes_on c.loop.invariant.ended c.loop.invariant.same in
    let on = reads_rows c.in_ok-read_other.field-0 c.args.self.now c.read_straight.new.self c.read_other.new.self c.in_ok-read_other.ensures.goes_on straight.0 straight.1 in
    let slack = c.in_ok-read_other.ensures.slack ∙ c.in_ok-read_straight.ensures.slack in
    record { late = λ none. c.loop.invariant.late (sym slack ∙ none); slack = slack ∙ c.loop.invariant.slack; ended = on.0; same = on.1 }
