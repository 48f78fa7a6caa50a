use Rattle.hj_event.proofs.CallerLemmas.{in_step-behind}
use Rattle.hj_query_tests.proofs.merges.answer_of.Goals as goal

pub returns : goal.returns
returns g c =
    let both = in_step-behind c.next.result c.args.merger.now c.next.new.self (g.O.Outside.state c.args.outside.now) (g.O.Outside.state c.next.new.outside) c.next.ensures.answers (c.requires.left, c.requires.right) in
    record { left = both.0; right = both.1 }
