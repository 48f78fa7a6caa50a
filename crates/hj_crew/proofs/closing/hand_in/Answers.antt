use Rattle.hj_crew.proofs.HandingIn.{its_turns}
use Rattle.hj_crew.proofs.closing.hand_in.Goals as goal

pub returns-clause-turns : goal.returns-clause-turns
returns-clause-turns g c =
    let parts = c.parts-parts.result in
    let ends = c.parts-parts.ensures.ends in
    its_turns g.J.Join.predicate c.args.worker parts.left parts.right parts.reports ends.0 ends.1 ends.2 c.parts-parts.ensures.turns c.parts-parts.ensures.ended
