use Rattle.hj_query.specs.Canonical.{part_text}
use Rattle.hj_query.specs.Grammar.{columns_of}
use Rattle.hj_query.proofs.Appending.{pieces_next}
use Rattle.hj_query.proofs.canonical.terms.push_sum.Goals as goal

pub loop-at-preserved : goal.loop-at-preserved
loop-at-preserved c =
    pieces_next (part_text (columns_of c.args.query.now)) c.args.sum.now.rest c.loop-at.at c.in-Some.part.now c.loop-at.text.items _ _ c.in-Some.ensures c.in_ok-push_part.ensures c.loop-at.invariant
