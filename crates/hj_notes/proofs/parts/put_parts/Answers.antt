use Rattle.hj_notes.proofs.NoteFront.{refused}
use Rattle.hj_notes.proofs.parts.put_parts.Goals as goal

pub returns-in-Failed : goal.returns-in-Failed
returns-in-Failed g c =
    refused c.args.parts.now c.loop-part.part-index _ c.put_part.result _ _ _ _ _ _ c.loop-part-test.true c.loop-part.invariant.written c.loop-part.invariant.refusals c.in-Failed.is
    c.put_part.ensures.sends c.put_part.ensures.refusals
