use Rattle.hj_query.proofs.Lists.{place_is}
use Rattle.hj_query.proofs.cursor.Cursor.place.Goals as goal

pub returns : goal.returns
returns c = place_is _ _ _ _ c.peek.ensures.next
