use Rattle.hj_msg.specs.Met.{pair_of}
use Rattle.hj_collect.proofs.PairLists.{mapped_push}
use Rattle.hj_collect.proofs.pairs.push_pairs.Goals as goal

pub loop-at-preserved : goal.loop-at-preserved
loop-at-preserved g c =
    mapped_push (pair_of c.in-Handled.side c.in-Handled.no c.in-Handled.row) c.in-Handled.partners c.loop-at.at c.in-Some.partner.now c.in_ok-of.field-0 c.args.pairs.now.items c.loop-at.pairs.items c.push.new.self.items
    c.in-Some.ensures c.loop-at.invariant c.in_ok-of.ensures c.in_ok-push.ensures.items
