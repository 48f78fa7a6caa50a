use Rattle.std.proofs.Common.{◌∙◌}
use Rattle.hj_chain.proofs.chain.push_core.Goals as goal

pub returns : goal.returns
returns g c = record {
  one = c.new-core.result;
  added = c.in_ok-push.ensures.items;
  at_place = c.new-core.ensures.place;
  among = c.new-core.ensures.cores;
  joins = c.new-core.ensures.join ∙ c.in_ok-share.ensures;
  empty = c.new-core.ensures.state;
}
