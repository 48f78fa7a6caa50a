use Rattle.std.proofs.Common.{arith}
use Rattle.hj_crew.proofs.Linking.{related-with}
use Rattle.hj_crew.proofs.links.make_all.Goals as goal

pub loop-place-preserved : goal.loop-place-preserved
loop-place-preserved g c = record {
  count = omega (arith, c.in_ok-push.ensures.len, c.loop-place.invariant.count);
  made =
      related-with _ c.loop-place.firsts.items c.push.new.self.items c.loop-place.seconds.items c.push-in-loop-place.new.self.items c.in_ok-first.first c.in_ok-first.second
      c.in_ok-push.ensures.items c.in_ok-push-2.ensures.items c.loop-place.invariant.made c.in_ok-first.ensures;
}
