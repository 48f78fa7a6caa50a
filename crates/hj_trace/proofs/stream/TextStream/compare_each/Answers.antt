use Rattle.std.proofs.Common.{Some, ap, ◌∙◌}
use Rattle.hj_trace.proofs.Streams.{goes_on, same_step, changes_then, compare_fails, compare_differs, other_next, none_next, not_empty}
use Rattle.hj_trace.proofs.stream.TextStream.compare_each.Goals as goal

pub look-requires : goal.look-requires
look-requires g c =
    goes_on _ c.args.self.now c.loop-at.self (g.O.Outside.state c.args.outside.now) (g.O.Outside.state c.loop-at.outside) c.requires c.loop-at.invariant.uses

pub loop-at-preserved : goal.loop-at-preserved
loop-at-preserved g c = record {
  uses = same_step c.args.expected.now c.loop-at.at c.args.self.now c.loop-at.self c.look.new.self c.skip.new.self (g.O.Outside.state c.args.outside.now) (g.O.Outside.state c.loop-at.outside)
      (g.O.Outside.state c.look.new.outside) c.loop-at-test.true c.loop-at.invariant.uses c.in-Byte.ensures.looks (c.in-Byte.ensures.next ∙ ap Some c.if-found-byte.false) c.skip.ensures;
  others = changes_then c.args.self.now.role c.loop-at.self.role (g.O.Outside.state c.args.outside.now) (g.O.Outside.state c.loop-at.outside) (g.O.Outside.state c.look.new.outside)
      c.loop-at.invariant.uses.role c.loop-at.invariant.others c.in-Byte.ensures.others;
  names = λ name. c.in-Byte.ensures.names name ∙ c.loop-at.invariant.names name;
}

pub returns-then-found-byte-clause-compares : goal.returns-then-found-byte-clause-compares
returns-then-found-byte-clause-compares g c =
    compare_differs c.args.expected.now c.loop-at.at c.args.self.now c.loop-at.self c.look.new.self (g.O.Outside.state c.args.outside.now) (g.O.Outside.state c.loop-at.outside)
    (g.O.Outside.state c.look.new.outside) c.loop-at-test.true c.loop-at.invariant.uses c.in-Byte.ensures.looks
    (other_next c.look.new.self.unused c.in-Byte.found _ c.in-Byte.ensures.next c.if-found-byte.true) (not_empty c.look.new.self.unused c.in-Byte.found c.look.new.self.ended c.in-Byte.ensures.next)

pub returns-in-End-clause-compares : goal.returns-in-End-clause-compares
returns-in-End-clause-compares g c =
    compare_differs c.args.expected.now c.loop-at.at c.args.self.now c.loop-at.self c.look.new.self (g.O.Outside.state c.args.outside.now) (g.O.Outside.state c.loop-at.outside)
    (g.O.Outside.state c.look.new.outside) c.loop-at-test.true c.loop-at.invariant.uses c.in-End.ensures.looks
    (none_next c.look.new.self.unused _ c.in-End.ensures.next.none_waits) (λ e. c.in-End.ensures.next.ended)

pub returns-in-Failed-clause-compares : goal.returns-in-Failed-clause-compares
returns-in-Failed-clause-compares g c =
    compare_fails c.args.expected.now c.loop-at.at c.args.self.now c.loop-at.self c.look.new.self (g.O.Outside.state c.args.outside.now) (g.O.Outside.state c.loop-at.outside)
    (g.O.Outside.state c.look.new.outside) c.loop-at.invariant.uses c.in-Failed.ensures.looks
