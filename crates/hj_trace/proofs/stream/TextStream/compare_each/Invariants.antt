use Rattle.std.proofs.Common.{◌≡◌, ℕ, false, List, take}
use Rattle.hj_base.specs.Outside.{ChangesOnly}
use Rattle.hj_trace.specs.Stream.{Uses}
use Rattle.hj_trace.proofs.stream.TextStream.compare_each.Given as goal

abbrev pub invariant-loop-at : goal.invariant-loop-at
invariant-loop-at g l =
    let before = g.O.Outside.state l.initial.outside in
    let now = g.O.Outside.state l.outside in
    let role = l.initial.self.role in
    record {
      uses : Uses false (take l.at l.expected) l.initial.self (before role) l.self (now role);
      others : ChangesOnly role before now;
      names : (name : List ℕ) → g.O.Outside.under l.outside name ≡ g.O.Outside.under l.initial.outside name;
    }
