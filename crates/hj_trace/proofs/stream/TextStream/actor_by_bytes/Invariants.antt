use Rattle.std.proofs.Common.{◌≡◌, ℕ, false, List, length, take}
use Rattle.hj_base.specs.Outside.{ChangesOnly}
use Rattle.hj_trace.specs.Stream.{Uses}
use Rattle.hj_trace.proofs.Commas.{NoComma}
use Rattle.hj_trace.proofs.stream.TextStream.actor_by_bytes.Given as goal

abbrev pub invariant-loop-length : goal.invariant-loop-length
invariant-loop-length g l =
    let before = g.O.Outside.state l.initial.outside in
    let now = g.O.Outside.state l.outside in
    let role = l.initial.self.role in
    record {
      long : length l.text ≡ 8;
      uses : Uses false (take l.length l.text) l.initial.self (before role) l.self (now role);
      no_comma : NoComma (take l.length l.text);
      others : ChangesOnly role before now;
      names : (name : List ℕ) → g.O.Outside.under l.outside name ≡ g.O.Outside.under l.initial.outside name;
    }
