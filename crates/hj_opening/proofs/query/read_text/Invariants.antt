use Rattle.std.proofs.Common.{◌≡◌, ◌≤◌, ◌+◌, ◌-◌, ℕ, List, length}
use Rattle.std.specs.Io.KnownBytes.{Consumes}
use Rattle.hj_base.specs.Outside.{ChangesOnly}
use Rattle.hj_query.specs.Texts.{most_bytes}
use Rattle.hj_opening.proofs.query.read_text.Given as goal

abbrev pub invariant-reads : goal.invariant-reads
invariant-reads g l =
    let before = g.O.Outside.state l.initial.outside in
    let now = g.O.Outside.state l.outside in
    record {
      came : Consumes (before l.initial.role).left (now l.initial.role).left l.text.items;
      phase : (now l.initial.role).phase ≡ (before l.initial.role).phase;
      faults : (now l.initial.role).faults ≡ (before l.initial.role).faults;
      others : ChangesOnly l.initial.role before now;
      names : (name : List ℕ) → g.O.Outside.under l.outside name ≡ g.O.Outside.under l.initial.outside name;
      room : length l.portion ≡ 4096;
      size : length l.text.items ≤ most_bytes + 1;
    }

abbrev pub decreases-reads : goal.decreases-reads
decreases-reads g l = most_bytes + 1 - length l.text.items
