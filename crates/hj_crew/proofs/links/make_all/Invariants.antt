use Rattle.std.proofs.Common.{◌≡◌, Ok, length}
use Rattle.std.specs.List.{AllZip}
use Rattle.hj_crew.proofs.links.make_all.Given as goal

abbrev pub invariant-loop-place : goal.invariant-loop-place
invariant-loop-place g l = record {
  count : length l.firsts.items ≡ l._place;
  made : AllZip (λ first second. goal.F-post g l.make (Ok (first, second))) l.firsts.items l.seconds.items;
}
