use Rattle.hj_base.specs.Outside.{IsOpen}
use Rattle.hj_part_tests.proofs.outsides.reads.Given as goal

abbrev pub invariant-loop-word : goal.invariant-loop-word
invariant-loop-word g l = record {
  next : (goal.iterator-loop-word g).can_next l.word-iterator;
  finite : (goal.iterator-loop-word g).is_finite l.word-iterator;
  is_open : IsOpen (g.O.Outside.state l.outside l.role).phase;
}
