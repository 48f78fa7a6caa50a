use Rattle.std.proofs.Common.{◌≡◌, ◌*◌, take}
use Rattle.hj_msg.specs.Store.{joins}
use Rattle.hj_columns.specs.Probing.{partners_in, IsInOrder}
use Rattle.hj_columns.proofs.probing.probe_blocks.Given as goal

abbrev pub invariant-loop-block : goal.invariant-loop-block
invariant-loop-block g l = record {
  partners : l.found.partners ≡ partners_in (λ row. joins (g.J.Join.predicate l.join) l.side row l.against) (take (64 * l.block) l.rows.places.entries);
  order : IsInOrder l.found;
}
