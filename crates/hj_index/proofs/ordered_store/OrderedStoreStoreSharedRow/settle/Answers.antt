use Rattle.std.proofs.Common.{subst, sym}
use Rattle.hj_msg.specs.Store.{AreDistinct}
use Rattle.hj_rows.specs.NumberedRows.{rows_in}
use Rattle.hj_index.specs.OrderedStore.{AreOrdered}
use Rattle.hj_index.proofs.Banding.{Rows}
use Rattle.hj_index.proofs.OrderedRows.{settled_ordered}
use Rattle.hj_index.proofs.ordered_store.OrderedStoreStoreSharedRow.settle.Goals as goal

pub invariant_of-self : goal.invariant_of-self
invariant_of-self g c =
    let s = c.self.inside in
    subst (λ (rows : Rows). AreOrdered s.own rows s.index) (sym c.settle.ensures.rows)
    (settled_ordered s.own (rows_in s.rows) s.index s.index c.self.invariant c.args.no.0 (subst (λ (rows : Rows). AreDistinct rows) c.settle.ensures.rows c.settle.ensures.distinct))
