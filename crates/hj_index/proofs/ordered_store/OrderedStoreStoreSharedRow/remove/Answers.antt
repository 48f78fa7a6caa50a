use Rattle.std.proofs.Common.{◌&&◌, not, Option, option_and_then, ap, subst, sym, ◌∙◌}
use Rattle.hj_msg.specs.Store.{AreDistinct}
use Rattle.hj_rows.specs.NumberedRows.{rows_in}
use Rattle.hj_index.specs.OrderedIndex.{is_key, key_of, stands, OrderedKey}
use Rattle.hj_index.specs.OrderedStore.{AreOrdered}
use Rattle.hj_index.proofs.Banding.{Rows}
use Rattle.hj_index.proofs.OrderedRows.{taken_ordered}
use Rattle.hj_index.proofs.ordered_store.OrderedStoreStoreSharedRow.remove.Goals as goal

pub invariant_of-self : goal.invariant_of-self
invariant_of-self g c =
    let s = c.self.inside in
    let was_key_of = c.key_of_held.ensures ∙ ap (option_and_then (key_of s.own c.args.no.0)) c.remove-removed.ensures.taken in
    subst (λ (rows : Rows). AreOrdered s.own rows c.remove.new.self) (sym c.remove-removed.ensures.rows)
    (taken_ordered s.own (rows_in s.rows) s.index c.remove.new.self c.self.invariant c.args.no.0
    (subst (λ (rows : Rows). AreDistinct rows) c.remove-removed.ensures.rows c.remove-removed.ensures.distinct)
    (λ key. c.remove.ensures key ∙ ap (λ (taken : Option OrderedKey). not (is_key key taken) && stands s.index key) was_key_of))
