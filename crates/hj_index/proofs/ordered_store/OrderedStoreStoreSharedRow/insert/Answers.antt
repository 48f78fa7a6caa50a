use Rattle.std.proofs.Common.{◌||◌, ◌&&◌, not, Option, option_and_then, ap, ap₂, ◌∙◌}
use Rattle.hj_rows.specs.NumberedRows.{rows_in}
use Rattle.hj_index.specs.OrderedIndex.{is_key, key_of, stands, OrderedKey}
use Rattle.hj_index.proofs.OrderedRows.{put_ordered}
use Rattle.hj_index.proofs.ordered_store.OrderedStoreStoreSharedRow.insert.Goals as goal

pub invariant_of-self : goal.invariant_of-self
invariant_of-self g c =
    let s = c.self.inside in
    let is_key_of = c.key_of-key.ensures ∙ ap (key_of s.own c.args.no.0) c.row.ensures in
    let was_key_of = c.key_of_held.ensures ∙ ap (option_and_then (key_of s.own c.args.no.0)) c.insert-replaced.ensures.replaced in
    put_ordered s.own (rows_in s.rows) s.index c.replace.new.self c.self.invariant (record { no = c.args.no.0; row = c.args.row; settled = c.args.settled }) (rows_in c.insert-replaced.new.self) c.insert-replaced.ensures.rows c.insert-replaced.ensures.distinct
    (λ key. c.replace.ensures key ∙ ap₂ (λ (put taken : Option OrderedKey). is_key key put || (not (is_key key taken) && stands s.index key)) is_key_of was_key_of)
