use Rattle.std.proofs.Common.{sym, ap, Some, slice_index, slice_range, ◌∙◌, rules, arith}
use Rattle.hj_record.proofs.FieldLemmas.{bounds_at, slice_get-fields_in, slice_get-fields_in_past}
use Rattle.hj_record.proofs.fields.field_at.Goals as goal

pub returns-then-at-ends : goal.returns-then-at-ends
returns-then-at-ends c = sym (slice_get-fields_in_past c.args.bytes.now c.args.ends.now c.args.at (search rules))

pub slice_bounds-result-count : goal.slice_bounds-result-count
slice_bounds-result-count c = let h = bounds_at c.args.ends.now _ c.args.at c.requires (omega arith) in omega (arith, h)

pub slice_bounds-result-start : goal.slice_bounds-result-start
slice_bounds-result-start c = let h = bounds_at c.args.ends.now _ c.args.at c.requires (omega arith) in search (rules, h)

pub slice_bounds-result-end : goal.slice_bounds-result-end
slice_bounds-result-end c = let h = bounds_at c.args.ends.now _ c.args.at c.requires (omega arith) in search (rules, h)

pub returns : goal.returns
returns c =
    let bytes = c.args.bytes.now in
    let ends = c.args.ends.now in
    sym (slice_get-fields_in bytes ends c.args.at (omega arith) ∙ ap (λ s. Some (slice_range bytes s (slice_index ends c.args.at))) (sym c.start_of-start.ensures))
