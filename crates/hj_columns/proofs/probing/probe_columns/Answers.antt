use Rattle.std.proofs.Common.{Some, map, ap, sym, ◌∙◌}
use Rattle.hj_rows.specs.NumberedRows.{rows_in}
use Rattle.hj_columns.proofs.Probes.{let-all, none-match}
use Rattle.hj_columns.proofs.probing.probe_columns.Goals as goal

pub returns-in_default : goal.returns-in_default
returns-in_default g c =
    let out = rw c.in_default.is at c.in_ok-ranges.ensures in
    c.requires.empty
    ∙ sym (
    none-match (g.J.Join.predicate c.args.join.now) c.args.side c.args.against.now (rows_in c.args.rows.now) (λ row joined.
    out row
    (let-all (g.J.Join.predicate c.args.join.now) c.args.side c.args.against.now (λ (filter : g.row.F.Denot). g.F.KeyFilter.key filter) (λ (filter : g.row.F.Denot). g.F.KeyFilter.range filter) c.args.columns.now c.requires.keeps row joined))
    )

pub probe_blocks-requires : goal.probe_blocks-requires
probe_blocks-requires g c =
    let some = rw c.in-Some.is at c.in_ok-ranges.ensures in
    record {
      columns = c.requires.columns;
      ranges = ap (map (λ range. Some range)) c.as_slice-ranges.ensures.value ∙ some;
      keeps = c.requires.keeps;
    }
