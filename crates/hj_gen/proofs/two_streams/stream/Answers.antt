use Rattle.std.proofs.Common.{◌≡◌, suc, ◌+◌, sym, ◌∙◌, append-nil, arith}
use Rattle.hj_gen.proofs.Rows.{rows_step}
use Rattle.hj_gen.proofs.two_streams.stream.Goals as goal

pub loop-row-preserved : goal.loop-row-preserved
loop-row-preserved c = record {
  early = omega (arith, c.loop-row.invariant.early);
  rest = λ more e.
      rows_step c.loop-row.time c.loop-row.draws c.args.keys more c.draw.new.self c.draw.result c.draw-in-loop-row.new.self c.draw-in-loop-row.result c.loop-row.text.items c.push_row.new.text.items _
      c.draw.ensures.number c.draw.ensures.held c.draw-in-loop-row.ensures.number c.draw-in-loop-row.ensures.held (rw c.from.ensures at c.in_ok-push_row.ensures) (c.loop-row.invariant.rest (suc more) (omega (arith, e)));
}

pub returns : goal.returns
returns c =
    let full : c.loop-row._row + 0 ≡ c.args.n = omega (arith, c.loop-row-test.false, c.loop-row.auto._row-end) in
    c.from_vec.ensures ∙ sym (append-nil c.loop-row.text.items) ∙ c.loop-row.invariant.rest 0 full
