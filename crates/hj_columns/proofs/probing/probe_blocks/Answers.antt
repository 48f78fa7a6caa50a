use Rattle.std.proofs.Common.{◌+◌, ◌*◌, arith}
use Rattle.std.specs.Int.{bit_at}
use Rattle.hj_msg.specs.Store.{joins}
use Rattle.hj_rows.specs.NumberedRows.{places_in}
use Rattle.hj_columns.specs.declared.key_column.KeyColumn.{KeyColumn}
use Rattle.hj_columns.proofs.Finding.{in_order-empty}
use Rattle.hj_columns.proofs.Keeping.{length-places}
use Rattle.hj_columns.proofs.Probes.{all-blocks, block-room, left-out, next-block, same-count}
use Rattle.hj_columns.proofs.probing.probe_blocks.Goals as goal

pub mask_of-mask-requires : goal.mask_of-mask-requires
mask_of-mask-requires g c = record {
  count = same-count (λ (column : KeyColumn g.row.F.Denot). g.F.KeyFilter.range column.filter c.args.side c.args.against.now) c.args.ranges.now c.args.columns.now c.requires.ranges;
  keys =
      block-room (λ (filter : g.row.F.Denot). g.F.KeyFilter.key filter c.args.side) (places_in c.args.rows.now) c.args.columns.now c.loop-block.block c.blocks_of-block-end.result c.blocks_of-block-end.ensures.most
      c.loop-block-test.true c.requires.columns;
}

pub probe_block-requires : goal.probe_block-requires
probe_block-requires g c =
    let most = c.blocks_of-block-end.ensures.most in
    let few = c.blocks_of-block-end.ensures.few in
    record {
      room = omega (arith, most, few);
      named = λ k low zero.
          left-out (λ (filter : g.row.F.Denot). g.F.KeyFilter.key filter) (λ (filter : g.row.F.Denot). g.F.KeyFilter.range filter) (g.J.Join.predicate c.args.join.now) c.args.side c.args.against.now c.args.columns.now c.args.ranges.now
          c.args.rows.now.places.entries (64 * c.loop-block.block + k) (bit_at c.mask_of-mask.result k) c.requires.columns c.requires.ranges c.requires.keeps (c.mask_of-mask.ensures k low) zero;
    }

pub loop-block-init : goal.loop-block-init
loop-block-init g c = record { partners = c.new-partners.ensures; order = in_order-empty (record { partners = c.new-partners.result; last = 0 }) c.new-partners.ensures }

pub loop-block-preserved : goal.loop-block-preserved
loop-block-preserved g c = record {
  partners =
      next-block (λ row. joins (g.J.Join.predicate c.args.join.now) c.args.side row c.args.against.now) c.args.rows.now.places.entries c.loop-block.block c.loop-block.found.partners c.probe_block.new.found.partners c.loop-block.invariant.partners
      (c.in_ok-probe_block.ensures.found c.if-not-branch.false);
  order = c.in_ok-probe_block.ensures.order c.if-not-branch.false c.loop-block.invariant.order;
}

pub returns : goal.returns
returns g c =
    let enough = c.blocks_of-block-end.ensures.enough in
    all-blocks (g.J.Join.predicate c.args.join.now) c.args.side c.args.against.now c.args.rows.now.places.entries c.loop-block.block c.loop-block.found
    (omega (arith, enough, length-places c.args.rows.now.places.entries)) c.loop-block.invariant.partners c.loop-block.invariant.order
