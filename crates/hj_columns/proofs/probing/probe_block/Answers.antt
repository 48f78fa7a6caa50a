use Rattle.std.proofs.Common.{◌<◌, arith, refl}
use Rattle.std.specs.Int.{trailing_zeros, w64}
use Rattle.std.proofs.lemmas.Nat.Bits.{bit_at-trailing_zeros}
use Rattle.hj_msg.specs.Store.{joins}
use Rattle.hj_columns.proofs.Blocks.{left-first, left-last, left-next}
use Rattle.hj_columns.proofs.probing.probe_block.Goals as goal

pub bits-init : goal.bits-init
bits-init g c = left-first (λ row. joins (g.J.Join.predicate c.args.join.now) c.args.side row c.args.against.now) c.args.rows.now.places.entries c.args.from c.args.found.now c.args.mask c.ranges.mask.fits c.requires.named

pub without_bit-left-requires : goal.without_bit-left-requires
without_bit-left-requires g c =
    let some : 0 < c.bits.left = omega arith in
    (bit_at-trailing_zeros w64 c.bits.left some c.bits.invariant.fits).0

pub bits-smaller : goal.bits-smaller
bits-smaller g c =
    let some : 0 < c.bits.left = omega arith in
    c.without_bit-left.ensures.less (bit_at-trailing_zeros w64 c.bits.left some c.bits.invariant.fits).1

pub bits-preserved : goal.bits-preserved
bits-preserved g c =
    let some : 0 < c.bits.left = omega arith in
    left-next (λ row. joins (g.J.Join.predicate c.args.join.now) c.args.side row c.args.against.now) c.args.rows.now.places.entries c.args.from c.args.found.now c.bits.left c.without_bit-left.result (trailing_zeros w64 c.bits.left) c.bits.found c.probe_place.new.found
    c.bits.invariant some refl (c.without_bit-left.ensures.less (bit_at-trailing_zeros w64 c.bits.left some c.bits.invariant.fits).1) c.without_bit-left.ensures.cleared c.without_bit-left.ensures.others
    (c.in_ok-probe_place.ensures.found c.if-not-branch.false) (c.in_ok-probe_place.ensures.order c.if-not-branch.false)

pub returns-clause-found : goal.returns-clause-found
returns-clause-found g c = λ _.
    left-last (λ row. joins (g.J.Join.predicate c.args.join.now) c.args.side row c.args.against.now) c.args.rows.now.places.entries c.args.from c.args.found.now c.bits.left c.bits.found c.bits.invariant c.bits-test.false
