use Rattle.std.proofs.Common.{arith}
use Rattle.hj_columns.proofs.Keeping.{length-places}
use Rattle.hj_columns.proofs.probing.blocks_of.Goals as goal

pub returns : goal.returns
returns g c =
    let count = c.places.ensures.counted in
    let few = c.places.ensures.few in
    record {
      enough = omega (arith, length-places c.args.rows.now.places.entries, count);
      most = omega (arith, length-places c.args.rows.now.places.entries, count);
      few = omega (arith, length-places c.args.rows.now.places.entries, count, few);
    }
