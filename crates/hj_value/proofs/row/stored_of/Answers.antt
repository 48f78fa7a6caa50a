use Rattle.std.proofs.Common.{◌≡◌, pos, get_or, [], ◌∷◌, ◌++◌, rules}
use Rattle.hj_value.specs.declared.field.Field.TheVariants as field
use Rattle.hj_value.proofs.Places.{numbers-more}
use Rattle.hj_value.proofs.row.stored_of.Goals as goal

pub loop-number-preserved : goal.loop-number-preserved
loop-number-preserved c =
    let pushed : c.push.new.self ≡ c.loop-number.stored ++ field.Int (get_or c.args.numbers.now c.loop-number.number-index (pos 0)) ∷ [] = search rules in
    numbers-more c.args.numbers.now c.loop-number.number-index (pos 0) c.loop-number.stored c.push.new.self c.loop-number-test.true c.loop-number.invariant pushed
