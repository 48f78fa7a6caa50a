use Rattle.std.proofs.Common.{take, drop}
use Rattle.std.proofs.lemmas.Simd.{length-chunk}
use Rattle.hj_record.specs.Plain.{is_special}
use Rattle.hj_record.proofs.Ahead.{ahead_fail, ahead_within}
use Rattle.hj_record.proofs.lanes.bare_ahead.Goals as goal

pub returns-clause-within : goal.returns-clause-within
returns-clause-within c =
    let text = c.args.text.now in
    let counted = c.first_set.ensures is_special (take 16 (drop c.args.at text)) (length-chunk c.args.at 16 text c.requires) c.specials.ensures in
    ahead_within is_special text c.args.at 16 _ c.requires counted

pub returns-clause-bare : goal.returns-clause-bare
returns-clause-bare c =
    let text = c.args.text.now in
    let counted = c.first_set.ensures is_special (take 16 (drop c.args.at text)) (length-chunk c.args.at 16 text c.requires) c.specials.ensures in
    ahead_fail is_special text c.args.at 16 _ c.requires counted
