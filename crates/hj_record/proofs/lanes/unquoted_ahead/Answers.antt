use Rattle.std.proofs.Common.{◌==◌, take, drop}
use Rattle.std.proofs.lemmas.Bool.{eqb-true}
use Rattle.std.proofs.lemmas.Simd.{length-chunk}
use Rattle.hj_record.proofs.Ahead.{ahead_fail, ahead_stops, ahead_within}
use Rattle.hj_record.proofs.lanes.unquoted_ahead.Goals as goal

pub returns-clause-within : goal.returns-clause-within
returns-clause-within c =
    let text = c.args.text.now in
    let counted = c.first_set.ensures (λ byte. byte == 34) (take 16 (drop c.args.at text)) (length-chunk c.args.at 16 text c.requires) c.quotes.ensures in
    ahead_within (λ byte. byte == 34) text c.args.at 16 _ c.requires counted

pub returns-clause-unquoted : goal.returns-clause-unquoted
returns-clause-unquoted c =
    let text = c.args.text.now in
    let counted = c.first_set.ensures (λ byte. byte == 34) (take 16 (drop c.args.at text)) (length-chunk c.args.at 16 text c.requires) c.quotes.ensures in
    ahead_fail (λ byte. byte == 34) text c.args.at 16 _ c.requires counted

pub returns-clause-quote : goal.returns-clause-quote
returns-clause-quote c some =
    let text = c.args.text.now in
    let counted = c.first_set.ensures (λ byte. byte == 34) (take 16 (drop c.args.at text)) (length-chunk c.args.at 16 text c.requires) c.quotes.ensures in
    eqb-true _ 34 (ahead_stops (λ byte. byte == 34) text c.args.at 16 _ c.requires counted some)
