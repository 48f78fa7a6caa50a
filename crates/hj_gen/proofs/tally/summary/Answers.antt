use Rattle.std.proofs.Common.{◌≡◌, [], IfOk, subst}
use Rattle.hj_gen.specs.Summary.{TextCounts, counts_of, line_of}
use Rattle.hj_gen.proofs.tally.summary.Goals as goal

pub returns : goal.returns
returns c =
    let taken : c.take.new.self ≡ counts_of c.args.text.now = c.take.ensures [] c.new-tally.ensures in
    subst (λ (counts : TextCounts). IfOk c.line.result (λ line. line ≡ line_of c.args.events counts)) taken c.line.ensures
