use Rattle.std.proofs.Common.{rules}
use Rattle.hj_event.proofs.MergerLemmas.{is_new}
use Rattle.hj_event.proofs.merger.Merger.new.Goals as goal

pub returns : goal.returns
returns c = is_new c.args.query.now c.args.limit c.in_ok-left.left.columns c.in_ok-right.right.columns c.slack.result _ (search rules) (search rules) (search rules) (search rules)
