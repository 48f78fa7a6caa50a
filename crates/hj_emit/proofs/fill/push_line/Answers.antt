use Rattle.std.proofs.Common.{◌++◌, rules}
use Rattle.hj_emit.proofs.fill.push_line.Goals as goal

pub returns : goal.returns
returns c = c.end_line.ensures c.args.text.now.items (c.args.left.now ++ c.args.right.now) (search rules) c.in_ok-push_fields.ensures
