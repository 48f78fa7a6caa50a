use Rattle.std.proofs.Common.{ℕ, List, ◌∙◌, ap}
use Rattle.hj_opening.specs.Words.{join_streams, named}
use Rattle.hj_serve.proofs.plan.named_join.Goals as goal

pub returns : goal.returns
returns c = λ kind. c.join_of.ensures kind ∙ ap (λ (name : List ℕ). join_streams kind (named name) (record { left = c.args.left.now; right = c.args.right.now }) c.args.limit) c.text.ensures
