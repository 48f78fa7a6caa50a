use Rattle.hj_eval.proofs.Comparing.{equal_texts, unequal_texts}
use Rattle.hj_eval.proofs.value.texts_compare.Goals as goal

pub returns-in-Eq : goal.returns-in-Eq
returns-in-Eq c = equal_texts c.args.op c.args.left.now c.args.right.now c.eq.result c.in-Eq.is c.eq.ensures

pub returns-in-Ne : goal.returns-in-Ne
returns-in-Ne c = unequal_texts c.args.op c.args.left.now c.args.right.now c.ne.result c.in-Ne.is c.ne.ensures
