use Rattle.std.proofs.Common.{rules}
use Rattle.std.proofs.lemmas.Result.{IfOk-weaker}
use Rattle.hj_crew.specs.Links.{AreEndsOfNew}
use Rattle.hj_crew.proofs.Linking.{related-as}
use Rattle.hj_crew.proofs.ends.make_links.Goals as goal

pub returns-clause-new : goal.returns-clause-new
returns-clause-new g c = IfOk-weaker c.make_all.result _ _ (λ ends made. related-as _ (AreEndsOfNew c.args.capacity) (λ one other is. search rules) ends.0.items ends.1.items made) c.make_all.ensures.made
