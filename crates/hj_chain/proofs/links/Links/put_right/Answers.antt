use Rattle.std.proofs.Common.{◌∷◌, []}
use Rattle.hj_chain.specs.Links.{put_rightwards}
use Rattle.hj_chain.proofs.Places.{written}
use Rattle.hj_chain.proofs.links.Links.put_right.Goals as goal

pub returns : goal.returns
returns g c = written _ _ c.args.at c.index_mut.result.now _ (put_rightwards (c.args.msg ∷ [])) c.self.view_is c.requires.in_range c.index_mut.ensures.value c.send_right.ensures
