use Rattle.std.proofs.Common.{ap, sym, ◌∙◌}
use Rattle.hj_chain.specs.Links.{take_out, take_rightwards}
use Rattle.hj_chain.proofs.Places.{written}
use Rattle.hj_chain.proofs.links.Links.take_out.Goals as goal

pub returns-in-Right-clause-rest : goal.returns-in-Right-clause-rest
returns-in-Right-clause-rest g c =
    written _ _ c.args.cores c.index_mut-in-Right.result.now _ take_rightwards c.self.view_is c.requires c.index_mut-in-Right.ensures.value c.take_right.ensures.rest
    ∙ ap (λ port. take_out port c.args.cores c.args.self.now) (sym c.in-Right.is)
