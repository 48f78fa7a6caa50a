use Rattle.std.proofs.Common.{◌+◌, arith, ap, sym, ◌∙◌}
use Rattle.hj_chain.specs.Links.{take_in, take_leftwards, take_rightwards}
use Rattle.hj_chain.proofs.Places.{written}
use Rattle.hj_chain.proofs.links.Links.take_in.Goals as goal

pub returns-in-Left-clause-rest : goal.returns-in-Left-clause-rest
returns-in-Left-clause-rest g c =
    written _ _ c.args.core c.index_mut.result.now _ take_rightwards c.self.view_is (omega arith) c.index_mut.ensures.value c.take_right.ensures.rest
    ∙ ap (λ end. take_in end c.args.core c.args.self.now) (sym c.in-Left.is)

pub returns-in-Right-clause-rest : goal.returns-in-Right-clause-rest
returns-in-Right-clause-rest g c =
    written _ _ (c.args.core + 1) c.index_mut-in-Right.result.now _ take_leftwards c.self.view_is c.requires c.index_mut-in-Right.ensures.value c.take_left.ensures.rest
    ∙ ap (λ end. take_in end c.args.core c.args.self.now) (sym c.in-Right.is)
