use Rattle.std.proofs.Common.{◌+◌, ◌∷◌, arith, ap, sym, ◌∙◌}
use Rattle.hj_msg.specs.declared.message.Msg.{Msg}
use Rattle.hj_chain.specs.Queues.{Queues}
use Rattle.hj_chain.specs.Links.{put_back}
use Rattle.hj_chain.proofs.Places.{written}
use Rattle.hj_chain.proofs.links.Links.put_back.Goals as goal

pub returns-in-Left : goal.returns-in-Left
returns-in-Left g c =
    written _ _ c.args.core c.index_mut.result.now _ (λ (link : Queues (Msg g.row.P.Denot)). record link { rightwards = c.args.msg ∷ link.rightwards }) c.self.view_is (omega (arith, c.requires.in_range)) c.index_mut.ensures.value c.put_back_right.ensures
    ∙ ap (λ end. put_back end c.args.core c.args.msg c.args.self.now) (sym c.in-Left.is)

pub returns-in-Right : goal.returns-in-Right
returns-in-Right g c =
    written _ _ (c.args.core + 1) c.index_mut-in-Right.result.now _ (λ (link : Queues (Msg g.row.P.Denot)). record link { leftwards = c.args.msg ∷ link.leftwards }) c.self.view_is c.requires.in_range c.index_mut-in-Right.ensures.value c.put_back_left.ensures
    ∙ ap (λ end. put_back end c.args.core c.args.msg c.args.self.now) (sym c.in-Right.is)
