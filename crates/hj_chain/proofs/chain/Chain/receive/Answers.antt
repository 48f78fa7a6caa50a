use Rattle.std.proofs.Common.{sym, ◌∙◌, rules}
use Rattle.std.proofs.lemmas.List.{length-map}
use Rattle.hj_chain.proofs.Opening.{in_links, receiving-waits, receiving-did}
use Rattle.hj_chain.proofs.chain.Chain.receive.Goals as goal

pub take_out-requires : goal.take_out-requires
take_out-requires g c =
    in_links g.J.Join.predicate _ _ c.self.view_is c.requires c.len.result (c.len.ensures ∙ c.self.inside.cores.ok.0 ∙ sym (length-map c.self.inside.cores.items _))

pub returns-in-None-clause-step : goal.returns-in-None-clause-step
returns-in-None-clause-step g c = λ answer.
    receiving-waits g.J.Join.predicate _ _ c.self.view_is c.requires answer c.args.port c.len.result _ (c.len.ensures ∙ c.self.inside.cores.ok.0 ∙ sym (length-map c.self.inside.cores.items _))
    (sym c.take_out.ensures.first ∙ c.in-None.is) c.take_out.ensures.rest

pub returns-in-Some-clause-step : goal.returns-in-Some-clause-step
returns-in-Some-clause-step g c = λ answer.
    receiving-did g.J.Join.predicate _ _ c.self.view_is c.requires answer c.args.port c.len.result c.in-Some.msg _ _ _ (c.len.ensures ∙ c.self.inside.cores.ok.0 ∙ sym (length-map c.self.inside.cores.items _))
    (sym c.take_out.ensures.first ∙ c.in-Some.is) c.take_out.ensures.rest c.took.ensures.turn c.took.ensures.flight
    (search rules)
