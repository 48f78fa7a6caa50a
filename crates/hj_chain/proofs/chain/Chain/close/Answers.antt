use Rattle.std.proofs.Common.{sym, ◌∙◌}
use Rattle.std.proofs.lemmas.List.{length-map}
use Rattle.hj_chain.proofs.Opening.{in_links, room_first, room_second, still_in_links}
use Rattle.hj_chain.proofs.chain.Chain.close.Goals as goal

pub put_in-requires-clause-in_range : goal.put_in-requires-clause-in_range
put_in-requires-clause-in_range g c =
    in_links g.J.Join.predicate _ _ c.self.view_is c.requires.going c.len-cores.result (c.len-cores.ensures ∙ c.self.inside.cores.ok.0 ∙ sym (length-map c.self.inside.cores.items _))

pub put_in-requires-clause-room : goal.put_in-requires-clause-room
put_in-requires-clause-room g c =
    room_first g.J.Join.predicate _ _ c.self.view_is c.requires.going c.len-cores.result (c.len-cores.ensures ∙ c.self.inside.cores.ok.0 ∙ sym (length-map c.self.inside.cores.items _))

pub put_in-requires-in-Send-clause-in_range : goal.put_in-requires-in-Send-clause-in_range
put_in-requires-in-Send-clause-in_range g c =
    still_in_links g.J.Join.predicate _ _ c.self.view_is c.requires.going c.len-cores.result _ (c.len-cores.ensures ∙ c.self.inside.cores.ok.0 ∙ sym (length-map c.self.inside.cores.items _)) c.put_in.ensures

pub put_in-requires-in-Send-clause-room : goal.put_in-requires-in-Send-clause-room
put_in-requires-in-Send-clause-room g c =
    room_second g.J.Join.predicate _ _ c.self.view_is c.requires.going c.len-cores.result _ (c.len-cores.ensures ∙ c.self.inside.cores.ok.0 ∙ sym (length-map c.self.inside.cores.items _)) c.put_in.ensures
