use Rattle.hj_chain.proofs.Taking.{opened, taken-back, taken-in_links, taken-room_back}
use Rattle.hj_chain.proofs.chain.Chain.give_up.Goals as goal

pub put_back-requires-clause-in_range : goal.put_back-requires-clause-in_range
put_back-requires-clause-in_range g c =
    let t = opened g.J.Join.predicate c.args.core c.args.end c.args.msg c.requires.taken.0 _ _ c.self.view_is c.requires.taken.1 in
    taken-in_links g.J.Join.predicate c.args.core c.args.end c.args.msg c.requires.taken.0 _ t c.from.result c.from.ensures

pub put_back-requires-clause-room : goal.put_back-requires-clause-room
put_back-requires-clause-room g c =
    let t = opened g.J.Join.predicate c.args.core c.args.end c.args.msg c.requires.taken.0 _ _ c.self.view_is c.requires.taken.1 in
    taken-room_back g.J.Join.predicate c.args.core c.args.end c.args.msg c.requires.taken.0 _ t c.from.result c.from.ensures

pub returns : goal.returns
returns g c = λ before h.
    let t = opened g.J.Join.predicate c.args.core c.args.end c.args.msg before _ _ c.self.view_is h in
    taken-back g.J.Join.predicate c.args.core c.args.end c.args.msg before _ t c.from.result c.from.ensures c.put_back.new.self c.put_back.ensures
