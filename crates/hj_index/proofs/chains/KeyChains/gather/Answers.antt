use Rattle.std.proofs.Common.{Bool, List, [], nat_eq, refl, sym, ◌∙◌}
use Rattle.std.specs.HashMap.{get}
use Rattle.hj_value.specs.declared.field.Field.{Field}
use Rattle.hj_msg.specs.Store.{joins}
use Rattle.hj_index.proofs.ChainWalks.{matches-sorted, walk-ends, walk-starts}
use Rattle.hj_index.proofs.chains.KeyChains.gather.Goals as goal

pub returns-in_default : goal.returns-in_default
returns-in_default g c =
    let s = c.args.self.now in
    let test : List Field → Bool = λ row. joins (g.J.Join.predicate c.args.join.now) c.args.side row c.args.against.now in
    c.requires.empty
    ∙ (walk-ends test s.own c.args.key s.base s.places.items (get nat_eq s.last) c.requires.key c.requires.chained.nearly.linked [] c.last_of-last.result
    (walk-starts test s.own c.args.key s.base s.places.items (get nat_eq s.last) c.requires.key c.requires.chained.nearly.linked [] c.last_of-last.result refl c.last_of-last.ensures) c.in_default.ensures
    ∙ sym (matches-sorted test s.places.items (c.requires.chained.nearly.ascending c.requires.ascending)))
