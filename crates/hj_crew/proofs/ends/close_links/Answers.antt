use Rattle.std.proofs.Common.{◌≡◌, rules}
use Rattle.std.specs.List.{zip}
use Rattle.hj_base.specs.Link.{Agrees}
use Rattle.hj_link.specs.Seen.{EndSeen, LinkSeen, closed}
use Rattle.hj_crew.proofs.Linking.{related-as, seconds-are, seconds-by}
use Rattle.hj_crew.proofs.ends.close_links.Goals as goal

pub close_all-requires-clause-ends : goal.close_all-requires-clause-ends
close_all-requires-clause-ends g c = related-as (λ (one other : EndSeen g.row.M.Denot). one.link ≡ other.link) _ (λ one other linked. search rules) c.args.left.items c.args.right.items c.requires.linked

pub returns-clause-links : goal.returns-clause-links
returns-clause-links g c =
    seconds-by _ (λ (ends : EndSeen g.row.M.Denot × EndSeen g.row.M.Denot). closed ends.0.capacity ends.0.journal ends.1.journal) (λ ends one made. search rules) (zip c.args.left.items c.args.right.items) c.close_all.result.items
    c.close_all.ensures

pub returns-clause-agree : goal.returns-clause-agree
returns-clause-agree g c =
    seconds-are _ (λ (one : LinkSeen g.row.M.Denot). Agrees one.capacity one.link) (λ ends one made. search rules) (zip c.args.left.items c.args.right.items) c.close_all.result.items c.close_all.ensures
