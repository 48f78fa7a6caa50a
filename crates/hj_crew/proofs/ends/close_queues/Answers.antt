use Rattle.std.proofs.Common.{◌≡◌, rules}
use Rattle.std.specs.List.{zip}
use Rattle.hj_base.specs.Link.{AgreesOneWay}
use Rattle.hj_link.specs.Seen.{EndSeen, WaySeen, closed_way}
use Rattle.hj_crew.proofs.Linking.{related-as, seconds-are, seconds-by}
use Rattle.hj_crew.proofs.ends.close_queues.Goals as goal

pub close_all-requires-clause-ends : goal.close_all-requires-clause-ends
close_all-requires-clause-ends g c = related-as (λ (one other : EndSeen g.row.M.Denot). one.link ≡ other.link) _ (λ one other linked. search rules) c.args.senders.items c.args.receivers.items c.requires.linked

pub returns-clause-queues : goal.returns-clause-queues
returns-clause-queues g c =
    seconds-by _ (λ (ends : EndSeen g.row.M.Denot × EndSeen g.row.M.Denot). closed_way ends.0.capacity ends.0.journal ends.1.journal) (λ ends one made. search rules) (zip c.args.senders.items c.args.receivers.items) c.close_all.result.items
    c.close_all.ensures

pub returns-clause-agree : goal.returns-clause-agree
returns-clause-agree g c =
    seconds-are _ (λ (one : WaySeen g.row.M.Denot). AgreesOneWay one.capacity one.way) (λ ends one made. search rules) (zip c.args.senders.items c.args.receivers.items) c.close_all.result.items c.close_all.ensures
