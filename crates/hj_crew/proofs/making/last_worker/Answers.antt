use Rattle.std.proofs.Common.{◌≡◌, [], refl}
use Rattle.hj_msg.specs.declared.message.Msg.{Msg}
use Rattle.hj_msg.specs.declared.message.Report.{Report}
use Rattle.hj_link.specs.Seen.{EndSeen}
use Rattle.hj_crew.proofs.MadeTeams.{gives-one, last-of}
use Rattle.hj_crew.proofs.making.last_worker.Goals as goal

pub new-requires-clause-left : goal.new-requires-clause-left
new-requires-clause-left g c =
    last-of (λ (end : EndSeen (Msg g.row.P.Denot)). end.journal ≡ []) c.args.ends.now.right.items c.pop.new.self.items c.in-Some.left c.in-Some.ensures.items c.requires.unused.right

pub new-requires-clause-right : goal.new-requires-clause-right
new-requires-clause-right g c =
    last-of (λ (end : EndSeen (Msg g.row.P.Denot)). end.journal ≡ []) c.args.ends.now.left.items c.pop-2.new.self.items c.in-Some-pop.right c.in-Some-pop.ensures.items c.requires.unused.left

pub new-requires-clause-reports : goal.new-requires-clause-reports
new-requires-clause-reports g c =
    last-of (λ (sender : EndSeen (Report g.row.P.Denot)). sender.journal ≡ []) c.args.ends.now.senders.items c.pop-3.new.self.items c.in-Some-pop-2.reports c.in-Some-pop-2.ensures.items
    c.requires.unused.senders

pub returns-clause-ends : goal.returns-clause-ends
returns-clause-ends g c =
    gives-one c.new.result c.in-Some.left c.in-Some-pop.right c.in-Some-pop-2.reports c.args.ends.now (record c.args.ends.now { left = c.pop-2.new.self; right = c.pop.new.self; senders = c.pop-3.new.self }) (λ i. (c.new.ensures i).ends)
    c.in-Some.ensures.items c.in-Some-pop.ensures.items c.in-Some-pop-2.ensures.items refl
