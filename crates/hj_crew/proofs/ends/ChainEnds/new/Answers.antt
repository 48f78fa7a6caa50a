use Rattle.std.proofs.Common.{◌≡◌, ℕ, ◌+◌, ◌*◌, [], ◌∷◌, ◌++◌, All, List, arith, subst}
use Rattle.std.specs.List.{AllZip}
use Rattle.hj_msg.specs.declared.message.Msg.{Msg}
use Rattle.hj_msg.specs.declared.message.Report.{Report}
use Rattle.hj_link.specs.Seen.{EndSeen}
use Rattle.hj_crew.specs.Links.{AreEndsOfNew, AreLinked, IsNewEnd}
use Rattle.hj_crew.proofs.Linking.{firsts-are, related-as, seconds-are}
use Rattle.hj_crew.proofs.ends.ChainEnds.new.Goals as goal

pub returns : goal.returns
returns g c =
    let P = g.row.P.Denot in
    let room = 2 * c.args.flight + 2 in
    let links = c.in_ok-left.ensures in
    let queues = c.in_ok-senders.ensures in
    let left = c.in_ok-left.left.items in
    let right = c.in_ok-left.right.items in
    let senders = c.in_ok-senders.senders.items in
    let receivers = c.in_ok-senders.receivers.items in
    let same : 2 * c.from.result + 2 ≡ room = omega (arith, c.from.ensures) in
    let new_links = subst (λ (capacity : ℕ). AllZip (AreEndsOfNew {M = Msg P} capacity) left right) same links.new in
    let new_queues = subst (λ (capacity : ℕ). AllZip (AreEndsOfNew {M = Report P} capacity) senders receivers) same queues.new in
    let last : right ≡ c.pop.new.self.items ++ c.in-Some.last ∷ [] = c.in-Some.ensures.items in
    record {
      links = omega (arith, links.count, c.from-cores.ensures);
      queues = omega (arith, queues.count, c.from-cores.ensures);
      linked = subst (λ (ends : List (EndSeen (Msg P))). AreLinked left ends) last (related-as (AreEndsOfNew room) (λ (l r : EndSeen (Msg P)). l.link ≡ r.link) (λ l r new. new.0) left right new_links);
      queued = related-as (AreEndsOfNew room) (λ (s r : EndSeen (Report P)). s.link ≡ r.link) (λ s r new. new.0) senders receivers new_queues;
      left = firsts-are (AreEndsOfNew room) (IsNewEnd room) (λ l r new. new.1) left right new_links;
      right = subst (All (IsNewEnd room)) last (seconds-are (AreEndsOfNew room) (IsNewEnd room) (λ l r new. new.2) left right new_links);
      senders = firsts-are (AreEndsOfNew room) (IsNewEnd room) (λ s r new. new.1) senders receivers new_queues;
      receivers = seconds-are (AreEndsOfNew room) (IsNewEnd room) (λ s r new. new.2) senders receivers new_queues;
    }
