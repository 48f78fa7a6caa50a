-- Workers that hand in their ends, one after another.
use Rattle.std.proofs.Common.{◌≡◌, ◌↔◌, suc, ◌+◌, Bool, List, [], ◌∷◌, ◌++◌, All, Contains, length, None, add-one, ap, ap₂, sym, ◌∙◌, subst}
use Rattle.std.proofs.lemmas.List.{length-map}
use Rattle.hj_base.specs.Journals.{puts}
use Rattle.hj_base.specs.Link.{Agrees, AgreesOneWay}
use Rattle.hj_msg.specs.declared.message.Msg.{Msg}
use Rattle.hj_msg.specs.declared.message.Report.{Report}
use Rattle.hj_msg.specs.declared.message.Report.TheVariants.{Ended}
use Rattle.hj_msg.specs.Turns.{Turns, TakesTurns}
use Rattle.hj_link.specs.Seen.{EndSeen}
use Rattle.hj_worker.specs.Hands.{unput}
use Rattle.hj_worker.specs.Seen.{WorkerSeen}
use Rattle.hj_desk.specs.declared.desk.Desk.{Desk}
use Rattle.hj_crew.specs.declared.ends.ChainEnds.{ChainEnds}
use Rattle.hj_crew.specs.Cores.{AreClosed, GivesEnds, TakesItsTurns, left_of, reports_of, right_of}
use Rattle.hj_crew.specs.Ends.{FormChain}
use Rattle.hj_crew.specs.Links.{AreLinked, closed_links, closed_queues}
use Rattle.hj_crew.specs.Ran.{RanSeen}

-- what a worker's parts say of it
pub its_turns : {P J : Type 0} (predicate : J → P → P → Bool) (worker : WorkerSeen P J) (left right : EndSeen (Msg P)) (reports : EndSeen (Report P)) → left ≡ worker.ends.left → right ≡ worker.ends.right → reports ≡ worker.ends.reports
    → (turns : Turns P) × TakesTurns (predicate worker.join) worker.place worker.cores turns left.journal right.journal reports.journal × (worker.hand ≡ unput [] ↔ turns.cut ≡ None)
    → (Contains (puts reports.journal) Ended → worker.hand ≡ unput []) → TakesItsTurns predicate worker
its_turns {P} predicate worker left right reports at_left at_right of_reports took ended = (
  took.0,
  subst (λ (l : EndSeen (Msg P)). TakesTurns (predicate worker.join) worker.place worker.cores took.0 l.journal worker.ends.right.journal worker.ends.reports.journal) at_left
      (subst (λ (r : EndSeen (Msg P)). TakesTurns (predicate worker.join) worker.place worker.cores took.0 left.journal r.journal worker.ends.reports.journal) at_right
      (subst (λ (s : EndSeen (Report P)). TakesTurns (predicate worker.join) worker.place worker.cores took.0 left.journal right.journal s.journal) of_reports took.1)),
  λ put. took.2.0 (ended (subst (λ (s : EndSeen (Report P)). Contains (puts s.journal) Ended) (sym of_reports) put)),
)

-- an end that came into a list without any
pub one-held : {P : Type 0} (before after : List (EndSeen (Msg P))) (end : EndSeen (Msg P)) → before ≡ [] → after ≡ before ++ end ∷ [] → after ≡ end ∷ []
one-held {P} before after end none pushed = pushed ∙ ap (λ (l : List (EndSeen (Msg P))). l ++ end ∷ []) none

-- All workers handed in their ends, behind the left end of a desk, and its right end is behind them: these are the ends of the chain
-- that they form.
module _ {P J : Type 0} (desk : Desk P) (workers : List (WorkerSeen P J)) (first ends : ChainEnds P) (given : GivesEnds workers ends first) (left : first.left.items ≡ desk.ports.left ∷ []) (no_right : first.right.items ≡ [])
    (no_senders : first.senders.items ≡ []) (receivers : first.receivers.items ≡ desk.reports.items) where
  all_left : ends.left.items ≡ desk.ports.left ∷ right_of workers
  all_left = given.left ∙ ap (λ (l : List (EndSeen (Msg P))). l ++ right_of workers) left

  all_senders : ends.senders.items ≡ reports_of workers
  all_senders = given.senders ∙ ap (λ (l : List (EndSeen (Report P))). l ++ reports_of workers) no_senders

  all_receivers : ends.receivers.items ≡ desk.reports.items
  all_receivers = ap (λ receivers_of. receivers_of.items) (sym given.receivers) ∙ receivers

  pub many_left : length ends.left.items ≡ length workers + 1
  many_left = ap length all_left ∙ ap suc (length-map workers (λ (w : WorkerSeen P J). w.ends.right)) ∙ sym (add-one (length workers))

  pub many_senders : length ends.senders.items ≡ length workers
  many_senders = ap length all_senders ∙ length-map workers (λ (w : WorkerSeen P J). w.ends.reports)

  module _ (right : List (EndSeen (Msg P))) (pushed : right ≡ ends.right.items ++ desk.ports.right ∷ []) where
    all_right : right ≡ left_of workers ++ desk.ports.right ∷ []
    all_right =
        pushed
        ∙ ap (λ (l : List (EndSeen (Msg P))). l ++ desk.ports.right ∷ []) (given.right ∙ ap (λ (l : List (EndSeen (Msg P))). l ++ left_of workers) no_right)

    pub all-linked : FormChain desk (left_of workers) (right_of workers) (reports_of workers) → AreLinked ends.left.items right
    all-linked chain =
        subst (λ (l : List (EndSeen (Msg P))). AreLinked l right) (sym all_left) (subst (λ (r : List (EndSeen (Msg P))). AreLinked (desk.ports.left ∷ right_of workers) r) (sym all_right) chain.links)

    pub all-queued : FormChain desk (left_of workers) (right_of workers) (reports_of workers) → AreLinked ends.senders.items ends.receivers.items
    all-queued chain =
        subst (λ (s : List (EndSeen (Report P))). AreLinked s ends.receivers.items) (sym all_senders)
        (subst (λ (r : List (EndSeen (Report P))). AreLinked (reports_of workers) r) (sym all_receivers) chain.queues)

    pub all-closed : (predicate : J → P → P → Bool) → All (TakesItsTurns predicate) workers → (ran : RanSeen P) → ran.links ≡ closed_links ends.left.items right → ran.queues ≡ closed_queues ends.senders.items ends.receivers.items → All (λ link. Agrees link.capacity link.link) ran.links
        → All (λ queue. AgreesOneWay queue.capacity queue.way) ran.queues → AreClosed predicate desk workers ran
    all-closed predicate turns ran links queues links_agree queues_agree = record {
      links = links ∙ ap₂ (λ (l r : List (EndSeen (Msg P))). closed_links l r) all_left all_right;
      queues = queues ∙ ap₂ (λ (s : List (EndSeen (Report P))) (r : List (EndSeen (Report P))). closed_queues s r) all_senders all_receivers;
      links_agree = links_agree;
      queues_agree = queues_agree;
      turns = turns;
    }
