-- A desk and workers that were given new ends: the crew of a chain.
use Rattle.std.proofs.Common.{◌≡◌, ℕ, ◌+◌, ◌*◌, ◌≤◌, List, [], ◌∷◌, ◌++◌, All, length, ap, sym, ◌∙◌, subst, arith, length-append, refl}
use Rattle.std.proofs.lemmas.List.{length-map, nil_from_length}
use Rattle.hj_msg.specs.declared.message.Msg.{Msg}
use Rattle.hj_msg.specs.declared.message.Report.{Report}
use Rattle.hj_link.specs.Seen.{EndSeen}
use Rattle.hj_worker.specs.Seen.{WorkerSeen}
use Rattle.hj_desk.specs.declared.desk.Desk.{Desk}
use Rattle.hj_crew.specs.declared.ends.ChainEnds.{ChainEnds}
use Rattle.hj_crew.specs.declared.team.Team.{Team}
use Rattle.hj_crew.specs.Cores.{AreCrew, AreEndsFor, AreForDesk, AreUnused, MakesTeams, left_of, reports_of, right_of}
use Rattle.hj_crew.specs.Ends.{AreNew}
use Rattle.hj_crew.specs.Links.{AreLinked}
use Rattle.hj_crew.proofs.ClosedLinks.{length-linked}
use Rattle.hj_crew.proofs.MadeTeams.{all-front, ends-left, last-of}

module _ {P : Type 0} (cores capacity : ℕ) (ends : ChainEnds P) (last : EndSeen (Msg P)) (new : AreNew cores capacity ends last) where
  many_right : length ends.right.items ≡ cores
  many_right = omega (arith, length-linked ends.left.items (ends.right.items ++ last ∷ []) new.linked, new.links, length-append ends.right.items (last ∷ []))

  pub ends_for : AreEndsFor cores ends
  ends_for = record { left = new.links; right = many_right; senders = new.queues }

  pub ends_unused : AreUnused ends
  ends_unused = record {
    left = λ k d low. (new.left k d low).0;
    right = all-front (λ (end : EndSeen (Msg P)). end.journal ≡ []) (ends.right.items ++ last ∷ []) ends.right.items (last ∷ []) refl (λ k d low. (new.right k d low).0);
    senders = λ k d low. (new.senders k d low).0;
  }

  module _ {J S : Type 0} (join : J) (left : ChainEnds P) (teams : List (Team P J S)) (makes : MakesTeams join cores 0 ends left teams) where
    many : length makes.workers ≡ cores
    many = omega (arith, makes.many)

    left_over : AreEndsFor 0 left
    left_over = ends-left makes.workers ends left makes.ends cores 0 (omega (arith, makes.many)) ends_for

    all_right : ends.right.items ++ last ∷ [] ≡ left_of makes.workers ++ last ∷ []
    all_right = ap (λ (l : List (EndSeen (Msg P))). l ++ last ∷ []) (makes.ends.right ∙ ap (λ (l : List (EndSeen (Msg P))). l ++ left_of makes.workers) (nil_from_length left.right.items left_over.right))

    all_senders : ends.senders.items ≡ reports_of makes.workers
    all_senders = makes.ends.senders ∙ ap (λ (l : List (EndSeen (Report P))). l ++ reports_of makes.workers) (nil_from_length left.senders.items left_over.senders)

    few_receivers : length left.receivers.items ≡ cores
    few_receivers = ap (λ receivers_of. length receivers_of.items) makes.ends.receivers ∙ length-linked ends.senders.items ends.receivers.items new.queued ∙ new.queues

    pub for_desk : cores ≤ 64 → AreForDesk left last
    for_desk few = record {
      first = omega (arith, left_over.left);
      left_unused =
          all-front (λ (end : EndSeen (Msg P)). end.journal ≡ []) ends.left.items left.left.items (right_of makes.workers) makes.ends.left (λ k d low. (new.left k d low).0);
      last_unused = (last-of (λ (end : EndSeen (Msg P)). (end.journal ≡ []) × (end.capacity ≡ capacity)) (ends.right.items ++ last ∷ []) ends.right.items last refl new.right).0;
      few = omega (arith, few_receivers, few);
      receivers_unused =
          subst (λ receivers_of. All (λ (receiver : EndSeen (Report P)). receiver.journal ≡ []) receivers_of.items) (sym makes.ends.receivers) (λ k d low. (new.receivers k d low).0);
    }

    pub crew : (in_flight : ℕ) (desk : Desk P) → capacity ≡ 2 * in_flight + 2 → left.left.items ≡ desk.ports.left ∷ [] → desk.ports.right ≡ last → desk.reports ≡ left.receivers → desk.driver.flight ≡ in_flight → AreCrew join cores in_flight desk teams
    crew in_flight desk room at_left at_right reports flight =
        let lefts : ends.left.items ≡ desk.ports.left ∷ right_of makes.workers = makes.ends.left ∙ ap (λ (l : List (EndSeen (Msg P))). l ++ right_of makes.workers) at_left in
        let rights : ends.right.items ++ last ∷ [] ≡ left_of makes.workers ++ desk.ports.right ∷ [] = all_right ∙ ap (λ (end : EndSeen (Msg P)). left_of makes.workers ++ end ∷ []) (sym at_right) in
        let queues : ends.receivers.items ≡ desk.reports.items = ap (λ receivers_of. receivers_of.items) (sym makes.ends.receivers ∙ sym reports) in
        let holds : capacity ≡ 2 * desk.driver.flight + 2 = room ∙ ap (λ (k : ℕ). 2 * k + 2) (sym flight) in
        record {
          workers = makes.workers;
          many = many;
          cores = makes.cores;
          dealt_out = makes.dealt_out;
          chain = record {
            cores = length-map makes.workers (λ (w : WorkerSeen P J). w.ends.left) ∙ many ∙ sym few_receivers ∙ ap (λ receivers_of. length receivers_of.items) (sym reports);
            links =
                subst (λ (l : List (EndSeen (Msg P))). AreLinked l (left_of makes.workers ++ desk.ports.right ∷ [])) lefts (subst (λ (l : List (EndSeen (Msg P))). AreLinked ends.left.items l) rights new.linked);
            queues =
                subst (λ (l : List (EndSeen (Report P))). AreLinked l desk.reports.items) all_senders (subst (λ (l : List (EndSeen (Report P))). AreLinked ends.senders.items l) queues new.queued);
            link_capacity =
                subst (All (λ (end : EndSeen (Msg P)). end.capacity ≡ 2 * desk.driver.flight + 2)) lefts (λ k d low. (new.left k d low).1 ∙ holds);
            queue_capacity =
                subst (All (λ (sender : EndSeen (Report P)). sender.capacity ≡ 2 * desk.driver.flight + 2)) all_senders (λ k d low. (new.senders k d low).1 ∙ holds);
          };
          flight = flight;
        }
