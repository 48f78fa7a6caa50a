-- A desk behind an answer of the feed.
use Rattle.std.proofs.Common.{◌≡◌, List, ◌++◌, Some, None, refl, ap, sym, ◌∙◌, subst, append-nil, true≢false}
use Rattle.hj_msg.specs.declared.event.Event as event
use Rattle.hj_msg.specs.declared.feed.Given.{Given}
use Rattle.hj_msg.specs.declared.feed.Given.TheVariants.{Event, Stop}
use Rattle.hj_msg.specs.Driver.{DriverTurn, admitted}
use Rattle.hj_msg.specs.Event.{IsWellFormed}
use Rattle.hj_msg.specs.Feed.{FeedState, Answers, event_in, numbering_of}
use Rattle.hj_msg.proofs.Feeding.{well-push, numbering-push}
use Rattle.hj_desk.specs.declared.desk.Desk.{Desk}
use Rattle.hj_desk.specs.Desk.{DeskHistory, IsFed, StandsFor, turns_of}
use Rattle.hj_desk.specs.Steps.{with_events}

module _ {P : Type 0} where
  fed-answer : (given : Given P) (old new : FeedState) (turns : List (DriverTurn P)) (events : List (event.Event P)) → IsFed None old turns events → Answers given old new → IsFed (Some given) new turns (events ++ event_in (Some given))
  fed-answer (Event event) old new turns events fed gives = record {
    are = ap (λ es. es ++ event_in (Some (Event event))) (fed.are ∙ append-nil (admitted turns));
    well_formed = well-push events event old new fed.well_formed fed.numbering gives;
    numbering = numbering-push events event old new fed.numbering gives;
    stopped = λ stop. absurd (true≢false (sym stop));
    closed = fed.closed;
  }
  fed-answer Stop old new turns events fed gives = record {
    are = append-nil events ∙ fed.are;
    well_formed = subst IsWellFormed (sym (append-nil events)) fed.well_formed;
    numbering = gives.numbering ∙ fed.numbering ∙ ap numbering_of (sym (append-nil events));
    stopped = λ stop. gives.stopped;
    closed = λ put. refl;
  }

  pub asks : (desk : Desk P) (given : Given P) (old new : FeedState) → desk.next ≡ None → Answers given old new → (history : DeskHistory P) → StandsFor desk old history
      → StandsFor (record desk { next = Some given }) new (with_events (event_in (Some given)) history)
  asks desk given old new unknown gives history stood = record {
    drives = stood.drives;
    fed = fed-answer given old new (turns_of history.log) history.events (subst (λ next. IsFed next old (turns_of history.log) history.events) unknown stood.fed) gives;
    gathered = stood.gathered;
  }
