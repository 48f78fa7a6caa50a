-- A sequential join between a feed and a drain, event by event.
use Rattle.std.proofs.Common.{◌≡◌, Bool, true, Some, List, [], ◌∷◌, ◌++◌, refl, ap, sym, ◌∙◌, subst, append-nil}
use Rattle.std.proofs.lemmas.Grind.{flat_map-append}
use Rattle.hj_msg.specs.declared.drain.Drained.{Drained}
use Rattle.hj_msg.specs.declared.event.Event as event
use Rattle.hj_msg.specs.declared.event.Pair.{Pair}
use Rattle.hj_msg.specs.declared.feed.Given.{Given}
use Rattle.hj_msg.specs.declared.feed.Given.TheVariants.{Event, Stop}
use Rattle.hj_msg.specs.declared.fin.Fin.{Fin}
use Rattle.hj_msg.specs.declared.fin.Fin.TheVariants as fin
use Rattle.hj_msg.specs.Drain.{Drainage}
use Rattle.hj_msg.specs.Event.{IsWellFormed}
use Rattle.hj_msg.specs.Feed.{Answers, FeedState, GivesEvent, GoesOverAnswers, IsFresh, event_in, events_in}
use Rattle.hj_msg.specs.GoesOn.{GoesOnWith}
use Rattle.hj_msg.specs.Kang.{after, kang, listed, no_rows, windows_after}
use Rattle.hj_msg.specs.RunsJoin.{EndsJoin, RunsJoin}
use Rattle.hj_msg.specs.Store.{Resting}
use Rattle.hj_msg.proofs.Feeding.{numbering-push, well-nothing, well-push}
use Rattle.hj_msg.proofs.Windows.{kang-push, windows_from-append}
use Rattle.hj_sequential.specs.Giving.{GivesListed}
use Rattle.hj_sequential.specs.Stores.{HoldWindows}
use Rattle.hj_sequential.proofs.GivenPairs.{gives-both, gives_nothing}

answers-push : {F P : Type 0} (gives : F → Given P → F → Type 0) (answers : List (Given P)) (answer : Given P) (from mid to : F) → GoesOverAnswers gives from answers mid → gives mid answer to → GoesOverAnswers gives from (answers ++ answer ∷ []) to
answers-push {F} gives [] answer from mid to over given = (to, subst (λ (f : F). gives f answer to) over given, refl)
answers-push gives (first ∷ later) answer from mid to over given = (over.0, over.1, answers-push gives later answer over.0 mid to over.2 given)

events-push : {P : Type 0} (answers : List (Given P)) (one : event.Event P) → events_in (answers ++ Event one ∷ []) ≡ events_in answers ++ one ∷ []
events-push {P} answers one = flat_map-append (λ (answer : Given P). event_in (Some answer)) answers (Event one ∷ [])

events-stop : {P : Type 0} (answers : List (Given P)) → events_in (answers ++ Stop ∷ []) ≡ events_in answers
events-stop {P} answers = flat_map-append (λ (answer : Given P). event_in (Some answer)) answers (Stop ∷ []) ∙ append-nil (events_in answers)

-- whether the feed has stopped tells nothing where not all was done
ends-early : {P : Type 0} (ended : Fin) (stopped : Bool) (taken : List (Drainage P)) (joined : List (Pair P)) → (ended ≡ fin.Done → ⊥) → EndsJoin ended true taken joined → EndsJoin ended stopped taken joined
ends-early fin.Done stopped taken joined other ends = absurd (other refl)
ends-early fin.Refused stopped taken joined other ends = ends
ends-early fin.Memory stopped taken joined other ends = ends

module _ {P F D : Type 0} (gives : F → Given P → F → Type 0) (state : F → FeedState) (takes : D → Pair P → Drained → D → Type 0) (matches : P → P → Bool) (from : F) (unfilled : D) where
  -- The events so far came from the feed, and the drain was given their pairs.
  pub record Joined (ended : Fin) (to : F) (filled : D) : Type 0 where
    pub answers : List (Given P)
    pub feed : GoesOverAnswers gives from answers to
    pub goes : GoesOnWith (events_in answers) (state to)
    pub given : GivesListed takes (kang matches (events_in answers)) ended unfilled filled

  -- where not all was done
  pub joined-early : (ended : Fin) (to : F) (filled : D) → (ended ≡ fin.Done → ⊥) → Joined ended to filled → RunsJoin gives state takes matches ended from to unfilled filled
  joined-early ended to filled other joined = record {
    answers = joined.answers;
    feed = joined.feed;
    taken = joined.given.taken;
    drain = joined.given.drain;
    ends = λ well. ends-early ended (state to).stopped joined.given.taken (kang matches (events_in joined.answers)) other joined.given.ends;
  }

  -- where the feed stopped
  pub joined-all : (mid to : F) (filled : D) → Joined fin.Done mid filled → gives mid Stop to → Answers {P = P} Stop (state mid) (state to) → RunsJoin gives state takes matches fin.Done from to unfilled filled
  joined-all mid to filled joined stops says = record {
    answers = joined.answers ++ Stop ∷ [];
    feed = answers-push gives joined.answers Stop from mid to joined.feed stops;
    taken = joined.given.taken;
    drain = joined.given.drain;
    ends = λ well. (says.stopped, joined.given.ends.1, joined.given.ends.2 ∙ ap (λ (events : List (event.Event P)). kang matches events) (sym (events-stop joined.answers)));
  }

  module _ {S : Type 0} (rows : S → List (Resting P)) where
    -- and the stores hold the windows behind them
    pub record Running (to : F) (filled : D) (left right : S) : Type 0 where
      pub joined : Joined fin.Done to filled
      pub holds : HoldWindows rows (windows_after (events_in joined.answers)) left right

    pub running-begins : (left right : S) → IsFresh (state from) → rows left ≡ [] → rows right ≡ [] → Running from unfilled left right
    running-begins left right fresh no_left no_right = record {
      joined = record { answers = []; feed = refl; goes = record { well_formed = well-nothing P; numbering = fresh }; given = gives_nothing takes unfilled };
      holds = record { on_left = no_left; on_right = no_right };
    }

    module _ (mid to : F) (filled more : D) (left new_left right new_right : S) (running : Running mid filled left right) (one : event.Event P) (given : gives mid (Event one) to) (says : GivesEvent one (state mid) (state to)) where
      abbrev before : List (event.Event P)
      before = events_in running.joined.answers

      well : IsWellFormed (before ++ one ∷ [])
      well = well-push before one (state mid) (state to) running.joined.goes.well_formed running.joined.goes.numbering says

      -- the event was handled: the pairs that it lists were given, by the same join
      abbrev pub Handled : (P → P → Bool) → Fin → Type 0
      Handled own ended = (events : List (event.Event P)) → IsWellFormed (events ++ one ∷ []) → HoldWindows rows (windows_after events) left right → GivesListed takes (listed own (windows_after events) one) ended filled more

      -- one event more
      pub joined-more : (own : P → P → Bool) → own ≡ matches → (ended : Fin) → Handled own ended → Joined ended to more
      joined-more own is ended handled =
          let same = events-push running.joined.answers one in
          let gave : GivesListed takes (listed matches (windows_after before) one) ended filled more =
          subst (λ (by : P → P → Bool). GivesListed takes (listed by (windows_after before) one) ended filled more) is (handled before well running.holds) in
          record {
            answers = running.joined.answers ++ Event one ∷ [];
            feed = answers-push gives running.joined.answers (Event one) from mid to running.joined.feed given;
            goes = subst (λ (events : List (event.Event P)). GoesOnWith events (state to)) (sym same)
                (record { well_formed = well; numbering = numbering-push before one (state mid) (state to) running.joined.goes.numbering says });
            given = subst (λ (pairs : List (Pair P)). GivesListed takes pairs ended unfilled more) (sym (kang-push matches before one) ∙ ap (λ (events : List (event.Event P)). kang matches events) (sym same))
                (gives-both takes ended (kang matches before) (listed matches (windows_after before) one) unfilled filled more running.joined.given gave);
          }

      pub running-more : (own : P → P → Bool) → own ≡ matches → (ended : Fin) → ended ≡ fin.Done → Handled own ended
          → ((events : List (event.Event P)) → IsWellFormed (events ++ one ∷ []) → HoldWindows rows (windows_after events) left right → ended ≡ fin.Done → HoldWindows rows (after (windows_after events) one) new_left new_right)
          → Running to more new_left new_right
      unfolding joined-more
      running-more own is ended done handled moved = record {
        joined = joined-more own is fin.Done (subst (λ (how : Fin). Handled own how) done handled);
        holds = subst (λ windows. HoldWindows rows windows new_left new_right)
            (sym (windows_from-append no_rows before (one ∷ [])) ∙ ap (λ (events : List (event.Event P)). windows_after events) (sym (events-push running.joined.answers one))) (moved before well running.holds done);
      }
