-- A run whose lines are written, as far as it has come.
use Rattle.std.proofs.Common.{◌≡◌, ◌≢◌, ℕ, ◌≤◌, Bool, true, false, List, [], ◌∷◌, ◌++◌, length, None, Some, is_some, refl, sym, ap, subst, ◌∙◌, append_assoc, append-nil}
use Rattle.std.proofs.KnownBytes.{Appends-nil, Appends-trans}
use Rattle.std.specs.Io.KnownBytes.{Appends}
use Rattle.std.specs.declared.option.Option.{Option}
use Rattle.hj_value.specs.declared.field.Field.{Field}
use Rattle.hj_base.specs.declared.output.Sent.{Sent}
use Rattle.hj_base.specs.declared.output.Sent.TheVariants as sent
use Rattle.hj_base.specs.declared.outside.Outside.{Ghosts as OutsideGhosts}
use Rattle.hj_base.specs.Output.{AppendsFront, SendsPiece}
use Rattle.hj_msg.specs.declared.event.Event as event
use Rattle.hj_msg.specs.declared.feed.Given.{Given}
use Rattle.hj_msg.specs.declared.feed.Given.TheVariants as given
use Rattle.hj_msg.specs.Feed.{Answers, event_in, events_in, is_stop}
use Rattle.hj_chain.specs.declared.actor.Actor.{Actor}
use Rattle.hj_chain.specs.declared.actor.Stepped.TheVariants as stepped
use Rattle.hj_chain.specs.declared.serial.Chooser.{Chooser}
use Rattle.hj_chain.specs.Chain.{ChainState, empty_chain}
use Rattle.hj_chain.specs.Progress.{IsDone}
use Rattle.hj_chain.specs.Reached.{Reached, asked, begins, steps}
use Rattle.hj_chain.specs.Serial.{Choosing, chosen, choosing_after, first_choosing}
use Rattle.std.specs.Prelude.{MatchBool}
use Rattle.hj_chain.specs.Steps.{Steps, asks}
use Rattle.hj_chain.proofs.ChosenActors.{none-enabled}
use Rattle.hj_chain.proofs.OnlyCloses.{none_to_come}
use Rattle.hj_chain.proofs.Stuck.{finished-sent, stuck_is_done}
use Rattle.hj_stream.specs.declared.outcome.Outcome.{Outcome}
use Rattle.hj_stream.specs.declared.outcome.Outcome.TheVariants as outcome
use Rattle.hj_replay.specs.declared.ready.AlwaysReady.{AlwaysReady}
use Rattle.hj_trace.specs.Line.{line_text}
use Rattle.hj_trace.specs.Play.{Playing, AreChosen, BeginsTrace, IsTrace, at_start, played}
use Rattle.hj_trace.proofs.Plays.{PlaysOver, answers_are, answers_in, over_step, chosen-snoc, choosing_behind, chooses-step, plays-step, stands-step, trace-snoc}
use Rattle.hj_replay.specs.Feeds.{Fed, MayCome, gives, seen, state_of}
use Rattle.hj_replay.specs.Writing.{WritesLines, Wrote}
use Rattle.hj_replay.proofs.Feeding.{events_both, fed_both, fed_by, fed_none, may_come}

abbrev Events : Type 0
Events = List (event.Event (List Field))

module _ {O : Type 0} {outside : OutsideGhosts O} (matches : List Field → List Field → Bool) (rule : Chooser) (n flight : ℕ) (first : Given (List Field)) (from : AlwaysReady O outside) (old : Option (List ℕ)) where
  -- the steps so far, and the text that was written
  pub record Underway (choosing : Choosing) (chain : ChainState (List Field)) (now : AlwaysReady O outside) (new : Option (List ℕ)) : Type 0 where
    pub feed : Fed from now
    pub schedule : List Actor
    pub grown : List ℕ
    pub written : Appends old new grown
    pub plays : PlaysOver matches n flight (event_in (Some first) ++ events_in feed.answers) (state_of now).stopped schedule chain grown
    pub chooses : (more : Events) → ((state_of now).stopped ≡ true → more ≡ []) → AreChosen matches (first_choosing rule) schedule (at_start n flight ((event_in (Some first) ++ events_in feed.answers) ++ more))
    pub stands : (more : Events) → ((state_of now).stopped ≡ true → more ≡ []) → choosing_behind matches schedule (first_choosing rule) (at_start n flight ((event_in (Some first) ++ events_in feed.answers) ++ more)) ≡ choosing
    pub made : List Actor
    pub taken : Events
    pub reached : Reached matches n flight made taken chain

  first_taken : event_in (Some first) ++ [] ≡ event_in (Some first)
  first_taken = append-nil (event_in (Some first))

  stop_ends : (one : Given (List Field)) → (is_stop (Some one) ≡ true → (state_of from).stopped ≡ true) → PlaysOver matches n flight (event_in (Some one)) (state_of from).stopped [] (empty_chain n flight one) []
  stop_ends (given.Event one) stops = record { played_is = λ more fits. refl; enabled = λ more fits. tt; text_is = λ more fits. refl }
  stop_ends given.Stop stops = record {
    played_is = λ more fits. subst (λ (l : Events). at_start n flight l ≡ record { chain = empty_chain n flight given.Stop; coming = l }) (sym (fits (stops refl))) refl;
    enabled = λ more fits. tt;
    text_is = λ more fits. refl;
  }

  -- no step was made
  pub begun : 1 ≤ n → (is_stop (Some first) ≡ true → (state_of from).stopped ≡ true) → Underway (first_choosing rule) (empty_chain n flight first) from old
  begun some stops = record {
    feed = fed_none from;
    schedule = [];
    grown = [];
    written = Appends-nil old;
    plays = subst (λ (l : Events). PlaysOver matches n flight l (state_of from).stopped [] (empty_chain n flight first) []) (sym first_taken) (stop_ends first stops);
    chooses = λ more fits. tt;
    stands = λ more fits. refl;
    made = [];
    taken = event_in (Some first);
    reached = begins some first;
  }

  module _ (choosing : Choosing) (chain : ChainState (List Field)) (now : AlwaysReady O outside) (new : Option (List ℕ)) (under : Underway choosing chain now new) where
    abbrev taken : Events
    taken = event_in (Some first) ++ events_in under.feed.answers

    -- one step more, whose line was written
    module _ (actor : Actor) (named : Some actor ≡ chosen choosing true chain) (to : AlwaysReady O outside) where
      module _ (state : ChainState (List Field)) (step : Steps (gives {O = O} {outside = outside}) (λ _. true) matches actor chain now stepped.Did state to) (longer : Option (List ℕ)) (sends : Appends new longer (line_text matches chain actor)) where
        abbrev asking : Bool
        asking = asks actor chain.next true

        abbrev fed : Fed now to
        fed = fed_by now to (answers_in asking step.answer.given, over_step gives asking step.answer.given now to (subst (λ (b : Bool). MatchBool (asks actor chain.next b) (gives now step.answer.given to) (to ≡ now)) step.ready step.feed))

        asked_is : events_in fed.answers ≡ asked actor chain.next step.answer
        asked_is = answers_are asking actor chain.next step.answer refl step.ready

        told : (a : AlwaysReady O outside) (answer : Given (List Field)) (b : AlwaysReady O outside) → gives a answer b → Answers answer (state_of a) (state_of b)
        told a answer b gave = gave.3

        abbrev all : Fed from to
        all = fed_both from now to under.feed fed

        all_taken : taken ++ asked actor chain.next step.answer ≡ event_in (Some first) ++ events_in all.answers
        all_taken =
            append_assoc (event_in (Some first)) (events_in under.feed.answers) (asked actor chain.next step.answer)
            ∙ ap (λ (l : Events). event_in (Some first) ++ l) (ap (λ (l : Events). events_in under.feed.answers ++ l) (sym asked_is) ∙ sym (events_both under.feed.answers fed.answers))

        pub one_more : (behind : Choosing) → behind ≡ choosing_after (length chain.cores) actor choosing → Underway behind state to longer
        one_more behind is = record {
          feed = all;
          schedule = under.schedule ++ actor ∷ [];
          grown = under.grown ++ line_text matches chain actor;
          written = Appends-trans old new longer under.grown (line_text matches chain actor) under.written sends;
          plays = subst (λ (l : Events). PlaysOver matches n flight l (state_of to).stopped (under.schedule ++ actor ∷ []) state (under.grown ++ line_text matches chain actor)) all_taken
              (plays-step gives (λ _. true) state_of told matches actor chain state now to refl step n flight taken under.schedule under.grown under.plays);
          chooses = subst (λ (l : Events). (more : Events) → ((state_of to).stopped ≡ true → more ≡ []) → AreChosen matches (first_choosing rule) (under.schedule ++ actor ∷ []) (at_start n flight (l ++ more))) all_taken
              (chooses-step gives (λ _. true) state_of told matches actor chain state now to refl step n flight taken under.schedule under.grown under.plays (first_choosing rule) under.chooses choosing under.stands (sym named));
          stands = λ more fits.
              subst (λ (l : Events). (more : Events) → ((state_of to).stopped ≡ true → more ≡ []) → choosing_behind matches (under.schedule ++ actor ∷ []) (first_choosing rule) (at_start n flight (l ++ more)) ≡ choosing_after (length chain.cores) actor choosing) all_taken
              (stands-step gives (λ _. true) state_of told matches actor chain state now to refl step n flight taken under.schedule under.grown under.plays (first_choosing rule) under.chooses choosing under.stands (sym named)) more fits
              ∙ sym is;
          made = under.made ++ actor ∷ [];
          taken = under.taken ++ asked actor chain.next step.answer;
          reached = subst (λ (s : ChainState (List Field)). Reached matches n flight (under.made ++ actor ∷ []) (under.taken ++ asked actor chain.next step.answer) s) (sym step.chain.1) (steps under.made under.taken chain actor step.answer under.reached step.chain.0);
        }

      -- only a front of its line was written, or no more
      pub front : (fed : Fed now to) → now.feed.ended ≢ Some outcome.Memory → (longer : Option (List ℕ)) → AppendsFront (line_text matches chain actor) new longer → (answer : Sent) → answer ≢ sent.Whole → WritesLines matches rule n flight (event_in (Some first)) answer from to old longer
      front fed other longer sends answer not_whole =
          let all = fed_both from now to under.feed fed in
          record {
            feed = all;
            grown = under.grown ++ sends.grown;
            written = Appends-trans old new longer under.grown sends.grown under.written sends.written;
            text = λ more may.
                let fits = may_come fed.answers (seen (λ of. outside.state now.feed.outside.now of) now) (seen (λ of. outside.state now.feed.outside.now of) to) more other (fed.gave (λ of. outside.state now.feed.outside.now of)) may in
                let start = at_start n flight (taken ++ (events_in fed.answers ++ more)) in
                let regrouped : taken ++ (events_in fed.answers ++ more) ≡ event_in (Some first) ++ (events_in all.answers ++ more) =
                append_assoc (event_in (Some first)) (events_in under.feed.answers) (events_in fed.answers ++ more)
                ∙ ap (λ (l : Events). event_in (Some first) ++ l) (sym (append_assoc (events_in under.feed.answers) (events_in fed.answers) more) ∙ ap (λ (l : Events). l ++ more) (sym (events_both under.feed.answers fed.answers))) in
                wrote answer to.feed.ended _ _ not_whole
                (subst (λ (l : Events). BeginsTrace matches rule n flight l (under.grown ++ sends.grown)) regrouped
                (record {
                  schedule = under.schedule ++ actor ∷ [];
                  chosen = chosen-snoc matches under.schedule actor (first_choosing rule) start (under.chooses (events_in fed.answers ++ more) fits)
                      (ap (λ (c : Choosing). chosen c true (played matches under.schedule start).chain) (under.stands (events_in fed.answers ++ more) fits)
                      ∙ (ap (λ (p : Playing (List Field)). chosen choosing true p.chain) (under.plays.played_is (events_in fed.answers ++ more) fits) ∙ sym named));
                  begins = record {
                    rest = sends.front.rest;
                    is = trace-snoc matches under.schedule actor start
                        ∙ (ap (λ (l : List ℕ). l ++ line_text matches (played matches under.schedule start).chain actor) (under.plays.text_is (events_in fed.answers ++ more) fits)
                        ∙ (ap (λ (p : Playing (List Field)). under.grown ++ line_text matches p.chain actor) (under.plays.played_is (events_in fed.answers ++ more) fits)
                        ∙ (ap (λ (l : List ℕ). under.grown ++ l) sends.front.is ∙ sym (append_assoc under.grown sends.grown sends.front.rest))));
                  };
                }));
          }
        where
          wrote : (answer : Sent) (ended : Option Outcome) (whole begun : Type 0) → answer ≢ sent.Whole → begun → Wrote answer ended whole begun
          wrote sent.Whole ended whole begun other has = absurd (other refl)
          wrote sent.Failed ended whole begun other has = has
          wrote sent.Memory ended whole begun other has = has

    not_none : (ended : Option Outcome) → is_some ended ≡ true → ended ≢ None
    not_none None some none = let e : false ≡ true = some in cc
    not_none (Some o) some none = cc

    ended_fits : (ended : Option Outcome) → ended ≢ Some outcome.Memory → (more : Events) → MayCome ended more → is_some ended ≡ true → more ≡ []
    ended_fits None other more may some = absurd (let e : false ≡ true = some in cc)
    ended_fits (Some (outcome.Done events)) other more may some = may
    ended_fits (Some (outcome.Bad side at found)) other more may some = may
    ended_fits (Some (outcome.SourceFault of)) other more may some = may
    ended_fits (Some outcome.SinkFault) other more may some = may
    ended_fits (Some outcome.TooMany) other more may some = may
    ended_fits (Some outcome.Memory) other more may some = absurd (other refl)

    -- no actor is enabled
    pub whole : 1 ≤ flight → now.feed.ended ≢ Some outcome.Memory → None ≡ chosen choosing true chain → (is_stop chain.next ≡ true → (state_of now).stopped ≡ true) → WritesLines matches rule n flight (event_in (Some first)) sent.Whole from now old new
    whole some other none stops =
        let done : IsDone chain = stuck_is_done matches n flight under.reached some (none-enabled chain choosing true (sym none)) in
        let stop : chain.next ≡ Some given.Stop = none_to_come matches n flight under.reached (finished-sent chain.driver.closes done.finished) in
        let stopped : is_some now.feed.ended ≡ true = stops (ap (λ (o : Option (Given (List Field))). is_stop o) stop) in
        record {
          feed = under.feed;
          grown = under.grown;
          written = under.written;
          text = λ more may.
              let fits : is_some now.feed.ended ≡ true → more ≡ [] = ended_fits now.feed.ended other more may in (
                not_none now.feed.ended stopped,
                other,
                subst (λ (l : Events). IsTrace matches rule n flight l under.grown) (append_assoc (event_in (Some first)) (events_in under.feed.answers) more)
                    (record {
                      schedule = under.schedule;
                      chosen = under.chooses more fits;
                      is = sym (under.plays.text_is more fits);
                      done = subst (λ (p : Playing (List Field)). IsDone p.chain) (sym (under.plays.played_is more fits)) done;
                    }),
              );
        }

-- what was written of a line that wasn't sent whole
pub front_of : (last : Sent) (bytes : List ℕ) (old new : Option (List ℕ)) → last ≢ sent.Whole → SendsPiece last bytes old new → AppendsFront bytes old new
front_of sent.Whole bytes old new apart sends = absurd (apart refl)
front_of sent.Failed bytes old new apart sends = sends
front_of sent.Memory bytes old new apart sends = sends
