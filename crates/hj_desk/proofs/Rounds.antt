-- A round of the calling thread.
use Rattle.std.proofs.Common.{◌≡◌, ◌⊎◌, ℕ, ◌||◌, ◌&&◌, inl, inr, Bool, true, false, cond, List, [], ◌∷◌, ◌++◌, Some, None, is_some, refl, ap, sym, ◌∙◌, subst, true≢false}
use Rattle.std.specs.List.{list_any}
use Rattle.hj_msg.specs.declared.drain.Drained.{Drained}
use Rattle.hj_msg.specs.declared.drain.Drained.TheVariants as drained
use Rattle.hj_msg.specs.declared.feed.Given.{Given}
use Rattle.hj_msg.specs.declared.fin.Fin.{Fin}
use Rattle.hj_msg.specs.declared.fin.Fin.TheVariants.{Done, Refused, Memory}
use Rattle.hj_msg.specs.Driver.{DriverTurn, admission, receipt, closing}
use Rattle.hj_msg.specs.Feed.{FeedState, is_stop}
use Rattle.hj_driver.specs.Driver.{is_finished}
use Rattle.hj_driver.specs.StandsFor.{closes_of, is_closing}
use Rattle.hj_collect.specs.Collector.{CollectorState, has_ended}
use Rattle.hj_raw.specs.Items.{TakenReport}
use Rattle.hj_desk.specs.declared.caller.Caller.{Caller}
use Rattle.hj_desk.specs.declared.caller.Round.{Round}
use Rattle.hj_desk.specs.declared.caller.Round.TheVariants.{GotOn, Waits, Over}
use Rattle.hj_desk.specs.declared.desk.Desk.{Desk}
use Rattle.hj_desk.specs.Caller.{EndsRound, Goes, GoesOnAsking, GoesRound, answer_of, last_answer}
use Rattle.hj_desk.specs.Desk.{Stands, turns_of}
use Rattle.hj_desk.specs.Steps.{Gives, end_of}
use Rattle.hj_desk.proofs.Going.{goes-given, goes-nothing, goes-on, goes-stands}
use Rattle.hj_desk.proofs.Whole.{both_true}

-- ---- how a run ends

done-if : (over finished : Bool) → cond over (Some Memory) (cond finished (Some Done) None) ≡ Some Done → (over ≡ false) × (finished ≡ true)
done-if true finished is = absurd (cc)
done-if false true is = (refl, refl)
done-if false false is = absurd (cc)

never-refused : (over finished : Bool) → cond over (Some Memory) (cond finished (Some Done) None) ≡ Some Refused → ⊥
never-refused true finished is = absurd (cc)
never-refused false true is = absurd (cc)
never-refused false false is = absurd (cc)

neither : (a b : Bool) → (a || b) ≡ false → a ≡ false
neither true b is = absurd (true≢false is)
neither false b is = refl

module _ {P : Type 0} where
  -- closes that were taken were put
  put-closes : (turns : List (DriverTurn P)) → is_finished (closes_of turns) ≡ true → list_any is_closing turns ≡ true
  put-closes [] is = absurd (true≢false (sym is))
  put-closes (admission event ∷ later) is = put-closes later is
  put-closes (receipt port message ∷ later) is = put-closes later is
  put-closes (closing ∷ later) is = refl

  finished-stops : (desk : Desk P) (feed : FeedState) → Stands desk feed → is_finished desk.driver.closes ≡ true → is_stop desk.next ≡ true
  finished-stops desk feed stands finished =
      let stood = stands.1 in
      stood.fed.closed (put-closes (turns_of stands.0.log) (ap is_finished (sym stood.drives.stands.closes) ∙ finished))

  -- how the last thing was answered
  pub was-answered : (desk : Desk P) (end : Fin) → end_of desk ≡ Some end → last_answer end ≡ drained.Kept
  was-answered desk Done is = refl
  was-answered desk Refused is = absurd (never-refused (desk.over || is_some desk.collector.stopped) (is_finished desk.driver.closes && has_ended desk.collector) is)
  was-answered desk Memory is = refl

module _ {P F O : Type 0} (gives : F → Given P → F → Type 0) (state : F → FeedState) (gave : O → ℕ → List (TakenReport P) → Bool → Drained → O → Type 0) (rests : O → CollectorState → Type 0) where
  rested : (desk : Desk P) (outlet : O) → desk.over ≡ false → (desk.over ≡ true) ⊎ rests outlet desk.collector → rests outlet desk.collector
  rested desk outlet going (inl over) = absurd (true≢false (sym over ∙ going))
  rested desk outlet going (inr none) = none

  ends-round : (caller : Caller P F O) (feed : FeedState) (end : Fin) → Stands caller.desk feed → end_of caller.desk ≡ Some end → (caller.desk.over ≡ true) ⊎ rests caller.outlet caller.desk.collector
      → EndsRound gives state gave rests (Over end) caller
  ends-round caller feed Done stands is none =
      let desk = caller.desk in
      let found = done-if (desk.over || is_some desk.collector.stopped) (is_finished desk.driver.closes && has_ended desk.collector) is in
      let both = both_true (is_finished desk.driver.closes) (has_ended desk.collector) found.1 in
      let going = neither desk.over (is_some desk.collector.stopped) found.0 in (
        record { stopped = finished-stops desk feed stands both.0; finished = both.0; ended = both.1; going = going },
        rested desk caller.outlet going none,
      )
  ends-round caller feed Refused stands is none = tt
  ends-round caller feed Memory stands is none = tt

  -- ---- a round

  module _ (one two three four : Caller P F O) (first : Goes gives state gave one [] drained.Kept two) (second : Goes gives state gave two [] drained.Kept three) (third : Goes gives state gave three [] drained.Kept four) where
    -- messages and reports are taken
    taken-in : Goes gives state gave one [] drained.Kept four
    taken-in = goes-on gives state gave one three four [] [] drained.Kept (goes-on gives state gave one two three [] [] drained.Kept first second) third

    module _ (outlet : O) (answer : Drained) (gives_it : Gives gave rests answer four.desk four.outlet outlet) where
      abbrev given : Caller P F O
      given = record four { outlet = outlet }

      -- and then what is due is given
      gone : Goes gives state gave one [] answer given
      gone = goes-on gives state gave one four given [] [] answer taken-in (goes-given gives state gave rests four outlet answer gives_it)

      pub given-stands : Stands one.desk (state one.feed) → Stands four.desk (state four.feed)
      given-stands stood = goes-stands gives state gave one given [] answer gone stood

      -- something was refused
      pub round-refused : answer ≡ drained.Refused → GoesRound gives state gave rests (Over Refused) one given
      round-refused is = record { answers = []; goes = subst (λ (a : Drained). Goes gives state gave one [] a given) is gone; ended = tt }

      module _ (kept : answer ≡ drained.Kept) where
        gone-kept : Goes gives state gave one [] drained.Kept given
        gone-kept = subst (λ (a : Drained). Goes gives state gave one [] a given) kept gone

        -- the run has ended
        pub round-over : (end : Fin) → Stands one.desk (state one.feed) → end_of four.desk ≡ Some end → GoesRound gives state gave rests (Over end) one given
        round-over end stood is = record {
          answers = [];
          goes = subst (λ (a : Drained). Goes gives state gave one [] a given) (sym (was-answered four.desk end is)) gone-kept;
          ended = ends-round given (state four.feed) end (given-stands stood) is (gives_it.rested kept);
        }

        -- events are put
        put-behind : (five : Caller P F O) (asked : GoesOnAsking gives state gave given five) → Goes gives state gave one asked.0 drained.Kept five
        put-behind five asked = goes-on gives state gave one given five [] asked.0 drained.Kept gone-kept asked.1

        pub round-on : (five : Caller P F O) → GoesOnAsking gives state gave given five → GoesRound gives state gave rests GotOn one five
        round-on five asked = record { answers = asked.0; goes = put-behind five asked; ended = tt }

        pub round-waits : (five : Caller P F O) → GoesOnAsking gives state gave given five → GoesRound gives state gave rests Waits one five
        round-waits five asked = record { answers = asked.0; goes = put-behind five asked; ended = tt }

  -- a round behind others
  pub round-behind : (round : Round) (one two three : Caller P F O) → GoesRound gives state gave rests GotOn one two → GoesRound gives state gave rests round two three → GoesRound gives state gave rests round one three
  round-behind round one two three first second = record {
    answers = first.answers ++ second.answers;
    goes = goes-on gives state gave one two three first.answers second.answers (answer_of round) first.goes second.goes;
    ended = second.ended;
  }

  pub no-round : (caller : Caller P F O) → GoesRound gives state gave rests GotOn caller caller
  no-round caller = record { answers = []; goes = goes-nothing gives state gave caller; ended = tt }

  pub waited : (one two : Caller P F O) → GoesRound gives state gave rests Waits one two → GoesRound gives state gave rests GotOn one two
  waited one two round = record { answers = round.answers; goes = round.goes; ended = tt }
