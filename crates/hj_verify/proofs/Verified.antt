-- The verdict of a check, over the events of the two streams.
use Rattle.std.proofs.Common.{◌≡◌, ◌≢◌, ◌≤◌, Bool, true, false, List, [], ◌++◌, ℕ, None, Some, is_some, refl, sym, ap, subst, subst₂, ◌∙◌, append-nil, true≢false}
use Rattle.std.specs.Prelude.{◌↔◌}
use Rattle.std.specs.declared.option.Option.{Option}
use Rattle.hj_base.specs.declared.outside.Role.{Role}
use Rattle.hj_base.specs.declared.outside.Role.TheVariants as role
use Rattle.hj_base.specs.Outside.{RoleState, opened}
use Rattle.hj_query.specs.QueryParts.{QueryParts}
use Rattle.hj_eval.specs.Holds.{holds}
use Rattle.hj_event.specs.Events.{NumberedEvents, events_of}
use Rattle.hj_event.specs.Roles.{CountsFailure, IsInStep, IsReadOn, name_of}
use Rattle.hj_event.specs.Sides.{in_front}
use Rattle.hj_event.proofs.RoleLemmas.{not_read}
use Rattle.hj_msg.specs.Feed.{events_in}
use Rattle.hj_stream.specs.declared.outcome.Outcome.{Outcome}
use Rattle.hj_stream.specs.declared.outcome.Outcome.TheVariants as outcome
use Rattle.hj_stream.specs.Feeding.{Feeding, Gives}
use Rattle.hj_stream.specs.JoinText.{text_of}
use Rattle.hj_stream.proofs.Fed.{Fed as FedSo, fed_all, fed_first}
use Rattle.hj_trace.specs.Checking.{IsRight, Stands}
use Rattle.hj_trace.specs.Stream.{CountsFaults, TextStreamState, Uses}
use Rattle.hj_trace.proofs.Readings.{none_stands}
use Rattle.hj_replay.proofs.Taken.{EndsSo, Taken, taken}
use Rattle.hj_verify.specs.declared.verdict.Verdict.{Verdict}
use Rattle.hj_verify.specs.declared.verdict.Verdict.TheVariants as verdict
use Rattle.hj_verify.specs.Checked.{AllIsRight, Concludes, Events, GaveAnswers, IsBegunCheck, IsWrongBy, beside, fresh, has_failed}
use Rattle.hj_verify.specs.Judged.{verdict_by}
use Rattle.hj_verify.specs.Reading.{IsUsedWhole, fault_of, no_memory}
use Rattle.hj_verify.specs.Verifying.{AreRight, Judges, Verifies}
use Rattle.hj_verify.proofs.Ending.{ends_there, memory_apart}

-- ---- what was read of a checked role

counts : (failed : Bool) (before now : ℕ) → CountsFaults failed before now → CountsFailure failed before now
counts true before now so = so
counts false before now so = so

-- the bytes that came of a stream that was open
pub read_of : (failed : Bool) (of : Role) (bytes : List ℕ) (before : RoleState) (stream : TextStreamState) (now : RoleState) → IsInStep false before → (uses : Uses failed bytes (fresh of) before stream now) → IsReadOn failed uses.came false stream.ended before now
read_of failed of bytes before stream now step uses =
    let phase : now.phase ≡ opened (name_of before.phase) stream.ended = uses.name (name_of before.phase) step.phase in
    let name : name_of now.phase ≡ name_of before.phase = ap name_of phase in
    record {
      came = uses.read;
      name = name;
      in_step = record { phase = subst (λ (n : List ℕ). now.phase ≡ opened n stream.ended) (sym name) phase; at_end = uses.nothing_left };
      no_more = λ was. absurd (true≢false (sym was));
      unended = uses.unended;
      faults = counts failed before.faults now.faults uses.faults;
    }

both_false : {A B : Type 0} → (A → ⊥) → (B → ⊥) → A ↔ B
both_false first second = (λ a. absurd (first a), λ b. absurd (second b))

through : {A B C : Type 0} → A ↔ B → B ↔ C → A ↔ C
through first second = (λ a. second.0 (first.0 a), λ c. first.1 (second.1 c))

made_of : (ended : Option Outcome) → ended ≢ None → (made : Outcome) × (ended ≡ Some made)
made_of None some = absurd (some refl)
made_of (Some made) some = (made, refl)

-- ---- the verdicts

wrong_judges : (judged : Verdict) (query : QueryParts) (n flight : ℕ) (events : Events) (all : NumberedEvents) (trace output : List ℕ) → all.events ≡ events → IsWrongBy judged query n flight events trace output → Judges judged query n flight all trace output
wrong_judges (verdict.Accepted count) query n flight events all trace output are wrong = absurd wrong
wrong_judges (verdict.Refused fault) query n flight events all trace output are wrong = subst (λ (l : Events). Stands (holds query) fault n flight l trace output (text_of query l)) (sym are) wrong
wrong_judges (verdict.Ended (outcome.Done count)) query n flight events all trace output are wrong = wrong
wrong_judges (verdict.Ended (outcome.Bad side at found)) query n flight events all trace output are wrong = absurd wrong
wrong_judges (verdict.Ended (outcome.SourceFault of)) query n flight events all trace output are wrong = wrong
wrong_judges (verdict.Ended outcome.SinkFault) query n flight events all trace output are wrong = wrong
wrong_judges (verdict.Ended outcome.TooMany) query n flight events all trace output are wrong = absurd wrong
wrong_judges (verdict.Ended outcome.Memory) query n flight events all trace output are wrong = wrong

right_judges : (made : Outcome) (query : QueryParts) (n flight : ℕ) (all : NumberedEvents) (trace output : List ℕ) → has_failed (Some made) ≡ false → EndsSo made all → AreRight query n flight all trace output → Judges (verdict_by made) query n flight all trace output
right_judges (outcome.Done count) query n flight all trace output going so right = (so.0, so.1, right)
right_judges (outcome.Bad side at found) query n flight all trace output going so right = (so, right)
right_judges (outcome.SourceFault of) query n flight all trace output going so right = absurd (true≢false going)
right_judges outcome.SinkFault query n flight all trace output going so right = so
right_judges outcome.TooMany query n flight all trace output going so right = (so, right)
right_judges outcome.Memory query n flight all trace output going so right = absurd (true≢false going)

-- where the events didn't fail, the verdict names no role
no_fault : (made : Outcome) (of : Role) → has_failed (Some made) ≡ false → verdict_by made ≡ fault_of of → ⊥
no_fault (outcome.Done count) of going e = let wrong : verdict.Accepted count ≡ verdict.Ended (outcome.SourceFault of) = e in cc
no_fault (outcome.Bad side at found) of going e = let wrong : verdict.Ended (outcome.Bad side at found) ≡ verdict.Ended (outcome.SourceFault of) = e in cc
no_fault (outcome.SourceFault other) of going e = true≢false going
no_fault outcome.SinkFault of going e = let wrong : verdict.Ended outcome.SinkFault ≡ verdict.Ended (outcome.SourceFault of) = e in cc
no_fault outcome.TooMany of going e = let wrong : verdict.Ended outcome.TooMany ≡ verdict.Ended (outcome.SourceFault of) = e in cc
no_fault outcome.Memory of going e = true≢false going

module _ (query : QueryParts) (n flight limit : ℕ) (start now : Feeding) (begun : IsBegunCheck query limit start) (trace_open : IsInStep false (start.roles role.Trace)) (output_open : IsInStep false (start.roles role.Output)) (trace output : TextStreamState) where
  module _ (fed : GaveAnswers start now) where
    abbrev events : Events
    events = events_in fed.answers

    fed_so : FedSo now.ended query limit (beside start.roles start).roles events (beside start.roles now)
    fed_so =
        fed_all query limit (beside start.roles start).roles (λ a answer b. Gives answer a b) (λ (f : Feeding). f) (λ a answer b gave. gave) [] fed.answers (beside start.roles start) (beside start.roles now)
        (fed_first query limit (beside start.roles start) begun.going begun.none begun.merger begun.left begun.right) fed.gave

    known : Taken query limit (beside start.roles start).roles (beside start.roles now).roles now.ended events
    known = taken now.ended query limit (beside start.roles start).roles events (beside start.roles now) fed_so

  abbrev at_role : Bool → Role → TextStreamState → List ℕ → Type 0
  at_role failed of stream bytes = IsReadOn failed bytes false stream.ended (start.roles of) (now.roles of)

  read_at : (failed : Bool) (of : Role) (stream : TextStreamState) (bytes : List ℕ) → IsInStep false (start.roles of) → (uses : Uses failed bytes (fresh of) (start.roles of) stream (now.roles stream.role)) → at_role failed of stream uses.came
  read_at failed of stream bytes step uses =
      subst (λ (r : Role). IsReadOn failed uses.came false stream.ended (start.roles of) (now.roles r)) uses.role (read_of failed of bytes (start.roles of) stream (now.roles stream.role) step uses)

  -- something was wrong, a read failed, or memory ran out
  pub verified_wrong : (judged : Verdict) → Concludes judged query n flight start now trace output → Verifies judged query n flight limit start.roles now.roles
  verified_wrong judged ends =
      let so = known ends.fed in
      record {
        left = so.left;
        right = so.right;
        trace = record { bytes = ends.trace_read.uses.came; failed = ends.trace_read.failed; ended = trace.ended; read = read_at ends.trace_read.failed role.Trace trace ends.trace_read.bytes trace_open ends.trace_read.uses };
        output = record { bytes = ends.output_read.uses.came; failed = ends.output_read.failed; ended = output.ended; read = read_at ends.output_read.failed role.Output output ends.output_read.bytes output_open ends.output_read.uses };
        left_failed = through so.left_tells (ends.streams role.Left tt);
        right_failed = through so.right_tells (ends.streams role.Right tt);
        trace_failed = ends.trace_read.tells;
        output_failed = ends.output_read.tells;
        others = ends.fed.others;
        judges = λ l r t o left right none nor.
            let goes = so.goes l r left right in
            let all = events_of query (in_front so.left.bytes l) (in_front so.right.bytes r) limit in
            wrong_judges judged query n flight (events_in ends.fed.answers ++ goes.more) all (ends.trace_read.uses.came ++ t) (ends.output_read.uses.came ++ o) goes.are (ends.says goes.more t o goes.may none nor);
      }

  all_came : (of : Role) (stream : TextStreamState) (bytes : List ℕ) (whole : IsUsedWhole bytes (fresh of) (start.roles of) stream (now.roles stream.role)) (later : List ℕ) → (stream.ended ≡ true → later ≡ []) → whole.uses.came ++ later ≡ bytes
  all_came of stream bytes whole later none =
      ap (λ (l : List ℕ). l ++ later) (whole.uses.used ∙ (ap (λ (l : List ℕ). bytes ++ l) whole.used_up.none_waits ∙ append-nil bytes))
      ∙ (ap (λ (l : List ℕ). bytes ++ l) (none whole.used_up.ended) ∙ append-nil bytes)

  -- all is right
  pub verified_right : 1 ≤ n → n ≤ 64 → AllIsRight query n flight start now trace output → (made : Outcome) → now.ended ≡ Some made → Verifies (verdict_by made) query n flight limit start.roles now.roles
  verified_right some few all_right made is =
      let so = known all_right.fed in
      let going : has_failed (Some made) ≡ false = sym (ap has_failed is) ∙ all_right.going in
      record {
        left = so.left;
        right = so.right;
        trace = record { bytes = all_right.trace_is.uses.came; failed = false; ended = trace.ended; read = read_at false role.Trace trace all_right.lines trace_open all_right.trace_is.uses };
        output = record { bytes = all_right.output_is.uses.came; failed = false; ended = output.ended; read = read_at false role.Output output (text_of query (events_in all_right.fed.answers)) output_open all_right.output_is.uses };
        left_failed = through so.left_tells (both_false (λ e. true≢false (sym (ap has_failed e) ∙ all_right.going)) (no_fault made role.Left going));
        right_failed = through so.right_tells (both_false (λ e. true≢false (sym (ap has_failed e) ∙ all_right.going)) (no_fault made role.Right going));
        trace_failed = both_false (λ e. true≢false (sym e)) (no_fault made role.Trace going);
        output_failed = both_false (λ e. true≢false (sym e)) (no_fault made role.Output going);
        others = all_right.fed.others;
        judges = λ l r t o left right none nor.
            let goes = so.goes l r left right in
            let all = events_of query (in_front so.left.bytes l) (in_front so.right.bytes r) limit in
            let came = events_in all_right.fed.answers in
            let empty : goes.more ≡ [] = ends_there now.ended all_right.going goes.more goes.may (ap (λ (e : Option Outcome). is_some e) is) in
            let are : came ≡ all.events = sym (goes.are ∙ (ap (λ (l : Events). came ++ l) empty ∙ append-nil came)) in
            let right_there : IsRight (holds query) n flight all.events all_right.lines (text_of query came) (text_of query all.events) =
            subst (λ (events : Events). IsRight (holds query) n flight events all_right.lines (text_of query came) (text_of query events)) are all_right.right in
            let is_right : IsRight (holds query) n flight all.events (all_right.trace_is.uses.came ++ t) (all_right.output_is.uses.came ++ o) (text_of query all.events) =
            subst₂ (λ (trace output : List ℕ). IsRight (holds query) n flight all.events trace output (text_of query all.events))
            (sym (all_came role.Trace trace all_right.lines all_right.trace_is t none)) (sym (all_came role.Output output (text_of query came) all_right.output_is o nor)) right_there in
            right_judges made query n flight all (all_right.trace_is.uses.came ++ t) (all_right.output_is.uses.came ++ o) going (so.so made is l r left right)
            (record {
              right = is_right;
              nothing = λ fault stands. none_stands (holds query) n flight all.events (all_right.trace_is.uses.came ++ t) (all_right.output_is.uses.came ++ o) (text_of query all.events) some few is_right fault stands;
            });
      }

  -- that is told by how the events have ended
  pub verified_all : 1 ≤ n → n ≤ 64 → AllIsRight query n flight start now trace output → (judged : Verdict) → ((made : Outcome) → now.ended ≡ Some made → judged ≡ verdict_by made) → Verifies judged query n flight limit start.roles now.roles
  verified_all some few all_right judged tells =
      let made = made_of now.ended all_right.ended in
      subst (λ (v : Verdict). Verifies v query n flight limit start.roles now.roles) (sym (tells made.0 made.1)) (verified_right some few all_right made.0 made.1)

-- memory ran out before anything was read
pub verified_none : (query : QueryParts) (n flight limit : ℕ) (roles : Role → RoleState) → IsInStep false (roles role.Left) → IsInStep false (roles role.Right) → IsInStep false (roles role.Trace) → IsInStep false (roles role.Output)
    → Verifies no_memory query n flight limit roles roles
verified_none query n flight limit roles left right trace output = record {
  left = record { bytes = []; failed = false; ended = false; read = not_read false (roles role.Left) left };
  right = record { bytes = []; failed = false; ended = false; read = not_read false (roles role.Right) right };
  trace = record { bytes = []; failed = false; ended = false; read = not_read false (roles role.Trace) trace };
  output = record { bytes = []; failed = false; ended = false; read = not_read false (roles role.Output) output };
  left_failed = both_false (λ e. true≢false (sym e)) (memory_apart role.Left);
  right_failed = both_false (λ e. true≢false (sym e)) (memory_apart role.Right);
  trace_failed = both_false (λ e. true≢false (sym e)) (memory_apart role.Trace);
  output_failed = both_false (λ e. true≢false (sym e)) (memory_apart role.Output);
  others = λ other unread. refl;
  judges = λ l r t o left right none nor. tt;
}
