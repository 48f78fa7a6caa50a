-- A trace that was written, over the events of the streams.
use Rattle.std.proofs.Common.{◌≡◌, ◌≢◌, ℕ, Bool, true, false, List, [], ◌∷◌, ◌++◌, length, None, Some, refl, sym, ap, subst, ◌∙◌, append_assoc}
use Rattle.std.proofs.KnownBytes.{Appends-nil}
use Rattle.std.specs.declared.option.Option.{Option}
use Rattle.hj_value.specs.declared.field.Field.{Field}
use Rattle.hj_base.specs.declared.output.Sent.{Sent}
use Rattle.hj_base.specs.declared.output.Sent.TheVariants as sent
use Rattle.hj_base.specs.declared.outside.Outside.{Ghosts as OutsideGhosts}
use Rattle.hj_base.specs.declared.outside.Role.{Role}
use Rattle.hj_base.specs.declared.outside.Role.TheVariants as role
use Rattle.hj_base.specs.Output.{CountsFaults}
use Rattle.hj_base.specs.Outside.{RoleState}
use Rattle.hj_msg.specs.declared.event.Event.{Event}
use Rattle.hj_msg.specs.declared.feed.Given.{Given}
use Rattle.hj_msg.specs.Feed.{event_in, events_in}
use Rattle.hj_chain.specs.declared.serial.Chooser.{Chooser}
use Rattle.hj_query.specs.QueryParts.{QueryParts}
use Rattle.hj_eval.specs.Holds.{holds}
use Rattle.hj_event.specs.Events.{NumberedEvents, events_of}
use Rattle.hj_event.specs.Roles.{IsInStep}
use Rattle.hj_record.specs.Pieces.{Stream}
use Rattle.hj_event.specs.Sides.{in_front, Follows, at_its_end, cut_off}
use Rattle.hj_stream.specs.Joining.{AreEnded, CountsSinkFault, FailsOn}
use Rattle.hj_event.proofs.RoleLemmas.{not_read}
use Rattle.hj_stream.specs.declared.outcome.Outcome.{Outcome}
use Rattle.hj_stream.specs.declared.outcome.Outcome.TheVariants as outcome
use Rattle.hj_stream.specs.Ends.{IsUnasked}
use Rattle.hj_stream.specs.Feeding.{Feeding, Gives}
use Rattle.hj_stream.proofs.Fed.{Fed as FedSo, fed_all, fed_first}
use Rattle.hj_replay.specs.declared.ready.AlwaysReady.{AlwaysReady}
use Rattle.hj_trace.specs.Play.{BeginsTrace, IsTrace}
use Rattle.hj_replay.specs.Feeds.{MayCome, gives, roles_of, seen, with_streams}
use Rattle.hj_replay.specs.Writing.{Makes, WritesLines, WritesRun, Wrote}
use Rattle.hj_replay.proofs.Feeding.{fed_both, fed_by}
use Rattle.hj_replay.specs.Tracing.{WritesSteps, WritesTrace}
use Rattle.hj_replay.proofs.Taken.{EndsSo, Taken, taken}

module _ {O : Type 0} {outside : OutsideGhosts O} where
  -- the first event was asked for before the lines were written
  pub from_first : (matches : List Field → List Field → Bool) (rule : Chooser) (n flight : ℕ) (first : Given (List Field)) (answer : Sent) (from mid to : AlwaysReady O outside) (old new : Option (List ℕ))
      → gives {O = O} {outside = outside} from first mid → WritesLines {O = O} {outside = outside} matches rule n flight (event_in (Some first)) answer mid to old new → WritesRun {O = O} {outside = outside} matches rule n flight answer from to old new
  from_first matches rule n flight first answer from mid to old new gave lines = record {
    feed = fed_both from mid to (fed_by from mid (first ∷ [], (mid, gave, refl))) lines.feed;
    grown = lines.grown;
    written = lines.written;
    text = λ more may.
        subst (λ (l : List (Event (List Field))). Wrote answer to.feed.ended (IsTrace matches rule n flight l lines.grown) (BeginsTrace matches rule n flight l lines.grown))
        (sym (append_assoc (event_in (Some first)) (events_in lines.feed.answers) more)) (lines.text more may);
  }

  module _ (query : QueryParts) (rule : Chooser) (n flight limit : ℕ) (from to : AlwaysReady O outside) (unasked : IsUnasked query limit from.feed) (old new : Option (List ℕ)) where
    abbrev before : Role → RoleState
    before = with_streams (roles_of from) (roles_of from role.Left) (roles_of from role.Right)

    pub left : IsInStep false (roles_of from role.Left)
    left = subst (λ ended. IsInStep ended (roles_of from role.Left)) unasked.merger.left from.feed.left

    pub right : IsInStep false (roles_of from role.Right)
    right = subst (λ ended. IsInStep ended (roles_of from role.Right)) unasked.merger.right from.feed.right

    module _ (answer : Sent) (run : WritesRun {O = O} {outside = outside} (holds query) rule n flight answer from to old new) where
      abbrev events : List (Event (List Field))
      events = events_in run.feed.answers

      fed : FedSo to.feed.ended query limit before events (seen (roles_of from) to)
      fed = fed_all query limit before (λ a answer b. Gives answer a b) (λ (f : Feeding). f) (λ a answer b gave. gave) [] run.feed.answers (seen (roles_of from) from) (seen (roles_of from) to)
          (fed_first query limit (seen (roles_of from) from) unasked.going (sym from.feed.counted ∙ ap length unasked.given) unasked.merger left right) (run.feed.gave (roles_of from))

      pub known : Taken query limit before (seen (roles_of from) to).roles to.feed.ended events
      known = taken to.feed.ended query limit before events (seen (roles_of from) to) fed

      all_steps : (made : Outcome) (text : List ℕ) (all : NumberedEvents) → made ≢ outcome.Memory → EndsSo made all → IsTrace (holds query) rule n flight all.events text → WritesSteps made query n flight rule text all
      all_steps (outcome.Done count) text all other so is = (so.0, so.1, is)
      all_steps (outcome.Bad side at found) text all other so is = (so, is)
      all_steps (outcome.SourceFault role.Query) text all other so is = so
      all_steps (outcome.SourceFault role.SecondQuery) text all other so is = so
      all_steps (outcome.SourceFault role.Left) text all other so is = (so, is)
      all_steps (outcome.SourceFault role.Right) text all other so is = (so, is)
      all_steps (outcome.SourceFault role.Third) text all other so is = so
      all_steps (outcome.SourceFault role.Trace) text all other so is = so
      all_steps (outcome.SourceFault role.Output) text all other so is = so
      all_steps outcome.SinkFault text all other so is = absurd so
      all_steps outcome.TooMany text all other so is = (so, is)
      all_steps outcome.Memory text all other so is = absurd (other refl)

    not_memory : (ended : Option Outcome) (made : Outcome) → ended ≢ Some outcome.Memory → ended ≡ Some made → made ≢ outcome.Memory
    not_memory ended made other is same = other (is ∙ ap Some same)

    -- what was written only begins a trace
    broken_off : (answer : Sent) (made : Outcome) (run : WritesRun {O = O} {outside = outside} (holds query) rule n flight answer from to old new)
        → FailsOn made (known answer run).left.failed (known answer run).right.failed → AreEnded made (known answer run).left.ended (known answer run).right.ended
        → ((more : List (Event (List Field))) → MayCome to.feed.ended more → BeginsTrace (holds query) rule n flight (events_in run.feed.answers ++ more) run.grown)
        → ((text : List ℕ) (all : NumberedEvents) → BeginsTrace (holds query) rule n flight all.events text → WritesSteps made query n flight rule text all)
        → WritesTrace made query n flight rule limit (roles_of from) (roles_of to) old new
    broken_off answer made run failed ends begins steps =
        let so = known answer run in
        record {
          left = so.left;
          right = so.right;
          failed = failed;
          ends = ends;
          others = run.feed.others;
          grown = run.grown;
          written = run.written;
          text = λ l r left right.
              let goes = so.goes l r left right in
              steps run.grown (events_of query (in_front so.left.bytes l) (in_front so.right.bytes r) limit)
              (subst (λ (events : List (Event (List Field))). BeginsTrace (holds query) rule n flight events run.grown) (sym goes.are) (begins goes.more goes.may));
        }

    pub traces : (answer : Sent) (made : Outcome) (run : WritesRun {O = O} {outside = outside} (holds query) rule n flight answer from to old new) → Makes answer to.feed.ended made
        → WritesTrace made query n flight rule limit (roles_of from) (roles_of to) old new
    traces sent.Whole made run is =
        let so = known sent.Whole run in
        record {
          left = so.left;
          right = so.right;
          failed = so.failed made is;
          ends = so.ends made is;
          others = run.feed.others;
          grown = run.grown;
          written = run.written;
          text = λ l r left right.
              let goes = so.goes l r left right in
              let wrote = run.text goes.more goes.may in
              all_steps sent.Whole run made run.grown (events_of query (in_front so.left.bytes l) (in_front so.right.bytes r) limit) (not_memory to.feed.ended made wrote.1 is) (so.so made is l r left right)
              (subst (λ (events : List (Event (List Field))). IsTrace (holds query) rule n flight events run.grown) (sym goes.are) wrote.2);
        }
    traces sent.Failed made run is =
        subst (λ (o : Outcome). WritesTrace o query n flight rule limit (roles_of from) (roles_of to) old new) (sym is)
        (broken_off sent.Failed outcome.SinkFault run (known sent.Failed run).one tt run.text (λ text all begins. begins))
    traces sent.Memory made run is =
        subst (λ (o : Outcome). WritesTrace o query n flight rule limit (roles_of from) (roles_of to) old new) (sym is)
        (broken_off sent.Memory outcome.Memory run (known sent.Memory run).one tt run.text (λ text all begins. begins))

may_none : (ended : Option Outcome) → MayCome ended []
may_none None = tt
may_none (Some (outcome.Done events)) = refl
may_none (Some (outcome.Bad side at found)) = refl
may_none (Some (outcome.SourceFault of)) = refl
may_none (Some outcome.SinkFault) = refl
may_none (Some outcome.TooMany) = refl
may_none (Some outcome.Memory) = tt

follow_some : (failed ended : Bool) → (s : Stream) × Follows failed ended s
follow_some true ended = (cut_off, refl)
follow_some false true = (at_its_end, refl)
follow_some false false = (at_its_end, tt)

kept_faults : (made : Outcome) (all : NumberedEvents) (old new : ℕ) → EndsSo made all → new ≡ old → CountsSinkFault made old new
kept_faults (outcome.Done events) all old new so same = same
kept_faults (outcome.Bad side at found) all old new so same = same
kept_faults (outcome.SourceFault of) all old new so same = same
kept_faults outcome.SinkFault all old new so same = absurd so
kept_faults outcome.TooMany all old new so same = same
kept_faults outcome.Memory all old new so same = same

module _ {O : Type 0} {outside : OutsideGhosts O} (query : QueryParts) (rule : Chooser) (n flight limit : ℕ) (from to : AlwaysReady O outside) (unasked : IsUnasked query limit from.feed) (old new : Option (List ℕ)) where
  pub has_ended : (answer : Sent) → WritesRun {O = O} {outside = outside} (holds query) rule n flight answer from to old new → answer ≡ sent.Whole → to.feed.ended ≢ None
  has_ended sent.Whole run is = (run.text [] (may_none to.feed.ended)).0
  has_ended sent.Failed run is = absurd (let e : sent.Failed ≡ sent.Whole = is in cc)
  has_ended sent.Memory run is = absurd (let e : sent.Memory ≡ sent.Whole = is in cc)

  pub counts : (answer : Sent) (made : Outcome) → WritesRun {O = O} {outside = outside} (holds query) rule n flight answer from to old new → Makes answer to.feed.ended made → (before now : ℕ) → CountsFaults answer before now → CountsSinkFault made before now
  counts sent.Whole made run is before now same =
      let so = known query rule n flight limit from to unasked old new sent.Whole run in
      let l = follow_some so.left.failed so.left.ended in
      let r = follow_some so.right.failed so.right.ended in
      kept_faults made (events_of query (in_front so.left.bytes l.0) (in_front so.right.bytes r.0) limit) before now (so.so made is l.0 r.0 l.1 r.1) same
  counts sent.Failed made run is before now rose = subst (λ (o : Outcome). CountsSinkFault o before now) (sym is) rose
  counts sent.Memory made run is before now same = subst (λ (o : Outcome). CountsSinkFault o before now) (sym is) same

-- nothing was written
pub traces_none : (query : QueryParts) (rule : Chooser) (n flight limit : ℕ) (now : Role → RoleState) (sink : Option (List ℕ)) → IsInStep false (now role.Left) → IsInStep false (now role.Right)
    → WritesTrace outcome.Memory query n flight rule limit now now sink sink
traces_none query rule n flight limit now sink left right = record {
  left = record { bytes = []; failed = false; ended = false; read = not_read false (now role.Left) left };
  right = record { bytes = []; failed = false; ended = false; read = not_read false (now role.Right) right };
  failed = refl;
  ends = tt;
  others = λ other not_left not_right. refl;
  grown = [];
  written = Appends-nil sink;
  text = λ l r left right. record { schedule = []; chosen = tt; begins = record { rest = []; is = refl } };
}
