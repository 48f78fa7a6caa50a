-- How a join ends.
use Rattle.std.proofs.Common.{◌≡◌, ℕ, Bool, false, ◌&&◌, List, [], ◌++◌, length, None, Some, refl, sym, ap, ◌∙◌, append-nil}
use Rattle.std.proofs.lemmas.Grind.{flat_map-append}
use Rattle.std.proofs.KnownBytes.{Appends-nil}
use Rattle.std.specs.Io.KnownBytes.{Appends}
use Rattle.std.specs.declared.option.Option.{Option}
use Rattle.hj_value.specs.declared.field.Field.{Field}
use Rattle.hj_base.specs.declared.output.Sent.{Sent}
use Rattle.hj_base.specs.declared.output.Sent.TheVariants as sent
use Rattle.hj_base.specs.declared.numbers.Side.TheVariants.{Left, Right}
use Rattle.hj_base.specs.declared.outside.Role.{Role}
use Rattle.hj_base.specs.declared.outside.Role.TheVariants as role
use Rattle.hj_base.specs.Output.{CountsFaults}
use Rattle.hj_base.specs.Journals.{IsPrefix}
use Rattle.hj_base.specs.Outside.{RoleState, role_of}
use Rattle.hj_msg.specs.declared.event.Event.{Event}
use Rattle.hj_msg.specs.declared.event.Pair.{Pair}
use Rattle.hj_msg.specs.Kang.{kang, kang_from, windows_after}
use Rattle.hj_msg.proofs.Windows.{join_of_both}
use Rattle.hj_query.specs.QueryParts.{QueryParts}
use Rattle.hj_record.specs.Pieces.{Stream}
use Rattle.hj_eval.specs.Holds.{holds}
use Rattle.hj_event.specs.declared.merger.Next.{Next}
use Rattle.hj_event.specs.declared.merger.Next.TheVariants as next
use Rattle.hj_event.specs.Arrivals.{Ending, clean, bad, unread, too_many}
use Rattle.hj_event.specs.Events.{NumberedEvents}
use Rattle.hj_event.specs.Numbering.{no_event}
use Rattle.hj_event.specs.Merger.{IsAllRead, fails_next}
use Rattle.hj_event.specs.Roles.{IsInStep}
use Rattle.hj_event.specs.Sides.{in_front, Follows}
use Rattle.hj_event.specs.Calls.{GivesAll, then_events}
use Rattle.hj_event.proofs.RoleLemmas.{not_read}
use Rattle.hj_stream.specs.declared.outcome.Outcome.{Outcome}
use Rattle.hj_stream.specs.declared.outcome.Outcome.TheVariants as outcome
use Rattle.hj_stream.specs.Draining.{refusal_of}
use Rattle.hj_stream.specs.Feeding.{outcome_by}
use Rattle.hj_stream.specs.JoinText.{JoinResult, Line, joined_by, joined_text, text_by}
use Rattle.hj_stream.specs.Joining.{CountsSinkFault, FailsOn, WritesText, AreEnded, JoinsBy, JoinsSo, JoinsTo}
use Rattle.hj_stream.proofs.Prefixes.{IsPrefix-trans}

-- The whole text goes on after that of the first events.
text-then : (line : Line) (query : QueryParts) (events : List (Event (List Field))) (all others : NumberedEvents)
    → all ≡ then_events events others
    → joined_text line query all.events ≡ joined_text line query events ++ text_by line (kang_from (holds query) (windows_after events) others.events)
text-then line query events all others is =
    ap (λ (n : NumberedEvents). joined_text line query n.events) is
    ∙ (ap (text_by line) (join_of_both (holds query) events others.events) ∙ flat_map-append _ (kang (holds query) events) (kang_from (holds query) (windows_after events) others.events))

begins_text : (line : Line) (query : QueryParts) (events : List (Event (List Field))) (all others : NumberedEvents) → all ≡ then_events events others → IsPrefix (joined_text line query events) (joined_text line query all.events)
begins_text line query events all others is = record { rest = text_by line (kang_from (holds query) (windows_after events) others.events); is = text-then line query events all others is }

abbrev result_of : Line → QueryParts → NumberedEvents → JoinResult
result_of line query all = record { text = joined_text line query all.events; ending = all.ending; events = length all.events }

-- the outcome that an answer makes, after this many events
abbrev pub ended_by : ℕ → Next → Outcome
ended_by count (next.Event event) = outcome.Memory
ended_by count next.Done = outcome.Done count
ended_by count (next.Bad side at why) = outcome.Bad side at why
ended_by count (next.Failed side) = outcome.SourceFault (role_of side)
ended_by count next.TooMany = outcome.TooMany
ended_by count next.Memory = outcome.Memory

some_same : {X : Type 0} (x y : X) → Some x ≡ Some y → x ≡ y
some_same x y is = cc

pub ended_is : (count : ℕ) (last : Next) (made : Outcome) → outcome_by count last ≡ Some made → ended_by count last ≡ made
ended_is count (next.Event event) made is = absurd (let wrong : None ≡ Some made = is in cc)
ended_is count next.Done made is = some_same _ _ is
ended_is count (next.Bad side at why) made is = some_same _ _ is
ended_is count (next.Failed side) made is = some_same _ _ is
ended_is count next.TooMany made is = some_same _ _ is
ended_is count next.Memory made is = some_same _ _ is

pub fails_so : (count : ℕ) (last : Next) → FailsOn (ended_by count last) (fails_next last Left) (fails_next last Right)
fails_so count (next.Event event) = refl
fails_so count next.Done = (refl, refl)
fails_so count (next.Bad side at why) = (refl, refl)
fails_so count (next.Failed Left) = (refl, refl)
fails_so count (next.Failed Right) = (refl, refl)
fails_so count next.TooMany = (refl, refl)
fails_so count next.Memory = refl

pub not_both : (last : Next) → (fails_next last Left && fails_next last Right) ≡ false
not_both (next.Event event) = refl
not_both next.Done = refl
not_both (next.Bad side at why) = refl
not_both (next.Failed Left) = refl
not_both (next.Failed Right) = refl
not_both next.TooMany = refl
not_both next.Memory = refl

pub sink_same : (count : ℕ) (last : Next) (old new : ℕ) → new ≡ old → CountsSinkFault (ended_by count last) old new
sink_same count (next.Event event) old new same = same
sink_same count next.Done old new same = same
sink_same count (next.Bad side at why) old new same = same
sink_same count (next.Failed side) old new same = same
sink_same count next.TooMany old new same = same
sink_same count next.Memory old new same = same

-- where no event is left, the whole text was written
whole_text : (line : Line) (query : QueryParts) (events : List (Event (List Field))) (all : NumberedEvents) (ending : Ending) → all ≡ then_events events (no_event ending) → (joined_text line query events ≡ joined_text line query all.events) × (all.ending ≡ ending)
whole_text line query events all ending is =
    (sym (ap (λ (n : NumberedEvents). joined_text line query n.events) is ∙ ap (joined_text line query) (append-nil events)), ap (λ (n : NumberedEvents). n.ending) is)

pub writes_all : (line : Line) (query : QueryParts) (count : ℕ) (answer : Next) (events : List (Event (List Field))) (all others : NumberedEvents) → all ≡ then_events events others → GivesAll answer events all → length events ≡ count
    → WritesText (ended_by count answer) (joined_text line query events) (result_of line query all)
writes_all line query count (next.Event event) events all others is gives counted = begins_text line query events all others is
writes_all line query count next.Done events all others is gives counted =
    let whole = whole_text line query events all clean gives in
    (whole.0, whole.1, ap (λ (n : NumberedEvents). length n.events) gives ∙ (ap length (append-nil events) ∙ counted))
writes_all line query count (next.Bad side at why) events all others is gives counted = whole_text line query events all (bad side at why) gives
writes_all line query count (next.Failed Left) events all others is gives counted = whole_text line query events all (unread Left) gives
writes_all line query count (next.Failed Right) events all others is gives counted = whole_text line query events all (unread Right) gives
writes_all line query count next.TooMany events all others is gives counted = whole_text line query events all too_many gives
writes_all line query count next.Memory events all others is gives counted = begins_text line query events all others is

pub are_ended : (count : ℕ) (answer : Next) (left right : Bool) → IsAllRead answer left right → AreEnded (ended_by count answer) left right
are_ended count (next.Event event) left right read = tt
are_ended count next.Done left right read = read
are_ended count (next.Bad side at why) left right read = tt
are_ended count (next.Failed side) left right read = tt
are_ended count next.TooMany left right read = tt
are_ended count next.Memory left right read = tt

-- An outcome that says no more of the text than that what was written begins it.
pub record SaysBegun (ended : Outcome) : Type 0 where
  pub failed : (left right : Bool) → (left && right) ≡ false → FailsOn ended left right
  pub writes : (written : List ℕ) (joined : JoinResult) → IsPrefix written joined.text → WritesText ended written joined
  pub ends : (left right : Bool) → AreEnded ended left right

pub memory_says : SaysBegun outcome.Memory
memory_says = record { failed = λ left right one. one; writes = λ written joined begins. begins; ends = λ left right. tt }

pub refusal_says : (last : Sent) → SaysBegun (refusal_of last)
refusal_says sent.Whole = memory_says
refusal_says sent.Failed = record { failed = λ left right one. one; writes = λ written joined begins. begins; ends = λ left right. tt }
refusal_says sent.Memory = memory_says

-- what begins the text of the first events begins the whole one
pub front_of_all : (line : Line) (query : QueryParts) (events : List (Event (List Field))) (all others : NumberedEvents) (grown : List ℕ) → all ≡ then_events events others → IsPrefix grown (joined_text line query events) → IsPrefix grown (joined_text line query all.events)
front_of_all line query events all others grown is front = IsPrefix-trans grown (joined_text line query events) (joined_text line query all.events) front (begins_text line query events all others is)

-- a join that wrote this text, of which something else is said
module _ {Writes Says : Outcome → QueryParts → Stream → Stream → ℕ → List ℕ → Type 0} {ended : Outcome} {query : QueryParts} {limit : ℕ}
    {before now : Role → RoleState} {old new : Option (List ℕ)} (joins : JoinsSo Writes ended query limit before now old new) where
  pub joins_saying : (grown : List ℕ) → Appends old new grown
      → ((l r : Stream) → Follows joins.left_failed joins.left_ended l → Follows joins.right_failed joins.right_ended r
      → Says ended query (in_front joins.left_bytes l) (in_front joins.right_bytes r) limit grown)
      → JoinsSo Says ended query limit before now old new
  joins_saying grown written text = record {
    left_bytes = joins.left_bytes;
    right_bytes = joins.right_bytes;
    left_failed = joins.left_failed;
    right_failed = joins.right_failed;
    left_ended = joins.left_ended;
    right_ended = joins.right_ended;
    left = joins.left;
    right = joins.right;
    failed = joins.failed;
    others = joins.others;
    grown = grown;
    written = written;
    text = text;
    ends = joins.ends;
  }

-- memory ran out before anything was read
pub none_joined : (joined : QueryParts → Stream → Stream → ℕ → JoinResult) (query : QueryParts) (limit : ℕ) (now : Role → RoleState) (sink : Option (List ℕ)) → IsInStep false (now role.Left) → IsInStep false (now role.Right)
    → JoinsTo joined outcome.Memory query limit now now sink sink
none_joined joined query limit now sink left right = record {
  left_bytes = [];
  right_bytes = [];
  left_failed = false;
  right_failed = false;
  left_ended = false;
  right_ended = false;
  left = not_read false (now role.Left) left;
  right = not_read false (now role.Right) right;
  failed = refl;
  others = λ of not_left not_right. refl;
  grown = [];
  written = Appends-nil sink;
  text = λ l r l_follows r_follows. record { rest = (joined query (in_front [] l) (in_front [] r) limit).text; is = refl };
  ends = tt;
}

pub joins_none : (line : Line) (query : QueryParts) (limit : ℕ) (now : Role → RoleState) (sink : Option (List ℕ)) → IsInStep false (now role.Left) → IsInStep false (now role.Right) → JoinsBy line outcome.Memory query limit now now sink sink
joins_none line = none_joined (joined_by line)

pub counts_refusal : (last : Sent) (old new : ℕ) → CountsFaults last old new → CountsSinkFault (refusal_of last) old new
counts_refusal sent.Whole old new counts = counts
counts_refusal sent.Failed old new counts = counts
counts_refusal sent.Memory old new counts = counts

-- the text of the first pairs begins that of all
pub text-front : (line : Line) (pairs all : List (Pair (List Field))) → IsPrefix pairs all → IsPrefix (text_by line pairs) (text_by line all)
text-front line pairs all front = record { rest = text_by line front.rest; is = ap (text_by line) front.is ∙ flat_map-append _ pairs front.rest }
