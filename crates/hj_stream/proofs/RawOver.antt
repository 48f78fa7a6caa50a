-- How a join ends whose events and raw items are known.
use Rattle.std.proofs.Common.{◌≡◌, ◌≢◌, ℕ, true, false, Bool, List, [], length, None, refl, sym, ap, subst, ◌∙◌, append-nil}
use Rattle.std.proofs.lemmas.Grind.{flat_map-append}
use Rattle.std.specs.Io.KnownBytes.{Appends}
use Rattle.std.specs.declared.option.Option.{Option}
use Rattle.hj_value.specs.declared.field.Field.{Field}
use Rattle.hj_base.specs.declared.output.Sent.TheVariants as sent
use Rattle.hj_base.specs.declared.outside.Role.{Role}
use Rattle.hj_base.specs.declared.outside.Role.TheVariants as role
use Rattle.hj_base.specs.Output.{AppendsFront}
use Rattle.hj_base.specs.Journals.{IsPrefix}
use Rattle.hj_base.specs.Outside.{RoleState}
use Rattle.hj_msg.specs.declared.drain.Drained.{Drained}
use Rattle.hj_msg.specs.declared.event.Event.{Event}
use Rattle.hj_msg.specs.declared.event.Pair.{Pair}
use Rattle.hj_msg.specs.declared.feed.Given.{Given}
use Rattle.hj_msg.specs.declared.fin.Fin.{Fin}
use Rattle.hj_msg.specs.declared.fin.Fin.TheVariants as fin
use Rattle.hj_msg.specs.Feed.{GoesOverAnswers, events_in}
use Rattle.hj_msg.specs.Kang.{kang}
use Rattle.hj_query.specs.QueryParts.{QueryParts}
use Rattle.hj_eval.specs.Holds.{holds}
use Rattle.hj_event.specs.Merger.{IsNewMerger}
use Rattle.hj_event.specs.Roles.{IsInStep}
use Rattle.hj_event.specs.Sides.{in_front}
use Rattle.hj_raw.specs.Drain.{Offer, TakesItems, items_in}
use Rattle.hj_raw.specs.Ending.{EndsRaw}
use Rattle.hj_raw.specs.Items.{Item}
use Rattle.hj_raw.specs.Text.{item_text, raw_text}
use Rattle.hj_stream.specs.declared.outcome.Outcome.{Outcome}
use Rattle.hj_stream.specs.declared.outcome.Outcome.TheVariants as outcome
use Rattle.hj_stream.specs.Draining.{SendsLine, refusal_of}
use Rattle.hj_stream.specs.Ending.{EndsAs}
use Rattle.hj_stream.specs.Feeding.{Feeding, Gives}
use Rattle.hj_stream.specs.Joining.{CountsSinkFault, JoinsTo, WritesText}
use Rattle.hj_stream.specs.JoinText.{JoinResult, Line, joined_by, joined_text}
use Rattle.hj_stream.specs.RawJoining.{result_with}
use Rattle.hj_stream.specs.Runs.{EndsRun, OfEvents}
use Rattle.hj_stream.proofs.Drained.{Draining}
use Rattle.hj_stream.proofs.Fed.{Fed, HasEnded, fed_all, fed_first}
use Rattle.hj_stream.proofs.Joining.{SaysBegun, counts_refusal, ended_by, ended_is, memory_says, refusal_says, sink_same}
use Rattle.hj_stream.proofs.Over.{JoinsOver, over_begun, over_last, refusal_ends}
use Rattle.hj_stream.proofs.Prefixes.{IsPrefix-trans}
use Rattle.hj_stream.proofs.RawDrained.{all_items_kept, last_item_refused}

abbrev Events : Type 0
Events = List (Event (List Field))

-- A join by a run that ended so: these events began those of its streams, and a prefix of a text was written; where the events
-- ended, these were all, and all of the text was written.
pub record JoinsRawOver (text : List ℕ) (made : Outcome) (ended : Fin) (query : QueryParts) (limit : ℕ) (before now : Role → RoleState) (old new : Option (List ℕ)) (events : Events) : Type 0 where
  pub joins : JoinsTo (result_with text) made query limit before now old new
  pub begins : OfEvents joins (λ all. IsPrefix events all)
  pub writes : IsPrefix joins.grown text
  pub ends : EndsRun made ended (OfEvents joins (λ all. events ≡ all) × (joins.grown ≡ text))

-- the line of a join that writes nothing
abbrev silent : Line
silent pair = []

also_whole : (made : Outcome) (ended : Fin) (had wrote all : Type 0) → all → EndsRun made ended (had × wrote) → EndsRun made ended (had × all)
also_whole outcome.SinkFault ended had wrote all a is = is
also_whole outcome.Memory ended had wrote all a is = tt
also_whole (outcome.Done events) ended had wrote all a is = (is.0, (is.1.0, a))
also_whole (outcome.Bad side at found) ended had wrote all a is = (is.0, (is.1.0, a))
also_whole (outcome.SourceFault of) ended had wrote all a is = (is.0, (is.1.0, a))
also_whole outcome.TooMany ended had wrote all a is = (is.0, (is.1.0, a))

-- what an outcome says of one text, it says of another one that was written whole
writes_too : (made : Outcome) (text written : List ℕ) (joined : JoinResult) → WritesText made written joined → WritesText made text (record joined { text = text })
writes_too (outcome.Done events) text written joined says = (refl, says.1, says.2)
writes_too (outcome.Bad side at found) text written joined says = (refl, says.1)
writes_too (outcome.SourceFault role.Query) text written joined says = says
writes_too (outcome.SourceFault role.SecondQuery) text written joined says = says
writes_too (outcome.SourceFault role.Left) text written joined says = (refl, says.1)
writes_too (outcome.SourceFault role.Right) text written joined says = (refl, says.1)
writes_too (outcome.SourceFault role.Third) text written joined says = says
writes_too (outcome.SourceFault role.Trace) text written joined says = says
writes_too (outcome.SourceFault role.Output) text written joined says = says
writes_too outcome.SinkFault text written joined says = record { rest = []; is = sym (append-nil text) }
writes_too outcome.TooMany text written joined says = (refl, says.1)
writes_too outcome.Memory text written joined says = record { rest = []; is = sym (append-nil text) }

-- A join that writes nothing, with a text that is written.
retold : (text grown : List ℕ) (made : Outcome) (ended : Fin) (query : QueryParts) (limit : ℕ) (before now : Role → RoleState) (old new : Option (List ℕ)) (events : Events) (pairs : List (Pair (List Field)))
    → (over : JoinsOver silent made ended query limit before now None None events pairs) → Appends old new grown → IsPrefix grown text
    → ((written : List ℕ) (joined : JoinResult) → WritesText made written joined → WritesText made grown (record joined { text = text }))
    → ((had wrote : Type 0) → EndsRun made ended (had × wrote) → EndsRun made ended (had × (grown ≡ text)))
    → JoinsRawOver text made ended query limit before now old new events
retold text grown made ended query limit before now old new events pairs over written front says ends = record {
  joins = record {
    left_bytes = over.joins.left_bytes;
    right_bytes = over.joins.right_bytes;
    left_failed = over.joins.left_failed;
    right_failed = over.joins.right_failed;
    left_ended = over.joins.left_ended;
    right_ended = over.joins.right_ended;
    left = over.joins.left;
    right = over.joins.right;
    failed = over.joins.failed;
    others = over.joins.others;
    grown = grown;
    written = written;
    text = λ l r left right. says over.joins.grown (joined_by silent query (in_front over.joins.left_bytes l) (in_front over.joins.right_bytes r) limit) (over.joins.text l r left right);
    ends = over.joins.ends;
  };
  begins = over.begins;
  writes = front;
  ends = ends _ _ over.ends;
}

-- the text of the first items begins that of all
raw_text-front : (items all : List (Item (List Field))) → IsPrefix items all → IsPrefix (raw_text items) (raw_text all)
raw_text-front items all front = record { rest = raw_text front.rest; is = ap raw_text front.is ∙ flat_map-append item_text items front.rest }

pub raw_stopped : (ended : Fin) (stopped : Bool) (offers : List (Offer (List Field))) (items : List (Item (List Field))) → EndsRaw ended stopped offers items → ended ≡ fin.Done → stopped ≡ true
raw_stopped fin.Done stopped offers items ends is = ends.0
raw_stopped fin.Refused stopped offers items ends is = absurd (let wrong : fin.Refused ≡ fin.Done = is in cc)
raw_stopped fin.Memory stopped offers items ends is = absurd (let wrong : fin.Memory ≡ fin.Done = is in cc)

-- A run of a chain between a feed over two streams that is seen so, and a drain of raw items to a sink that is seen so.
module _ {F D : Type 0} (gives : F → Given (List Field) → F → Type 0) (takes : D → Item (List Field) → Drained → D → Type 0) (view : F → Feeding) (seen : D → Draining)
    (each_answer : (old : F) (answer : Given (List Field)) (new : F) → gives old answer new → Gives answer (view old) (view new))
    (each_item : (old : D) (item : Item (List Field)) (answer : Drained) (new : D) → takes old item answer new → SendsLine (item_text item) answer (seen new).last (seen old).told (seen new).told (seen old).faults (seen new).faults)
    (query : QueryParts) (limit : ℕ) (from to : F) (unfilled filled : D) (new : IsNewMerger query limit (view from).merger) (none : (view from).events ≡ 0) (going : (view from).ended ≡ None)
    (left : IsInStep false ((view from).roles role.Left)) (right : IsInStep false ((view from).roles role.Right))
    (answers : List (Given (List Field))) (feed : GoesOverAnswers gives from answers to) (offers : List (Offer (List Field))) (drain : TakesItems takes unfilled offers filled) (items : List (Item (List Field))) (stopped : Bool) where
  abbrev all : Events
  all = events_in answers

  abbrev Ending : Fin → Type 0
  Ending ended = EndsRaw ended stopped offers items

  fed : Fed (view to).ended query limit (view from).roles all (view to)
  fed = fed_all query limit (view from).roles gives view each_answer [] answers from to (fed_first query limit (view from) going none new left right) feed

  -- the join, and the sink's count of faults
  abbrev pub RawOver : (made : Outcome) (ended : Fin) → Type 0
  RawOver made ended =
      JoinsRawOver (raw_text items) made ended query limit (view from).roles (view to).roles (seen unfilled).told (seen filled).told all × CountsSinkFault made (seen unfilled).faults (seen filled).faults

  pub raw_refused : (ended : Fin) → Ending ended → ended ≡ fin.Refused → (seen filled).last ≢ sent.Whole
  raw_refused fin.Done ends is = absurd (let wrong : fin.Done ≡ fin.Refused = is in cc)
  raw_refused fin.Refused ends is = (last_item_refused takes seen each_item ends.0.0 offers unfilled filled drain ends.0.1).refused
  raw_refused fin.Memory ends is = absurd (let wrong : fin.Memory ≡ fin.Refused = is in cc)

  -- all is done
  raw_done : (made : Outcome) → Ending fin.Done → HasEnded made query limit (view from).roles all (view to) → RawOver made fin.Done
  raw_done made ends over =
      let kept = all_items_kept takes seen each_item offers unfilled filled drain ends.1 in
      let is = ended_is (length all) over.last made over.made in
      let written : Appends (seen unfilled).told (seen filled).told (raw_text items) = subst (λ (l : List (Item (List Field))). Appends (seen unfilled).told (seen filled).told (raw_text l)) ends.2 kept.0 in
      let last = ended_by (length all) over.last in
      let silence = over_last silent query limit all over.last over.merger (view to).merger (view from).roles over.roles (view to).roles None None over.reads over.takes tt in (
        subst (λ (o : Outcome). JoinsRawOver (raw_text items) o fin.Done query limit (view from).roles (view to).roles (seen unfilled).told (seen filled).told all) is
            (retold (raw_text items) (raw_text items) last fin.Done query limit (view from).roles (view to).roles (seen unfilled).told (seen filled).told all (kang (holds query) all) silence written
            (record { rest = []; is = sym (append-nil (raw_text items)) }) (writes_too last (raw_text items)) (λ had wrote. also_whole last fin.Done had wrote (raw_text items ≡ raw_text items) refl)),
        subst (λ (o : Outcome). CountsSinkFault o (seen unfilled).faults (seen filled).faults) is (sink_same (length all) over.last (seen unfilled).faults (seen filled).faults kept.1),
      )

  -- not all is done, and a prefix of the text was written
  raw_begun : (made : Outcome) (ended : Fin) → SaysBegun made → ((whole : Type 0) → EndsRun made ended whole) → (sends : AppendsFront (raw_text (items_in offers)) (seen unfilled).told (seen filled).told) → IsPrefix (items_in offers) items
      → JoinsRawOver (raw_text items) made ended query limit (view from).roles (view to).roles (seen unfilled).told (seen filled).told all
  raw_begun made ended says so sends begins =
      let front = IsPrefix-trans sends.grown (raw_text (items_in offers)) (raw_text items) sends.front (raw_text-front (items_in offers) items begins) in
      let silence =
      over_begun silent made ended says so (view to).ended query limit (view from).roles all [] (view to) None None fed (record { grown = []; written = tt; front = record { rest = joined_text silent query all; is = refl } }) (record { rest = []; is = refl }) in
      retold (raw_text items) sends.grown made ended query limit (view from).roles (view to).roles (seen unfilled).told (seen filled).told all [] silence sends.written front
      (λ written joined told. says.writes sends.grown (record joined { text = raw_text items }) front) (λ had wrote told. so (had × (sends.grown ≡ raw_text items)))

  -- how a join ends whose run ended so
  pub raw_over : (ended : Fin) (made : Outcome) → Ending ended → EndsAs ended (view to).ended (seen filled).last made → RawOver made ended
  raw_over fin.Done made ends is = raw_done made ends (subst (λ (o : Option Outcome). Fed o query limit (view from).roles all (view to)) is fed)
  raw_over fin.Refused made ends is =
      let sent_so = last_item_refused takes seen each_item ends.0.0 offers unfilled filled drain ends.0.1 in
      let last = (seen filled).last in
      subst (λ (o : Outcome). RawOver o fin.Refused) (sym is)
      (raw_begun (refusal_of last) fin.Refused (refusal_says last) (refusal_ends last) sent_so.sends ends.1, counts_refusal last (seen unfilled).faults (seen filled).faults sent_so.faults)
  raw_over fin.Memory made ends is =
      let kept = all_items_kept takes seen each_item offers unfilled filled drain ends.0 in
      let text = raw_text (items_in offers) in
      subst (λ (o : Outcome). RawOver o fin.Memory) (sym is)
      (raw_begun outcome.Memory fin.Memory memory_says (λ whole. tt) (record { grown = text; written = kept.0; front = record { rest = []; is = sym (append-nil text) } }) ends.1, kept.1)
