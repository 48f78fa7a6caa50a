-- The rows of a side in order, by what its bytes give, which rows wait and what a read brings.
use Rattle.std.proofs.Common.{◌≡◌, ℕ, ◌≤◌, inl, inr, Bool, true, false, not, List, [], ◌∷◌, ◌++◌, length, ℤ, Ok, Err, None, Some, sym, refl, ap, subst, ◌∙◌, append_assoc, true≢false, option_to_list, is_some, IsSome}
use Rattle.std.specs.List.{filter}
use Rattle.std.specs.declared.option.Option.{Option}
use Rattle.std.specs.declared.result.Result.{Result}
use Rattle.hj_value.specs.declared.field.Field.{Field}
use Rattle.hj_base.specs.declared.numbers.Memory.{Memory}
use Rattle.hj_base.specs.Outside.{RoleState}
use Rattle.hj_record.specs.Pieces.{Stream}
use Rattle.hj_event.specs.declared.fault.RecordFault.{RecordFault}
use Rattle.hj_event.specs.declared.stop.SideStop.{SideStop}
use Rattle.hj_event.specs.declared.stop.SideStop.TheVariants as stop
use Rattle.hj_event.specs.declared.row_source.Ahead.{Ahead}
use Rattle.hj_event.specs.declared.row_source.Ahead.TheVariants as ahead
use Rattle.hj_event.specs.declared.stop.ReadStep.{ReadStep}
use Rattle.hj_event.specs.declared.stop.ReadStep.TheVariants as read_step
use Rattle.hj_value.specs.Row.{time_of}
use Rattle.hj_event.specs.Rows.{Rows, no_row, then_rows, put_in, is_sure, in_order, rows_in, with_time, unread}
use Rattle.hj_event.specs.Sides.{ReaderState, SideState, in_front, at_its_end, cut_off, MayFollow, pieces_ahead, read_ahead, rows_ahead}
use Rattle.hj_event.specs.Reads.{Fills}
use Rattle.hj_event.specs.Roles.{IsReadOn, IsInStep}
use Rattle.hj_event.specs.Taking.{IsNeeded, IsReadAsNeeded, StepLeads, Wants, Advances, TakesNextLine, SideGoesOn, TakesRow, TakesStraight, TellsRow, TellsNext, IsTold, IsSideOver, IsKnown, IsNextRow, KeepsBehind, ReadsLines, late_side, refused_in, step_by, unseen, has_failed}
use Rattle.hj_event.specs.Waiting.{AreInOrder, TakesSure, has_sure, is_held}
use Rattle.hj_event.proofs.OrderLemmas.{as_read, sure_ahead}
use Rattle.hj_event.proofs.WaitingLemmas.{none_first, still_unsure}
use Rattle.hj_event.proofs.RoleLemmas.{not_read, read_more}

-- ---- row by row

-- A side was read on from one state to another, and no row was taken.
pub record SoFar (old now : SideState) (before after : RoleState) : Type 0 where
  pub bytes : List ℕ
  pub reads : IsReadOn false bytes old.reading.ended now.reading.ended before after
  pub leads : (stream : Stream) → MayFollow now.reading.ended stream → rows_ahead old (in_front bytes stream) ≡ rows_ahead now stream
  pub needed : IsReadAsNeeded None (unseen old) bytes before after

pub so_far-none : (old : SideState) (role : RoleState) → IsInStep old.reading.ended role → SoFar old old role role
so_far-none old role step = record { bytes = []; reads = not_read old.reading.ended role step; leads = λ stream follows. refl; needed = inl (refl, refl) }

read_as : (failed : Bool) (bytes : List ℕ) (was mid ended : Bool) (before after : RoleState) → ended ≡ mid → IsReadOn failed bytes was mid before after → IsReadOn failed bytes was ended before after
read_as failed bytes was mid ended before after e reads = subst (λ (b : Bool). IsReadOn failed bytes was b before after) (sym e) reads

follows_as : (stream : Stream) (one other : Bool) → one ≡ other → MayFollow one stream → MayFollow other stream
follows_as stream one other e follows = subst (λ (b : Bool). MayFollow b stream) e follows

follows_going : (stream : Stream) (ended : Bool) → ended ≡ false → MayFollow ended stream
follows_going stream ended e = subst (λ (b : Bool). MayFollow b stream) (sym e) tt

module _ (old now new : SideState) (before after : RoleState) (so_far : SoFar old now before after) where
  -- where the bytes give something, from the rows of the first state
  from_first : (answer : Result ReadStep SideStop) → SideGoesOn answer now new → (stream : Stream) → MayFollow new.reading.ended stream → StepLeads answer (rows_ahead old (in_front so_far.bytes stream)) (rows_ahead new stream)
  from_first answer goes stream follows =
      subst (λ (ahead : Rows). StepLeads answer ahead (rows_ahead new stream)) (sym (so_far.leads stream (follows_as stream new.reading.ended now.reading.ended goes.ended follows))) (goes.leads stream follows)

  reads_on : (answer : Result ReadStep SideStop) → SideGoesOn answer now new → IsReadOn false so_far.bytes old.reading.ended new.reading.ended before after
  reads_on answer goes = read_as false so_far.bytes old.reading.ended now.reading.ended new.reading.ended before after goes.ended so_far.reads

  pub so_far-no_record : SideGoesOn (Ok read_step.NoRecord) now new → SoFar old new before after
  so_far-no_record goes = record { bytes = so_far.bytes; reads = reads_on (Ok read_step.NoRecord) goes; leads = from_first (Ok read_step.NoRecord) goes; needed = so_far.needed }

  pub so_far-more : SideGoesOn (Ok read_step.More) now new → SoFar old new before after
  so_far-more goes = record { bytes = so_far.bytes; reads = reads_on (Ok read_step.More) goes; leads = from_first (Ok read_step.More) goes; needed = so_far.needed }

  some_follows : (ended : Bool) → (stream : Stream) × MayFollow ended stream
  some_follows true = (at_its_end, refl)
  some_follows false = (at_its_end, tt)

  pub takes_stop : (why : SideStop) → SideGoesOn (Err why) now new → TakesRow (Err why) (unseen old) (unseen new) before after
  takes_stop (stop.Bad at why) goes = record { bytes = so_far.bytes; reads = reads_on (Err (stop.Bad at why)) goes; leads = from_first (Err (stop.Bad at why)) goes; ended = tt; needed = so_far.needed }
  takes_stop stop.Failed goes = let some = some_follows new.reading.ended in absurd (goes.leads some.0 some.1)
  takes_stop stop.Memory goes = record { bytes = so_far.bytes; reads = reads_on (Err stop.Memory) goes; leads = λ stream follows. tt; ended = tt; needed = so_far.needed }

-- Nothing is read of a side that stops.
pub stops_unread : (why : SideStop) (old new : SideState) (head : Option (List Field)) (role : RoleState) → is_some head ≡ false → IsInStep old.reading.ended role → SideGoesOn (Err why) old new → TakesRow (Err why) (record old { head = head }) (record new { head = head }) role role
stops_unread why old new None role none step goes = takes_stop old old new role role (so_far-none old role step) why goes
stops_unread why old new (Some row) role none step goes = absurd (true≢false none)

-- Nothing is read of a side whose next row is known, or whose line is read straight.
pub takes_unread : (row : List Field) (old new : SideState) (head : Option (List Field)) (role : RoleState) → is_some head ≡ false → IsInStep old.reading.ended role → SideGoesOn (Ok (read_step.Row row)) old new → TakesRow (Ok (Some row)) (record old { head = head }) (record new { head = None }) role role
takes_unread row old new None role none step goes =
    let so_far = so_far-none old role step in
    record {
      bytes = so_far.bytes;
      reads = reads_on old old new role role so_far (Ok (read_step.Row row)) goes;
      leads = from_first old old new role role so_far (Ok (read_step.Row row)) goes;
      ended = tt;
      needed = so_far.needed;
    }
takes_unread row old new (Some other) role none step goes = absurd (true≢false none)

-- ---- a read

module _ (old now new : SideState) (before between after : RoleState) (so_far : SoFar old now before between) (going : now.reading.ended ≡ false) (none : now.reading.rest ≡ []) (same : new ≡ record now { reading = new.reading }) where
  -- the bytes of two reads, one behind the other
  both_behind : (xs ys : List ℕ) (stream : Stream) → rows_ahead old (in_front (xs ++ ys) stream) ≡ rows_ahead old (in_front xs (in_front ys stream))
  both_behind xs ys stream = ap (λ (bytes : List ℕ). rows_ahead old (record { bytes = bytes; whole = stream.whole })) (append_assoc xs ys stream.bytes)

  filled : (ys : List ℕ) (stream : Stream) → new.reading ≡ record now.reading { rest = ys; ended = new.reading.ended } → rows_ahead now (in_front ys stream) ≡ rows_ahead new stream
  filled ys stream fills =
      ap (λ (rest : List ℕ). rows_ahead (record now { reading = record now.reading { rest = rest } }) (in_front ys stream)) none
      ∙ (ap (λ (r : ReaderState). rows_ahead (record now { reading = r }) stream) (sym fills)
      ∙ ap (λ (s : SideState). rows_ahead s stream) (sym same))

  -- a side that goes on went on before
  went_on : (was : Bool) → IsReadOn false so_far.bytes was now.reading.ended before between → was ≡ false
  went_on true reads = cc ((reads.no_more refl).0, going)
  went_on false reads = refl

  -- a read where the bytes gave no row
  needed_read : (ys : List ℕ) → length ys ≤ 4096 → rows_ahead now cut_off ≡ no_row unread → IsNeeded (unseen old) (so_far.bytes ++ ys)
  needed_read ys within missing = record {
    going = went_on old.reading.ended so_far.reads;
    earlier = so_far.bytes;
    last = ys;
    is = refl;
    one_read = within;
    missing = so_far.leads cut_off (follows_going cut_off now.reading.ended going) ∙ missing;
  }

  pub so_far-filled : {T : Type 0} (x : T) → rows_ahead now cut_off ≡ no_row unread → Fills (Ok x) now.reading new.reading between after → SoFar old new before after
  so_far-filled x missing fills = record {
    bytes = so_far.bytes ++ fills.bytes;
    reads = read_more false so_far.bytes fills.bytes old.reading.ended now.reading.ended new.reading.ended before between after so_far.reads (subst (λ (was : Bool). IsReadOn false fills.bytes was new.reading.ended between after) (sym going) fills.reads);
    leads = λ stream follows.
        both_behind so_far.bytes fills.bytes stream
        ∙ (so_far.leads (in_front fills.bytes stream) (follows_going (in_front fills.bytes stream) now.reading.ended going)
        ∙ filled fills.bytes stream fills.same);
    needed = inr (needed_read fills.bytes fills.within missing);
  }

  pub takes_failed : {T : Type 0} (why : SideStop) → rows_ahead now cut_off ≡ no_row unread → Fills {T = T} (Err why) now.reading new.reading between after → TakesRow (Err why) (unseen old) (unseen new) before after
  takes_failed {T} why missing fills =
      subst (λ (w : SideStop). TakesRow (Err w) (unseen old) (unseen new) before after) (sym fills.failed.0)
      (record {
        bytes = so_far.bytes ++ fills.bytes;
        reads = read_more true so_far.bytes fills.bytes old.reading.ended now.reading.ended new.reading.ended before between after so_far.reads
            (subst (λ (was : Bool). IsReadOn true fills.bytes was new.reading.ended between after) (sym going)
            (subst (λ (w : SideStop). IsReadOn (has_failed {T = T} (Err w)) fills.bytes false new.reading.ended between after) fills.failed.0 fills.reads));
        leads = λ stream follows.
            ap (λ (s : Stream). rows_ahead old (in_front (so_far.bytes ++ fills.bytes) s)) follows
            ∙ (both_behind so_far.bytes fills.bytes cut_off
            ∙ (so_far.leads (in_front fills.bytes cut_off) (follows_going (in_front fills.bytes cut_off) now.reading.ended going)
            ∙ (ap (λ (ys : List ℕ). rows_ahead now (in_front ys cut_off)) fills.failed.1 ∙ missing)));
        ended = tt;
        needed = inr (needed_read fills.bytes fills.within missing);
      })

-- ---- a step of a side

-- a side whose next row wasn't looked at, by what it keeps
abbrev pub source : ReaderState → List (List Field) → Option (ℕ × RecordFault) → SideState
source reading waiting refused = record { head = None; reading = reading; waiting = waiting; stop = refused }

-- Without a slack the rows to come are those that are still to be read.
pub rows_as_read : (reading : ReaderState) → reading.slack ≡ 0 → (stream : Stream) → rows_ahead (source reading [] None) stream ≡ read_ahead reading stream
rows_as_read reading none stream =
    let pieces = pieces_ahead reading stream in
    subst (λ (slack : ℕ). in_order slack reading.time [] (rows_in reading.columns slack reading.record_no reading.time pieces) ≡ rows_in reading.columns slack reading.record_no reading.time pieces) (sym none)
    (as_read reading.columns reading.record_no reading.time pieces)

leads_as_read : (answer : Result ReadStep SideStop) (old new : ReaderState) → old.slack ≡ 0 → new.slack ≡ 0 → (stream : Stream) → StepLeads answer (read_ahead old stream) (read_ahead new stream) → StepLeads answer (rows_ahead (source old [] None) stream) (rows_ahead (source new [] None) stream)
leads_as_read answer old new was is stream leads =
    subst (λ (ahead : Rows). StepLeads answer ahead (rows_ahead (source new [] None) stream)) (sym (rows_as_read old was stream))
    (subst (λ (behind : Rows). StepLeads answer (read_ahead old stream) behind) (sym (rows_as_read new is stream)) leads)

wants_as_read : (answer : Result ReadStep SideStop) (new : ReaderState) → new.slack ≡ 0 → Wants answer new (read_ahead new) → Wants answer new (rows_ahead (source new [] None))
wants_as_read (Ok read_step.More) new none wants = (wants.0, wants.1, rows_as_read new none cut_off ∙ wants.2)
wants_as_read (Ok read_step.End) new none wants = wants
wants_as_read (Ok read_step.NoRecord) new none wants = tt
wants_as_read (Ok (read_step.Row row)) new none wants = tt
wants_as_read (Err why) new none wants = tt

-- A piece, where there is no slack.
pub goes_on_as_read : (answer : Result ReadStep SideStop) (old new : ReaderState) → old.slack ≡ 0 → Advances answer old new → SideGoesOn answer (source old [] None) (source new [] None)
goes_on_as_read answer old new none advances =
    let still = advances.slack ∙ none in
    record {
      ended = advances.ended;
      leads = λ stream follows. leads_as_read answer old new none still stream (advances.leads stream follows);
      wants = wants_as_read answer new still advances.wants;
    }

as_source : (reading : ReaderState) (waiting : List (List Field)) (known : Ahead) → (waiting ≡ []) × (known ≡ ahead.Unknown) → source reading waiting (refused_in known) ≡ source reading [] None
as_source reading waiting known none = ap (λ (rows : List (List Field)). source reading rows (refused_in known)) none.0 ∙ ap (λ (k : Ahead). source reading [] (refused_in k)) none.1

pub goes_on_without : (answer : Result ReadStep SideStop) (old new : ReaderState) (next : Option (List Field)) (waiting : List (List Field)) (known : Ahead) → KeepsBehind old next waiting known → old.slack ≡ 0 → Advances answer old new
    → SideGoesOn answer (source old (option_to_list next ++ waiting) (refused_in known)) (source new (option_to_list next ++ waiting) (refused_in known))
goes_on_without answer old new next waiting known kept none advances =
    let all = option_to_list next ++ waiting in
    subst (λ (before : SideState). SideGoesOn answer before (source new all (refused_in known))) (sym (as_source old all known (kept.without none)))
    (subst (λ (after : SideState). SideGoesOn answer (source old [] None) after) (sym (as_source new all known (kept.without none))) (goes_on_as_read answer old new none advances))

-- A line that is read straight, where there is no slack.
pub straight_without : (answer : Result (Option (List Field)) Memory) (old new : ReaderState) (next : Option (List Field)) (waiting : List (List Field)) (known : Ahead) → KeepsBehind old next waiting known → old.slack ≡ 0 → TakesNextLine answer old new
    → TakesStraight answer (source old (option_to_list next ++ waiting) (refused_in known)) (source new (option_to_list next ++ waiting) (refused_in known))
straight_without (Ok (Some row)) old new next waiting known kept none takes = goes_on_without (Ok (read_step.Row row)) old new next waiting known kept none takes
straight_without (Ok None) old new next waiting known kept none takes = ap (λ (r : ReaderState). source r (option_to_list next ++ waiting) (refused_in known)) takes
straight_without (Err why) old new next waiting known kept none takes = record { ended = ap (λ (r : ReaderState). r.ended) takes; leads = λ stream follows. tt; wants = tt }

module _ (old new : ReaderState) (waiting : List (List Field)) where
  as_late : (slack : ℕ) (time : Option ℤ) → new.slack ≡ slack → new.time ≡ time → (stream : Stream) → rows_ahead (source new waiting None) stream ≡ in_order slack time waiting (read_ahead new stream)
  as_late slack time late great stream =
      ap (λ (s : ℕ). in_order s new.time waiting (read_ahead new stream)) late ∙ ap (λ (t : Option ℤ). in_order slack t waiting (read_ahead new stream)) great

  -- A row that was read is put among those that wait.
  pub puts_row : (row : List Field) → Advances (Ok (read_step.Row row)) old new → SideGoesOn (Ok read_step.NoRecord) (source old waiting None) (source new (put_in row waiting) None)
  puts_row row advances = record {
    ended = advances.ended;
    leads = λ stream follows.
        ap (in_order old.slack old.time waiting) (advances.leads stream follows)
        ∙ sym (ap (λ (s : ℕ). in_order s new.time (put_in row waiting) (read_ahead new stream)) advances.slack
        ∙ ap (λ (t : Option ℤ). in_order old.slack t (put_in row waiting) (read_ahead new stream)) advances.time.1);
    wants = tt;
  }

  -- No row is sure, so more bytes are wanted.
  pub wants_more : filter (is_sure new.slack new.time) waiting ≡ [] → Advances (Ok read_step.More) old new → SideGoesOn (Ok read_step.More) (source old waiting None) (source new waiting None)
  wants_more none advances = record {
    ended = advances.ended;
    leads = λ stream follows. ap (in_order old.slack old.time waiting) (advances.leads stream follows) ∙ sym (as_late old.slack old.time advances.slack advances.time stream);
    wants = (
      advances.wants.0,
      advances.wants.1,
      ap (in_order new.slack new.time waiting) advances.wants.2 ∙ ap no_more none,
    );
  }
    where
      no_more : List (List Field) → Rows
      no_more rows = record { rows = rows; ending = unread }

-- ---- what is told

pub tells_as_read : (reading : ReaderState) → reading.slack ≡ 0 → TellsRow reading → TellsNext (source reading [] None)
tells_as_read reading none tells = λ e. tells (sym (rows_as_read reading none cut_off) ∙ e)

pub tells_without : (reading : ReaderState) (next : Option (List Field)) (waiting : List (List Field)) (known : Ahead) → KeepsBehind reading next waiting known → reading.slack ≡ 0 → TellsRow reading → TellsNext (source reading (option_to_list next ++ waiting) (refused_in known))
tells_without reading next waiting known kept none tells = subst TellsNext (sym (as_source reading (option_to_list next ++ waiting) known (kept.without none))) (tells_as_read reading none tells)

pub tells_refused : (reading : ReaderState) (waiting : List (List Field)) (refused : ℕ × RecordFault) → TellsNext (source reading waiting (Some refused))
tells_refused reading waiting refused = λ e. let ends = ap (λ (rows : Rows). rows.ending) e in cc

pub tells_sure : (reading : ReaderState) (waiting : List (List Field)) → has_sure reading.slack reading.time waiting ≡ true → TellsNext (source reading waiting None)
tells_sure reading [] has = cc
tells_sure reading (row ∷ waiting) has =
    λ e. let rows = ap (λ (rows : Rows). rows.rows) (sym (sure_ahead reading.columns reading.slack row reading.record_no reading.time waiting (pieces_ahead reading cut_off) has) ∙ e) in cc

-- What is known tells what comes next.
pub tells_known : (reading : ReaderState) (waiting : List (List Field)) (known : Ahead) → (known ≡ ahead.Unknown → ⊥) → IsKnown known reading → IsTold (source reading waiting (refused_in known))
tells_known reading waiting ahead.Unknown some is = absurd (some refl)
tells_known reading waiting ahead.Over some is = inr (inl is.0)
tells_known reading waiting (ahead.Refused at why) some is = inr (inr (tells_refused reading waiting (at, why)))

pub tells_next : (reading : ReaderState) (next : Option (List Field)) (waiting : List (List Field)) (known : Ahead) → IsSome next → IsNextRow next reading known → IsTold (source reading (option_to_list next ++ waiting) (refused_in known))
tells_next reading None waiting known some is = absurd (true≢false (sym some))
tells_next reading (Some row) waiting known some is =
    subst (λ (k : Ahead). IsTold (source reading (row ∷ waiting) (refused_in k))) (sym is.0) (inr (inr (tells_sure reading (row ∷ waiting) is.1)))

-- The next row tells what comes next, or what is known of what comes behind.
pub tells_either : (reading : ReaderState) (next : Option (List Field)) (waiting : List (List Field)) (known : Ahead) → (is_some next ≡ false → known ≡ ahead.Unknown → ⊥) → IsKnown known reading → IsNextRow next reading known
    → IsTold (source reading (option_to_list next ++ waiting) (refused_in known))
tells_either reading None waiting known more is first = tells_known reading waiting known (more refl) is
tells_either reading (Some row) waiting known more is first = tells_next reading (Some row) waiting known refl first

-- The first row that waits is taken as the next one, or none is sure.
pub all_wait : (next : Option (List Field)) (slack : ℕ) (greatest : Option ℤ) (old new : List (List Field)) → TakesSure next slack greatest old new → option_to_list next ++ new ≡ old
all_wait None slack greatest old new takes = takes.0
all_wait (Some row) slack greatest old new takes = sym takes.0

pub next_sure : (next : Option (List Field)) (side : ReaderState) (old new : List (List Field)) → TakesSure next side.slack side.time old new → IsNextRow next side ahead.Unknown
next_sure None side old new takes = tt
next_sure (Some row) side old new takes = (refl, takes.1)

-- The first row that waits is given where it is sure.
pub gives_first : (reading : ReaderState) (row : List Field) (waiting after : List (List Field)) (refused : Option (ℕ × RecordFault)) → refused ≡ None → has_sure reading.slack reading.time waiting ≡ true → waiting ≡ row ∷ after
    → SideGoesOn (Ok (read_step.Row row)) (source reading waiting refused) (source reading after refused)
gives_first reading row waiting after refused none sure is =
    rw (none, is) (gives_sure_row (subst (λ (rows : List (List Field)). has_sure reading.slack reading.time rows ≡ true) is sure))
  where
    gives_sure_row : is_sure reading.slack reading.time row ≡ true → SideGoesOn (Ok (read_step.Row row)) (source reading (row ∷ after) None) (source reading after None)
    gives_sure_row sure = record { ended = refl; leads = λ stream follows. sure_ahead reading.columns reading.slack row reading.record_no reading.time after (pieces_ahead reading stream) sure; wants = tt }

pub gives_next : (reading : ReaderState) (row : List Field) (waiting : List (List Field)) (known : Ahead) → IsNextRow (Some row) reading known → SideGoesOn (Ok (read_step.Row row)) (source reading (row ∷ waiting) (refused_in known)) (source reading waiting (refused_in known))
gives_next reading row waiting known is = gives_first reading row (row ∷ waiting) waiting (refused_in known) (ap refused_in is.0) is.1 refl

-- All that was read is looked at: a row that waits is sure, or more bytes are wanted.
pub looked_at : (old new : ReaderState) (waiting : List (List Field)) (refused : Option (ℕ × RecordFault)) → refused ≡ None → Advances (Ok read_step.More) old new → SideGoesOn (Ok read_step.NoRecord) (source old waiting refused) (source new waiting refused)
looked_at old new waiting refused none advances = rw none (record {
  ended = advances.ended;
  leads = λ stream follows. ap (in_order old.slack old.time waiting) (advances.leads stream follows) ∙ sym (as_late old new waiting old.slack old.time advances.slack advances.time stream);
  wants = tt;
})

pub wants_bytes : (old new : ReaderState) (waiting : List (List Field)) (refused : Option (ℕ × RecordFault)) → refused ≡ None → AreInOrder waiting → has_sure new.slack new.time waiting ≡ false → Advances (Ok read_step.More) old new
    → SideGoesOn (Ok read_step.More) (source old waiting refused) (source new waiting refused)
wants_bytes old new waiting refused none ordered unsure advances = rw none (wants_more old new waiting (none_first new.slack new.time waiting ordered unsure) advances)

is_over : (old new : ReaderState) → Advances (Ok read_step.End) old new → IsSideOver new
is_over old new advances = (advances.wants, (advances.leads at_its_end (subst (λ (ended : Bool). MayFollow ended at_its_end) (sym advances.wants) refl)).1)

-- What is kept where rows may be late.
pub kept_late : (old new : ReaderState) (next : Option (List Field)) (waiting : List (List Field)) (known : Ahead) → (old.slack ≡ 0 → ⊥) → new.slack ≡ old.slack → IsKnown known new → IsNextRow next new known → KeepsBehind new next waiting known
kept_late old new next waiting known late same is is_next = record { without = λ none. absurd (late (sym same ∙ none)); is_known = is; is_next = is_next }

pub kept_at_end : (old new : ReaderState) (next : Option (List Field)) (waiting : List (List Field)) → is_some next ≡ false → (old.slack ≡ 0 → ⊥) → Advances (Ok read_step.End) old new → KeepsBehind new next waiting ahead.Over
kept_at_end old new None waiting none late advances = kept_late old new None waiting ahead.Over late advances.slack (is_over old new advances) tt
kept_at_end old new (Some row) waiting none late advances = absurd (true≢false none)

-- More bytes are wanted where no row that waits is sure.
looks_at : (old new : ReaderState) (waiting after : List (List Field)) (next : Option (List Field)) (wants : Bool) → AreInOrder waiting → TakesSure next new.slack new.time waiting after → is_some next ≡ not wants → Advances (Ok read_step.More) old new
    → SideGoesOn (step_by (Ok wants)) (source old waiting None) (source new (option_to_list next ++ after) None)
looks_at old new waiting after None true ordered takes is advances =
    subst (λ (rows : List (List Field)). SideGoesOn (Ok read_step.More) (source old waiting None) (source new rows None)) (sym takes.0) (wants_bytes old new waiting None refl ordered takes.1 advances)
looks_at old new waiting after None false ordered takes is advances = absurd (true≢false (sym is))
looks_at old new waiting after (Some row) true ordered takes is advances = absurd (true≢false is)
looks_at old new waiting after (Some row) false ordered takes is advances =
    subst (λ (rows : List (List Field)). SideGoesOn (Ok read_step.NoRecord) (source old waiting None) (source new rows None)) takes.0 (looked_at old new waiting None refl advances)

pub looks : (old new : ReaderState) (was : Option (List Field)) (waiting after : List (List Field)) (next : Option (List Field)) (refused : Option (ℕ × RecordFault)) (wants : Bool) → is_some was ≡ false → refused ≡ None → AreInOrder waiting
    → TakesSure next new.slack new.time waiting after → is_some next ≡ not wants → Advances (Ok read_step.More) old new
    → SideGoesOn (step_by (Ok wants)) (source old (option_to_list was ++ waiting) refused) (source new (option_to_list next ++ after) refused)
looks old new None waiting after next refused wants none going ordered takes is advances = rw going (looks_at old new waiting after next wants ordered takes is advances)
looks old new (Some row) waiting after next refused wants none going ordered takes is advances = absurd (true≢false none)

-- A row that was read waits, and the first one is taken if it is sure.
pub takes_line : (next : Option (List Field)) (old new : ReaderState) (before after : List (List Field)) (row : List Field) → Advances (Ok (read_step.Row row)) old new → TakesSure next new.slack new.time (put_in row before) after → ReadsLines next old before new after
takes_line next old new before after row advances takes = record {
  goes_on = subst (λ (rows : List (List Field)). SideGoesOn (Ok read_step.NoRecord) (late_side old before) (late_side new rows)) (sym (all_wait next new.slack new.time (put_in row before) after takes)) (puts_row old new before row advances);
  is_next = next_sure next new (put_in row before) after takes;
}

-- Where no row was sure, none is with a row that was read and is held.
pub held_unsure : (old new : ReaderState) (row : List Field) (waiting : List (List Field)) (time : ℤ) → Advances (Ok (read_step.Row row)) old new → time ≡ time_of row → has_sure old.slack old.time waiting ≡ false → is_held new.slack new.time time ≡ true
    → has_sure new.slack new.time (put_in row waiting) ≡ false
held_unsure old new row waiting time advances is unsure held =
    let own : is_held old.slack (Some (with_time old.time (time_of row))) (time_of row) ≡ true =
    ap (λ (slack : ℕ). is_held slack (Some (with_time old.time (time_of row))) (time_of row)) (sym advances.slack)
    ∙ (ap (λ (greatest : Option ℤ). is_held new.slack greatest (time_of row)) (sym advances.time.1) ∙ (ap (is_held new.slack new.time) (sym is) ∙ held)) in
    ap (λ (slack : ℕ). has_sure slack new.time (put_in row waiting)) advances.slack
    ∙ (ap (λ (greatest : Option ℤ). has_sure old.slack greatest (put_in row waiting)) advances.time.1 ∙ still_unsure old.slack old.time row waiting unsure own)

-- After a row is given, rows are read that were there already.
pub then_read : (row : List Field) (old between new : SideState) → SideGoesOn (Ok (read_step.Row row)) old between → new.reading.ended ≡ between.reading.ended → ((stream : Stream) → MayFollow new.reading.ended stream → rows_ahead between stream ≡ rows_ahead new stream)
    → SideGoesOn (Ok (read_step.Row row)) old new
then_read row old between new goes ended same = record {
  ended = ended ∙ goes.ended;
  leads = λ stream follows. goes.leads stream (follows_as stream new.reading.ended between.reading.ended ended follows) ∙ ap (then_rows row) (same stream follows);
  wants = tt;
}

-- The next row is given, and rows are read until another one is known.
pub gives_taken : (reading : ReaderState) (next after : Option (List Field)) (row : List Field) (waiting : List (List Field)) (known : Ahead) (new : SideState) → next ≡ Some row → after ≡ None → IsNextRow next reading known → new.reading.ended ≡ reading.ended
    → ((stream : Stream) → MayFollow new.reading.ended stream → rows_ahead (source reading (option_to_list after ++ waiting) (refused_in known)) stream ≡ rows_ahead new stream)
    → SideGoesOn (Ok (read_step.Row row)) (source reading (option_to_list next ++ waiting) (refused_in known)) new
gives_taken reading None after row waiting known new is none is_next ended same = cc
gives_taken reading (Some one) (Some other) row waiting known new is none is_next ended same = cc
gives_taken reading (Some one) None row waiting known new is none is_next ended same =
    let one_row : one ≡ row = cc in
    subst (λ (r : List Field). SideGoesOn (Ok (read_step.Row r)) (source reading (one ∷ waiting) (refused_in known)) new) one_row
    (then_read one (source reading (one ∷ waiting) (refused_in known)) (source reading waiting (refused_in known)) new (gives_next reading one waiting known is_next) ended same)

-- Rows are read that were there already.
pub reads_rows : (more : Bool) (old now new : SideState) → SideGoesOn (step_by (Ok more)) now new → now.reading.ended ≡ old.reading.ended → ((stream : Stream) → MayFollow now.reading.ended stream → rows_ahead old stream ≡ rows_ahead now stream)
    → (new.reading.ended ≡ old.reading.ended) × ((stream : Stream) → MayFollow new.reading.ended stream → rows_ahead old stream ≡ rows_ahead new stream)
reads_rows true old now new goes ended same =
    (goes.ended ∙ ended, λ stream follows. same stream (follows_as stream new.reading.ended now.reading.ended goes.ended follows) ∙ goes.leads stream follows)
reads_rows false old now new goes ended same =
    (goes.ended ∙ ended, λ stream follows. same stream (follows_as stream new.reading.ended now.reading.ended goes.ended follows) ∙ goes.leads stream follows)
