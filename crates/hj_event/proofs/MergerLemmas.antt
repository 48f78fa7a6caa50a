-- A call of a merger, by what its parts answered.
use Rattle.std.proofs.Common.{◌≡◌, ℕ, ◌-◌, Bool, false, List, [], Ok, Err, None, sym, refl, ap, subst, ◌∙◌, arith}
use Rattle.std.specs.declared.option.Option.{Option}
use Rattle.std.specs.declared.result.Result.{Result}
use Rattle.hj_value.specs.declared.field.Field.{Field}
use Rattle.hj_base.specs.declared.numbers.Side.{Side}
use Rattle.hj_base.specs.declared.numbers.Side.TheVariants.{Left, Right}
use Rattle.hj_base.specs.declared.outside.Role.{Role}
use Rattle.hj_base.specs.declared.outside.Role.TheVariants as role
use Rattle.hj_base.specs.Outside.{RoleState}
use Rattle.hj_msg.specs.declared.event.Event.{Event}
use Rattle.hj_value.specs.declared.column.Column.{Column}
use Rattle.hj_query.specs.QueryParts.{QueryParts}
use Rattle.hj_record.specs.Pieces.{Stream}
use Rattle.hj_event.specs.declared.stop.MergeEnd.{MergeEnd}
use Rattle.hj_event.specs.declared.stop.MergeEnd.TheVariants as last
use Rattle.hj_event.specs.Arrivals.{Arrivals, arrivals_of, then_arrivals, clean, bad, unread}
use Rattle.hj_event.specs.Arriving.{ArrivalLeads, TakesArrival, EndsBoth, fails}
use Rattle.hj_event.specs.Events.{NumberedEvents, numbered, none_live, no_silence, up_to, all_events_of, events_of}
use Rattle.hj_event.specs.Merger.{Merging, IsNewMerger, NextLeads, StepsToAnswer, IsAllRead, answer_of, next_of, fails_next, events_from}
use Rattle.hj_event.specs.Numbering.{NumberingState, nothing_due, numbered_ahead, has_due, GivesDueEvent}
use Rattle.hj_event.specs.Roles.{IsReadOn, IsInStep}
use Rattle.hj_event.specs.Rows.{rows_of}
use Rattle.hj_event.specs.Sides.{Sides, new_sides, in_front, Follows, arrivals_ahead, at_its_end}
use Rattle.hj_event.proofs.NumberLemmas.{ends-with}
use Rattle.hj_event.proofs.RoleLemmas.{not_read, not_needed}

abbrev pub Roles : Type 0
Roles = Role → RoleState

-- ---- what an event that is due says

gives_leads : (answer : Result (Event (List Field)) MergeEnd) (ahead behind : NumberedEvents) → GivesDueEvent answer ahead behind → NextLeads (next_of answer) ahead behind
gives_leads (Ok event) ahead behind gives = gives
gives_leads (Err last.TooMany) ahead behind gives = gives
gives_leads (Err last.Done) ahead behind gives = absurd gives
gives_leads (Err (last.Bad side at why)) ahead behind gives = absurd gives
gives_leads (Err (last.Failed side)) ahead behind gives = absurd gives
gives_leads (Err last.Memory) ahead behind gives = absurd gives

gives_fails : (answer : Result (Event (List Field)) MergeEnd) (ahead behind : NumberedEvents) → GivesDueEvent answer ahead behind → (side : Side) → false ≡ fails_next (next_of answer) side
gives_fails (Ok event) ahead behind gives side = refl
gives_fails (Err last.TooMany) ahead behind gives side = refl
gives_fails (Err last.Done) ahead behind gives side = absurd gives
gives_fails (Err (last.Bad of at why)) ahead behind gives side = absurd gives
gives_fails (Err (last.Failed of)) ahead behind gives side = absurd gives
gives_fails (Err last.Memory) ahead behind gives side = absurd gives

gives_all_read : (answer : Result (Event (List Field)) MergeEnd) (ahead behind : NumberedEvents) → GivesDueEvent answer ahead behind → (left right : Bool) → IsAllRead (next_of answer) left right
gives_all_read (Ok event) ahead behind gives left right = tt
gives_all_read (Err last.TooMany) ahead behind gives left right = tt
gives_all_read (Err last.Done) ahead behind gives left right = absurd gives
gives_all_read (Err (last.Bad side at why)) ahead behind gives left right = absurd gives
gives_all_read (Err (last.Failed side)) ahead behind gives left right = absurd gives
gives_all_read (Err last.Memory) ahead behind gives left right = absurd gives

abbrev GivesFrom : Result (Event (List Field)) MergeEnd → NumberingState → NumberingState → Type 0
GivesFrom answer old new = (arrivals : Arrivals) → GivesDueEvent answer (numbered_ahead old arrivals) (numbered_ahead new arrivals)

-- ---- what an ending of the arrivals says

last_leads : (why : MergeEnd) (state : NumberingState) (ahead behind : Arrivals) (after : NumberedEvents) → has_due state.due ≡ false → ArrivalLeads (Err why) ahead behind → NextLeads (answer_of why) (numbered_ahead state ahead) after
last_leads last.Done state ahead behind after none is = ap (numbered_ahead state) is ∙ ends-with state clean none
last_leads (last.Bad side at why) state ahead behind after none is = ap (numbered_ahead state) is ∙ ends-with state (bad side at why) none
last_leads (last.Failed side) state ahead behind after none is = ap (numbered_ahead state) is ∙ ends-with state (unread side) none
last_leads last.TooMany state ahead behind after none is = absurd is
last_leads last.Memory state ahead behind after none is = tt

last_fails : (why : MergeEnd) (side : Side) → fails (Err why) side ≡ fails_next (answer_of why) side
last_fails last.Done side = refl
last_fails (last.Bad of at why) side = refl
last_fails (last.Failed of) side = refl
last_fails last.TooMany side = refl
last_fails last.Memory side = refl

last_all_read : (why : MergeEnd) (left right : Bool) → EndsBoth (Err why) left right → IsAllRead (answer_of why) left right
last_all_read last.Done left right both = both
last_all_read (last.Bad side at why) left right both = tt
last_all_read (last.Failed side) left right both = tt
last_all_read last.TooMany left right both = tt
last_all_read last.Memory left right both = tt

read_as : (failed other : Bool) (bytes : List ℕ) (was ended : Bool) (before now : RoleState) → failed ≡ other → IsReadOn failed bytes was ended before now → IsReadOn other bytes was ended before now
read_as failed other bytes was ended before now e reads = subst (λ (f : Bool). IsReadOn f bytes was ended before now) e reads

follows_as : (one other ended : Bool) (stream : Stream) → one ≡ other → Follows other ended stream → Follows one ended stream
follows_as one other ended stream e follows = subst (λ (f : Bool). Follows f ended stream) (sym e) follows

-- ---- steps

-- An event is given that was due already.
pub steps_due : (answer : Result (Event (List Field)) MergeEnd) (sides : Sides) (over : Option MergeEnd) (old new : NumberingState) (roles : Roles) → IsInStep sides.left.reading.ended (roles role.Left) → IsInStep sides.right.reading.ended (roles role.Right) → GivesFrom answer old new
    → StepsToAnswer answer (record { sides = sides; numbering = old; over = over }) (record { sides = sides; numbering = new; over = over }) roles roles
steps_due answer sides over old new roles left right gives =
    let some = gives (arrivals_ahead sides at_its_end at_its_end) in
    let ahead = numbered_ahead old (arrivals_ahead sides at_its_end at_its_end) in
    let behind = numbered_ahead new (arrivals_ahead sides at_its_end at_its_end) in (
      record {
        left_bytes = [];
        right_bytes = [];
        left = read_as false (fails_next (next_of answer) Left) [] sides.left.reading.ended sides.left.reading.ended (roles role.Left) (roles role.Left) (gives_fails answer ahead behind some Left) (not_read sides.left.reading.ended (roles role.Left) left);
        right = read_as false (fails_next (next_of answer) Right) [] sides.right.reading.ended sides.right.reading.ended (roles role.Right) (roles role.Right) (gives_fails answer ahead behind some Right) (not_read sides.right.reading.ended (roles role.Right) right);
        others = λ of not_left not_right. refl;
        leads = λ l r l_follows r_follows. gives_leads answer (numbered_ahead old (arrivals_ahead sides l r)) (numbered_ahead new (arrivals_ahead sides l r)) (gives (arrivals_ahead sides l r));
        ended = gives_all_read answer ahead behind some sides.left.reading.ended sides.right.reading.ended;
        stays = refl;
        due = λ e. ((refl, refl), (refl, refl));
        left_needed = not_needed sides.left.head sides.left (roles role.Left) (roles role.Left) refl;
        right_needed = not_needed sides.right.head sides.right (roles role.Right) (roles role.Right) refl;
      },
      refl,
    )

-- The arrivals end.
pub steps_last : (why : MergeEnd) (old new : Sides) (over : Option MergeEnd) (numbering : NumberingState) (before now : Roles) → has_due numbering.due ≡ false → TakesArrival (Err why) old new before now
    → StepsToAnswer (Err why) (record { sides = old; numbering = numbering; over = over }) (record { sides = new; numbering = numbering; over = over }) before now
steps_last why old new over numbering before now none takes = (
  record {
    left_bytes = takes.left_bytes;
    right_bytes = takes.right_bytes;
    left = read_as (fails (Err why) Left) (fails_next (answer_of why) Left) takes.left_bytes old.left.reading.ended new.left.reading.ended (before role.Left) (now role.Left) (last_fails why Left) takes.left;
    right = read_as (fails (Err why) Right) (fails_next (answer_of why) Right) takes.right_bytes old.right.reading.ended new.right.reading.ended (before role.Right) (now role.Right) (last_fails why Right) takes.right;
    others = takes.others;
    leads = λ l r l_follows r_follows. last_leads why numbering (arrivals_ahead old (in_front takes.left_bytes l) (in_front takes.right_bytes r)) (arrivals_ahead new l r) (numbered_ahead numbering (arrivals_ahead new l r)) none
        (takes.leads l r (follows_as (fails (Err why) Left) (fails_next (answer_of why) Left) new.left.reading.ended l (last_fails why Left) l_follows) (follows_as (fails (Err why) Right) (fails_next (answer_of why) Right) new.right.reading.ended r (last_fails why Right) r_follows));
    ended = last_all_read why new.left.reading.ended new.right.reading.ended takes.ended;
    stays = refl;
    due = λ e. cc;
    left_needed = takes.left_needed;
    right_needed = takes.right_needed;
  },
  refl,
)

-- A row arrives, and the first of its events is given.
pub steps_arrival : (arrival : Side × List Field) (answer : Result (Event (List Field)) MergeEnd) (old new : Sides) (over : Option MergeEnd) (numbering with_row after : NumberingState) (before now : Roles) → has_due numbering.due ≡ false → TakesArrival (Ok arrival) old new before now
    → ((arrivals : Arrivals) → numbered_ahead numbering (then_arrivals arrival.0 arrival.1 arrivals) ≡ numbered_ahead with_row arrivals) → GivesFrom answer with_row after
    → StepsToAnswer answer (record { sides = old; numbering = numbering; over = over }) (record { sides = new; numbering = after; over = over }) before now
steps_arrival arrival answer old new over numbering with_row after before now none takes arrives gives =
    let some = gives (arrivals_ahead new at_its_end at_its_end) in
    let ahead = numbered_ahead with_row (arrivals_ahead new at_its_end at_its_end) in
    let behind = numbered_ahead after (arrivals_ahead new at_its_end at_its_end) in (
      record {
        left_bytes = takes.left_bytes;
        right_bytes = takes.right_bytes;
        left = read_as false (fails_next (next_of answer) Left) takes.left_bytes old.left.reading.ended new.left.reading.ended (before role.Left) (now role.Left) (gives_fails answer ahead behind some Left) takes.left;
        right = read_as false (fails_next (next_of answer) Right) takes.right_bytes old.right.reading.ended new.right.reading.ended (before role.Right) (now role.Right) (gives_fails answer ahead behind some Right) takes.right;
        others = takes.others;
        leads = λ l r l_follows r_follows. gives_leads answer (numbered_ahead numbering (arrivals_ahead old (in_front takes.left_bytes l) (in_front takes.right_bytes r))) (numbered_ahead after (arrivals_ahead new l r))
            (subst (λ (n : NumberedEvents). GivesDueEvent answer n (numbered_ahead after (arrivals_ahead new l r)))
            (sym (ap (numbered_ahead numbering) (takes.leads l r (follows_as false (fails_next (next_of answer) Left) new.left.reading.ended l (gives_fails answer ahead behind some Left) l_follows) (follows_as false (fails_next (next_of answer) Right) new.right.reading.ended r (gives_fails answer ahead behind some Right) r_follows))
            ∙ arrives (arrivals_ahead new l r)))
            (gives (arrivals_ahead new l r)));
        ended = gives_all_read answer ahead behind some new.left.reading.ended new.right.reading.ended;
        stays = refl;
        due = λ e. cc;
        left_needed = takes.left_needed;
        right_needed = takes.right_needed;
      },
      refl,
    )

-- ---- a new merger

begins : (query : QueryParts) (limit : ℕ) (left right : List Column) (slack : ℕ) → left ≡ query.left.columns → right ≡ query.right.columns → slack ≡ query.slack → (l r : Stream)
    → events_from (record { sides = new_sides left right slack; numbering = record { live = none_live query; silence = no_silence; quiet = query.quiet; due = nothing_due; next = 0; limit = limit }; over = None }) l r ≡ events_of query l r limit
begins query limit left right slack is are late l r =
    let all : limit - 0 ≡ limit = omega arith in
    ap (λ (columns : List Column). up_to (limit - 0) (numbered query.quiet 0 (none_live query) no_silence (arrivals_of (rows_of columns slack l) (rows_of right slack r)))) is
    ∙ (ap (λ (columns : List Column). up_to (limit - 0) (numbered query.quiet 0 (none_live query) no_silence (arrivals_of (rows_of query.left.columns slack l) (rows_of columns slack r)))) are
    ∙ (ap (λ (k : ℕ). up_to (limit - 0) (numbered query.quiet 0 (none_live query) no_silence (arrivals_of (rows_of query.left.columns k l) (rows_of query.right.columns k r)))) late
    ∙ ap (λ (n : ℕ). up_to n (all_events_of query l r)) all))

pub is_new : (query : QueryParts) (limit : ℕ) (left right : List Column) (slack : ℕ) (merging : Merging) → left ≡ query.left.columns → right ≡ query.right.columns → slack ≡ query.slack
    → merging ≡ record { sides = new_sides left right slack; numbering = record { live = none_live query; silence = no_silence; quiet = query.quiet; due = nothing_due; next = 0; limit = limit }; over = None } → IsNewMerger query limit merging
is_new query limit left right slack merging is are late same = subst (λ (m : Merging). IsNewMerger query limit m) (sym same) (record {
  left = refl;
  right = refl;
  over = refl;
  events = begins query limit left right slack is are late;
})
