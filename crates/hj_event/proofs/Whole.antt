-- What follows from the moments of the events for the events as a whole.
use Rattle.std.proofs.Common.{◌≡◌, zero, suc, ℕ, ◌+◌, ◌≤◌, inl, inr, Bool, true, false, cond, ltb, List, [], ◌∷◌, ◌++◌, length, length-append, take, drop, append_assoc, arith, refl, sym, ap, subst, ◌∙◌}
use Rattle.std.proofs.lemmas.Bool.{false≢true}
use Rattle.std.proofs.lemmas.List.{take-append-drop}
use Rattle.hj_value.specs.declared.field.Field.{Field}
use Rattle.hj_base.specs.declared.numbers.EventNo.{EventNo}
use Rattle.hj_base.specs.declared.numbers.Side.{Side}
use Rattle.hj_base.specs.declared.numbers.Window.{Window}
use Rattle.hj_base.specs.declared.numbers.Window.TheVariants.{Rows, Time}
use Rattle.hj_msg.specs.declared.event.Event.{Event}
use Rattle.hj_msg.specs.declared.event.Event.TheVariants.{Arrive, Expire, Quiet}
use Rattle.hj_msg.specs.Event.{NumbersFrom, NamesLive, IsWellFormed}
use Rattle.hj_msg.specs.Quiet.{IsQuietWithin}
use Rattle.hj_query.specs.QueryParts.{QueryParts}
use Rattle.hj_record.specs.Pieces.{Stream}
use Rattle.hj_event.specs.Arrivals.{arrivals_of, too_many}
use Rattle.hj_event.specs.Events.{NumberedEvents, none_live, all_events_of, events_of}
use Rattle.hj_event.specs.Rows.{rows_of}
use Rattle.hj_event.specs.Silences.{IsQuietOnlyAfter}
use Rattle.hj_event.specs.Windows.{live_rows, ExpiresNext, window_at, ExpiresByCount, ExpiresByTime, ExpiresBy, RowsExpireInTurn}
use Rattle.hj_event.proofs.Moments.{AtEach, AtEach-cut}
use Rattle.hj_event.proofs.LiveRows.{cases_side, live_rows-live, live_rows-rest}
use Rattle.hj_event.proofs.Stands.{Events}
use Rattle.hj_event.proofs.SilenceLemmas.{is_quiet_within, is_quiet_only_after, is_quiet_within-first, is_quiet_only_after-first}
use Rattle.hj_event.proofs.Turns.{Moment, AtArrival, AtExpiry, turns}

numbers_from : (query : QueryParts) (first : ℕ) (before events : Events) → length before ≡ first → AtEach (Moment query) before events → NumbersFrom first events
numbers_from query first before [] e h = tt
numbers_from query first before (Arrive at side row ∷ events) e h = (h.0.numbered ∙ e, numbers_from query (first + 1) (before ++ Arrive at side row ∷ []) events (omega (arith, length-append before (Arrive at side row ∷ []))) h.1)
numbers_from query first before (Expire at side of ∷ events) e h = (h.0.numbered ∙ e, numbers_from query (first + 1) (before ++ Expire at side of ∷ []) events (omega (arith, length-append before (Expire at side of ∷ []))) h.1)
numbers_from query first before (Quiet at side ∷ events) e h = (h.0.numbered ∙ e, numbers_from query (first + 1) (before ++ Quiet at side ∷ []) events (omega (arith, length-append before (Quiet at side ∷ []))) h.1)

names_live : (query : QueryParts) (before behind : Events) (event : Event (List Field)) → Moment query before (event ∷ behind) → NamesLive before event
names_live query before behind (Arrive at side row) h = tt
names_live query before behind (Expire at side of) h = live_rows-live side before of.0 h.is_live
names_live query before behind (Quiet at side) h = tt

pub well_formed : (query : QueryParts) (events : Events) → AtEach (Moment query) [] events → IsWellFormed events
well_formed query events h = record {
  numbered = numbers_from query 0 [] events refl h;
  live = λ earlier later event e. names_live query earlier later event (AtEach-cut (Moment query) events earlier (event ∷ later) h e);
}

numbers_first : {P : Type 0} (n first : ℕ) (events : List (Event P)) → NumbersFrom first events → NumbersFrom first (take n events)
numbers_first zero first events h = tt
numbers_first (suc n) first [] h = tt
numbers_first (suc n) first (event ∷ events) h = (h.0, numbers_first n (first + 1) events h.1)

-- the first of them are so too
pub well_formed-first : {P : Type 0} (n : ℕ) (events : List (Event P)) → IsWellFormed events → IsWellFormed (take n events)
well_formed-first n events h = record {
  numbered = numbers_first n 0 events h.numbered;
  live = λ earlier later event e. h.live earlier (later ++ drop n events) event
      (sym (take-append-drop n events) ∙ (ap (λ es. es ++ drop n events) e ∙ append_assoc earlier (event ∷ later) (drop n events)));
}

module _ (query : QueryParts) (events : Events) (h : AtEach (Moment query) [] events) where
  expiry : (before behind : Events) (at of : EventNo) (side : Side) → events ≡ before ++ Expire at side of ∷ behind → AtExpiry query before behind at side of
  expiry before behind at of side e = AtEach-cut (Moment query) events before (Expire at side of ∷ behind) h e

  module _ (side : Side) (count : ℕ) (is : window_at query side ≡ Rows count) where
    full : (before behind : Events) (at of : EventNo) → AtExpiry query before behind at side of → length (live_rows side before) ≡ count + 1
    full before behind at of x = let found = x.counted count is in omega (arith, ap length found.1, found.2)

    most : (before behind : Events) → Moment query before behind → length (live_rows side before) ≤ count + 1
    most before [] m = omega (arith, m side count is)
    most before (Arrive at other row ∷ behind) m = omega (arith, m.within side count is)
    most before (Expire at other of ∷ behind) m = elim (cases_side side other) [
      | inl e ↦ omega (arith, full before behind at of (subst (λ (s : Side). AtExpiry query before behind at s of) (sym e) m))
      | inr differs ↦ omega (arith, m.rest side count differs is)
    ]
    most before (Quiet at other ∷ behind) m = omega (arith, m.within side count is)

    within : (before behind : Events) → Moment query before behind → ¬ (ExpiresNext side behind) → length (live_rows side before) ≤ count
    within before [] m stays = m side count is
    within before (Arrive at other row ∷ behind) m stays = m.within side count is
    within before (Expire at other of ∷ behind) m stays = m.rest side count (λ e. stays (sym e)) is
    within before (Quiet at other ∷ behind) m stays = m.within side count is

    by_count : ExpiresByCount side count events
    by_count = record {
      most = λ before behind e. most before behind (AtEach-cut (Moment query) events before behind h e);
      within = λ before behind e stays. within before behind (AtEach-cut (Moment query) events before behind h e) stays;
      full = λ before behind at of e. full before behind at of (expiry before behind at of side e);
      oldest = λ before behind at of e. let found = (expiry before behind at of side e).counted count is in (found.0, found.1);
    }

  by_time : (side : Side) (span : ℕ) → window_at query side ≡ Time span → ExpiresByTime side span events
  by_time side span is = record {
    gone = λ before behind at of_arrival later e came row arrival aged.
        let moment : AtArrival query before at later = AtEach-cut (Moment query) events before (Arrive at of_arrival later ∷ behind) h e in
        live_rows-rest side before came row arrival (λ live. false≢true (sym (moment.young side span came row is arrival live) ∙ aged));
    only_then = λ before behind at of e row arrival. (expiry before behind at of side e).aged span row is arrival;
  }

  by_window : (side : Side) (window : Window) → window_at query side ≡ window → ExpiresBy window side events
  by_window side (Rows count) is = by_count side count is
  by_window side (Time span) is = by_time side span is

  pub expires_in_turn : RowsExpireInTurn query events
  expires_in_turn = λ side. by_window side (window_at query side) refl

-- ---- of two streams

each_moment : (query : QueryParts) (left right : Stream) → AtEach (Moment query) [] (all_events_of query left right).events
each_moment query left right = turns query query.quiet (arrivals_of (rows_of query.left.columns query.slack left) (rows_of query.right.columns query.slack right)).rows

-- what holds of all the events holds of the first of them
first_or_all : (Q : Events → Type 0) → ((n : ℕ) (events : Events) → Q events → Q (take n events)) → (limit : ℕ) (all : NumberedEvents) (over : Bool) → Q all.events
    → Q (cond {A = NumberedEvents} over (record { events = take limit all.events; ending = too_many }) all).events
first_or_all Q first limit all true h = first limit all.events h
first_or_all Q first limit all false h = h

pub are_well_formed : (query : QueryParts) (left right : Stream) (limit : ℕ) → IsWellFormed (events_of query left right limit).events
are_well_formed query left right limit =
    let all = all_events_of query left right in
    first_or_all IsWellFormed well_formed-first limit all (ltb limit (length all.events)) (well_formed query all.events (each_moment query left right))

pub are_quiet_within : (query : QueryParts) (left right : Stream) (limit : ℕ) → 1 ≤ query.quiet → IsQuietWithin query.quiet (events_of query left right limit).events
are_quiet_within query left right limit some =
    let all = all_events_of query left right in
    first_or_all (IsQuietWithin query.quiet) (λ n events. is_quiet_within-first n query.quiet events) limit all (ltb limit (length all.events))
    (is_quiet_within query.quiet (none_live query) (arrivals_of (rows_of query.left.columns query.slack left) (rows_of query.right.columns query.slack right)).rows some)

pub are_quiet_only_after : (query : QueryParts) (left right : Stream) (limit : ℕ) → IsQuietOnlyAfter query.quiet (events_of query left right limit).events
are_quiet_only_after query left right limit =
    let all = all_events_of query left right in
    first_or_all (IsQuietOnlyAfter query.quiet) (λ n events. is_quiet_only_after-first n query.quiet events) limit all (ltb limit (length all.events))
    (is_quiet_only_after query.quiet (none_live query) (arrivals_of (rows_of query.left.columns query.slack left) (rows_of query.right.columns query.slack right)).rows)

pub expire_in_turn : (query : QueryParts) (left right : Stream) → RowsExpireInTurn query (all_events_of query left right).events
expire_in_turn query left right = expires_in_turn query (all_events_of query left right).events (each_moment query left right)
