-- A run between the feed of two streams and the drain of raw items to a sink, as the code has them: what it leaves as it was, and how
-- its join ends.
use Rattle.std.proofs.Common.{◌≡◌, ◌≢◌, ◌-◌, List, [], ℕ, true, false, is_some, sym, subst₂}
use Rattle.std.specs.declared.option.Option.{Option}
use Rattle.hj_base.specs.declared.output.Sent.TheVariants as sent
use Rattle.hj_base.specs.declared.outside.Outside.{Ghosts as OutsideGhosts}
use Rattle.hj_base.specs.declared.outside.Role.{Role}
use Rattle.hj_base.specs.declared.outside.Role.TheVariants as role
use Rattle.hj_base.specs.Outside.{RoleState}
use Rattle.hj_base.specs.declared.sink.Sink.{Ghosts as SinkGhosts}
use Rattle.hj_value.specs.declared.field.Field.{Field}
use Rattle.hj_msg.specs.declared.drain.Drained.{Drained}
use Rattle.hj_msg.specs.declared.feed.Given.{Given}
use Rattle.hj_msg.specs.declared.fin.Fin.{Fin}
use Rattle.hj_msg.specs.declared.fin.Fin.TheVariants as fin
use Rattle.hj_msg.specs.Feed.{Answers, FeedState, GoesOverAnswers, events_in, numbering_of}
use Rattle.hj_query.specs.QueryParts.{QueryParts}
use Rattle.hj_event.specs.Roles.{IsInStep}
use Rattle.hj_raw.specs.Drain.{Offer, TakesItems}
use Rattle.hj_raw.specs.Ending.{EndsRaw}
use Rattle.hj_raw.specs.Items.{Item}
use Rattle.hj_raw.specs.Text.{item_text, raw_text}
use Rattle.hj_stream.specs.declared.feed.EventFeed.{EventFeed}
use Rattle.hj_stream.specs.declared.outcome.Outcome.{Outcome}
use Rattle.hj_stream.specs.declared.outcome.Outcome.TheVariants as outcome
use Rattle.hj_stream.specs.declared.raw.RawLineDrain.{RawLineDrain}
use Rattle.hj_stream.specs.Draining.{SendsLine}
use Rattle.hj_stream.specs.Ending.{EndsAs}
use Rattle.hj_stream.specs.Ends.{IsUnasked}
use Rattle.hj_stream.specs.Feeding.{Feeding, Gives}
use Rattle.hj_stream.specs.Joining.{CountsSinkFault}
use Rattle.hj_stream.specs.RawJoining.{JoinsRaw, result_with}
use Rattle.hj_stream.proofs.Drained.{Draining}
use Rattle.hj_stream.proofs.Fed.{kept_all}
use Rattle.hj_stream.proofs.Joining.{none_joined}
use Rattle.hj_stream.proofs.RawDrained.{kept_by_items}
use Rattle.hj_stream.proofs.RawOver.{JoinsRawOver, raw_over, raw_refused, raw_stopped}
use Rattle.hj_stream.proofs.Unread.{IsUnread, reads_none}

-- nothing was read and nothing written
pub raw_joins_none : (query : QueryParts) (limit : ℕ) (now : Role → RoleState) (told : Option (List ℕ)) → IsInStep false (now role.Left) → IsInStep false (now role.Right) → JoinsRaw outcome.Memory query limit now now told told
raw_joins_none query limit now told left right = record { text = []; joins = none_joined (result_with []) query limit now told left right }

module _ {O K : Type 0} (outside : OutsideGhosts O) (sink : SinkGhosts K) where
  abbrev Feed : Type 0
  Feed = EventFeed O outside

  abbrev Drain : Type 0
  Drain = RawLineDrain K

  -- what is seen of the drain
  abbrev seen : Drain → Draining
  seen d = record { last = d.last; told = sink.told d.out.now; faults = sink.faults d.out.now }

  abbrev takes : Drain → Item (List Field) → Drained → Drain → Type 0
  takes old item answer new = (new.out.ghost_name ≡ old.out.ghost_name)
      × SendsLine (item_text item) answer new.last (sink.told old.out.now) (sink.told new.out.now) (sink.faults old.out.now) (sink.faults new.out.now)

  -- what is seen of the feed
  abbrev view : Feed → Feeding
  view f = record { merger = f.merger.now; roles = outside.state f.outside.now; events = f.events; ended = f.ended }

  abbrev state : Feed → FeedState
  state f = record { numbering = numbering_of f.given.items; remaining = f.limit - f.events; stopped = is_some f.ended }

  abbrev gives : Feed → Given (List Field) → Feed → Type 0
  gives old answer new = (new.outside.ghost_name ≡ old.outside.ghost_name) × ((name : List ℕ) → outside.under new.outside.now name ≡ outside.under old.outside.now name) × Gives answer (view old) (view new) × Answers answer (state old) (state new)

  -- The feed gave no event yet.
  module _ (query : QueryParts) (limit : ℕ) (from : Feed) (unfilled : Drain) (unasked : IsUnasked query limit from) where
    start : IsUnread from
    start = reads_none query limit from unasked

    -- memory ran out before either was asked
    pub raw_nothing : (to : Feed) (filled : Drain) → to ≡ from → filled ≡ unfilled → JoinsRaw outcome.Memory query limit (view from).roles (view to).roles (seen unfilled).told (seen filled).told
    raw_nothing to filled not_asked not_filled =
        subst₂ (λ (f : Feed) (d : Drain). JoinsRaw outcome.Memory query limit (view from).roles (view f).roles (seen unfilled).told (seen d).told) (sym not_asked) (sym not_filled)
        (raw_joins_none query limit (view from).roles (seen unfilled).told start.left start.right)

    module _ (to : Feed) (filled : Drain) (answers : List (Given (List Field))) (feed : GoesOverAnswers gives from answers to) (offers : List (Offer (List Field))) (drain : TakesItems takes unfilled offers filled) where
      pub raw_same_outside : to.outside.ghost_name ≡ from.outside.ghost_name
      raw_same_outside = kept_all gives (λ f. f.outside.ghost_name) (λ old answer new given. given.0) answers from to feed

      pub raw_same_out : filled.out.ghost_name ≡ unfilled.out.ghost_name
      raw_same_out = kept_by_items takes (λ d. d.out.ghost_name) (λ old item answer new took. took.0) offers unfilled filled drain

      pub raw_names : (name : List ℕ) → outside.under to.outside.now name ≡ outside.under from.outside.now name
      raw_names name = kept_all gives (λ f. outside.under f.outside.now name) (λ old answer new given. given.1 name) answers from to feed

      module _ (items : List (Item (List Field))) (ended : Fin) (ends : EndsRaw ended (state to).stopped offers items) where
        pub raw_has_stopped : ended ≡ fin.Done → is_some to.ended ≡ true
        raw_has_stopped = raw_stopped ended (state to).stopped offers items ends

        pub raw_was_refused : ended ≡ fin.Refused → filled.last ≢ sent.Whole
        raw_was_refused = raw_refused gives takes view seen (λ old answer new given. given.2) (λ old item answer new took. took.1) query limit from to unfilled filled unasked.merger start.none unasked.going start.left start.right answers feed offers drain items (state to).stopped ended ends

        -- the outcome that is made of such an end is that of the join
        pub raw_join : (made : Outcome) → EndsAs ended to.ended filled.last made
            → JoinsRawOver (raw_text items) made ended query limit (view from).roles (view to).roles (seen unfilled).told (seen filled).told (events_in answers) × CountsSinkFault made (seen unfilled).faults (seen filled).faults
        raw_join made so = raw_over gives takes view seen (λ old answer new given. given.2) (λ old item answer new took. took.1) query limit from to unfilled filled unasked.merger start.none unasked.going start.left start.right answers feed offers drain items (state to).stopped ended made ends so
