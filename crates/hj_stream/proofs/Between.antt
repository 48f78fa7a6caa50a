-- A run between the feed of two streams and the drain of a sink, as the code has them: what it leaves as it was, and how its join ends.
use Rattle.std.proofs.Common.{◌≡◌, ◌≢◌, ◌-◌, List, ℕ, true, is_some, ap, sym, subst₂}
use Rattle.hj_base.specs.declared.output.Sent.TheVariants as sent
use Rattle.hj_base.specs.declared.outside.Outside.{Ghosts as OutsideGhosts}
use Rattle.hj_base.specs.declared.sink.Sink.{Ghosts as SinkGhosts}
use Rattle.hj_value.specs.declared.field.Field.{Field}
use Rattle.hj_msg.specs.declared.drain.Drained.{Drained}
use Rattle.hj_msg.specs.declared.event.Pair.{Pair}
use Rattle.hj_msg.specs.declared.feed.Given.{Given}
use Rattle.hj_msg.specs.declared.fin.Fin.{Fin}
use Rattle.hj_msg.specs.declared.fin.Fin.TheVariants as fin
use Rattle.hj_msg.specs.Drain.{pairs_in}
use Rattle.hj_msg.specs.Feed.{Answers, FeedState, events_in, numbering_of}
use Rattle.hj_msg.specs.RunsJoin.{RunsJoin}
use Rattle.hj_query.specs.QueryParts.{QueryParts}
use Rattle.hj_eval.specs.Holds.{holds}
use Rattle.hj_stream.specs.declared.drain.LineDrain.{LineDrain}
use Rattle.hj_stream.specs.declared.feed.EventFeed.{EventFeed}
use Rattle.hj_stream.specs.declared.line.PairLine.{Ghosts as LineGhosts}
use Rattle.hj_stream.specs.declared.outcome.Outcome.{Outcome}
use Rattle.hj_stream.specs.declared.outcome.Outcome.TheVariants as outcome
use Rattle.hj_stream.specs.Draining.{SendsLine}
use Rattle.hj_stream.specs.Ending.{EndsAs}
use Rattle.hj_stream.specs.Ends.{IsUnasked}
use Rattle.hj_stream.specs.Feeding.{Feeding, Gives}
use Rattle.hj_stream.specs.Joining.{CountsSinkFault, JoinsBy}
use Rattle.hj_stream.specs.JoinText.{Line}
use Rattle.hj_stream.proofs.Drained.{Draining, kept_by_all}
use Rattle.hj_stream.proofs.Fed.{kept_all}
use Rattle.hj_stream.proofs.Joining.{joins_none}
use Rattle.hj_stream.proofs.Over.{JoinsOver, has_stopped, joins_over, was_refused}
use Rattle.hj_stream.proofs.Unread.{IsUnread, reads_none}

module _ {O K L : Type 0} (outside : OutsideGhosts O) (sink : SinkGhosts K) (lines : LineGhosts L) where
  abbrev Feed : Type 0
  Feed = EventFeed O outside

  abbrev Drain : Type 0
  Drain = LineDrain K L

  -- what is seen of the feed and of the drain
  abbrev view : Feed → Feeding
  view f = record { merger = f.merger.now; roles = outside.state f.outside.now; events = f.events; ended = f.ended }

  abbrev seen : Drain → Draining
  seen d = record { last = d.last; told = sink.told d.out.now; faults = sink.faults d.out.now }

  -- the line of a pair
  abbrev line_by : Drain → Line
  line_by d = lines.line d.lines.now

  abbrev state : Feed → FeedState
  state f = record { numbering = numbering_of f.given.items; remaining = f.limit - f.events; stopped = is_some f.ended }

  abbrev gives : Feed → Given (List Field) → Feed → Type 0
  gives old answer new = (new.outside.ghost_name ≡ old.outside.ghost_name) × ((name : List ℕ) → outside.under new.outside.now name ≡ outside.under old.outside.now name) × Gives answer (view old) (view new) × Answers answer (state old) (state new)

  abbrev takes : Drain → Pair (List Field) → Drained → Drain → Type 0
  takes old pair answer new = (new.out.ghost_name ≡ old.out.ghost_name) × (new.lines ≡ old.lines)
      × SendsLine (line_by old pair) answer new.last (sink.told old.out.now) (sink.told new.out.now) (sink.faults old.out.now) (sink.faults new.out.now)

  -- The feed gave no event yet.
  module _ (query : QueryParts) (limit : ℕ) (from : Feed) (unfilled : Drain) (unasked : IsUnasked query limit from) where
    abbrev line : Line
    line = line_by unfilled

    start : IsUnread from
    start = reads_none query limit from unasked

    -- memory ran out before either was asked
    pub joins_nothing : (to : Feed) (filled : Drain) → to ≡ from → filled ≡ unfilled → JoinsBy line outcome.Memory query limit (view from).roles (view to).roles (seen unfilled).told (seen filled).told
    joins_nothing to filled not_asked not_filled =
        subst₂ (λ (f : Feed) (d : Drain). JoinsBy line outcome.Memory query limit (view from).roles (view f).roles (seen unfilled).told (seen d).told) (sym not_asked) (sym not_filled)
        (joins_none line query limit (view from).roles (seen unfilled).told start.left start.right)

    module _ (to : Feed) (filled : Drain) (ended : Fin) (ran : RunsJoin gives state takes (holds query) ended from to unfilled filled) where
      pub same_outside : to.outside.ghost_name ≡ from.outside.ghost_name
      same_outside = kept_all gives (λ f. f.outside.ghost_name) (λ old answer new given. given.0) ran.answers from to ran.feed

      pub same_out : filled.out.ghost_name ≡ unfilled.out.ghost_name
      same_out = kept_by_all takes (λ d. d.out.ghost_name) (λ old pair answer new took. took.0) ran.taken unfilled filled ran.drain

      pub names : (name : List ℕ) → outside.under to.outside.now name ≡ outside.under from.outside.now name
      names name = kept_all gives (λ f. outside.under f.outside.now name) (λ old answer new given. given.1 name) ran.answers from to ran.feed

      pub stopped : ended ≡ fin.Done → is_some to.ended ≡ true
      stopped = has_stopped gives state takes view line_by seen (λ old answer new given. given.2) (λ old pair answer new took. ap (λ l. lines.line l.now) took.1) (λ old pair answer new took. took.2) query limit from to unfilled filled unasked.merger start.none unasked.going start.left start.right ended ran

      pub refused : ended ≡ fin.Refused → filled.last ≢ sent.Whole
      refused = was_refused gives state takes view line_by seen (λ old answer new given. given.2) (λ old pair answer new took. ap (λ l. lines.line l.now) took.1) (λ old pair answer new took. took.2) query limit from to unfilled filled unasked.merger start.none unasked.going start.left start.right ended ran

      -- the outcome that is made of such an end is that of the join
      pub over : (made : Outcome) → EndsAs ended to.ended filled.last made
          → JoinsOver line made ended query limit (view from).roles (view to).roles (seen unfilled).told (seen filled).told (events_in ran.answers) (pairs_in ran.taken) × CountsSinkFault made (seen unfilled).faults (seen filled).faults
      over made so = joins_over gives state takes view line_by seen (λ old answer new given. given.2) (λ old pair answer new took. ap (λ l. lines.line l.now) took.1) (λ old pair answer new took. took.2) query limit from to unfilled filled unasked.merger start.none unasked.going start.left start.right ended made ran so
