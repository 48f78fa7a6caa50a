-- What is seen of the two ends of a join: of the feed of its events, and of the drain of its lines.
use Rattle.std.specs.Prelude.{◌≡◌, ℕ, [], None}
use Rattle.std.specs.declared.option.Option.{Option}
use Rattle.hj_base.specs.declared.output.Sent.{Sent}
use Rattle.hj_base.specs.declared.outside.Outside.{Ghosts as OutsideGhosts}
use Rattle.hj_query.specs.QueryParts.{QueryParts}
use Rattle.hj_event.specs.Merger.{IsNewMerger}
use Rattle.hj_stream.specs.declared.drain.LineDrain.{LineDrain}
use Rattle.hj_stream.specs.declared.feed.EventFeed.{EventFeed}
use Rattle.hj_stream.specs.declared.outcome.Outcome.{Outcome}

module _ {O : Type 0} {outside : OutsideGhosts O} where
  -- the outcome of a join of a feed's events, once none is to come, where every line is written
  abbrev pub outcome_in : EventFeed O outside → Option Outcome
  outcome_in feed = feed.ended

  -- A feed gave no event yet: its merger is new, for this query and this limit, and it gives no more events than that.
  pub record IsUnasked (query : QueryParts) (limit : ℕ) (feed : EventFeed O outside) : Type 0 where
    pub merger : IsNewMerger query limit feed.merger.now
    pub most : feed.limit ≡ limit
    pub given : feed.given.items ≡ []
    pub going : feed.ended ≡ None

-- how a drain sent its last line
abbrev pub last_in : {K L : Type 0} → LineDrain K L → Sent
last_in drain = drain.last
