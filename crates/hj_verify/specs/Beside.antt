-- A role that is read in the outside of a feed, beside the streams of its events.
use Rattle.std.specs.Prelude.{◌≡◌}
use Rattle.hj_base.specs.declared.outside.Outside.{Ghosts as OutsideGhosts}
use Rattle.hj_base.specs.declared.outside.Role.{Role}
use Rattle.hj_base.specs.Outside.{ChangesOnly, NamesStay}
use Rattle.hj_stream.specs.declared.feed.EventFeed.{EventFeed}

module _ {O : Type 0} {outside : OutsideGhosts O} where
  -- The feed is as it was, but for this role of its outside.
  pub record ReadsBeside (of : Role) (old new : EventFeed O outside) : Type 0 where
    pub merger : new.merger.now ≡ old.merger.now
    pub limit : new.limit ≡ old.limit
    pub events : new.events ≡ old.events
    pub ended : new.ended ≡ old.ended
    pub given : new.given.items ≡ old.given.items
    pub same : new.outside.ghost_name ≡ old.outside.ghost_name
    pub names : NamesStay (outside.under old.outside.now) (outside.under new.outside.now)
    pub others : ChangesOnly of (outside.state old.outside.now) (outside.state new.outside.now)
