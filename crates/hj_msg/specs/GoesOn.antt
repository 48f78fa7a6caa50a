-- Events with which the numbering of a feed goes on.
use Rattle.std.specs.Prelude.{◌≡◌, List}
use Rattle.hj_msg.specs.declared.event.Event.{Event}
use Rattle.hj_msg.specs.Event.{IsWellFormed}
use Rattle.hj_msg.specs.Feed.{FeedState, numbering_of}

-- They are well formed, and the feed has their numbering.
pub record GoesOnWith {P : Type 0} (events : List (Event P)) (feed : FeedState) : Type 0 where
  pub well_formed : IsWellFormed events
  pub numbering : feed.numbering ≡ numbering_of events
