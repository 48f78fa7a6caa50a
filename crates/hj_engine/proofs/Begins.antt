-- With what a run on threads begins.
use Rattle.std.proofs.Common.{ℕ, List}
use Rattle.hj_base.specs.declared.numbers.Side.{Side}
use Rattle.hj_msg.specs.Feed.{FeedState, IsFresh}
use Rattle.hj_msg.specs.Store.{Resting}
use Rattle.hj_crew.specs.Input.{MayBegin}
use Rattle.hj_stores.specs.declared.stores.ChainStores.{ChainStores}
use Rattle.hj_stores.specs.Stores.{AreReady}

-- over stores that are ready, and a feed that gave no event yet, it may begin
pub may_begin : {P J S : Type 0} {entries : S → List (Resting P)} {suits : S → Side → J → Type 0} {join : J} {cores : ℕ} {stores : ChainStores S} {feed : FeedState}
    → AreReady entries suits join cores stores → IsFresh feed → MayBegin entries suits join cores (record { left = stores.left; right = stores.right }) feed
may_begin ready fresh = record { left = ready.left; right = ready.right; fresh = fresh }
