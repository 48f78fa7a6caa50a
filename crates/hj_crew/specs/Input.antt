-- What a run begins with.
use Rattle.std.specs.Prelude.{ℕ, List}
use Rattle.hj_base.specs.declared.numbers.Side.{Side}
use Rattle.hj_base.specs.declared.numbers.Side.TheVariants.{Left, Right}
use Rattle.hj_msg.specs.Feed.{FeedState, IsFresh}
use Rattle.hj_msg.specs.ReadyStores.{AreReadyOn}
use Rattle.hj_msg.specs.Store.{Resting}
use Rattle.hj_crew.specs.declared.plan.Stores.{Stores}

-- A run of so many cores that join so may begin: the stores of both sides are ready, and the feed gave no event yet.
pub record MayBegin {P J S : Type 0} (entries : S → List (Resting P)) (suits : S → Side → J → Type 0) (join : J) (cores : ℕ) (stores : Stores S) (feed : FeedState) : Type 0 where
  pub left : AreReadyOn entries suits Left join cores stores.left.items
  pub right : AreReadyOn entries suits Right join cores stores.right.items
  pub fresh : IsFresh feed
