-- The stores that a chain begins with.
use Rattle.std.specs.Prelude.{◌≡◌, ℕ, List, [], All}
use Rattle.hj_base.specs.declared.numbers.Side.{Side}
use Rattle.hj_base.specs.declared.numbers.Side.TheVariants.{Left, Right}
use Rattle.hj_msg.specs.ReadyStores.{AreReadyOn}
use Rattle.hj_msg.specs.Store.{Resting}
use Rattle.hj_query.specs.QueryParts.{QueryParts}
use Rattle.hj_value.specs.declared.field.Field.{Field}
use Rattle.hj_columns.specs.Store.{ColumnRows}
use Rattle.hj_eval.specs.declared.filter.Filter.{Filter}
use Rattle.hj_eval.specs.Filter.{KeepsMatches}
use Rattle.hj_eval.specs.Holds.{holds}
use Rattle.hj_rows.specs.ListStore.{resting_rows}
use Rattle.hj_index.specs.HashStore.{JoinsEqual}
use Rattle.hj_index.specs.OrderedStore.{JoinsNear}
use Rattle.hj_stores.specs.declared.stores.ChainStores.{ChainStores}
use Rattle.hj_stores.specs.declared.stores.PlannedStores.{PlannedStores}
use Rattle.hj_stores.specs.declared.stores.PlannedStores.TheVariants as planned

-- The stores of both sides, of one kind, are ready for a chain of this many cores that joins so.
pub record AreReady {P J S : Type 0} (entries : S → List (Resting P)) (suits : S → Side → J → Type 0) (join : J) (cores : ℕ) (stores : ChainStores S) : Type 0 where
  pub left : AreReadyOn entries suits Left join cores stores.left.items
  pub right : AreReadyOn entries suits Right join cores stores.right.items

-- Planned stores are ready for a chain of this many cores under a query, whatever their kind.
abbrev pub AreReadyFor : QueryParts → ℕ → PlannedStores → Type 0
AreReadyFor query cores (planned.Hash stores) =
    AreReady (λ store. store.rows) (λ store side join. JoinsEqual store.own store.other (holds join) side) query cores stores
AreReadyFor query cores (planned.Ordered stores) =
    AreReady (λ store. store.rows) (λ store side join. JoinsNear store.own store.other store.within (holds join) side) query cores stores
AreReadyFor query cores (planned.Columns stores) =
    AreReady (λ store. store.rows) (λ store side join. (store.side ≡ side) × All (KeepsMatches (holds join)) store.filters) query cores stores
AreReadyFor query cores (planned.List stores) = AreReady resting_rows (λ store side join. Unit {0}) query cores stores

-- a new store of columns, for rows of this side, by these filters
pub record IsNewFor (of : Side) (by : List Filter) (store : ColumnRows (List Field) Filter) : Type 0 where
  pub rows : store.rows ≡ []
  pub side : store.side ≡ of
  pub filters : store.filters ≡ by
