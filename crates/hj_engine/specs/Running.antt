-- A chain under a query as it begins.
use Rattle.std.specs.Prelude.{◌≡◌, List, [], Some}
use Rattle.hj_msg.specs.declared.feed.Given.{Given}
use Rattle.hj_msg.specs.Feed.{event_in}
use Rattle.hj_value.specs.declared.field.Field.{Field}
use Rattle.hj_query.specs.QueryParts.{QueryParts}
use Rattle.hj_eval.specs.Holds.{holds}
use Rattle.hj_chain.specs.Chain.{Contents}
use Rattle.hj_chain.specs.Reached.{StandsFor}

-- A chain under a query stands at its beginning: it made no step, gave no pair, and took this first answer of the feed.
pub record IsBegunChain {F : Type 0} (gives : F → Given (List Field) → F → Type 0) (query : QueryParts) (chain : Contents (List Field) QueryParts) (from to : F) : Type 0 where
  pub join : chain.join ≡ query
  pub first : Given (List Field)
  pub given : gives from first to
  pub stands : StandsFor holds chain [] (event_in (Some first)) 0
