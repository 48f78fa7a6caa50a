-- When a chain is done, and when it goes on.
use Rattle.std.specs.Prelude.{◌≡◌, IsTrue, [], None}
use Rattle.std.specs.List.{All}
use Rattle.hj_driver.specs.Driver.{is_finished}
use Rattle.hj_chain.specs.declared.actor.Actor.{Actor}
use Rattle.hj_chain.specs.Chain.{ChainState, cause}

pub record IsDone {P : Type 0} (chain : ChainState P) : Type 0 where
  -- the driver took both closes, and each core handled both
  pub finished : IsTrue (is_finished chain.driver.closes)
  pub closed : All (λ core. IsTrue core.closed_left × IsTrue core.closed_right) chain.cores
  -- no message is under way, and no report waits to be collected
  pub nothing_under_way : All (λ link. (link.rightwards ≡ []) × (link.leftwards ≡ [])) chain.links
  pub all_collected : All (λ reports. reports ≡ []) chain.reports

-- an actor that is enabled
pub record EnabledActor {P : Type 0} (chain : ChainState P) : Type 0 where
  pub actor : Actor
  pub enabled : cause chain actor ≡ None
