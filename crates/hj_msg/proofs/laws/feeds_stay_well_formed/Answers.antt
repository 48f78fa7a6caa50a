use Rattle.hj_msg.proofs.Feeding.{feed-goes-on}
use Rattle.hj_msg.proofs.laws.feeds_stay_well_formed.Goals as goal

pub returns : goal.returns
returns g c = feed-goes-on g.F.Feed.gives g.F.Feed.state g.met.F.Feed.told
