use Rattle.std.proofs.Common.{refl}
use Rattle.std.specs.List.{filter_map}
use Rattle.hj_driver.specs.Lane.{after_departure}
use Rattle.hj_driver.proofs.Arrivals.{none_changes, lane_with}
use Rattle.hj_driver.proofs.lane.Lane.take_anywhere.Goals as goal

pub returns-in_default : goal.returns-in_default
returns-in_default c =
    let s = c.args.self.now in
    lane_with s s.arrivals s.arrivals s.expiries s.room (filter_map (after_departure c.args.no.0 c.args.departure)) refl (none_changes s.arrivals c.args.no.0 c.args.departure c.in_default.ensures.absent)
