use Rattle.hj_event.proofs.ArrivalLemmas.{stops_left, stops_behind, takes_head, takes_none}
use Rattle.hj_event.proofs.arrivals.Arrivals.next_arrival.Goals as goal

pub returns-in-Err-clause-takes : goal.returns-in-Err-clause-takes
returns-in-Err-clause-takes g c =
    let right = rw (← c.self.view_is) at c.requires.right in
    rw (c.last.ensures, ← c.self.view_is)
    (stops_left c.in-Err.stop (record { left = c.self.inside.left; right = c.self.inside.right }) c.look.new.self (g.O.Outside.state c.args.outside.now) (g.O.Outside.state c.look.new.outside) c.in-Err.ensures.looks c.in-Err.ensures.others right)

pub returns-in-Err-look-clause-takes : goal.returns-in-Err-look-clause-takes
returns-in-Err-look-clause-takes g c =
    rw (c.last-in-Err-look.ensures, ← c.self.view_is)
    (stops_behind c.in-Err-look.stop (record { left = c.self.inside.left; right = c.self.inside.right }) (record { left = c.look.new.self; right = c.look-2.new.self })
    (g.O.Outside.state c.args.outside.now) (g.O.Outside.state c.look.new.outside) (g.O.Outside.state c.look-2.new.outside)
    (record { left = c.in-Ok.ensures.looks; left_others = c.in-Ok.ensures.others; right = c.in-Err-look.ensures.looks; right_others = c.in-Err-look.ensures.others }))

pub returns-in-Some-clause-takes : goal.returns-in-Some-clause-takes
returns-in-Some-clause-takes g c =
    rw (← c.self.view_is)
    (takes_head (record { left = c.self.inside.left; right = c.self.inside.right }) (record { left = c.look.new.self; right = c.look-2.new.self })
    (g.O.Outside.state c.args.outside.now) (g.O.Outside.state c.look.new.outside) (g.O.Outside.state c.look-2.new.outside)
    (record { left = c.in-Ok.ensures.looks; left_others = c.in-Ok.ensures.others; right = c.in-Ok-look.ensures.looks; right_others = c.in-Ok-look.ensures.others })
    c.in-Some.arrival c.take_head.new.self c.in-Some.ensures)

pub returns-in-None-clause-takes : goal.returns-in-None-clause-takes
returns-in-None-clause-takes g c =
    rw (← c.self.view_is)
    (takes_none (record { left = c.self.inside.left; right = c.self.inside.right }) (record { left = c.look.new.self; right = c.look-2.new.self })
    (g.O.Outside.state c.args.outside.now) (g.O.Outside.state c.look.new.outside) (g.O.Outside.state c.look-2.new.outside)
    (record { left = c.in-Ok.ensures.looks; left_others = c.in-Ok.ensures.others; right = c.in-Ok-look.ensures.looks; right_others = c.in-Ok-look.ensures.others })
    c.take_head.new.self c.in-None.ensures)
