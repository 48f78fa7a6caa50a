use Rattle.std.proofs.Common.{rules, ◌∙◌, ap}
use Rattle.hj_link.proofs.Seats.{joins}
use Rattle.hj_link.proofs.Moves.{learned}
use Rattle.hj_link.proofs.opening.join.Goals as goal

pub join_seat-requires : goal.join_seat-requires
join_seat-requires g c = let l = c.left.invariant.1 in let r = c.right.invariant.1 in
    (search rules, search rules, r.no_slot, search rules, joins _ _ _ _ _ l.has l.alone r.has r.alone)

pub load-requires : goal.load-requires
load-requires g c = let l = c.left.invariant.1 in let r = c.right.invariant.1 in let me = c.join_seat.new.seat.me in
    (search rules, search rules, learned _ _ _ me (ap (λ m. m.0.has_left) c.join_seat.ensures.2 ∙ l.has) (ap (λ m. m.0.has_right) c.join_seat.ensures.2 ∙ r.has))
