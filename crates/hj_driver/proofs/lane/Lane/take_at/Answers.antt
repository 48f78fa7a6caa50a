use Rattle.std.proofs.Common.{◌≡◌, ℕ, List, get_or, set, ap, sym, subst, arith, ◌∙◌}
use Rattle.std.specs.List.{filter_map, remove}
use Rattle.std.proofs.lemmas.List.{set-get_or}
use Rattle.hj_driver.specs.Lane.{LaneState, IsRising, IsAt, after_departure}
use Rattle.hj_driver.proofs.Arrivals.{marked, removed, rising_after, lane_with}
use Rattle.hj_driver.proofs.lane.Lane.take_at.Goals as goal

-- an element that was looked at, and not written
unchanged : {X : Type 0} (l : List X) (at : ℕ) (x : X) → x ≡ get_or l at x → remove (set l at x) at ≡ remove l at
unchanged {X} l at x read = ap (λ (xs : List X). remove xs at) (ap (λ (y : X). set l at y) read ∙ set-get_or l at x)

pub invariant_of-self : goal.invariant_of-self
invariant_of-self c =
    let l = c.self.inside.arrivals.items in
    let is : IsAt l c.args.no.0 c.args.at = subst (λ (s : LaneState). IsAt s.arrivals c.args.no.0 c.args.at) (sym c.self.view_is) c.requires in
    let rising = subst IsRising (sym (marked l c.self.invariant.rising c.args.no.0 c.args.at is c.args.departure c.index_mut-arrival.result.now c.in-Some.after c.index_mut-arrival.ensures.value (sym c.in-Some.ensures))) (rising_after c.args.no.0 c.args.departure l c.self.invariant.rising) in
    record { rising = rising; distinct = c.self.invariant.distinct; for_arrivals = c.self.invariant.for_arrivals; for_expiries = c.self.invariant.for_expiries }

pub invariant_of-self-in-None : goal.invariant_of-self-in-None
invariant_of-self-in-None c =
    let l = c.self.inside.arrivals.items in
    let is : IsAt l c.args.no.0 c.args.at = subst (λ (s : LaneState). IsAt s.arrivals c.args.no.0 c.args.at) (sym c.self.view_is) c.requires in
    let items = c.take_out.ensures.items ∙ unchanged l c.args.at c.index_mut-arrival.result.now c.index_mut-arrival.ensures.value in
    let after = items ∙ removed l c.self.invariant.rising c.args.no.0 c.args.at is c.args.departure c.index_mut-arrival.result.now c.index_mut-arrival.ensures.value (sym c.in-None.ensures) in
    record { rising = subst IsRising (sym after) (rising_after c.args.no.0 c.args.departure l c.self.invariant.rising); distinct = c.self.invariant.distinct; for_arrivals = omega (arith, c.take_out.ensures.capacity, c.self.invariant.for_arrivals); for_expiries = c.self.invariant.for_expiries }

pub returns-in-Some : goal.returns-in-Some
returns-in-Some c =
    let l = c.self.inside.arrivals.items in
    let is : IsAt l c.args.no.0 c.args.at = subst (λ (s : LaneState). IsAt s.arrivals c.args.no.0 c.args.at) (sym c.self.view_is) c.requires in
    lane_with c.args.self.now l _ c.self.inside.expiries.items c.self.inside.room (filter_map (after_departure c.args.no.0 c.args.departure)) c.self.view_is
    (marked l c.self.invariant.rising c.args.no.0 c.args.at is c.args.departure c.index_mut-arrival.result.now c.in-Some.after c.index_mut-arrival.ensures.value (sym c.in-Some.ensures))

pub returns-in-None : goal.returns-in-None
returns-in-None c =
    let l = c.self.inside.arrivals.items in
    let is : IsAt l c.args.no.0 c.args.at = subst (λ (s : LaneState). IsAt s.arrivals c.args.no.0 c.args.at) (sym c.self.view_is) c.requires in
    let items = c.take_out.ensures.items ∙ unchanged l c.args.at c.index_mut-arrival.result.now c.index_mut-arrival.ensures.value in
    lane_with c.args.self.now l _ c.self.inside.expiries.items c.self.inside.room (filter_map (after_departure c.args.no.0 c.args.departure)) c.self.view_is
    (items ∙ removed l c.self.invariant.rising c.args.no.0 c.args.at is c.args.departure c.index_mut-arrival.result.now c.index_mut-arrival.ensures.value (sym c.in-None.ensures))
