use Rattle.std.proofs.Common.{◌≡◌, ℕ, ◌<◌, List, [], ◌∷◌, get_or, refl, ap, subst, arith}
use Rattle.std.specs.List.{filter_map}
use Rattle.std.proofs.lemmas.List.Elements.{All-cons, All-nil}
use Rattle.hj_driver.specs.declared.lane.OutstandingArrival.{OutstandingArrival}
use Rattle.hj_driver.specs.Lane.{LaneState, IsAbsent, IsRising, after_departure}
use Rattle.hj_driver.proofs.Arrivals.{none_changes, lane_with}
use Rattle.hj_driver.proofs.lane.Lane.take.Goals as goal

-- a number below the first one is none of theirs
absent_below : (l : List OutstandingArrival) → IsRising l → (number : ℕ) (x : OutstandingArrival) → x ≡ get_or l 0 x → number < x.no.0
    → IsAbsent l number
absent_below [] rising number x e less = All-nil (λ (a : OutstandingArrival). ¬ (a.no.0 ≡ number))
absent_below (y ∷ ys) rising number x e less =
    let first : x.no.0 ≡ y.no.0 = ap (λ (a : OutstandingArrival). a.no.0) e in
    All-cons (λ (a : OutstandingArrival). ¬ (a.no.0 ≡ number)) y ys (λ same. omega (arith, first, less, same)) (λ k d lt same. let above = rising.0 k d lt in omega (arith, first, less, above, same))

pub returns-in-Some-2 : goal.returns-in-Some-2
returns-in-Some-2 c =
    let s = c.args.self.now in
    let absent = absent_below c.self.inside.arrivals.items c.self.invariant.rising c.args.no.0 c.in-Some.first.now c.in-Some.ensures.lookup c.if-no-first-2.true in
    lane_with s s.arrivals s.arrivals s.expiries s.room (filter_map (after_departure c.args.no.0 c.args.departure)) refl (none_changes s.arrivals c.args.no.0 c.args.departure (subst (λ (t : LaneState). IsAbsent t.arrivals c.args.no.0) c.self.view_is absent))
