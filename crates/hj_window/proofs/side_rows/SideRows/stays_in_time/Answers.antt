use Rattle.std.proofs.Common.{◌≡◌, ◌<◌, ◌≤ℤ◌, ◌++◌, ◌∷◌, [], length, ap, subst, arith, rules}
use Rattle.std.proofs.lemmas.Int.{ints}
use Rattle.std.specs.VecDeque.{deque_len}
use mir.Val.{SFits}
use mir.Syntax.{w64}
use Rattle.hj_window.specs.SideRows.{IsInTime}
use Rattle.hj_window.proofs.SideLemmas.{in_time_push}
use Rattle.hj_window.proofs.side_rows.SideRows.stays_in_time.Goals as goal

pub returns-then-self : goal.returns-then-self
returns-then-self c = λ holds.
    let rows = c.self.inside.rows.items in
    let fits : SFits w64 c.in-Some.newest.now.time = search rules in
    let fits_too : SFits w64 c.args.held.time = search rules in
    let order : c.in-Some.newest.now.time ≤ℤ c.args.held.time = grind (arith, ints) in
    let count : deque_len c.self.inside.rows ≡ length rows = search rules in
    let some : 0 < deque_len c.self.inside.rows = search rules in
    subst (λ l. IsInTime (l ++ c.args.held ∷ [])) (ap (λ k. k.rows) c.self.view_is)
    (in_time_push rows c.in-Some.newest.now c.args.held _ (c.self.invariant c.if-self.true) count some c.in-Some.ensures.lookup order)
