use Rattle.std.proofs.Common.{◌≡◌, ◌≤◌, ℕ, Bool, true, false, length, refl, sym, ap, subst, arith}
use Rattle.std.specs.Prelude.{◌&&◌, is_none}
use Rattle.hj_chain.specs.Serial.{actors, chosen, place_behind}
use Rattle.hj_chain.proofs.ChosenActors.{within-all}
use Rattle.hj_chain.proofs.Sweeping.{named-by-draw}
use Rattle.hj_trace.specs.declared.naming.Naming.{Naming}
use Rattle.hj_trace.specs.Choosing.{choosing_in}
use Rattle.hj_trace.proofs.naming.Naming.name.Goals as goal

and_false : (b : Bool) → false ≡ (b && false)
and_false true = refl
and_false false = refl

pub returns-in-Drawn-clause-named : goal.returns-in-Drawn-clause-named
returns-in-Drawn-clause-named g c =
    let named = named-by-draw c.args.chain.now.state true c.in-Drawn.lcg c.draw.new.self c.draw.result c.drawn.result c.draw.ensures.number c.draw.ensures.held (c.drawn.ensures true (and_false (is_none c.args.chain.now.state.next))) in
    subst (λ (n : Naming). c.drawn.result ≡ chosen (choosing_in n) true c.args.chain.now.state) (sym c.in-Drawn.is) named

pub returns-in_ok-actor-in-From-clause-within : goal.returns-in_ok-actor-in-From-clause-within
returns-in_ok-actor-in-From-clause-within g c =
    let actor = c.in_ok-actor-in-From.actor in
    let low : place_behind (length c.args.chain.now.state.cores) actor ≤ length (actors (length c.args.chain.now.state.cores)) =
    within-all c.args.chain.now.state false c.in-From.place c.first_from.result c.first_from.ensures actor c.in_ok-actor-in-From.was in
    omega (arith, low, c.place_behind.ensures, ap (λ (n : ℕ). place_behind n actor) c.cores.ensures.count)
