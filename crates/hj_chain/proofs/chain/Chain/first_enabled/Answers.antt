use Rattle.std.proofs.Common.{false, true, ◌≡◌, ◌+◌, ◌-◌, ℕ, Some, length, drop, ap, sym, ◌∙◌, subst, arith}
use Rattle.std.specs.List.{slice_get}
use Rattle.std.proofs.lemmas.List.{length-map}
use Rattle.hj_core.specs.Contents.{state_of}
use Rattle.hj_chain.specs.Chain.{Contents}
use Rattle.hj_chain.specs.Serial.{actors, is_enabled}
use Rattle.hj_chain.proofs.Looking.{at-dropped, found-first, none-more, seen-so}
use Rattle.hj_chain.proofs.chain.Chain.first_enabled.Goals as goal

pub returns-then-is_enabled : goal.returns-then-is_enabled
returns-then-is_enabled g c =
    let n : c.len-cores.result ≡ length c.args.self.now.state.cores = (c.len-cores.ensures ∙ c.self.inside.cores.ok.0 ∙ sym (length-map c.self.inside.cores.items (state_of g.S.Store.entries)) ∙ ap (λ (k : Contents g.row.P.Denot g.row.J.Denot). length k.state.cores) c.self.view_is) in
    let all = actors (length c.args.self.now.state.cores) in
    let test = is_enabled c.args.self.now.state in
    let i : ℕ = c.loop-place.place - c.args.from in
    let here : slice_get all c.loop-place.place ≡ Some c.at-actor.result = subst (λ (m : ℕ). slice_get (actors m) c.loop-place.place ≡ Some c.at-actor.result) n c.at-actor.ensures.actor in
    let there : slice_get (drop c.args.from all) i ≡ Some c.at-actor.result = at-dropped all c.args.from c.loop-place.place i (omega (arith, c.loop-place.auto.place)) ∙ here in
    let passes : test c.at-actor.result ≡ true = seen-so c.is_enabled.result (test c.at-actor.result) true c.is_enabled.ensures c.if-is_enabled.true in
    found-first test (drop c.args.from all) i c.at-actor.result there passes c.loop-place.invariant (c.args.to - c.args.from) (omega (arith, c.loop-place-test.true, c.loop-place.auto.place))

pub loop-place-preserved : goal.loop-place-preserved
loop-place-preserved g c =
    let n : c.len-cores.result ≡ length c.args.self.now.state.cores = (c.len-cores.ensures ∙ c.self.inside.cores.ok.0 ∙ sym (length-map c.self.inside.cores.items (state_of g.S.Store.entries)) ∙ ap (λ (k : Contents g.row.P.Denot g.row.J.Denot). length k.state.cores) c.self.view_is) in
    let all = actors (length c.args.self.now.state.cores) in
    let i : ℕ = c.loop-place.place - c.args.from in
    let here : slice_get all c.loop-place.place ≡ Some c.at-actor.result = subst (λ (m : ℕ). slice_get (actors m) c.loop-place.place ≡ Some c.at-actor.result) n c.at-actor.ensures.actor in
    let there : slice_get (drop c.args.from all) i ≡ Some c.at-actor.result = at-dropped all c.args.from c.loop-place.place i (omega (arith, c.loop-place.auto.place)) ∙ here in
    none-more (is_enabled c.args.self.now.state) (drop c.args.from all) i c.at-actor.result there (seen-so c.is_enabled.result (is_enabled c.args.self.now.state c.at-actor.result) false c.is_enabled.ensures c.if-is_enabled.false) (c.loop-place.place + 1 - c.args.from) (omega (arith, c.loop-place.auto.place)) ∙ c.loop-place.invariant
