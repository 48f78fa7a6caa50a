use Rattle.std.proofs.Common.{false, true, ◌≡◌, ◌+◌, ◌≤◌, ℕ, Some, [], ◌∷◌, length, filter, take, ap, sym, ◌∙◌, subst, refl, arith, length-append}
use Rattle.std.specs.List.{slice_get}
use Rattle.std.proofs.lemmas.List.{length-map}
use Rattle.hj_core.specs.Contents.{state_of}
use Rattle.hj_chain.specs.Chain.{Contents}
use Rattle.hj_chain.specs.Serial.{actors, is_enabled}
use Rattle.hj_chain.proofs.ActorOrder.{length-actors}
use Rattle.hj_chain.proofs.NoneEnabled.{none_enabled}
use Rattle.hj_chain.proofs.Looking.{filtered, one-more, none-more, passed-all, seen-so}
use Rattle.hj_chain.proofs.chain.Chain.enabled.Goals as goal
use Rattle.hj_chain.proofs.chain.Chain.enabled.Goals.{then-is_enabled, else-is_enabled}

pub overflow_add-count : goal.overflow_add-count
overflow_add-count g c =
    let n : c.len-cores.result ≡ length c.args.self.now.state.cores = (c.len-cores.ensures ∙ c.self.inside.cores.ok.0 ∙ sym (length-map c.self.inside.cores.items (state_of g.S.Store.entries)) ∙ ap (λ (k : Contents g.row.P.Denot g.row.J.Denot). length k.state.cores) c.self.view_is) in
    omega (
      arith,
      c.loop-place.invariant,
      c.loop-place.auto.place-end,
      c.count-place-end.ensures,
      length-actors c.len-cores.result,
      c.self.invariant.few,
      c.len-cores.ensures,
      c.self.inside.cores.ok.0,
      filtered (is_enabled c.args.self.now.state) c.loop-place.place (actors (length c.args.self.now.state.cores)),
    )

pub loop-place-preserved : goal.loop-place-preserved
loop-place-preserved g c =
    let n : c.len-cores.result ≡ length c.args.self.now.state.cores = (c.len-cores.ensures ∙ c.self.inside.cores.ok.0 ∙ sym (length-map c.self.inside.cores.items (state_of g.S.Store.entries)) ∙ ap (λ (k : Contents g.row.P.Denot g.row.J.Denot). length k.state.cores) c.self.view_is) in
    let all = actors (length c.args.self.now.state.cores) in
    let here : slice_get all c.loop-place.place ≡ Some c.at.result = subst (λ (m : ℕ). slice_get (actors m) c.loop-place.place ≡ Some c.at.result) n c.at.ensures.actor in
    elim c.if-is_enabled.branch [
      | then-is_enabled w ↦
          omega (
            arith,
            w.count-is,
            c.loop-place.invariant,
            ap length (one-more (is_enabled c.args.self.now.state) all c.loop-place.place c.at.result here (seen-so c.is_enabled.result (is_enabled c.args.self.now.state c.at.result) true c.is_enabled.ensures w.if-is_enabled.true) (c.loop-place.place + 1) refl),
            length-append (filter (is_enabled c.args.self.now.state) (take c.loop-place.place all)) (c.at.result ∷ []),
          )
      | else-is_enabled w ↦
          omega (
            arith,
            w.count-is,
            c.loop-place.invariant,
            ap length (none-more (is_enabled c.args.self.now.state) all c.loop-place.place c.at.result here (seen-so c.is_enabled.result (is_enabled c.args.self.now.state c.at.result) false c.is_enabled.ensures w.if-is_enabled.false) (c.loop-place.place + 1) refl),
          )
    ]

pub returns-clause-none : goal.returns-clause-none
returns-clause-none g c = λ schedule events given stands.
    let n : c.len-cores.result ≡ length c.args.self.now.state.cores = (c.len-cores.ensures ∙ c.self.inside.cores.ok.0 ∙ sym (length-map c.self.inside.cores.items (state_of g.S.Store.entries)) ∙ ap (λ (k : Contents g.row.P.Denot g.row.J.Denot). length k.state.cores) c.self.view_is) in
    let all = actors (length c.args.self.now.state.cores) in
    let whole : length all ≤ c.loop-place.place = omega (arith, c.loop-place.auto.place-end, c.count-place-end.ensures, ap (λ (m : ℕ). length (actors m)) n) in
    none_enabled g.J.Join.predicate c.args.self.now schedule events given stands
    (subst (λ (k : Contents g.row.P.Denot g.row.J.Denot). 1 ≤ k.state.driver.flight) c.self.view_is c.self.invariant.flight)
    c.loop-place.count (passed-all (is_enabled c.args.self.now.state) all c.loop-place.place c.loop-place.count whole c.loop-place.invariant)
