use Rattle.std.proofs.Common.{false, true, ◌≡◌, ◌+◌, ◌<◌, ℕ, List, Some, [], ◌∷◌, length, filter, take, ap, sym, ◌∙◌, subst, refl, arith, length-append}
use Rattle.std.specs.List.{slice_get}
use Rattle.std.proofs.lemmas.List.{length-map}
use Rattle.std.proofs.lemmas.Option.{slice_get_past}
use Rattle.hj_core.specs.Contents.{state_of}
use Rattle.hj_chain.specs.declared.actor.Actor.{Actor}
use Rattle.hj_chain.specs.Chain.{Contents}
use Rattle.hj_chain.specs.Serial.{actors, is_enabled}
use Rattle.hj_chain.proofs.Looking.{found, one-more, none-more, seen-so, take-whole}
use Rattle.hj_chain.proofs.chain.Chain.nth.Goals as goal
use Rattle.hj_chain.proofs.chain.Chain.nth.Goals.{then-is_enabled+else-passed-at, else-is_enabled}

pub returns-then-passed-at : goal.returns-then-passed-at
returns-then-passed-at g c =
    let n : c.len-cores.result ≡ length c.args.self.now.state.cores = (c.len-cores.ensures ∙ c.self.inside.cores.ok.0 ∙ sym (length-map c.self.inside.cores.items (state_of g.S.Store.entries)) ∙ ap (λ (k : Contents g.row.P.Denot g.row.J.Denot). length k.state.cores) c.self.view_is) in
    let all = actors (length c.args.self.now.state.cores) in
    let test = is_enabled c.args.self.now.state in
    let here : slice_get all c.loop-place.place ≡ Some c.at-actor.result = subst (λ (m : ℕ). slice_get (actors m) c.loop-place.place ≡ Some c.at-actor.result) n c.at-actor.ensures.actor in
    let within : c.loop-place.place < length all = omega (arith, c.loop-place-test.true, c.count-place-end.ensures, ap (λ (m : ℕ). length (actors m)) n) in
    let stands = found test all c.loop-place.place c.at-actor.result here (seen-so c.is_enabled.result (test c.at-actor.result) true c.is_enabled.ensures c.if-is_enabled.true) (length all) within in
    let at : length (filter test (take c.loop-place.place all)) ≡ c.args.at = seen-so c.loop-place.passed (length (filter test (take c.loop-place.place all))) c.args.at c.loop-place.invariant.passed c.if-passed-at.true in
    sym (subst (λ (k : ℕ). slice_get (filter test all) k ≡ Some c.at-actor.result) at (subst (λ (l : List Actor). slice_get (filter test l) (length (filter test (take c.loop-place.place all))) ≡ Some c.at-actor.result) (take-whole all (length all) (omega arith)) stands))

pub loop-place-preserved : goal.loop-place-preserved
loop-place-preserved g c =
    let n : c.len-cores.result ≡ length c.args.self.now.state.cores = (c.len-cores.ensures ∙ c.self.inside.cores.ok.0 ∙ sym (length-map c.self.inside.cores.items (state_of g.S.Store.entries)) ∙ ap (λ (k : Contents g.row.P.Denot g.row.J.Denot). length k.state.cores) c.self.view_is) in
    let all = actors (length c.args.self.now.state.cores) in
    let here : slice_get all c.loop-place.place ≡ Some c.at-actor.result = subst (λ (m : ℕ). slice_get (actors m) c.loop-place.place ≡ Some c.at-actor.result) n c.at-actor.ensures.actor in
    elim c.if-is_enabled.branch [
      | then-is_enabled+else-passed-at w ↦ record {
        passed =
            omega (
              arith,
              w.passed-is,
              c.loop-place.invariant.passed,
              ap length (one-more (is_enabled c.args.self.now.state) all c.loop-place.place c.at-actor.result here (seen-so c.is_enabled.result (is_enabled c.args.self.now.state c.at-actor.result) true c.is_enabled.ensures w.if-is_enabled.true) (c.loop-place.place + 1) refl),
              length-append (filter (is_enabled c.args.self.now.state) (take c.loop-place.place all)) (c.at-actor.result ∷ []),
            );
        within = omega (arith, w.passed-is, w.if-passed-at.false, c.loop-place.invariant.within);
      }
      | else-is_enabled w ↦ record {
        passed =
            omega (
              arith,
              w.passed-is,
              c.loop-place.invariant.passed,
              ap length (none-more (is_enabled c.args.self.now.state) all c.loop-place.place c.at-actor.result here (seen-so c.is_enabled.result (is_enabled c.args.self.now.state c.at-actor.result) false c.is_enabled.ensures w.if-is_enabled.false) (c.loop-place.place + 1) refl),
            );
        within = omega (arith, w.passed-is, c.loop-place.invariant.within);
      }
    ]

pub returns : goal.returns
returns g c =
    let n : c.len-cores.result ≡ length c.args.self.now.state.cores = (c.len-cores.ensures ∙ c.self.inside.cores.ok.0 ∙ sym (length-map c.self.inside.cores.items (state_of g.S.Store.entries)) ∙ ap (λ (k : Contents g.row.P.Denot g.row.J.Denot). length k.state.cores) c.self.view_is) in
    let all = actors (length c.args.self.now.state.cores) in
    let test = is_enabled c.args.self.now.state in
    sym (slice_get_past (filter test all) c.args.at
    (omega (
      arith,
      c.loop-place.invariant.within,
      c.loop-place.invariant.passed,
      ap (λ (l : List Actor). length (filter test l)) (take-whole all c.loop-place.place (omega (arith, c.loop-place-test.false, c.count-place-end.ensures, ap (λ (m : ℕ). length (actors m)) n))),
    )))
