use Rattle.std.proofs.Common.{◌≡◌, ℕ, ◌+◌, ◌*◌, length, sym, ap, ◌∙◌, subst, arith}
use Rattle.std.proofs.lemmas.List.{length-map}
use Rattle.hj_core.specs.Contents.{state_of}
use Rattle.hj_chain.specs.Chain.{Contents}
use Rattle.hj_chain.specs.Sweep.{Collects}
use Rattle.hj_chain.proofs.Trying.{collection-there}
use Rattle.hj_chain.proofs.chain.Chain.try_reports.Goals as goal

pub try_report-requires-clause-within : goal.try_report-requires-clause-within
try_report-requires-clause-within g c =
    let n : c.len-place-end.result ≡ length c.args.self.now.state.cores = (c.len-place-end.ensures ∙ c.self.inside.cores.ok.0 ∙ sym (length-map c.self.inside.cores.items (state_of g.S.Store.entries)) ∙ ap (λ (k : Contents g.row.P.Denot g.row.J.Denot). length k.state.cores) c.self.view_is) in
    omega (arith, n, c.loop-place.invariant.cores)

pub returns-in-Some-clause-ends : goal.returns-in-Some-clause-ends
returns-in-Some-clause-ends g c =
    let n : c.len-place-end.result ≡ length c.args.self.now.state.cores = (c.len-place-end.ensures ∙ c.self.inside.cores.ok.0 ∙ sym (length-map c.self.inside.cores.items (state_of g.S.Store.entries)) ∙ ap (λ (k : Contents g.row.P.Denot g.row.J.Denot). length k.state.cores) c.self.view_is) in
    let p = c.loop-place.place in
    let all = length c.args.self.now.state.cores in
    let there = collection-there c.loop-place.self all p c.loop-place.invariant.cores (omega (arith, n)) in
    λ first before begun unfilled begins. c.in-Some.ensures.ends first (2 * all + p + 3) before begun unfilled there (c.loop-place.invariant.collects first before begun unfilled begins)

pub loop-place-preserved : goal.loop-place-preserved
loop-place-preserved g c =
    let n : c.len-place-end.result ≡ length c.args.self.now.state.cores = (c.len-place-end.ensures ∙ c.self.inside.cores.ok.0 ∙ sym (length-map c.self.inside.cores.items (state_of g.S.Store.entries)) ∙ ap (λ (k : Contents g.row.P.Denot g.row.J.Denot). length k.state.cores) c.self.view_is) in
    let p = c.loop-place.place in
    let all = length c.args.self.now.state.cores in
    let there = collection-there c.loop-place.self all p c.loop-place.invariant.cores (omega (arith, n)) in
    let behind : 2 * all + p + 3 + 1 ≡ 2 * all + (p + 1) + 3 = omega arith in
    record {
      going = c.in_default.ensures.going;
      cores = c.in_default.ensures.cores ∙ c.loop-place.invariant.cores;
      collects = λ first before begun unfilled begins.
          subst (λ (at : ℕ). Collects g.D.Drain.takes g.J.Join.predicate first before begun unfilled at c.try_report.new.sweep.moved c.try_report.new.self c.try_report.new.drain) behind
          (c.in_default.ensures.collects first (2 * all + p + 3) before begun unfilled there (c.loop-place.invariant.collects first before begun unfilled begins));
    }

pub returns-clause-collects : goal.returns-clause-collects
returns-clause-collects g c =
    let n : c.len-place-end.result ≡ length c.args.self.now.state.cores = (c.len-place-end.ensures ∙ c.self.inside.cores.ok.0 ∙ sym (length-map c.self.inside.cores.items (state_of g.S.Store.entries)) ∙ ap (λ (k : Contents g.row.P.Denot g.row.J.Denot). length k.state.cores) c.self.view_is) in
    let p = c.loop-place.place in
    let all = length c.args.self.now.state.cores in
    let whole : 2 * all + p + 3 ≡ 3 * all + 3 = omega (arith, n) in
    λ first before begun unfilled begins.
    subst (λ (at : ℕ). Collects g.D.Drain.takes g.J.Join.predicate first before begun unfilled at c.loop-place.sweep.moved c.loop-place.self c.loop-place.drain) whole (c.loop-place.invariant.collects first before begun unfilled begins)
