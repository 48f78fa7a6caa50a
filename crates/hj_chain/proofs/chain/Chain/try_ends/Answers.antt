use Rattle.std.proofs.Common.{◌≡◌, ℕ, ◌+◌, ◌*◌, ◌<◌, true, length, sym, ap, ◌∙◌, subst, arith}
use Rattle.std.proofs.lemmas.List.{length-map}
use Rattle.hj_core.specs.Contents.{state_of}
use Rattle.hj_chain.specs.Chain.{Contents}
use Rattle.hj_chain.specs.Sweep.{Sweeps}
use Rattle.hj_chain.proofs.Trying.{left-end-there, right-end-there}
use Rattle.hj_chain.proofs.chain.Chain.try_ends.Goals as goal

pub try_end-requires-clause-within : goal.try_end-requires-clause-within
try_end-requires-clause-within g c =
    let n : c.len-place-end.result ≡ length c.args.self.now.state.cores = (c.len-place-end.ensures ∙ c.self.inside.cores.ok.0 ∙ sym (length-map c.self.inside.cores.items (state_of g.S.Store.entries)) ∙ ap (λ (k : Contents g.row.P.Denot g.row.J.Denot). length k.state.cores) c.self.view_is) in
    omega (arith, n, c.loop-place.invariant.cores)

pub try_end-requires-in-loop-place-clause-within : goal.try_end-requires-in-loop-place-clause-within
try_end-requires-in-loop-place-clause-within g c =
    let n : c.len-place-end.result ≡ length c.args.self.now.state.cores = (c.len-place-end.ensures ∙ c.self.inside.cores.ok.0 ∙ sym (length-map c.self.inside.cores.items (state_of g.S.Store.entries)) ∙ ap (λ (k : Contents g.row.P.Denot g.row.J.Denot). length k.state.cores) c.self.view_is) in
    omega (arith, n, c.loop-place.invariant.cores, c.try_end.ensures.cores c.if-not-try_end.false)

pub returns-then-not-try_end-clause-runs_out : goal.returns-then-not-try_end-clause-runs_out
returns-then-not-try_end-clause-runs_out g c =
    let n : c.len-place-end.result ≡ length c.args.self.now.state.cores = (c.len-place-end.ensures ∙ c.self.inside.cores.ok.0 ∙ sym (length-map c.self.inside.cores.items (state_of g.S.Store.entries)) ∙ ap (λ (k : Contents g.row.P.Denot g.row.J.Denot). length k.state.cores) c.self.view_is) in
    let p = c.loop-place.place in
    let low : p < length c.loop-place.self.state.cores = omega (arith, n, c.loop-place.invariant.cores) in
    let left = left-end-there c.loop-place.self p low in
    λ none first before begun begins. c.try_end.ensures.runs_out c.if-not-try_end.true first (2 * p + 3) before begun left (c.loop-place.invariant.sweeps first before begun begins)

pub returns-then-not-try_end-2-clause-runs_out : goal.returns-then-not-try_end-2-clause-runs_out
returns-then-not-try_end-2-clause-runs_out g c =
    let n : c.len-place-end.result ≡ length c.args.self.now.state.cores = (c.len-place-end.ensures ∙ c.self.inside.cores.ok.0 ∙ sym (length-map c.self.inside.cores.items (state_of g.S.Store.entries)) ∙ ap (λ (k : Contents g.row.P.Denot g.row.J.Denot). length k.state.cores) c.self.view_is) in
    let p = c.loop-place.place in
    let low : p < length c.loop-place.self.state.cores = omega (arith, n, c.loop-place.invariant.cores) in
    let left = left-end-there c.loop-place.self p low in
    let yes : c.try_end.result ≡ true = c.if-not-try_end.false in
    let same : length c.try_end.new.self.state.cores ≡ length c.loop-place.self.state.cores = c.try_end.ensures.cores yes in
    let right = right-end-there c.try_end.new.self p (omega (arith, low, same)) in
    λ none first before begun begins.
    c.try_end-in-loop-place.ensures.runs_out c.if-not-try_end-2.true first (2 * p + 3 + 1) before begun right (c.try_end.ensures.sweeps yes first (2 * p + 3) before begun left (c.loop-place.invariant.sweeps first before begun begins))

pub loop-place-preserved : goal.loop-place-preserved
loop-place-preserved g c =
    let n : c.len-place-end.result ≡ length c.args.self.now.state.cores = (c.len-place-end.ensures ∙ c.self.inside.cores.ok.0 ∙ sym (length-map c.self.inside.cores.items (state_of g.S.Store.entries)) ∙ ap (λ (k : Contents g.row.P.Denot g.row.J.Denot). length k.state.cores) c.self.view_is) in
    let p = c.loop-place.place in
    let low : p < length c.loop-place.self.state.cores = omega (arith, n, c.loop-place.invariant.cores) in
    let left = left-end-there c.loop-place.self p low in
    let yes : c.try_end.result ≡ true = c.if-not-try_end.false in
    let same : length c.try_end.new.self.state.cores ≡ length c.loop-place.self.state.cores = c.try_end.ensures.cores yes in
    let right = right-end-there c.try_end.new.self p (omega (arith, low, same)) in
    let further : c.try_end-in-loop-place.result ≡ true = c.if-not-try_end-2.false in
    let behind : 2 * p + 3 + 1 + 1 ≡ 2 * (p + 1) + 3 = omega arith in
    record {
      going = c.try_end-in-loop-place.ensures.going further;
      cores = c.try_end-in-loop-place.ensures.cores further ∙ same ∙ c.loop-place.invariant.cores;
      sweeps = λ first before begun begins.
          subst (λ (at : ℕ). Sweeps g.J.Join.predicate first before begun at c.try_end-in-loop-place.new.sweep.moved c.try_end-in-loop-place.new.self) behind
          (c.try_end-in-loop-place.ensures.sweeps further first (2 * p + 3 + 1) before begun right (c.try_end.ensures.sweeps yes first (2 * p + 3) before begun left (c.loop-place.invariant.sweeps first before begun begins)));
    }

pub returns-clause-sweeps : goal.returns-clause-sweeps
returns-clause-sweeps g c =
    let n : c.len-place-end.result ≡ length c.args.self.now.state.cores = (c.len-place-end.ensures ∙ c.self.inside.cores.ok.0 ∙ sym (length-map c.self.inside.cores.items (state_of g.S.Store.entries)) ∙ ap (λ (k : Contents g.row.P.Denot g.row.J.Denot). length k.state.cores) c.self.view_is) in
    let p = c.loop-place.place in
    let all : 2 * p + 3 ≡ 2 * length c.args.self.now.state.cores + 3 = omega (arith, n) in
    λ yes first before begun begins. subst (λ (at : ℕ). Sweeps g.J.Join.predicate first before begun at c.loop-place.sweep.moved c.loop-place.self) all (c.loop-place.invariant.sweeps first before begun begins)
