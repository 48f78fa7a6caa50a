use Rattle.std.proofs.Common.{◌≡◌, ◌-◌, ℕ, length, take, drop, ap, sym, ◌∙◌, arith}
use Rattle.std.proofs.lemmas.List.{length-map, length-drop}
use Rattle.hj_core.specs.Contents.{state_of}
use Rattle.hj_chain.specs.Chain.{Contents}
use Rattle.hj_chain.specs.Serial.{actors, is_enabled}
use Rattle.hj_chain.proofs.Looking.{first-behind, first-round, take-whole}
use Rattle.hj_chain.proofs.chain.Chain.first_round.Goals as goal

pub returns-in-None : goal.returns-in-None
returns-in-None g c =
    let n : c.len.result ≡ length c.args.self.now.state.cores = (c.len.ensures ∙ c.self.inside.cores.ok.0 ∙ sym (length-map c.self.inside.cores.items (state_of g.S.Store.entries)) ∙ ap (λ (k : Contents g.row.P.Denot g.row.J.Denot). length k.state.cores) c.self.view_is) in
    let all = actors (length c.args.self.now.state.cores) in
    let test = is_enabled c.args.self.now.state in
    let back : take (c.count.result - c.args.place) (drop c.args.place all) ≡ drop c.args.place all =
    take-whole (drop c.args.place all) (c.count.result - c.args.place) (omega (arith, c.count.ensures, ap (λ (m : ℕ). length (actors m)) n, length-drop c.args.place all)) in
    first-round test _ (drop c.args.place all) (take (c.args.place - c.args.passed) (drop c.args.passed all)) c.first_enabled.result c.first_enabled-in-None.result back c.first_enabled.ensures c.in-None.is c.first_enabled-in-None.ensures

pub returns-in_default : goal.returns-in_default
returns-in_default g c =
    let n : c.len.result ≡ length c.args.self.now.state.cores = (c.len.ensures ∙ c.self.inside.cores.ok.0 ∙ sym (length-map c.self.inside.cores.items (state_of g.S.Store.entries)) ∙ ap (λ (k : Contents g.row.P.Denot g.row.J.Denot). length k.state.cores) c.self.view_is) in
    let all = actors (length c.args.self.now.state.cores) in
    let test = is_enabled c.args.self.now.state in
    let back : take (c.count.result - c.args.place) (drop c.args.place all) ≡ drop c.args.place all =
    take-whole (drop c.args.place all) (c.count.result - c.args.place) (omega (arith, c.count.ensures, ap (λ (m : ℕ). length (actors m)) n, length-drop c.args.place all)) in
    first-behind test _ (drop c.args.place all) (take (c.args.place - c.args.passed) (drop c.args.passed all)) c.first_enabled.result back c.first_enabled.ensures c.in_default.not-None
