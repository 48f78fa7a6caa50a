use Rattle.std.proofs.Common.{◌≡◌, ℕ, [], length, map, replicate, IfOk, arith, subst, sym}
use Rattle.hj_msg.specs.declared.feed.Given.{Given}
use Rattle.hj_msg.specs.Core.{empty_state}
use Rattle.hj_core.specs.Contents.{state_of}
use Rattle.hj_collect.specs.Collector.{nothing_taken}
use Rattle.hj_chain.specs.Chain.{empty_chain}
use Rattle.hj_chain.specs.Placed.{ArePlaced}
use Rattle.hj_chain.proofs.Making.{all-made}
use Rattle.hj_chain.proofs.chain.Chain.new.Goals as goal

pub of_cores-requires-clause-cores : goal.of_cores-requires-clause-cores
of_cores-requires-clause-cores g c =
    let all : length c.args.left.items ≡ length c.in_ok-cores.cores.items = all-made (state_of g.S.Store.entries) (length c.args.left.items) c.in_ok-cores.cores.items empty_state c.in_ok-cores.ensures.empty in
    (omega (arith, all, c.requires.cores.0), omega (arith, all, c.requires.cores.1))

pub of_cores-requires-clause-placed : goal.of_cores-requires-clause-placed
of_cores-requires-clause-placed g c =
    let all : length c.args.left.items ≡ length c.in_ok-cores.cores.items = all-made (state_of g.S.Store.entries) (length c.args.left.items) c.in_ok-cores.cores.items empty_state c.in_ok-cores.ensures.empty in
    subst (λ (n : ℕ). ArePlaced c.args.join n 0 c.in_ok-cores.cores.items) all c.in_ok-cores.ensures.placed

pub of_cores-requires-clause-empty : goal.of_cores-requires-clause-empty
of_cores-requires-clause-empty g c =
    let all : length c.args.left.items ≡ length c.in_ok-cores.cores.items = all-made (state_of g.S.Store.entries) (length c.args.left.items) c.in_ok-cores.cores.items empty_state c.in_ok-cores.ensures.empty in
    subst (λ (n : ℕ). map (state_of g.S.Store.entries) c.in_ok-cores.cores.items ≡ replicate n empty_state) all c.in_ok-cores.ensures.empty

pub returns-clause-begins : goal.returns-clause-begins
returns-clause-begins g c =
    let all : length c.args.left.items ≡ length c.in_ok-cores.cores.items = all-made (state_of g.S.Store.entries) (length c.args.left.items) c.in_ok-cores.cores.items empty_state c.in_ok-cores.ensures.empty in
    subst (λ (n : ℕ). IfOk c.of_cores.result (λ chain. (first : Given g.row.P.Denot) × (chain ≡ record { join = c.args.join; state = empty_chain n c.args.flight first; collector = nothing_taken n; kept = [] }) × g.F.Feed.gives c.args.feed.now first c.of_cores.new.feed)) (sym all) c.of_cores.ensures.begins
