use Rattle.hj_base.specs.declared.numbers.Side.TheVariants as sides
use Rattle.hj_chain_tests.proofs.stores.run.Given as goal

-- the store still suits the join
abbrev pub invariant-loop-step : goal.invariant-loop-step
invariant-loop-step g l = g.S.Store.suits l.store sides.Left l.join
