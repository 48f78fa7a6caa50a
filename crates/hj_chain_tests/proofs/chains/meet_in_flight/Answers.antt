use Rattle.hj_chain_tests.proofs.chains.meet_in_flight.Goals as goal

pub run_rounds-requires : goal.run_rounds-requires
run_rounds-requires g c = c.gives_none.ensures _ c.step_all.ensures
