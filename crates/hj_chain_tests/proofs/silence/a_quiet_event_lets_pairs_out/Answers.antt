use Rattle.hj_chain_tests.proofs.silence.a_quiet_event_lets_pairs_out.Goals as goal

pub put_quiet-requires : goal.put_quiet-requires
put_quiet-requires g c = c.next_pair.ensures _ c.handle_all.ensures
