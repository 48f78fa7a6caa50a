use Rattle.hj_stream.proofs.Between.{names, over, refused, same_out, same_outside, stopped}
use Rattle.hj_engine.proofs.serial.join_feed.Goals as goal

pub outcome_of-requires-clause-done : goal.outcome_of-requires-clause-done
outcome_of-requires-clause-done g c =
    stopped g.O.Outside g.K.Sink g.L.PairLine c.args.query.now c.requires.0 c.args.feed.now c.args.drain.now c.requires.1 c.run_chain-fin.new.feed c.run_chain-fin.new.drain c.run_chain-fin.result c.run_chain-fin.ensures

pub outcome_of-requires-clause-refused : goal.outcome_of-requires-clause-refused
outcome_of-requires-clause-refused g c =
    refused g.O.Outside g.K.Sink g.L.PairLine c.args.query.now c.requires.0 c.args.feed.now c.args.drain.now c.requires.1 c.run_chain-fin.new.feed c.run_chain-fin.new.drain c.run_chain-fin.result c.run_chain-fin.ensures

pub returns-clause-same_outside : goal.returns-clause-same_outside
returns-clause-same_outside g c = same_outside g.O.Outside g.K.Sink g.L.PairLine c.args.query.now c.requires.0 c.args.feed.now c.args.drain.now c.requires.1 c.run_chain-fin.new.feed c.run_chain-fin.new.drain c.run_chain-fin.result c.run_chain-fin.ensures

pub returns-clause-same_out : goal.returns-clause-same_out
returns-clause-same_out g c = same_out g.O.Outside g.K.Sink g.L.PairLine c.args.query.now c.requires.0 c.args.feed.now c.args.drain.now c.requires.1 c.run_chain-fin.new.feed c.run_chain-fin.new.drain c.run_chain-fin.result c.run_chain-fin.ensures

pub returns-clause-joins : goal.returns-clause-joins
returns-clause-joins g c = λ limit unasked.
    (over g.O.Outside g.K.Sink g.L.PairLine c.args.query.now limit c.args.feed.now c.args.drain.now unasked c.run_chain-fin.new.feed c.run_chain-fin.new.drain c.run_chain-fin.result c.run_chain-fin.ensures
    c.outcome_of.result c.outcome_of.ensures).0.joins

pub returns-clause-faults : goal.returns-clause-faults
returns-clause-faults g c =
    (over g.O.Outside g.K.Sink g.L.PairLine c.args.query.now c.requires.0 c.args.feed.now c.args.drain.now c.requires.1 c.run_chain-fin.new.feed c.run_chain-fin.new.drain c.run_chain-fin.result c.run_chain-fin.ensures
    c.outcome_of.result c.outcome_of.ensures).1

pub returns-clause-names : goal.returns-clause-names
returns-clause-names g c = names g.O.Outside g.K.Sink g.L.PairLine c.args.query.now c.requires.0 c.args.feed.now c.args.drain.now c.requires.1 c.run_chain-fin.new.feed c.run_chain-fin.new.drain c.run_chain-fin.result c.run_chain-fin.ensures
