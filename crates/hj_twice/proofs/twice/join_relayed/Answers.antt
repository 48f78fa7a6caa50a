use Rattle.hj_twice.proofs.Kept.{same_names, same_others, same_reference}
use Rattle.hj_twice.proofs.twice.join_relayed.Goals as goal

pub returns-clause-same_outside : goal.returns-clause-same_outside
returns-clause-same_outside g c =
    same_reference c.args.relayed.now.outside.ghost_name c.join_by.new.outside.outside.ghost_name (g.O.Outside.under c.args.relayed.now.outside.now) (g.O.Outside.under c.join_by.new.outside.outside.now)
    (g.O.Outside.state c.args.relayed.now.outside.now) (g.O.Outside.state c.join_by.new.outside.outside.now) c.join_by.ensures.names

pub returns-clause-others : goal.returns-clause-others
returns-clause-others g c =
    same_others c.args.relayed.now.outside.ghost_name c.join_by.new.outside.outside.ghost_name (g.O.Outside.under c.args.relayed.now.outside.now) (g.O.Outside.under c.join_by.new.outside.outside.now)
    (g.O.Outside.state c.args.relayed.now.outside.now) (g.O.Outside.state c.join_by.new.outside.outside.now) c.join_by.ensures.names

pub returns-clause-names : goal.returns-clause-names
returns-clause-names g c =
    same_names c.args.relayed.now.outside.ghost_name c.join_by.new.outside.outside.ghost_name (g.O.Outside.under c.args.relayed.now.outside.now) (g.O.Outside.under c.join_by.new.outside.outside.now)
    (g.O.Outside.state c.args.relayed.now.outside.now) (g.O.Outside.state c.join_by.new.outside.outside.now) c.join_by.ensures.names
