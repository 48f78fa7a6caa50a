use Rattle.std.proofs.Common.{sym, subst}
use Rattle.std.specs.Result.{OnErr, OnOk}
use Rattle.hj_msg.specs.declared.message.Msg.{Msg}
use Rattle.hj_chain.specs.declared.actor.Stepped.TheVariants.{Did, Memory}
use Rattle.hj_chain.specs.Taken.{HasTaken, TurnsTo}
use Rattle.hj_chain.proofs.chain.Chain.handle_whole.Goals as goal

pub handle_row-requires : goal.handle_row-requires
handle_row-requires g c = record { taken = (c.requires.taken.0, subst (λ (m : Msg g.row.P.Denot). HasTaken g.J.Join.predicate c.args.core c.args.end m c.requires.taken.0 c.args.self.now) c.in-R.is c.requires.taken.1) }

pub handle_row-requires-in-S : goal.handle_row-requires-in-S
handle_row-requires-in-S g c = record { taken = (c.requires.taken.0, subst (λ (m : Msg g.row.P.Denot). HasTaken g.J.Join.predicate c.args.core c.args.end m c.requires.taken.0 c.args.self.now) c.in-S.is c.requires.taken.1) }

pub returns-in-R-clause-did : goal.returns-in-R-clause-did
returns-in-R-clause-did g c = subst (λ (m : Msg g.row.P.Denot). OnOk c.handle_row.result (TurnsTo g.J.Join.predicate c.args.core c.args.end m c.args.self.now Did c.handle_row.new.self)) (sym c.in-R.is) c.handle_row.ensures.did

pub returns-in-R-clause-memory : goal.returns-in-R-clause-memory
returns-in-R-clause-memory g c = subst (λ (m : Msg g.row.P.Denot). OnErr c.handle_row.result (TurnsTo g.J.Join.predicate c.args.core c.args.end m c.args.self.now Memory c.handle_row.new.self)) (sym c.in-R.is) c.handle_row.ensures.memory

pub returns-in-S-clause-did : goal.returns-in-S-clause-did
returns-in-S-clause-did g c = subst (λ (m : Msg g.row.P.Denot). OnOk c.handle_row-in-S.result (TurnsTo g.J.Join.predicate c.args.core c.args.end m c.args.self.now Did c.handle_row-in-S.new.self)) (sym c.in-S.is) c.handle_row-in-S.ensures.did

pub returns-in-S-clause-memory : goal.returns-in-S-clause-memory
returns-in-S-clause-memory g c = subst (λ (m : Msg g.row.P.Denot). OnErr c.handle_row-in-S.result (TurnsTo g.J.Join.predicate c.args.core c.args.end m c.args.self.now Memory c.handle_row-in-S.new.self)) (sym c.in-S.is) c.handle_row-in-S.ensures.memory
