use Rattle.std.proofs.Common.{[], false, refl}
use Rattle.hj_verify.proofs.ReadLines.{actor_read, looked, no_actor, read_fails}
use Rattle.hj_verify.proofs.Using.{still_goes}
use Rattle.hj_verify.proofs.trace.read_maker.Goals as goal

pub actor-requires : goal.actor-requires
actor-requires g c = still_goes c.args.trace.now c.look.new.self (g.O.Outside.state c.args.outside.now) (g.O.Outside.state c.look.new.outside) false [] c.requires c.in-Byte.ensures.looks

pub returns-in-End-clause-reads : goal.returns-in-End-clause-reads
returns-in-End-clause-reads g c = λ text start before uses. (
  refl,
  record {
    uses = looked text start before c.args.trace.now (g.O.Outside.state c.args.outside.now) uses c.look.new.self (g.O.Outside.state c.look.new.outside) c.in-End.ensures.looks;
    used_up = c.in-End.ensures.next;
  },
)

pub returns-in-Failed-clause-reads : goal.returns-in-Failed-clause-reads
returns-in-Failed-clause-reads g c = λ text start before uses.
    let read = read_fails text start before c.args.trace.now (g.O.Outside.state c.args.outside.now) uses c.look.new.self (g.O.Outside.state c.look.new.outside) [] c.in-Failed.ensures.looks in
    (refl, read.0, read.1)

pub returns-in-Other-clause-reads : goal.returns-in-Other-clause-reads
returns-in-Other-clause-reads g c = λ text start before uses.
    let there = looked text start before c.args.trace.now (g.O.Outside.state c.args.outside.now) uses c.look.new.self (g.O.Outside.state c.look.new.outside) c.in-Byte.ensures.looks in (
      refl,
      no_actor text start before c.look.new.self (g.O.Outside.state c.look.new.outside) there c.actor.new.self (g.O.Outside.state c.actor.new.outside) _ c.in-Byte.ensures.next c.in-Other.ensures.reads,
    )

pub returns-in-Actor-clause-reads : goal.returns-in-Actor-clause-reads
returns-in-Actor-clause-reads g c = λ text start before uses.
    let there = looked text start before c.args.trace.now (g.O.Outside.state c.args.outside.now) uses c.look.new.self (g.O.Outside.state c.look.new.outside) c.in-Byte.ensures.looks in (
      c.in-Actor.ensures.reads.finds.0,
      actor_read text start before c.look.new.self (g.O.Outside.state c.look.new.outside) there c.actor.new.self (g.O.Outside.state c.actor.new.outside) c.in-Actor.actor c.in-Actor.ensures.reads,
    )

pub returns-in-Failed-actor-clause-reads : goal.returns-in-Failed-actor-clause-reads
returns-in-Failed-actor-clause-reads g c = λ text start before uses.
    let there = looked text start before c.args.trace.now (g.O.Outside.state c.args.outside.now) uses c.look.new.self (g.O.Outside.state c.look.new.outside) c.in-Byte.ensures.looks in
    let reads = c.in-Failed-actor.ensures.reads in
    let read = read_fails text start before c.look.new.self (g.O.Outside.state c.look.new.outside) there c.actor.new.self (g.O.Outside.state c.actor.new.outside) reads.bytes reads.uses in
    (refl, read.0, read.1)
