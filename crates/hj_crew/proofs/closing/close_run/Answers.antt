use Rattle.std.proofs.Common.{arith, refl}
use Rattle.hj_crew.specs.declared.ends.ChainEnds.{ChainEnds}
use Rattle.hj_crew.proofs.HandingIn.{all-closed, all-linked, all-queued, many_left, many_senders, one-held}
use Rattle.hj_crew.proofs.closing.close_run.Goals as goal

pub hand_in_all-requires : goal.hand_in_all-requires
hand_in_all-requires g c = record {
  left = omega (arith, c.push_reserved.ensures.len, c.push_reserved.ensures.capacity, c.requires.room.left.room);
  right = c.requires.room.right.room;
  senders = c.requires.room.senders.room;
}

pub close-requires : goal.close-requires
close-requires g c =
    let desk = c.args.desk in
    let workers = c.args.workers.items in
    let room = c.requires.room in
    let ends = c.hand_in_all.new.ends in
    let given = c.hand_in_all.ensures.ends in
    let first : ChainEnds g.row.P.Denot = record { left = c.push_reserved.new.self; right = c.args.room.right; senders = c.args.room.senders; receivers = desk.reports } in
    let left = one-held c.args.room.left.items c.push_reserved.new.self.items desk.ports.left room.left.empty c.push_reserved.ensures.items in
    let pushed = c.push_reserved-2.ensures.items in
    record {
      linked = all-linked desk workers first ends given left room.right.empty room.senders.empty refl c.push_reserved-2.new.self.items pushed c.requires.chain;
      queued = all-queued desk workers first ends given left room.right.empty room.senders.empty refl c.push_reserved-2.new.self.items pushed c.requires.chain;
      links_room = record { empty = room.links.empty; room = omega (arith, room.links.room, many_left desk workers first ends given left room.right.empty room.senders.empty refl) };
      queues_room = record { empty = room.queues.empty; room = omega (arith, room.queues.room, many_senders desk workers first ends given left room.right.empty room.senders.empty refl) };
    }

pub returns-clause-closed : goal.returns-clause-closed
returns-clause-closed g c =
    let first : ChainEnds g.row.P.Denot = record { left = c.push_reserved.new.self; right = c.args.room.right; senders = c.args.room.senders; receivers = c.args.desk.reports } in
    let left = one-held c.args.room.left.items c.push_reserved.new.self.items c.args.desk.ports.left c.requires.room.left.empty c.push_reserved.ensures.items in
    all-closed c.args.desk c.args.workers.items first c.hand_in_all.new.ends c.hand_in_all.ensures.ends left c.requires.room.right.empty c.requires.room.senders.empty refl c.push_reserved-2.new.self.items
    c.push_reserved-2.ensures.items g.J.Join.predicate c.hand_in_all.ensures.turns c.close.result c.close.ensures.links c.close.ensures.queues c.close.ensures.links_agree c.close.ensures.queues_agree
