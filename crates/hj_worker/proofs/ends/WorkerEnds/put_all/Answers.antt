use Rattle.std.proofs.Common.{map}
use Rattle.std.specs.Option.{option_to_list}
use Rattle.std.proofs.lemmas.Option.{IfSome_then}
use Rattle.hj_worker.specs.Outgoing.{leftwards}
use Rattle.hj_worker.specs.Hands.{things_of, things_to_right}
use Rattle.hj_worker.specs.Seen.{journals_of}
use Rattle.hj_worker.proofs.Putting.{blocked-behind_left, if_none, left-put, puts-behind, stops-behind}
use Rattle.hj_worker.proofs.ends.WorkerEnds.put_all.Goals as goal

pub returns-in-None-clause-all : goal.returns-in-None-clause-all
returns-in-None-clause-all g c =
    let js = journals_of c.args.self.now in
    let ms = option_to_list c.args.sends.to_left in
    if_none c.put_to_right.result c.put_to_right.ensures.all
    (puts-behind c.args.turn js _ _ (map leftwards ms) (things_to_right c.args.sends.to_right c.args.sends.to_right_then c.args.sends.entry) (left-put c.args.turn js _ ms c.in-None.ensures.put.0))

pub returns-in-None-clause-some : goal.returns-in-None-clause-some
returns-in-None-clause-some g c =
    let js = journals_of c.args.self.now in
    let ms = option_to_list c.args.sends.to_left in
    IfSome_then c.put_to_right.result c.put_to_right.ensures.some
    (λ unput puts. stops-behind c.args.turn js _ _ (map leftwards ms) (things_to_right c.args.sends.to_right c.args.sends.to_right_then c.args.sends.entry) (things_of unput.sends) (left-put c.args.turn js _ ms c.in-None.ensures.put.0) puts)

pub returns-in-None-clause-blocked : goal.returns-in-None-clause-blocked
returns-in-None-clause-blocked g c =
    IfSome_then c.put_to_right.result c.put_to_right.ensures.blocked
    (λ unput blocked. blocked-behind_left c.args.self.now c.put_some.new.self c.put_to_right.new.self unput.place (things_of unput.sends) c.in-None.ensures.put.1 blocked)
