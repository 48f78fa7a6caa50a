use Rattle.std.proofs.Common.{◌∷◌, [], refl, arith}
use Rattle.hj_msg.specs.declared.message.Msg.TheVariants.{S}
use Rattle.hj_chain.proofs.Sending.{fits}
use Rattle.hj_chain.proofs.links.Links.send_right_row.Goals as goal

pub put_left-requires : goal.put_left-requires
put_left-requires g c = record { in_range = omega (arith, c.requires.in_range); room = omega (arith, c.requires.room_left) }

pub put_right_if-requires : goal.put_right_if-requires
put_right_if-requires g c =
    let f = fits c.args.self.now c.put_left.new.self _ _ c.args.place (S c.args.no c.args.row ∷ []) _ _ c.requires.in_range c.put_left.ensures refl refl c.requires.room_right in
    record { in_range = f.low_one; room = f.room_one }

pub put_right_if-requires-2 : goal.put_right_if-requires-2
put_right_if-requires-2 g c =
    let f = fits c.args.self.now c.put_left.new.self c.put_right_if.new.self _ c.args.place (S c.args.no c.args.row ∷ []) _ _ c.requires.in_range c.put_left.ensures c.put_right_if.ensures refl c.requires.room_right in
    record { in_range = f.low_two; room = f.room_two }

pub returns : goal.returns
returns g c =
    let f = fits c.args.self.now c.put_left.new.self c.put_right_if.new.self c.put_right_if-2.new.self c.args.place (S c.args.no c.args.row ∷ []) _ _ c.requires.in_range c.put_left.ensures c.put_right_if.ensures c.put_right_if-2.ensures c.requires.room_right in
    f.all
