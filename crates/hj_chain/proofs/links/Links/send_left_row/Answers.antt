use Rattle.std.proofs.Common.{◌+◌, ◌∷◌, [], refl, arith}
use Rattle.hj_msg.specs.declared.message.Msg.TheVariants.{R}
use Rattle.hj_chain.proofs.Putting.{nothing_right}
use Rattle.hj_chain.proofs.Sending.{fits, one_left}
use Rattle.hj_chain.proofs.links.Links.send_left_row.Goals as goal

pub put_left_if-requires : goal.put_left_if-requires
put_left_if-requires g c = record { in_range = omega (arith, c.requires.in_range); room = one_left c.args.self.now c.args.place _ _ c.requires.room_left }

pub put_right-requires : goal.put_right-requires
put_right-requires g c =
    let f = fits c.args.self.now c.put_left_if.new.self _ _ c.args.place _ (R c.args.no c.args.row ∷ []) [] c.requires.in_range c.put_left_if.ensures refl refl c.requires.room_right in
    record { in_range = f.low_one; room = omega (arith, f.room_one) }

pub returns : goal.returns
returns g c =
    let f = fits c.args.self.now c.put_left_if.new.self c.put_right.new.self c.put_right.new.self c.args.place _ (R c.args.no c.args.row ∷ []) [] c.requires.in_range c.put_left_if.ensures c.put_right.ensures (nothing_right c.put_right.new.self (c.args.place + 1)) c.requires.room_right in
    f.all
