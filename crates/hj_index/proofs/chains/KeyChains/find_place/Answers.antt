use Rattle.std.proofs.Common.{◌<◌, rules, sym, ◌∙◌}
use Rattle.std.specs.VecDeque.{deque_len}
use Rattle.std.proofs.lemmas.Option.{slice_get_read}
use Rattle.hj_index.proofs.ChainFinds.{greater-number, lower-absent}
use Rattle.hj_index.proofs.chains.KeyChains.find_place.Goals as goal

pub returns-in-Greater : goal.returns-in-Greater
returns-in-Greater c =
    let places = c.args.self.now.places in
    let some : 0 < deque_len places = search rules in
    lower-absent c.args.no places.items c.in_ok-first.first.now c.requires (slice_get_read places.items (deque_len places) 0 c.in_ok-first.first.now places.ok.0 some c.in_ok-first.ensures.lookup)
    (greater-number c.in_ok-first.first.now.no c.args.no (sym c.cmp.ensures ∙ c.in-Greater.is))
