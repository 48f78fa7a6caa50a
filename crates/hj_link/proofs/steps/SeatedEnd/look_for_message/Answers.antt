use Rattle.std.proofs.Common.{◌≡◌, rules}
use Rattle.hj_link.proofs.Moves.{words_inside, message_looked}
use Rattle.hj_link.proofs.steps.SeatedEnd.look_for_message.Goals as goal

pub load-requires : goal.load-requires
load-requires g c = let wide : c.deref.result.now.shared.table_id.words ≡ 64 = search rules in
    (search rules, (words_inside g.D.Endpoint.is_left _ _ c.words-words.ensures wide).2, message_looked g.D.Endpoint.is_left _ _ _ _ c.self.inside.seat.me c.words-words.ensures c.self.invariant.1.has)
