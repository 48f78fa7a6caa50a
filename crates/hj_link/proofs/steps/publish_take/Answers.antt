use Rattle.std.proofs.Common.{rules}
use Rattle.hj_link.proofs.Moves.{words_inside, take_published}
use Rattle.hj_link.proofs.steps.publish_take.Goals as goal

pub store-requires : goal.store-requires
store-requires g c = (search rules, (words_inside g.D.Endpoint.is_left _ _ c.words-words.ensures c.requires.table.1).1, take_published g.D.Endpoint.is_left _ _ _ _ c.args.seat.now.me c.args.takes c.words-words.ensures c.requires.emptied c.requires.takes)
