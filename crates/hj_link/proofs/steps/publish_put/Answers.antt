use Rattle.std.proofs.Common.{rules}
use Rattle.hj_link.proofs.Moves.{words_inside, put_published}
use Rattle.hj_link.proofs.steps.publish_put.Goals as goal

pub store-requires : goal.store-requires
store-requires g c = (search rules, (words_inside g.D.Endpoint.is_left _ _ c.words-words.ensures c.requires.table.1).0, put_published g.D.Endpoint.is_left _ _ _ _ c.args.seat.now.me c.args.puts c.words-words.ensures c.requires.laid c.requires.puts)
