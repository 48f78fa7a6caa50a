use Rattle.std.proofs.lemmas.Result.{MatchResult-weaker}
use Rattle.hj_query.proofs.Names.{name_utf8}
use Rattle.hj_query.proofs.cursor.Cursor.name.Goals as goal

pub returns-clause-read : goal.returns-clause-read
returns-clause-read c = MatchResult-weaker c.take.result c.take.ensures.read (λ name h. (h.0, name_utf8 name.now h.1)) (λ fault h. h)
