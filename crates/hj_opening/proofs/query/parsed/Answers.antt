use Rattle.hj_opening.proofs.QueryReading.{refuses_text}
use Rattle.hj_opening.proofs.query.parsed.Goals as goal

pub returns-in-Err : goal.returns-in-Err
returns-in-Err c = refuses_text c.args.text.now c.in-Err.fault c.refusal.result c.refusal.ensures c.in-Err.ensures.reads
