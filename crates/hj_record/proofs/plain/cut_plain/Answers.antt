use Rattle.hj_record.proofs.PlainLemmas.{line_end_none}
use Rattle.hj_record.proofs.plain.cut_plain.Goals as goal

pub returns-then-is_line_end : goal.returns-then-is_line_end
returns-then-is_line_end c = line_end_none c.args.text.now (c.is_line_end.ensures c.if-is_line_end.true)
