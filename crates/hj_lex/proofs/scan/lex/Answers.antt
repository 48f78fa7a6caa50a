use Rattle.hj_lex.proofs.Reading.{gives_fault, gives_order, gives_slices, gives_tokens}
use Rattle.hj_lex.proofs.scan.lex.Goals as goal

pub returns-clause-tokens : goal.returns-clause-tokens
returns-clause-tokens c = gives_tokens c.args.text.now c.cut.result c.cut.ensures

pub returns-clause-fault : goal.returns-clause-fault
returns-clause-fault c = gives_fault c.args.text.now c.cut.result c.cut.ensures

pub returns-clause-in_order : goal.returns-clause-in_order
returns-clause-in_order c = gives_order c.args.text.now c.cut.result c.cut.ensures

pub returns-clause-slices : goal.returns-clause-slices
returns-clause-slices c = gives_slices c.args.text.now c.cut.result c.cut.ensures
