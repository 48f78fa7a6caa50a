use Rattle.std.proofs.Common.{arith}
use Rattle.std.proofs.lemmas.List.{take_rest}
use Rattle.hj_lex.specs.Tokens.{is_blank}
use Rattle.hj_lex.proofs.Runs.{blank_between, begins-after_run_at, run_within}
use Rattle.hj_lex.proofs.scan.blanks_end.Goals as goal

pub overflow_add-result : goal.overflow_add-result
overflow_add-result c =
    let e = rw take_rest at c.blank_length.ensures in
    let w = run_within is_blank c.args.text.now c.args.at c.blank_length.result c.requires e in
    omega arith

pub returns-clause-blank : goal.returns-clause-blank
returns-clause-blank c =
    blank_between c.args.text.now c.args.at c.blank_length.result c.requires (rw take_rest at c.blank_length.ensures)

pub returns-clause-longest : goal.returns-clause-longest
returns-clause-longest c =
    begins-after_run_at is_blank c.args.text.now c.args.at c.blank_length.result (rw take_rest at c.blank_length.ensures)
