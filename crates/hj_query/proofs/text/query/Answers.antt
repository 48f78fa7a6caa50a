use Rattle.std.proofs.Common.{subst, sym}
use Rattle.std.proofs.lemmas.Result.{err_from_is_err_and}
use Rattle.hj_query.specs.Faults.{in_condition, in_left_window, in_quiet, in_right_window, in_slack, left_schema, right_schema}
use Rattle.hj_query.specs.Grammar.{of_lines}
use Rattle.hj_query.specs.Texts.{Spells}
use Rattle.hj_query.proofs.ReadingAnswers.{first_of_lex, first_of_tokens, readable, spelled}
use Rattle.hj_query.proofs.text.query.Goals as goal

pub returns-in_err-tokens : goal.returns-in_err-tokens
returns-in_err-tokens c =
    let p = err_from_is_err_and c.from_residual.result c.from_residual.ensures.1 in
    rw p.1 (first_of_lex c.args.text.now _ _ c.if-text-gt-MOST_BYTES.false c.in_err-tokens.ensures.reads p.2.0 p.2.1)

pub returns-in_err-left : goal.returns-in_err-left
returns-in_err-left c =
    let p = err_from_is_err_and c.from_residual-in_err-left.result c.from_residual-in_err-left.ensures.1 in
    rw (p.1, p.2) (λ other. first_of_tokens _ _ _ _ c.new-cursor.ensures c.if-text-gt-MOST_BYTES.false c.in_ok-tokens.ensures.reads
    (left_schema (c.in_err-left.ensures other)))

pub returns-in_err-right : goal.returns-in_err-right
returns-in_err-right c =
    let p = err_from_is_err_and c.from_residual-in_err-right.result c.from_residual-in_err-right.ensures.1 in
    rw (p.1, p.2) (λ other. first_of_tokens _ _ _ _ c.new-cursor.ensures c.if-text-gt-MOST_BYTES.false c.in_ok-tokens.ensures.reads
    (right_schema _ _ c.in_ok-left.ensures (c.in_err-right.ensures other)))

pub returns-in_err-left_window : goal.returns-in_err-left_window
returns-in_err-left_window c =
    let p = err_from_is_err_and c.from_residual-in_err-left_window.result c.from_residual-in_err-left_window.ensures.1 in
    rw (p.1, p.2) (λ _. first_of_tokens _ _ _ _ c.new-cursor.ensures c.if-text-gt-MOST_BYTES.false c.in_ok-tokens.ensures.reads
    (in_left_window _ _ _ _ c.in_ok-left.ensures c.in_ok-right.ensures c.in_err-left_window.ensures))

pub returns-in_err-right_window : goal.returns-in_err-right_window
returns-in_err-right_window c =
    let p = err_from_is_err_and c.from_residual-in_err-right_window.result c.from_residual-in_err-right_window.ensures.1 in
    rw (p.1, p.2) (λ _. first_of_tokens _ _ _ _ c.new-cursor.ensures c.if-text-gt-MOST_BYTES.false c.in_ok-tokens.ensures.reads
    (in_right_window _ _ _ _ _ _ c.in_ok-left.ensures c.in_ok-right.ensures c.in_ok-left_window.ensures c.in_err-right_window.ensures))

pub returns-in_err-slack : goal.returns-in_err-slack
returns-in_err-slack c =
    let p = err_from_is_err_and c.from_residual-in_err-slack.result c.from_residual-in_err-slack.ensures.1 in
    rw (p.1, p.2) (λ _. first_of_tokens _ _ _ _ c.new-cursor.ensures c.if-text-gt-MOST_BYTES.false c.in_ok-tokens.ensures.reads
    (in_slack _ _ _ _ _ _ _ _ c.in_ok-left.ensures c.in_ok-right.ensures c.in_ok-left_window.ensures c.in_ok-right_window.ensures c.in_err-slack.ensures.read))

pub returns-in_err-quiet : goal.returns-in_err-quiet
returns-in_err-quiet c =
    let p = err_from_is_err_and c.from_residual-in_err-quiet.result c.from_residual-in_err-quiet.ensures.1 in
    rw (p.1, p.2) (λ _. first_of_tokens _ _ _ _ c.new-cursor.ensures c.if-text-gt-MOST_BYTES.false c.in_ok-tokens.ensures.reads
    (in_quiet _ _ _ _ _ _ _ _ _ _ c.in_ok-left.ensures c.in_ok-right.ensures c.in_ok-left_window.ensures c.in_ok-right_window.ensures c.in_ok-slack.ensures.read
    c.in_err-quiet.ensures.read))

pub returns-in_err-pred : goal.returns-in_err-pred
returns-in_err-pred c =
    let p = err_from_is_err_and c.from_residual-in_err-pred.result c.from_residual-in_err-pred.ensures.1 in
    rw (p.1, p.2) (λ other. first_of_tokens _ _ _ _ c.new-cursor.ensures c.if-text-gt-MOST_BYTES.false c.in_ok-tokens.ensures.reads
    (in_condition _ _ _ _ _ _ _ _ _ _ _ _ c.in_ok-left.ensures c.in_ok-right.ensures c.in_ok-left_window.ensures c.in_ok-right_window.ensures c.in_ok-slack.ensures.read
    c.in_ok-quiet.ensures.read (c.in_err-pred.ensures other)))

pub new-requires : goal.new-requires
new-requires c =
    readable c.args.text.now _ _ _ c.new-cursor.ensures c.in_ok-tokens.ensures.reads
    (of_lines _ _ _ _ _ _ c.in_ok-left.ensures c.in_ok-right.ensures c.in_ok-left_window.ensures c.in_ok-right_window.ensures c.in_ok-slack.ensures.read
    c.in_ok-quiet.ensures.read c.in_ok-pred.ensures)

pub returns : goal.returns
returns c =
    subst (Spells c.args.text.now) (sym c.new.ensures)
    (spelled _ _ _ _ c.new-cursor.ensures c.if-text-gt-MOST_BYTES.false c.in_ok-tokens.ensures.reads
    (of_lines _ _ _ _ _ _ c.in_ok-left.ensures c.in_ok-right.ensures c.in_ok-left_window.ensures c.in_ok-right_window.ensures c.in_ok-slack.ensures.read
    c.in_ok-quiet.ensures.read c.in_ok-pred.ensures))
