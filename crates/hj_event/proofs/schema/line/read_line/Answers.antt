use Rattle.std.proofs.Common.{◌≡◌, ◌+◌, ◌-◌, ℕ, List, drop, length, refl, subst, take, arith}
use Rattle.std.proofs.lemmas.List.{take_rest}
use Rattle.hj_event.specs.Lines.{TakesValue}
use Rattle.hj_event.proofs.PlainLines.{none_read, one_column_more, whole_line}
use Rattle.hj_event.proofs.schema.line.read_line.Goals as goal

pub loop-column-init : goal.loop-column-init
loop-column-init c = none_read c.args.schema.now.columns c.args.row.now c.args.bytes.now c.requires

pub loop-column-preserved : goal.loop-column-preserved
loop-column-preserved c =
    let bytes = c.args.bytes.now in
    one_column_more c.args.schema.now.columns c.loop-column.column c.loop-column.row c.push.new.self c.loop-column.at bytes c.in-Some.field c.in-Some.size 44 c.loop-column.invariant
    (subst (λ (rest : List ℕ). TakesValue c.args.schema.now.columns c.loop-column.column c.in-Some.field c.in-Some.size 44 rest) (take_rest bytes c.loop-column.at) c.in-Some.ensures)
    c.in_ok-push.ensures.ok refl

pub returns : goal.returns
returns c = λ some.
    let bytes = c.args.bytes.now in
    let columns = c.args.schema.now.columns in
    let last : c.len-columns.result - 1 ≡ c.loop-column.column = omega arith in
    let there : c.loop-column.column + 1 ≡ length columns = omega (arith, c.len-columns.ensures, c.if-columns-eq0.false) in
    whole_line columns c.loop-column.column c.loop-column.row c.push-2.new.self c.loop-column.at bytes c.in-Some-take_field.field c.in-Some-take_field.size 10 c.loop-column.invariant
    (subst (λ (rest : List ℕ). TakesValue columns c.loop-column.column c.in-Some-take_field.field c.in-Some-take_field.size 10 rest) (take_rest bytes c.loop-column.at)
    (subst (λ (k : ℕ). TakesValue columns k c.in-Some-take_field.field c.in-Some-take_field.size 10 (take (length bytes - c.loop-column.at) (drop c.loop-column.at bytes))) last c.in-Some-take_field.ensures))
    c.in_ok-push-2.ensures.ok refl there (c.begins_with_digit.ensures.some c.if-not-begins_with_digit.false) (c.begins_with_digit.ensures.digit c.if-not-begins_with_digit.false) some
