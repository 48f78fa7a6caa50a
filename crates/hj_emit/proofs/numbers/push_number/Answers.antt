use Rattle.std.proofs.Common.{◌≡◌, ◌+◌, ◌-◌, ◌++◌, length, take, drop, vec_len, ap, ◌∙◌, arith, rules, to_z-of_z}
use Rattle.std.specs.Fmt.{signed_decimal}
use Rattle.hj_emit.specs.Cells.{cell}
use Rattle.hj_emit.proofs.Cells.{cut_behind}
use Rattle.hj_emit.proofs.numbers.push_number.Goals as goal

pub returns : goal.returns
returns c =
    let text = c.args.text.now in
    let w = c.write_number-start in
    let long : vec_len text ≡ length text.items = search rules in
    let back = to_z-of_z c.ranges.number in
    let written = rw back at w.ensures.written in
    let all : w.result + 21 - w.result ≡ 21 = omega arith in
    c.truncate.ensures.items
    ∙ ap (λ l. take (c.len.result + (21 - w.result)) l) (c.in_ok-extend_from_slice.ensures.items ∙ ap (λ n. text.items ++ take n (drop w.result w.new.bytes)) all)
    ∙ cut_behind text.items w.new.bytes (cell (signed_decimal c.args.number)) _ w.result _ written (search rules) w.ensures.start.0 (omega (arith, long, c.len.ensures))
