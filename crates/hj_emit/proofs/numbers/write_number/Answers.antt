use Rattle.std.proofs.Common.{◌≡◌, ◌+◌, ◌-◌, ◌++◌, ◌∷◌, length, drop, unsigned_abs, ap, ap₂, ◌∙◌, arith, rules, to_z-of_z}
use Rattle.std.proofs.lemmas.Fmt.{length-decimal-le}
use Rattle.std.proofs.lemmas.List.{drop-set}
use Rattle.std.specs.Fmt.{decimal}
use Rattle.hj_emit.proofs.Backwards.{cell_in_front, comma_in_front, digits_first, minus_first}
use Rattle.hj_emit.proofs.numbers.write_number.Goals as goal

pub write_digits-start-requires : goal.write_digits-start-requires
write_digits-start-requires c = (omega (arith, c.requires.room, length-decimal-le 19 c.unsigned_abs.result (omega arith) (omega arith) (omega arith)), search rules)

pub returns-then-number-ge0-clause-start : goal.returns-then-number-ge0-clause-start
returns-then-number-ge0-clause-start c =
    let long = length-decimal-le 19 c.unsigned_abs.result (omega arith) (omega arith) (omega arith) in
    (omega (arith, c.requires.room, c.write_digits-start.ensures.start), omega (arith, c.requires.room, long, c.write_digits-start.ensures.start))

pub returns-then-number-ge0-clause-written : goal.returns-then-number-ge0-clause-written
returns-then-number-ge0-clause-written c =
    let back = to_z-of_z c.ranges.number in
    let size : c.unsigned_abs.result ≡ unsigned_abs c.args.number = rw back at c.unsigned_abs.ensures.value in
    c.write_digits-start.ensures.written
    ∙ ap₂ (λ n rest. decimal n ++ rest) size (comma_in_front c.args.bytes.now c.args.end (omega (arith, c.requires.room)) c.requires.within)
    ∙ cell_in_front c.args.number c.ranges.number (decimal (unsigned_abs c.args.number)) (drop c.args.end c.args.bytes.now) (digits_first c.args.number (rw back at c.if-number-ge0.true))

pub overflow_sub-bytes-2 : goal.overflow_sub-bytes-2
overflow_sub-bytes-2 c = omega (arith, c.requires.room, c.write_digits-start.ensures.start, length-decimal-le 19 c.unsigned_abs.result (omega arith) (omega arith) (omega arith))

pub overflow_sub-result : goal.overflow_sub-result
overflow_sub-result c = omega (arith, c.requires.room, c.write_digits-start.ensures.start, length-decimal-le 19 c.unsigned_abs.result (omega arith) (omega arith) (omega arith))

pub returns-clause-start : goal.returns-clause-start
returns-clause-start c =
    let long = length-decimal-le 19 c.unsigned_abs.result (omega arith) (omega arith) (omega arith) in
    (omega (arith, c.requires.room, c.write_digits-start.ensures.start), omega (arith, c.requires.room, long, c.write_digits-start.ensures.start))

pub returns-clause-written : goal.returns-clause-written
returns-clause-written c =
    let w = c.write_digits-start in
    let long = length-decimal-le 19 c.unsigned_abs.result (omega arith) (omega arith) (omega arith) in
    let back = to_z-of_z c.ranges.number in
    let size : c.unsigned_abs.result ≡ unsigned_abs c.args.number = rw back at c.unsigned_abs.ensures.value in
    let same : length w.new.buf ≡ length c.args.bytes.now = search rules in
    let next : w.result - 1 + 1 ≡ w.result = omega (arith, c.requires.room, w.ensures.start, long) in
    drop-set w.new.buf (w.result - 1) 45 (omega (arith, same, c.requires.room, c.requires.within, w.ensures.start, long))
    ∙ ap (λ n. 45 ∷ drop n w.new.buf) next
    ∙ ap (λ l. 45 ∷ l) (w.ensures.written ∙ ap₂ (λ n rest. decimal n ++ rest) size (comma_in_front c.args.bytes.now c.args.end (omega (arith, c.requires.room)) c.requires.within))
    ∙ cell_in_front c.args.number c.ranges.number (45 ∷ decimal (unsigned_abs c.args.number)) (drop c.args.end c.args.bytes.now) (minus_first c.args.number (rw back at c.if-number-ge0.false))
