use Rattle.std.proofs.Common.{◌==◌, ◌∙◌, arith}
use Rattle.csv.specs.Writing.{default_writer, needs_byte}
use Rattle.hj_emit.proofs.Covers.{ends_tell}
use Rattle.hj_emit.proofs.marks.marks_in.Goals as goal

pub returns-then-count-le8-clause-special : goal.returns-then-count-le8-clause-special
returns-then-count-le8-clause-special c =
    c.marks_of_8.ensures.special ∙ ends_tell (needs_byte default_writer) c.args.bytes.now c.ends_of_4.result 4 c.ends_of_4.ensures (omega arith) (omega arith)

pub returns-then-count-le8-clause-quote : goal.returns-then-count-le8-clause-quote
returns-then-count-le8-clause-quote c =
    c.marks_of_8.ensures.quote ∙ ends_tell (λ byte. byte == 34) c.args.bytes.now c.ends_of_4.result 4 c.ends_of_4.ensures (omega arith) (omega arith)

pub returns-then-count-le16-clause-special : goal.returns-then-count-le16-clause-special
returns-then-count-le16-clause-special c =
    c.marks_of_16.ensures.special ∙ ends_tell (needs_byte default_writer) c.args.bytes.now c.ends_of_8.result 8 c.ends_of_8.ensures (omega arith) (omega arith)

pub returns-then-count-le16-clause-quote : goal.returns-then-count-le16-clause-quote
returns-then-count-le16-clause-quote c =
    c.marks_of_16.ensures.quote ∙ ends_tell (λ byte. byte == 34) c.args.bytes.now c.ends_of_8.result 8 c.ends_of_8.ensures (omega arith) (omega arith)
