use Rattle.std.proofs.Common.{◌-◌, ◌==◌, ◌||◌, length, ap₂, ◌∙◌, arith}
use Rattle.csv.specs.Writing.{default_writer, needs_byte}
use Rattle.hj_emit.proofs.Covers.{covered}
use Rattle.hj_emit.proofs.marks.marks_of_ends.Goals as goal

pub returns-clause-special : goal.returns-clause-special
returns-clause-special c =
    c.marks_of_both.ensures.special ∙ ap₂ (λ a b. a || b) c.marks_of_16-front.ensures.special c.marks_of_16.ensures.special
    ∙ covered (needs_byte default_writer) c.args.bytes.now 16 (length c.args.bytes.now - 16) 16 (omega (arith, c.requires)) (omega (arith, c.requires))

pub returns-clause-quote : goal.returns-clause-quote
returns-clause-quote c =
    c.marks_of_both.ensures.quote ∙ ap₂ (λ a b. a || b) c.marks_of_16-front.ensures.quote c.marks_of_16.ensures.quote
    ∙ covered (λ byte. byte == 34) c.args.bytes.now 16 (length c.args.bytes.now - 16) 16 (omega (arith, c.requires)) (omega (arith, c.requires))
