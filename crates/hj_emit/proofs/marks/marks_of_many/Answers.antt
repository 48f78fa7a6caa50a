use Rattle.std.proofs.Common.{◌-◌, ◌==◌, ◌||◌, length, take, drop, ap₂, ◌∙◌, arith}
use Rattle.std.specs.List.{list_any}
use Rattle.csv.specs.Writing.{default_writer, needs_byte}
use Rattle.hj_emit.proofs.Covers.{covered, one_more_part}
use Rattle.hj_emit.proofs.marks.marks_of_many.Goals as goal

pub loop-at-preserved : goal.loop-at-preserved
loop-at-preserved c =
    let bytes = c.args.bytes.now in
    let last = take 16 (drop (length bytes - 16) bytes) in
    record {
      special =
          c.marks_of_both-marks.ensures.special ∙ ap₂ (λ a b. a || b) c.loop-at.invariant.special c.marks_of_16-next.ensures.special
          ∙ one_more_part (needs_byte default_writer) bytes c.loop-at.at 16 (list_any (needs_byte default_writer) last);
      quote =
          c.marks_of_both-marks.ensures.quote ∙ ap₂ (λ a b. a || b) c.loop-at.invariant.quote c.marks_of_16-next.ensures.quote
          ∙ one_more_part (λ byte. byte == 34) bytes c.loop-at.at 16 (list_any (λ byte. byte == 34) last);
    }

pub returns-clause-special : goal.returns-clause-special
returns-clause-special c =
    c.loop-at.invariant.special ∙ covered (needs_byte default_writer) c.args.bytes.now c.loop-at.at (length c.args.bytes.now - 16) 16 (omega arith) (omega (arith, c.requires))

pub returns-clause-quote : goal.returns-clause-quote
returns-clause-quote c =
    c.loop-at.invariant.quote ∙ covered (λ byte. byte == 34) c.args.bytes.now c.loop-at.at (length c.args.bytes.now - 16) 16 (omega arith) (omega (arith, c.requires))
