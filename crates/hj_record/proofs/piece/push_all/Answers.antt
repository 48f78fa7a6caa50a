use Rattle.std.proofs.Common.{◌++◌, ◌∷◌, [], sym, ap, ◌∙◌, arith}
use Rattle.csv.specs.Records.{fields_of}
use Rattle.hj_record.proofs.PieceLemmas.{take_field_more, field_missing}
use Rattle.hj_record.proofs.piece.push_all.Goals as goal
use Rattle.hj_record.proofs.piece.push_all.Goals.{in-Some+in_ok-push, in_default}

pub loop-at-preserved : goal.loop-at-preserved
loop-at-preserved c =
    let fields = fields_of c.args.row.now in
    elim c.match-get.branch [
      | in-Some+in_ok-push w ↦
          w.fields-is ∙ w.in_ok-push.ensures.ok ∙ ap (λ fs. fs ++ w.in-Some.field.now ∷ []) c.loop-at.invariant ∙ sym (take_field_more fields c.loop-at.at w.in-Some.field.now w.in-Some.ensures.value)
      | in_default w ↦ absurd (field_missing fields c.loop-at.at (omega (arith, c.len-at-end.ensures)) w.in_default.ensures.value)
    ]
