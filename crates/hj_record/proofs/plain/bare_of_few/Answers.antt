use Rattle.std.proofs.Common.{take, get_or, sym, subst, ◌∙◌, All}
use Rattle.std.proofs.lemmas.List.{take_more}
use Rattle.std.proofs.lemmas.List.Elements.{All-push}
use Rattle.hj_record.specs.Plain.{IsBare}
use Rattle.hj_record.proofs.plain.bare_of_few.Goals as goal

pub loop-at-preserved : goal.loop-at-preserved
loop-at-preserved c =
    let text = c.args.text.now in
    let at = c.loop-at.at in
    subst (All IsBare) (sym (take_more text at 0 c.loop-at-test.true))
    (All-push IsBare (take at text) (get_or text at 0) c.loop-at.invariant (sym c.is_special.ensures ∙ c.if-is_special.false))
