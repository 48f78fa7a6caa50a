use Rattle.std.proofs.Common.{Some, None, Option, sym, ap, ◌∙◌, subst}
use Rattle.hj_msg.specs.Punctuation.{Mark}
use Rattle.hj_msg.specs.declared.event.Pair.{Pair}
use Rattle.hj_collect.specs.Marks.{meaning, meaning_of}
use Rattle.hj_collect.specs.Giving.{Releases}
use Rattle.hj_collect.proofs.Giving.{no-mark, releases}
use Rattle.hj_collect.proofs.ordered.Ordered.next_due.Goals as goal

pub returns : goal.returns
returns g c =
    subst (λ (m : Option Mark). Releases m c.args.self.now c.release.result c.release.new.self) (sym (sym c.punctuation.ensures ∙ ap meaning_of c.in_ok-mark.was))
    (releases (Some (meaning c.in_ok-mark.mark)) c.args.self.now c.release.new.self c.release.result c.release.ensures.kept c.release.ensures.first c.release.ensures.within c.release.ensures.none.0 c.release.ensures.unchanged)

pub returns-in_err-mark : goal.returns-in_err-mark
returns-in_err-mark g c =
    let kept = c.args.self.now in
    subst (λ (m : Option Mark). Releases m kept c.from_residual.result kept) (sym (sym c.punctuation.ensures ∙ ap meaning_of c.in_err-mark.was))
    (subst (λ (r : Option (Pair g.row.P.Denot)). Releases None kept r kept) (sym c.from_residual.ensures) (no-mark kept))
