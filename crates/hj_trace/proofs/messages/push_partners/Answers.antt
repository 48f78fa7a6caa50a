use Rattle.std.proofs.Common.{◌++◌, ap, ◌∙◌}
use Rattle.std.specs.Fmt.{decimal}
use Rattle.hj_trace.proofs.Partners.{partners_step}
use Rattle.hj_trace.proofs.messages.push_partners.Goals as goal

pub loop-at-preserved : goal.loop-at-preserved
loop-at-preserved g c =
    partners_step c.args.partners.now c.loop-at.at c.in-Some.partner.now _ c.loop-at.text.items c.push_numbered.new.text.items c.in-Some.ensures c.loop-at.invariant
    (c.in_ok-push_numbered.ensures ∙ ap (λ sign. c.loop-at.text.items ++ (sign ++ decimal c.in-Some.partner.now.no.0)) c.sign_before.ensures)
