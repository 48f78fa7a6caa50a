use Rattle.std.proofs.Common.{sym, subst}
use Rattle.hj_record.specs.Plain.{TakesField}
use Rattle.hj_record.proofs.PlainLemmas.{takes_bare}
use Rattle.hj_record.proofs.plain.take_bare.Goals as goal

pub returns : goal.returns
returns c =
    subst (λ new. TakesField c.behind.result c.args.text.now c.args.fields.now new) (sym c.in_ok-push.ensures.ok)
    (takes_bare c.behind.result c.bare_size-size.result c.args.text.now c.args.fields.now c.bare_size-size.ensures.bare c.behind.ensures)
