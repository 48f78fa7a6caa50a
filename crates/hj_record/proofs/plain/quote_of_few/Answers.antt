use Rattle.std.proofs.Common.{◌-◌, length, take, drop, get_or, sym, subst, All}
use Rattle.std.proofs.lemmas.List.{take_more}
use Rattle.std.proofs.lemmas.List.Elements.{All-push}
use Rattle.std.proofs.lemmas.Bool.{ne_eqb}
use Rattle.hj_record.specs.Plain.{IsNoQuote}
use Rattle.hj_record.proofs.plain.quote_of_few.Goals as goal

pub loop-at-preserved : goal.loop-at-preserved
loop-at-preserved c =
    let text = take (length c.args.text.now - c.args.from) (drop c.args.from c.args.text.now) in
    let at = c.loop-at.at in
    subst (All IsNoQuote) (sym (take_more text at 0 c.loop-at-test.true))
    (All-push IsNoQuote (take at text) (get_or text at 0) c.loop-at.invariant (ne_eqb _ 34 c.if-byte-eq-QUOTE.false))
