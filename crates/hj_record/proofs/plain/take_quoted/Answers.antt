use Rattle.std.proofs.Common.{◌+◌, ◌++◌, sym, ap, subst, ◌∙◌, slice_range}
use Rattle.hj_record.specs.Fields.{extend_last}
use Rattle.hj_record.specs.Plain.{TakesField}
use Rattle.hj_record.proofs.FieldLemmas.{extend_last-push}
use Rattle.hj_record.proofs.PlainLemmas.{first_quote, second_quote, takes_quoted}
use Rattle.hj_record.proofs.plain.take_quoted.Goals as goal

pub loop-quote-init : goal.loop-quote-init
loop-quote-init c = (slice_range c.args.text.now 1 c.in-Some.quote, c.in_ok-push.ensures.ok, first_quote c.args.fields.now c.args.text.now c.in-Some.quote c.requires c.in-Some.ensures)

pub loop-quote-preserved : goal.loop-quote-preserved
loop-quote-preserved c =
    let before = c.loop-quote.invariant in
    let quote = c.loop-quote.quote in
    let next = c.in-Some-quote_from.next in
    let more = slice_range c.args.text.now (quote + 1) next in (
      before.0 ++ more,
      c.in_ok-extend_last.ensures.ok ∙ ap (λ fields. extend_last fields more) before.1 ∙ extend_last-push c.args.fields.now before.0 more,
      second_quote c.args.fields.now before.0 c.args.text.now quote next before.2 c.loop-quote-test.true c.if-text-quote-eq-QUOTE.true c.in-Some-quote_from.ensures,
    )

pub returns : goal.returns
returns c =
    let at = c.loop-quote.invariant in
    subst (λ new. TakesField c.behind.result c.args.text.now c.args.fields.now new) (sym at.1)
    (takes_quoted c.behind.result c.args.fields.now at.0 c.args.text.now c.loop-quote.quote at.2 c.behind.ensures)
