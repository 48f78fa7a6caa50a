use Rattle.std.proofs.Common.{◌≡◌, Some, sym, ◌∙◌, ap}
use Rattle.std.specs.Option.{option_copied}
use Rattle.hj_msg.specs.declared.message.Report.{Report}
use Rattle.hj_collect.specs.Collector.{after_report}
use Rattle.hj_chain.specs.Reports.{ReportQueues}
use Rattle.hj_chain.proofs.Opening.{granted, in_cores, in_reports, in_collector, collecting-no_memory, collecting-did, collecting-gathers}
use Rattle.hj_chain.proofs.chain.Chain.collect_there.Goals as goal

pub returns-then-is_err-clause-step : goal.returns-then-is_err-clause-step
returns-then-is_err-clause-step g c = λ answer.
    collecting-no_memory g.J.Join.predicate _ _ c.self.view_is c.requires.going answer c.args.core c.from-place.result c.in-Some.report.now c.from-place.ensures
    (in_cores g.J.Join.predicate _ _ c.self.view_is c.requires.going c.from-place.result c.args.core.0 c.from-place.ensures c.requires.within)
    (sym c.first_of.ensures ∙ ap option_copied c.in-Some.is)

pub update_marks-requires : goal.update_marks-requires
update_marks-requires g c =
    in_collector g.J.Join.predicate _ _ c.self.view_is c.requires.going c.args.core c.from-place.result c.from-place.ensures
    (in_cores g.J.Join.predicate _ _ c.self.view_is c.requires.going c.from-place.result c.args.core.0 c.from-place.ensures c.requires.within)

pub returns-clause-step : goal.returns-clause-step
returns-clause-step g c = λ answer.
    collecting-did g.J.Join.predicate _ _ c.self.view_is c.requires.going answer c.args.core c.from-place.result c.in-Some.report.now _ c.from-place.ensures
    (in_cores g.J.Join.predicate _ _ c.self.view_is c.requires.going c.from-place.result c.args.core.0 c.from-place.ensures c.requires.within)
    (sym c.first_of.ensures ∙ ap option_copied c.in-Some.is) (ap (λ (q : ReportQueues g.row.P.Denot). q.queues) c.take_first.ensures.rest)

pub returns-clause-gathers : goal.returns-clause-gathers
returns-clause-gathers g c =
    let taken : c.in-Some-take_first.report ≡ c.in-Some.report.now = let e : Some c.in-Some-take_first.report ≡ Some c.in-Some.report.now = sym (sym c.take_first.ensures.first ∙ c.in-Some-take_first.is) ∙ (sym c.first_of.ensures ∙ ap option_copied c.in-Some.is) in cc in
    collecting-gathers g.J.Join.predicate _ _ c.self.view_is c.requires.going c.args.core c.from-place.result c.in-Some.report.now _ _ c.from-place.ensures (sym c.first_of.ensures ∙ ap option_copied c.in-Some.is)
    (c.update_marks.ensures ∙ ap (λ (report : Report g.row.P.Denot). after_report c.args.core report c.self.inside.collector) taken)
    (granted c.keep.result _ (sym c.is_err.ensures.value ∙ c.if-is_err.false) c.keep.ensures.ok)

pub first_of-requires : goal.first_of-requires
first_of-requires g c =
    in_reports g.J.Join.predicate _ _ c.self.view_is c.requires.going c.from-place.result
    (in_cores g.J.Join.predicate _ _ c.self.view_is c.requires.going c.from-place.result c.args.core.0 c.from-place.ensures c.requires.within)
