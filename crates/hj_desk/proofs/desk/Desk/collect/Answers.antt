use Rattle.std.proofs.Common.{◌+◌, true, refl, sym, ◌∙◌}
use Rattle.hj_desk.specs.Outlet.{KeepsReport, LosesReport}
use Rattle.hj_desk.proofs.Collecting.{finds-none, granted, refused, takes-report}
use Rattle.hj_desk.proofs.desk.Desk.collect.Goals as goal

pub returns-in_default : goal.returns-in_default
returns-in_default g c = (
  finds-none c.args.self.now c.args.core c.from.result c.from.ensures c.index_mut.result.now c.take.new.self c.requires.in_range c.index_mut.ensures.value c.take.ensures.link.0 c.take.ensures.link.1 c.in_default.ensures.same c.in_default.ensures.empty.0
      c.in_default.ensures.empty.2,
  refl,
)

pub returns-then-is_err : goal.returns-then-is_err
returns-then-is_err g c =
    let old = c.args.self.now in
    let lost : LosesReport g.O.Outlet.gave c.update_marks.new.self c.in-Some.report c.args.outlet.now c.keep.new.self =
    refused c.keep.result (LosesReport g.O.Outlet.gave c.update_marks.new.self c.in-Some.report c.args.outlet.now c.keep.new.self) (sym c.is_err.ensures.value ∙ c.if-is_err.true) c.keep.ensures.lost in (
      c.in-Some.report,
      takes-report old c.args.core c.from.result c.from.ensures c.index_mut.result.now c.take.new.self c.requires.in_range c.index_mut.ensures.value c.take.ensures.link.0 c.take.ensures.link.1 c.in-Some.report (old.turns + 1) refl c.in-Some.ensures.taken.0 c.update_marks.new.self
          c.update_marks.ensures true,
      refl,
      lost,
    )

pub returns : goal.returns
returns g c =
    let old = c.args.self.now in
    let kept : KeepsReport g.O.Outlet.gave c.update_marks.new.self c.in-Some.report c.args.outlet.now c.keep.new.self =
    granted c.keep.result (KeepsReport g.O.Outlet.gave c.update_marks.new.self c.in-Some.report c.args.outlet.now c.keep.new.self) (sym c.is_err.ensures.value ∙ c.if-is_err.false) c.keep.ensures.kept in (
      c.in-Some.report,
      takes-report old c.args.core c.from.result c.from.ensures c.index_mut.result.now c.take.new.self c.requires.in_range c.index_mut.ensures.value c.take.ensures.link.0 c.take.ensures.link.1 c.in-Some.report (old.turns + 1) refl c.in-Some.ensures.taken.0 c.update_marks.new.self
          c.update_marks.ensures old.over,
      refl,
      kept,
    )
