use Rattle.std.proofs.Common.{◌≡◌}
use Rattle.hj_collect.specs.Collector.{least_mark}
use Rattle.hj_raw.specs.WaitingItems.{with_report}
use Rattle.hj_desk.specs.Outlet.{KeepsReport, LosesReport}
use Rattle.hj_desk.specs.RawOutlet.{GivesRaw}
use Rattle.hj_desk.proofs.Ordering.{then-ok}
use Rattle.hj_desk.proofs.RawGiving.{if-refused, raw-keeps, raw-loses}
use Rattle.hj_desk.proofs.raw.RawOutletOutlet.keep.Goals as goal

pub returns-clause-kept : goal.returns-clause-kept
returns-clause-kept g c =
    let old = c.args.self.now in
    then-ok c.keep.result (c.keep.new.self ≡ with_report c.args.report.now (least_mark c.args.collector.now) old.items)
    (KeepsReport (GivesRaw g.D.RawDrain.takes) c.args.collector.now c.args.report.now old (record old { items = c.keep.new.self }))
    (λ grown. raw-keeps g.D.RawDrain.takes c.args.collector.now c.args.report.now old c.keep.new.self grown) c.keep.ensures

pub returns-clause-lost : goal.returns-clause-lost
returns-clause-lost g c =
    let old = c.args.self.now in
    if-refused c.keep.result (LosesReport (GivesRaw g.D.RawDrain.takes) c.args.collector.now c.args.report.now old (record old { items = c.keep.new.self }))
    (raw-loses g.D.RawDrain.takes c.args.collector.now c.args.report.now old c.keep.new.self)
