use Rattle.std.proofs.Common.{◌≡◌, ◌++◌, IsPermutation}
use Rattle.hj_msg.specs.Met.{pairs_of}
use Rattle.hj_desk.specs.OrderedOutlet.{GivesInOrder}
use Rattle.hj_desk.specs.Outlet.{KeepsReport, LosesReport}
use Rattle.hj_desk.proofs.Ordering.{keeps-report, loses-report, then-err, then-ok}
use Rattle.hj_desk.proofs.in_order.OrderedOutletOutlet.keep.Goals as goal

pub returns-clause-kept : goal.returns-clause-kept
returns-clause-kept g c =
    let old = c.args.self.now in
    then-ok c.keep.result (IsPermutation (old.kept ++ pairs_of c.args.report.now) c.keep.new.self)
    (KeepsReport (GivesInOrder g.D.Drain.takes) c.args.collector.now c.args.report.now old (record old { kept = c.keep.new.self }))
    (λ more. keeps-report g.D.Drain.takes c.args.collector.now c.args.report.now old c.keep.new.self more) c.keep.ensures.ok

pub returns-clause-lost : goal.returns-clause-lost
returns-clause-lost g c =
    let old = c.args.self.now in
    then-err c.keep.result (c.keep.new.self ≡ old.kept) (LosesReport (GivesInOrder g.D.Drain.takes) c.args.collector.now c.args.report.now old (record old { kept = c.keep.new.self }))
    (λ same. loses-report g.D.Drain.takes c.args.collector.now c.args.report.now old c.keep.new.self) c.keep.ensures.err
