use Rattle.hj_opening.specs.Calls.{call}
use Rattle.hj_opening.proofs.Serving.{serves_order}
use Rattle.hj_serve.specs.OrderPlan.{asked_alone}
use Rattle.hj_serve.proofs.serial.serve_serial.Goals as goal

pub returns : goal.returns
returns g c = record {
  serves = serves_order (call (g.O.Outside.under c.args.outside.now) (g.O.Outside.state c.args.outside.now) (g.O.Outside.state c.run_alone-ended.new.outside) (g.K.Sink.told c.args.out.now) (g.K.Sink.told c.run_alone-ended.new.out) (g.K.Sink.faults c.args.out.now) (g.K.Sink.faults c.run_alone-ended.new.out))
      c.report.result c.run_alone-ended.result (asked_alone c.args.order) (g.N.Sink.told c.args.notes.now) (g.N.Sink.told c.report.new.notes) (g.N.Sink.refusals c.args.notes.now) (g.N.Sink.refusals c.report.new.notes)
      c.report.ensures.status c.run_alone-ended.ensures c.report.ensures.note;
}
