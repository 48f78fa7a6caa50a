use Rattle.std.specs.declared.option.Option.TheVariants.{Some}
use Rattle.hj_core.specs.Contents.{state_of}
use Rattle.hj_worker.proofs.Handling.{made}
use Rattle.hj_worker.proofs.station.Station.handle_row.Goals as goal

pub returns : goal.returns
returns g c = record {
  kept = c.handle_row.ensures.kept;
  links = c.put_made.ensures.links;
  state = c.in-Ok.ensures.state;
  puts =
      made g.J.Join.predicate (state_of g.S.Store.entries) c.args.self.now.core c.handle_row.new.self _ c.answer-sends.result c.handle_row.ensures.kept c.in-Ok.ensures.state
      (rw (c.row_message-2.ensures) at c.answer-sends.ensures.sends) (Some c.in-Ok.report) c.answer-sends.ensures.report c.in-Ok.ensures.report c.args.turn c.args.self.now.ends c.put_made.new.self c.put_made.new.hand
      c.put_made.ensures.puts;
  refused = tt;
}
