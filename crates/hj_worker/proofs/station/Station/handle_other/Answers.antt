use Rattle.hj_core.specs.Contents.{state_of}
use Rattle.hj_worker.proofs.Handling.{made}
use Rattle.hj_worker.proofs.station.Station.handle_other.Goals as goal

pub returns : goal.returns
returns g c = record {
  kept = c.handle.ensures.kept;
  links = c.put_made.ensures.links;
  state = c.in-Ok.ensures.state;
  puts =
      made g.J.Join.predicate (state_of g.S.Store.entries) c.args.self.now.core c.handle.new.self c.args.message c.answer-sends.result c.handle.ensures.kept c.in-Ok.ensures.state
      c.answer-sends.ensures.sends c.in-Ok.entry c.answer-sends.ensures.report c.in-Ok.ensures.report c.args.turn c.args.self.now.ends c.put_made.new.self c.put_made.new.hand c.put_made.ensures.puts;
  refused = tt;
}
