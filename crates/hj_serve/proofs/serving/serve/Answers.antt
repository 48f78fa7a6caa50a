use Rattle.std.specs.Prelude.{map, string_bytes}
use Rattle.hj_opening.specs.Words.{order_of}
use Rattle.hj_opening.proofs.Serving.{serves_memory}
use Rattle.hj_serve.proofs.serving.serve.Goals as goal

pub returns-in-Err-Memory-clause-serves : goal.returns-in-Err-Memory-clause-serves
returns-in-Err-Memory-clause-serves g c =
    serves_memory (g.O.Outside.under c.args.outside.now) (g.O.Outside.state c.args.outside.now) (g.K.Sink.told c.args.out.now) (g.K.Sink.faults c.args.out.now) c.requires
    c.refused-in-Err-Memory.result.status (order_of (map string_bytes c.args.words.now)) (g.N.Sink.told c.args.notes.now) (g.N.Sink.told c.refused-in-Err-Memory.new.notes) (g.N.Sink.refusals c.args.notes.now) (g.N.Sink.refusals c.refused-in-Err-Memory.new.notes)
    c.refused-in-Err-Memory.ensures.status c.refused-in-Err-Memory.ensures.note
