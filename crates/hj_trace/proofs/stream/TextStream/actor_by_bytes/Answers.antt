use Rattle.std.proofs.Common.{ℕ, ◌<◌, ◌∙◌, arith, length, length-take, take}
use Rattle.std.proofs.Math.ListN.{length-set}
use Rattle.hj_trace.proofs.Commas.{kept, reads_comma, reads_end, reads_failed, reads_long, reads_on}
use Rattle.hj_trace.proofs.Streams.{changes_then, goes_on}
use Rattle.hj_trace.proofs.stream.TextStream.actor_by_bytes.Goals as goal

pub look-requires : goal.look-requires
look-requires g c =
    goes_on _ c.args.self.now c.loop-length.self (g.O.Outside.state c.args.outside.now) (g.O.Outside.state c.loop-length.outside) c.requires c.loop-length.invariant.uses

pub returns-in-End-clause-reads : goal.returns-in-End-clause-reads
returns-in-End-clause-reads g c =
    reads_end (take c.loop-length.length c.loop-length.text) c.args.self.now c.loop-length.self c.look.new.self (g.O.Outside.state c.args.outside.now) (g.O.Outside.state c.loop-length.outside)
    (g.O.Outside.state c.look.new.outside) c.loop-length.invariant.no_comma c.loop-length.invariant.uses c.in-End.ensures.looks c.in-End.ensures.next

pub returns-in-Failed-clause-reads : goal.returns-in-Failed-clause-reads
returns-in-Failed-clause-reads g c =
    reads_failed (take c.loop-length.length c.loop-length.text) c.args.self.now c.loop-length.self c.look.new.self (g.O.Outside.state c.args.outside.now) (g.O.Outside.state c.loop-length.outside)
    (g.O.Outside.state c.look.new.outside) c.loop-length.invariant.uses c.in-Failed.ensures.looks

pub returns-then-byte-eq44-clause-reads : goal.returns-then-byte-eq44-clause-reads
returns-then-byte-eq44-clause-reads g c =
    reads_comma c.actor_of.result (take c.loop-length.length c.loop-length.text) c.in-Byte.byte c.args.self.now c.loop-length.self c.look.new.self c.skip.new.self (g.O.Outside.state c.args.outside.now)
    (g.O.Outside.state c.loop-length.outside) (g.O.Outside.state c.look.new.outside) c.if-byte-eq44.true c.loop-length.invariant.no_comma c.actor_of.ensures c.loop-length.invariant.uses
    c.in-Byte.ensures.looks c.in-Byte.ensures.next c.skip.ensures

pub loop-length-preserved : goal.loop-length-preserved
loop-length-preserved g c =
    let within : c.loop-length.length < length c.loop-length.text = omega (arith, c.loop-length.invariant.long, c.loop-length-test.true) in
    record {
      long = omega (arith, length-set {A = ℕ}, c.loop-length.invariant.long);
      uses = reads_on c.loop-length.text c.loop-length.length c.in-Byte.byte c.args.self.now c.loop-length.self c.look.new.self c.skip.new.self (g.O.Outside.state c.args.outside.now)
          (g.O.Outside.state c.loop-length.outside) (g.O.Outside.state c.look.new.outside) within c.loop-length.invariant.uses c.in-Byte.ensures.looks c.in-Byte.ensures.next c.skip.ensures;
      no_comma = kept c.loop-length.text c.loop-length.length c.in-Byte.byte within c.loop-length.invariant.no_comma c.if-byte-eq44.false;
      others = changes_then c.args.self.now.role c.loop-length.self.role (g.O.Outside.state c.args.outside.now) (g.O.Outside.state c.loop-length.outside) (g.O.Outside.state c.look.new.outside)
          c.loop-length.invariant.uses.role c.loop-length.invariant.others c.in-Byte.ensures.others;
      names = λ name. c.in-Byte.ensures.names name ∙ c.loop-length.invariant.names name;
    }

pub returns-clause-reads : goal.returns-clause-reads
returns-clause-reads g c =
    reads_long (take c.loop-length.length c.loop-length.text) c.args.self.now c.loop-length.self (g.O.Outside.state c.args.outside.now c.args.self.now.role)
    (g.O.Outside.state c.loop-length.outside c.args.self.now.role) c.loop-length.invariant.no_comma
    (omega (arith, length-take c.loop-length.length c.loop-length.text, c.loop-length.invariant.long, c.loop-length-test.false)) c.loop-length.invariant.uses
