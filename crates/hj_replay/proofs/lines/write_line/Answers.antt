use Rattle.std.proofs.Common.{[], refl}
use Rattle.std.proofs.KnownBytes.{Appends-nil}
use Rattle.hj_replay.proofs.Feeding.{fed_by}
use Rattle.hj_replay.proofs.lines.write_line.Goals as goal

pub returns-then-eq-clause-feed : goal.returns-then-eq-clause-feed
returns-then-eq-clause-feed g c = fed_by c.args.feed.now c.play.new.feed c.play.ensures.asked

pub returns-then-eq-clause-sends : goal.returns-then-eq-clause-sends
returns-then-eq-clause-sends g c = record { grown = []; written = Appends-nil (g.K.Sink.told c.args.out.now); front = record { rest = _; is = refl } }

pub returns-clause-feed : goal.returns-clause-feed
returns-clause-feed g c = fed_by c.args.feed.now c.play.new.feed c.play.ensures.asked

pub returns-in-Memory-clause-feed : goal.returns-in-Memory-clause-feed
returns-in-Memory-clause-feed g c = fed_by c.args.feed.now c.play.new.feed c.play.ensures.asked
