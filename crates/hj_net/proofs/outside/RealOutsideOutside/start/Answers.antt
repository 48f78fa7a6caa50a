use Rattle.std.proofs.Common.{ap, rules}
use Rattle.hj_net.specs.Address.{address_of}
use Rattle.hj_net.specs.Channel.{IsOpenedFor}
use Rattle.hj_net.specs.RoleStream.{role_of, stream_of}
use Rattle.hj_net.specs.RoleStreams.{stream_at}
use Rattle.hj_net.proofs.HeldChannel.{holds_opened}
use Rattle.hj_net.proofs.outside.RealOutsideOutside.start.Goals as goal

pub returns-clause-starts : goal.returns-clause-starts
returns-clause-starts g c = search (rules, c.begin.ensures.begins.starts)

pub returns-clause-others : goal.returns-clause-others
returns-clause-others g c = λ other apart. ap role_of (c.begin.ensures.others other apart)

pub returns-clause-fault : goal.returns-clause-fault
returns-clause-fault g c = c.begin.ensures.begins.fault

pub returns-clause-channel : goal.returns-clause-channel
returns-clause-channel g c = λ ready.
    holds_opened c.open-opened.result (IsOpenedFor (address_of c.args.name.now)) (stream_of (stream_at c.begin.new.self c.args.role)) (c.begin.ensures.begins.ready.0 ready) c.begin.ensures.begins.stream c.open-opened.ensures
