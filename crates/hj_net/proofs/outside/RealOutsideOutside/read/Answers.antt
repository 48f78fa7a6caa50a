use Rattle.std.proofs.Common.{ap}
use Rattle.hj_net.specs.RoleStream.{role_of}
use Rattle.hj_net.proofs.outside.RealOutsideOutside.read.Goals as goal

pub returns-clause-reads : goal.returns-clause-reads
returns-clause-reads g c = c.read.ensures.reads.reads

pub returns-clause-others : goal.returns-clause-others
returns-clause-others g c = λ other apart. ap role_of (c.read.ensures.others other apart)

pub returns-clause-fault : goal.returns-clause-fault
returns-clause-fault g c = c.read.ensures.reads.fault

pub returns-clause-bytes : goal.returns-clause-bytes
returns-clause-bytes g c = c.read.ensures.reads.bytes
