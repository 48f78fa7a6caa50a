use Rattle.hj_serve_tests.proofs.MemoryRoles.{unbegun-contents}
use Rattle.hj_serve_tests.proofs.cases.World.add.Goals as goal

pub returns : goal.returns
returns g c = unbegun-contents c.args.self.now.outside c.add.new.self c.add.ensures.streams c.requires
