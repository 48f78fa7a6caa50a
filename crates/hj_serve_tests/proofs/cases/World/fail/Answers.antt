use Rattle.std.proofs.Common.{◌∷◌, ◌++◌, [], true, refl}
use Rattle.hj_base.specs.MemOutside.{stream_at}
use Rattle.hj_serve_tests.proofs.MemoryRoles.{unbegun-with}
use Rattle.hj_serve_tests.proofs.cases.World.fail.Goals as goal

pub returns-in-Start : goal.returns-in-Start
returns-in-Start g c =
    unbegun-with c.fail_start.result c.args.self.now.outside c.fail_start.new.self c.in-Start.role (record (stream_at c.args.self.now.outside c.in-Start.role) { start_fails = true }) refl c.fail_start.ensures.listed c.fail_start.ensures.refused c.requires

pub returns-in-Read : goal.returns-in-Read
returns-in-Read g c =
    let stream = stream_at c.args.self.now.outside c.in-Read.role in
    unbegun-with c.fail_read.result c.args.self.now.outside c.fail_read.new.self c.in-Read.role (record stream { failing = stream.failing ++ c.clamp.result ∷ [] }) refl c.fail_read.ensures.listed c.fail_read.ensures.refused c.requires
