use Rattle.std.proofs.Common.{◌-◌, ap, arith, rules}
use Rattle.hj_record.specs.Cutter.{Cutting}
use Rattle.hj_record.proofs.PassLemmas.{passes, passes_cuts, passes_leads}
use Rattle.hj_record.proofs.cutter.Cutter.skip_piece.Goals as goal

pub returns-clause-takes : goal.returns-clause-takes
returns-clause-takes c = λ bytes enough line.
    passes_cuts c.args.self.now _ c.args.used bytes (omega arith)
    (passes c.args.self.now _ c.args.used c.self.inside.inside bytes (search rules) c.requires.going c.requires.some c.requires.within (ap (λ (v : Cutting). record v { room = v.room - c.args.used }) c.self.view_is) enough line)

pub returns-clause-leads : goal.returns-clause-leads
returns-clause-leads c = λ bytes enough line.
    passes_leads c.args.self.now _ c.args.used bytes
    (passes c.args.self.now _ c.args.used c.self.inside.inside bytes (search rules) c.requires.going c.requires.some c.requires.within (ap (λ (v : Cutting). record v { room = v.room - c.args.used }) c.self.view_is) enough line)
