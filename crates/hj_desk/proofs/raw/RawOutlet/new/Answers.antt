use Rattle.std.proofs.Common.{ap}
use Rattle.hj_raw.specs.WaitingItems.{WaitingItems}
use Rattle.hj_desk.proofs.RawGiving.{raw-unused}
use Rattle.hj_desk.proofs.raw.RawOutlet.new.Goals as goal

pub returns-clause-unused : goal.returns-clause-unused
returns-clause-unused g c = λ cores some.
    raw-unused g.D.RawDrain.takes (record { items = c.new.result; drain = c.args.drain }) (ap (λ (w : WaitingItems g.row.P.Denot). w.items) c.new.ensures) (ap (λ (w : WaitingItems g.row.P.Denot). w.mark) c.new.ensures) cores some
