use Rattle.hj_event.proofs.arrivals.Arrivals.is_ready.Goals as goal

pub returns-then-is_ready : goal.returns-then-is_ready
returns-then-is_ready c = rw (← c.self.view_is) (λ ready. (c.is_ready.ensures c.if-is_ready.true, c.is_ready-then-is_ready.ensures ready))
