use Rattle.std.proofs.Common.{ap, sym, ◌∙◌}
use Rattle.hj_core.specs.Contents.{state_of}
use Rattle.hj_worker.specs.Hands.{in_hand, things_of}
use Rattle.hj_worker.specs.Seen.{journals_of}
use Rattle.hj_worker.proofs.Ending.{end-put}
use Rattle.hj_worker.proofs.Handling.{between-of, midst-of}
use Rattle.hj_worker.proofs.Telling.{Told, told-next, told-rest}
use Rattle.hj_worker.proofs.worker.Worker.turn.Given.{Over}
use Rattle.hj_worker.proofs.worker.Worker.turn.Goals as goal

pub put_rest-requires : goal.put_rest-requires
put_rest-requires g c =
    let w = c.self.inside in
    let midst = midst-of (g.J.Join.predicate w.station.core.join) w.station.core.place w.station.core.cores (state_of g.S.Store.entries w.station.core) (journals_of w.station.ends) w.taken w.station.hand c.in-Rest.field-0 c.in-Rest.is c.self.invariant in
    (things_of c.in-Rest.field-0, ap in_hand c.in-Rest.is, midst.some)

rest : (g : Over) (c : goal.After-put_rest g) → Told g.J.Join.predicate c.args.self.now c.put_rest.result c.put_rest.new.self
rest g c =
    let w = c.self.inside in
    let midst = midst-of (g.J.Join.predicate w.station.core.join) w.station.core.place w.station.core.cores (state_of g.S.Store.entries w.station.core) (journals_of w.station.ends) w.taken w.station.hand c.in-Rest.field-0 c.in-Rest.is c.self.invariant in
    told-rest g.J.Join.predicate _ c.args.self.now c.saturating_add-self-inside.result (things_of c.in-Rest.field-0) c.put_rest.result c.put_rest.new.self c.self.view_is (ap in_hand c.in-Rest.is) midst.some
    (c.put_rest.ensures.in_hand (things_of c.in-Rest.field-0) (ap in_hand c.in-Rest.is) midst.some)

next : (g : Over) (c : goal.After-handle_next g) → Told g.J.Join.predicate c.args.self.now c.handle_next.result c.handle_next.new.self
next g c =
    told-next g.J.Join.predicate _ c.args.self.now c.saturating_add-self-inside.result c.first_look.result c.handle_next.result c.handle_next.new.self c.self.view_is (ap in_hand c.in-Nothing.is)
    (sym c.ended.ensures ∙ c.if-ended.false) c.first_look.ensures c.handle_next.ensures.goes_on

pub returns-else-ended-clause-no_memory : goal.returns-else-ended-clause-no_memory
returns-else-ended-clause-no_memory g c = (next g c).no_memory

pub returns-else-ended-clause-in_hand : goal.returns-else-ended-clause-in_hand
returns-else-ended-clause-in_hand g c = (next g c).in_hand

pub returns-else-ended-clause-goes_on : goal.returns-else-ended-clause-goes_on
returns-else-ended-clause-goes_on g c = (next g c).goes_on

pub returns-else-ended-clause-did : goal.returns-else-ended-clause-did
returns-else-ended-clause-did g c = (next g c).did

pub returns-else-ended-clause-idle : goal.returns-else-ended-clause-idle
returns-else-ended-clause-idle g c = (next g c).idle

pub returns-else-ended-clause-blocked : goal.returns-else-ended-clause-blocked
returns-else-ended-clause-blocked g c = (next g c).blocked

pub returns-else-ended-clause-ended : goal.returns-else-ended-clause-ended
returns-else-ended-clause-ended g c = (next g c).ended

pub returns-else-ended-clause-ended_stays : goal.returns-else-ended-clause-ended_stays
returns-else-ended-clause-ended_stays g c = (next g c).ended_stays

pub returns-then-ended-clause-ended_reported : goal.returns-then-ended-clause-ended_reported
returns-then-ended-clause-ended_reported g c = λ _.
    let w = c.self.inside in
    let matches = g.J.Join.predicate w.station.core.join in
    let state = state_of g.S.Store.entries w.station.core in
    let between = between-of matches w.station.core.place w.station.core.cores state (journals_of w.station.ends) w.taken w.station.hand (ap in_hand c.in-Nothing.is) c.self.invariant in
    end-put matches w.station.core.place w.station.core.cores state (journals_of w.station.ends) w.taken between (sym c.ended.ensures ∙ c.if-ended.true)

pub returns-else-ended-clause-ended_reported : goal.returns-else-ended-clause-ended_reported
returns-else-ended-clause-ended_reported g c = (next g c).ended_reported

pub returns-in-Rest-clause-ended_reported : goal.returns-in-Rest-clause-ended_reported
returns-in-Rest-clause-ended_reported g c = (rest g c).ended_reported

pub returns-in-Rest-clause-no_memory : goal.returns-in-Rest-clause-no_memory
returns-in-Rest-clause-no_memory g c = (rest g c).no_memory

pub returns-in-Rest-clause-in_hand : goal.returns-in-Rest-clause-in_hand
returns-in-Rest-clause-in_hand g c = (rest g c).in_hand

pub returns-in-Rest-clause-goes_on : goal.returns-in-Rest-clause-goes_on
returns-in-Rest-clause-goes_on g c = (rest g c).goes_on

pub returns-in-Rest-clause-did : goal.returns-in-Rest-clause-did
returns-in-Rest-clause-did g c = (rest g c).did

pub returns-in-Rest-clause-idle : goal.returns-in-Rest-clause-idle
returns-in-Rest-clause-idle g c = (rest g c).idle

pub returns-in-Rest-clause-blocked : goal.returns-in-Rest-clause-blocked
returns-in-Rest-clause-blocked g c = (rest g c).blocked

pub returns-in-Rest-clause-ended : goal.returns-in-Rest-clause-ended
returns-in-Rest-clause-ended g c = (rest g c).ended

pub returns-in-Rest-clause-ended_stays : goal.returns-in-Rest-clause-ended_stays
returns-in-Rest-clause-ended_stays g c = (rest g c).ended_stays
