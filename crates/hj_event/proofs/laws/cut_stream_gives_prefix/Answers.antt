use Rattle.hj_event.specs.Events.{events_of}
use Rattle.hj_event.proofs.CutRows.{events_of-cut, events-begin, ends_as}
use Rattle.hj_event.proofs.laws.cut_stream_gives_prefix.Goals as goal

pub returns-clause-events : goal.returns-clause-events
returns-clause-events c = λ query limit cut_left cut_right left right h k. events-begin (events_of query cut_left cut_right limit) (events_of query left right limit) (events_of-cut query limit cut_left cut_right left right h k)

pub returns-clause-ending : goal.returns-clause-ending
returns-clause-ending c = λ query limit cut_left cut_right left right h k. ends_as (events_of query cut_left cut_right limit) (events_of query left right limit) (events_of-cut query limit cut_left cut_right left right h k)
