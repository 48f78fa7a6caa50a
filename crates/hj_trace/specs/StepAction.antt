-- What an actor does in a step, as it is lent.
use Rattle.hj_msg.specs.Driver.{admission, receipt, closing}
use Rattle.hj_chain.specs.Chain.{Action, asks, drives, handles, collects}
use Rattle.hj_trace.specs.declared.line.StepAction.{StepAction}
use Rattle.hj_trace.specs.declared.line.StepAction.TheVariants as doing

abbrev pub action_in : {P : Type 0} → StepAction P → Action P
action_in doing.Asks = asks
action_in (doing.Admits event) = drives (admission event.now)
action_in doing.Closes = drives closing
action_in (doing.Receives port message) = drives (receipt port message.now)
action_in (doing.Handles place end message) = handles place.0 end message.now
action_in (doing.Collects place report) = collects place.0 report.now
