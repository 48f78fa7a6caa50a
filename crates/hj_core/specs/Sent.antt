-- What is put on each side of a core, in order.
use Rattle.std.specs.Prelude.{[], ◌∷◌, ◌++◌, option_to_list}
use Rattle.hj_msg.specs.declared.message.Msg.{Msg}
use Rattle.hj_msg.specs.Core as step
use Rattle.hj_core.specs.declared.sends.Sends.{Sends}
use Rattle.hj_core.specs.declared.way.Way.{Way}
use Rattle.hj_core.specs.declared.way.Way.TheVariants.{Left, Right, Nowhere}

abbrev pub sent : {P : Type 0} → Sends P → step.Sends P
sent sends = record { left = option_to_list sends.to_left; right = option_to_list sends.to_right ++ option_to_list sends.to_right_then }

-- what is put there of a message that goes this way
abbrev pub passed_on : {P : Type 0} → Way → Msg P → step.Sends P
passed_on Left message = record { left = message ∷ []; right = [] }
passed_on Right message = record { left = []; right = message ∷ [] }
passed_on Nowhere message = record { left = []; right = [] }
