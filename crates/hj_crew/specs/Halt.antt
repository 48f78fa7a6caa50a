-- Where the calling thread's rounds halt.
use Rattle.hj_desk.specs.declared.caller.Round.{Round}
use Rattle.hj_desk.specs.declared.caller.Round.TheVariants as round
use Rattle.hj_crew.specs.declared.drive.Halt.{Halt}
use Rattle.hj_crew.specs.declared.drive.Halt.TheVariants.{Over, GoesOn}

-- what came of these rounds together
abbrev pub round_of : Halt → Round
round_of (Over end) = round.Over end
round_of (GoesOn turners) = round.GotOn
