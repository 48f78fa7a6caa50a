-- The text of an actor in a trace: one of the driver's three, or a letter and the number of a core, with the end at which the core
-- takes a message.
use Rattle.std.specs.Prelude.{ℕ, ◌<◌, ◌^◌, List, ◌++◌, codes}
use Rattle.std.specs.Fmt.{decimal}
use Rattle.hj_base.specs.declared.numbers.Side.{Side}
use Rattle.hj_base.specs.declared.numbers.Side.TheVariants.{Left, Right}
use Rattle.hj_chain.specs.declared.actor.Actor.{Actor}
use Rattle.hj_chain.specs.declared.actor.Actor.TheVariants.{Admit, PortLeft, PortRight, Core, Collect}

abbrev pub end_text : Side → List ℕ
end_text Left = codes "L"
end_text Right = codes "R"

abbrev pub actor_text : Actor → List ℕ
actor_text Admit = codes "A"
actor_text PortLeft = codes "PL"
actor_text PortRight = codes "PR"
actor_text (Core place end) = codes "C" ++ decimal place.0 ++ end_text end
actor_text (Collect place) = codes "K" ++ decimal place.0

-- The number of a core has 16 bits.
abbrev pub IsNumbered : Actor → Type 0
IsNumbered Admit = Unit {0}
IsNumbered PortLeft = Unit {0}
IsNumbered PortRight = Unit {0}
IsNumbered (Core place end) = place.0 < 2 ^ 16
IsNumbered (Collect place) = place.0 < 2 ^ 16
