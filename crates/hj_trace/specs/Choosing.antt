-- What is seen of the rule by which the actors of the steps are named.
use Rattle.hj_chain.specs.Serial.{Choosing, from_place, by_draw}
use Rattle.hj_trace.specs.declared.naming.Naming.{Naming}
use Rattle.hj_trace.specs.declared.naming.Naming.TheVariants as naming

-- where it stands
abbrev pub choosing_in : Naming → Choosing
choosing_in (naming.From place) = from_place place
choosing_in (naming.Drawn held) = by_draw held
