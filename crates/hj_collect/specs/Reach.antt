-- What it says how far a core has come.
use Rattle.std.specs.Prelude.{None, Some}
use Rattle.std.specs.declared.option.Option.{Option}
use Rattle.hj_msg.specs.Punctuation.{Mark as Meaning, up_to, all}
use Rattle.hj_collect.specs.declared.reach.Reach.{Reach}
use Rattle.hj_collect.specs.declared.reach.Reach.TheVariants.{Nowhere, UpTo, All}

abbrev pub reached : Reach → Option Meaning
reached Nowhere = None
reached (UpTo at) = Some (up_to at.0)
reached All = Some all
