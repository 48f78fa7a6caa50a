-- The partners that were found for a row.
use Rattle.std.specs.Prelude.{List, [], ◌∷◌}
use Rattle.hj_msg.specs.declared.partner.Partner.{Partner}
use Rattle.hj_msg.specs.declared.partner.Found.{Found}
use Rattle.hj_msg.specs.declared.partner.Found.TheVariants as found

abbrev pub partners_of : {P : Type 0} → Found P → List (Partner P)
partners_of found.Nothing = []
partners_of (found.One partner) = partner ∷ []
partners_of (found.Several partners) = partners.items
