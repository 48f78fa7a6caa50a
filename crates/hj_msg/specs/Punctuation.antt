-- Up to which number all pairs have been met (punctuation: Roy, Teubner and Gemulla, PVLDB 2014). That a mark is the number
-- of an event, and that each core has one for each side, is this project's own profile.
use Rattle.std.specs.Prelude.{ℕ, ◌==◌, Bool, false, true, List, [], ◌∷◌, min, fold, None, Some, if◌then◌else◌}
use Rattle.std.specs.declared.option.Option.{Option}
use Rattle.std.specs.List.{list_any, filter_map, flat_map, last_or}
use Rattle.hj_base.specs.declared.numbers.Side.{Side}
use Rattle.hj_base.specs.declared.numbers.Side.TheVariants.{Left, Right}
use Rattle.hj_msg.specs.declared.message.Report.{Report}
use Rattle.hj_msg.specs.declared.message.Report.TheVariants.{Handled, Quiet, Ended}

-- a number, or past every number
pub data Mark : Type 0 where
  up_to : (number : ℕ) → Mark
  all : Mark

-- the number up to which a report tells of all arrivals of this side: that of an arrival, or of a quiet event
abbrev pub told_up_to : {P : Type 0} → Side → Report P → Option ℕ
told_up_to Left (Handled at Left row partners) = Some at.0
told_up_to Right (Handled at Right row partners) = Some at.0
told_up_to Left (Quiet at Left) = Some at.0
told_up_to Right (Quiet at Right) = Some at.0
told_up_to side report = None

-- whether a report is that of an arrival or of a quiet event of this side, under this number
abbrev pub tells : {P : Type 0} → Side → ℕ → Report P → Bool
tells Left n (Handled at Left row partners) = at.0 == n
tells Right n (Handled at Right row partners) = at.0 == n
tells Left n (Quiet at Left) = at.0 == n
tells Right n (Quiet at Right) = at.0 == n
tells side n report = false

abbrev pub is_end : {P : Type 0} → Report P → Bool
is_end Ended = true
is_end report = false

abbrev mark_at : Option ℕ → Option Mark
mark_at None = None
mark_at (Some number) = Some (up_to number)

-- A core's mark for a side: the last arrival or quiet event of that side that it reported. Its end counts as past every number.
abbrev pub mark_of : {P : Type 0} → Side → List (Report P) → Option Mark
mark_of side reports = if list_any is_end reports then Some all else mark_at (last_or None (filter_map (told_up_to side) reports))

-- the lesser of two marks, absent where one is absent
abbrev pub lesser : Option Mark → Option Mark → Option Mark
lesser (Some (up_to a)) (Some (up_to b)) = Some (up_to (min a b))
lesser (Some (up_to a)) (Some all) = Some (up_to a)
lesser (Some all) (Some mark) = Some mark
lesser None mark = None
lesser (Some mark) None = None

-- The punctuation: the least mark of all cores and both sides.
abbrev pub punctuation : {P : Type 0} → List (List (Report P)) → Option Mark
punctuation lists = fold lesser (Some all) (flat_map (λ reports. mark_of Left reports ∷ mark_of Right reports ∷ []) lists)
