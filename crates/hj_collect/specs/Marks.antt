-- Marks of cores, and the least of them.
use Rattle.std.specs.Prelude.{ℕ, Bool, true, false, ◌==◌, List, fold, slice_set, slice_index_or, None, Some}
use Rattle.std.specs.declared.option.Option.{Option}
use Rattle.std.specs.declared.cmp.Ordering.{Ordering}
use Rattle.std.specs.declared.cmp.Ordering.TheVariants.{Less, Equal, Greater}
use Rattle.std.specs.Ordering.{nat_cmp}
use Rattle.hj_msg.specs.Punctuation.{Mark as Meaning, up_to, all, lesser}
use Rattle.hj_collect.specs.declared.mark.Mark.{Mark}
use Rattle.hj_collect.specs.declared.mark.Mark.TheVariants.{UpTo, All}

-- what a mark says
abbrev pub meaning : Mark → Meaning
meaning (UpTo at) = up_to at.0
meaning All = all

abbrev pub meaning_of : Option Mark → Option Meaning
meaning_of None = None
meaning_of (Some mark) = Some (meaning mark)

-- The least of the marks, absent where one is absent.
abbrev pub least_of : List (Option Meaning) → Option Meaning
least_of marks = fold lesser (Some all) marks

abbrev pub is_same : Option Meaning → Option Meaning → Bool
is_same None None = true
is_same (Some (up_to a)) (Some (up_to b)) = a == b
is_same (Some all) (Some all) = true
is_same mark other = false

-- how a mark stands to another one, where an absent one is below all
abbrev pub compared : Option Meaning → Option Meaning → Ordering
compared (Some (up_to a)) (Some (up_to b)) = nat_cmp a b
compared None None = Equal
compared (Some all) (Some all) = Equal
compared None (Some mark) = Less
compared (Some (up_to a)) (Some all) = Less
compared (Some mark) None = Greater
compared (Some all) (Some (up_to b)) = Greater

-- a core's mark after it reported an arrival or a quiet event: its end counts as past every number
abbrev pub raised_to : ℕ → Option Meaning → Option Meaning
raised_to number (Some all) = Some all
raised_to number mark = Some (up_to number)

-- the marks after a core reported an arrival or a quiet event, or its end
abbrev pub with_raised : ℕ → ℕ → List (Option Meaning) → List (Option Meaning)
with_raised core number marks = slice_set marks core (raised_to number (slice_index_or marks core None))

abbrev pub with_end : ℕ → List (Option Meaning) → List (Option Meaning)
with_end core marks = slice_set marks core (Some all)
