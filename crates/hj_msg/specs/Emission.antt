-- The pairs that are emitted in order while the streams still run (Roy, Teubner and Gemulla, PVLDB 2014): those within the
-- punctuation, by the later number and then by the earlier one, whatever the order in which the reports were taken.
use Rattle.std.specs.Prelude.{ℕ, Bool, true, false, ◌&&◌, ◌||◌, ◌==◌, nat_lt, nat_le, List, filter, None, Some}
use Rattle.std.specs.declared.option.Option.{Option}
use Rattle.hj_msg.specs.declared.event.Pair.{Pair}
use Rattle.hj_msg.specs.declared.message.Report.{Report}
use Rattle.hj_msg.specs.Order.{sort_by}
use Rattle.hj_msg.specs.Valid.{later, earlier}
use Rattle.hj_msg.specs.Met.{met}
use Rattle.hj_msg.specs.Punctuation.{Mark, up_to, all, punctuation}

-- whether a number is at most a mark
abbrev pub is_within : Option Mark → ℕ → Bool
is_within None number = false
is_within (Some (up_to mark)) number = nat_le number mark
is_within (Some all) number = true

-- whether a pair comes before another: by the later number, then by the earlier one
abbrev pub comes_before : {P : Type 0} → Pair P → Pair P → Bool
comes_before p q = nat_lt (later p) (later q) || (later p == later q && nat_lt (earlier p) (earlier q))

abbrev pub emitted : {P : Type 0} → List (List (Report P)) → List (Pair P)
emitted lists = sort_by comes_before (filter (λ pair. is_within (punctuation lists) (later pair)) (met lists))
