-- The turns of a core, as the journals of its two ends and of its reports show them. One turn is the take of one message,
-- then what the core sends for it, then its report, all under one number. Turns are this project's own profile.
use Rattle.std.specs.Prelude.{◌≡◌, ◌⊎◌, ℕ, Bool, List, [], ◌∷◌, ◌++◌, map, option_to_list, IfSome}
use Rattle.std.specs.declared.option.Option.{Option}
use Rattle.std.specs.List.Sorted.{IsStrictlyIncreasing}
use Rattle.std.specs.List.{flat_map}
use Rattle.hj_base.specs.declared.numbers.Side.{Side}
use Rattle.hj_base.specs.declared.numbers.Side.TheVariants.{Left, Right}
use Rattle.hj_base.specs.Journals.{Entry, IsPrefix, put, taken}
use Rattle.hj_msg.specs.declared.message.Msg.{Msg}
use Rattle.hj_msg.specs.declared.message.Report.{Report}
use Rattle.hj_msg.specs.declared.message.Report.TheVariants.{NoMemory}
use Rattle.hj_msg.specs.Core.{State, empty_state, after, sends, report}

pub record Turn (P : Type 0) : Type 0 where
  pub number : ℕ
  -- the message, and the end at which it was taken
  pub end : Side
  pub message : Msg P
  -- what was put on each side, and the report if there was one
  pub to_left : List (Msg P)
  pub to_right : List (Msg P)
  pub reports : List (Report P)

-- what was done at one end, as it stands in the journal of an end
abbrev pub only_at : {X : Type 0} → Side → Side → X → List X
only_at Left Left entry = entry ∷ []
only_at Right Right entry = entry ∷ []
only_at Left Right entry = []
only_at Right Left entry = []

-- The entries of a turn in the journals of the core's left end, of its right end, and of its reports.
abbrev pub at_left : {P : Type 0} → Turn P → List (Entry (Msg P))
at_left turn = only_at turn.end Left (taken turn.number turn.message) ++ map (put turn.number) turn.to_left

abbrev pub at_right : {P : Type 0} → Turn P → List (Entry (Msg P))
at_right turn = only_at turn.end Right (taken turn.number turn.message) ++ map (put turn.number) turn.to_right

abbrev pub at_reports : {P : Type 0} → Turn P → List (Entry (Report P))
at_reports turn = map (put turn.number) turn.reports

-- A whole turn puts all that the core sends, and its report if it has one.
pub record IsWhole {P : Type 0} (matches : P → P → Bool) (place n : ℕ) (state : State P) (turn : Turn P) : Type 0 where
  pub left : turn.to_left ≡ (sends place n turn.message).left
  pub right : turn.to_right ≡ (sends place n turn.message).right
  pub reports : turn.reports ≡ option_to_list (report matches state turn.message)

-- A turn that was cut put a prefix of that on each side, and its report is missing or says that memory ran out.
pub record IsCut {P : Type 0} (place n : ℕ) (turn : Turn P) : Type 0 where
  pub left : IsPrefix turn.to_left (sends place n turn.message).left
  pub right : IsPrefix turn.to_right (sends place n turn.message).right
  pub reports : (turn.reports ≡ []) ⊎ (turn.reports ≡ NoMemory ∷ [])

-- whole turns, one after another, from this state on
abbrev pub AreWhole : {P : Type 0} → (P → P → Bool) → ℕ → ℕ → State P → List (Turn P) → Type 0
AreWhole matches place n state [] = Unit {0}
AreWhole matches place n state (turn ∷ later) =
    IsWhole matches place n state turn × AreWhole matches place n (after place n state turn.message) later

-- Whole turns, and perhaps a last one that was cut.
pub record Turns (P : Type 0) : Type 0 where
  pub whole : List (Turn P)
  pub cut : Option (Turn P)

abbrev pub all_of : {P : Type 0} → Turns P → List (Turn P)
all_of turns = turns.whole ++ option_to_list turns.cut

-- the messages that the core handled, in its order
abbrev pub handled : {P : Type 0} → Turns P → List (Msg P)
handled turns = map (λ turn. turn.message) (all_of turns)

-- The journals of a core's two ends and of its reports are those of these turns, which begin with nothing kept.
pub record TakesTurns {P : Type 0} (matches : P → P → Bool) (place n : ℕ) (turns : Turns P)
    (left_end right_end : List (Entry (Msg P))) (reports_end : List (Entry (Report P))) : Type 0 where
  pub rising : IsStrictlyIncreasing (map (λ turn. turn.number) (all_of turns))
  pub whole : AreWhole matches place n empty_state turns.whole
  pub cut : IfSome turns.cut (IsCut place n)
  pub left : left_end ≡ flat_map at_left (all_of turns)
  pub right : right_end ≡ flat_map at_right (all_of turns)
  pub reports : reports_end ≡ flat_map at_reports (all_of turns)
