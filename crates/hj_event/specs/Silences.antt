-- When a side has a quiet event, in words of the events alone.
use Rattle.std.specs.Prelude.{◌≡◌, ℕ, ◌≤◌, List, ◌∷◌, ◌++◌, count_by}
use Rattle.hj_base.specs.declared.numbers.EventNo.{EventNo}
use Rattle.hj_base.specs.declared.numbers.Side.{Side}
use Rattle.hj_msg.specs.declared.event.Event.{Event}
use Rattle.hj_msg.specs.declared.event.Event.TheVariants.{Quiet}
use Rattle.hj_msg.specs.Quiet.{other_side, arrives_on, tells_of}

-- At the end of these events, where no arrival and no quiet event of this side stands, so many rows of the other side arrive.
pub record IsSilentFor {P : Type 0} (side : Side) (count : ℕ) (events : List (Event P)) : Type 0 where
  pub before : List (Event P)
  pub behind : List (Event P)
  pub is : events ≡ before ++ behind
  pub silent : count_by (tells_of side) behind ≡ 0
  pub arrive : count_by (arrives_on (other_side side)) behind ≡ count

-- A side has a quiet event only where so many rows of the other side, at least one, arrive in its silence.
abbrev pub IsQuietOnlyAfter : {P : Type 0} → ℕ → List (Event P) → Type 0
IsQuietOnlyAfter {P} quiet events =
    (before behind : List (Event P)) (at : EventNo) (side : Side) → events ≡ before ++ Quiet at side ∷ behind → (1 ≤ quiet) × IsSilentFor side quiet before
