-- The streams of a call, as far as it read them.
use Rattle.std.specs.Prelude.{◌≡◌, ℕ, List, Bool, true, false, IfSome}
use Rattle.std.specs.Io.KnownBytes.{Consumes, IsAtEnd}
use Rattle.std.specs.declared.option.Option.{Option}
use Rattle.hj_base.specs.declared.outside.Role.{Role}
use Rattle.hj_base.specs.declared.outside.Role.TheVariants as role
use Rattle.hj_base.specs.Counts.{Rose}
use Rattle.hj_base.specs.Outside.{RoleState, Phase, unbegun, opened, refused}
use Rattle.hj_record.specs.Pieces.{Stream}
use Rattle.hj_opening.specs.Words.{Names}

-- Of a role that was begun, the name is this one.
abbrev pub IsBegunUnder : List ℕ → Phase → Type 0
IsBegunUnder name unbegun = Unit {0}
IsBegunUnder name (opened given ended) = given ≡ name
IsBegunUnder name (refused given) = given ≡ name

-- These bytes stand under a name, where that is told.
abbrev pub StandsUnder : Option (List ℕ) → List ℕ → Type 0
StandsUnder told bytes = IfSome told (λ known. known ≡ bytes)

-- A role was read to its end.
abbrev pub IsReadToEnd : List ℕ → RoleState → Type 0
IsReadToEnd name now = (now.phase ≡ opened name true) × IsAtEnd now.left

-- The role's count of faults rose, or stands at its end.
abbrev pub Fails : Role → (Role → RoleState) → (Role → RoleState) → Type 0
Fails of before now = Rose (before of).faults (now of).faults

-- No role's count of faults rose.
abbrev pub NoneFails : (Role → RoleState) → (Role → RoleState) → Type 0
NoneFails before now = (of : Role) → ¬ (Fails of before now)

-- a read of the role has answered its end
abbrev pub has_ended : Phase → Bool
has_ended unbegun = false
has_ended (opened name ended) = ended
has_ended (refused name) = false

-- All bytes that stand under a name.
pub record IsWholeStream (told : Option (List ℕ)) (stream : Stream) : Type 0 where
  pub bytes : StandsUnder told stream.bytes
  pub whole : stream.whole ≡ true

-- The bytes of a role that were read; whole where the role has answered its end, and else cut off behind them.
pub record IsStreamRead (told : Option (List ℕ)) (now : RoleState) (stream : Stream) : Type 0 where
  pub bytes : Consumes told now.left stream.bytes
  pub whole : stream.whole ≡ has_ended now.phase

-- The stream of a role in a call: whole where no role's count of faults rose, and else as far as it was read.
pub record IsStream (told : Option (List ℕ)) (of : Role) (before now : Role → RoleState) (stream : Stream) : Type 0 where
  pub unfailed : NoneFails before now → IsWholeStream told stream
  pub failed : (failing : Role) → Fails failing before now → IsStreamRead told (now of) stream

-- The streams of a call of a join of these names.
pub record AreStreams (names : Names) (under : List ℕ → Option (List ℕ)) (before now : Role → RoleState)
    (left right : Stream) : Type 0 where
  pub of_left : IsStream (under names.left) role.Left before now left
  pub of_right : IsStream (under names.right) role.Right before now right
