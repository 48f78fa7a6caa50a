-- Writing a piece whole: what stands afterwards, whether all of it was taken or not.
use Rattle.std.specs.Prelude.{◌≡◌, ℕ, ◌≤◌, List}
use Rattle.std.specs.Io.KnownBytes.{Appends}
use Rattle.std.specs.declared.option.Option.{Option}
use Rattle.hj_base.specs.Counts.{Rose}
use Rattle.hj_base.specs.Journals.{IsPrefix}
use Rattle.hj_base.specs.declared.output.Sent.{Sent}
use Rattle.hj_base.specs.declared.output.Sent.TheVariants as sent

-- A prefix of the bytes was appended.
pub record AppendsFront (bytes : List ℕ) (old new : Option (List ℕ)) : Type 0 where
  pub grown : List ℕ
  pub written : Appends old new grown
  pub front : IsPrefix grown bytes

-- What a sink that tells its bytes has, by how the sending of these bytes went.
abbrev pub SendsPiece : Sent → List ℕ → Option (List ℕ) → Option (List ℕ) → Type 0
SendsPiece sent.Whole bytes old new = Appends old new bytes
SendsPiece sent.Failed bytes old new = AppendsFront bytes old new
SendsPiece sent.Memory bytes old new = AppendsFront bytes old new

-- A fault is answered only where the sink's count of faults rose.
abbrev pub CountsFaults : Sent → ℕ → ℕ → Type 0
CountsFaults sent.Whole old new = new ≡ old
CountsFaults sent.Failed old new = (old ≤ new) × Rose old new
CountsFaults sent.Memory old new = new ≡ old

-- A refusal of either kind is answered only where the sink's count of refusals rose.
abbrev pub CountsRefusals : Sent → ℕ → ℕ → Type 0
CountsRefusals sent.Whole old new = new ≡ old
CountsRefusals sent.Failed old new = (old ≤ new) × Rose old new
CountsRefusals sent.Memory old new = (old ≤ new) × Rose old new
