-- A note was written: a front of it stands, and all of it unless a write of it was refused.
use Rattle.std.specs.Prelude.{◌≡◌, ◌≤◌, ◌⊎◌, ℕ, List}
use Rattle.std.specs.Io.KnownBytes.{Appends}
use Rattle.std.specs.declared.option.Option.{Option}
use Rattle.hj_base.specs.Counts.{Rose}
use Rattle.hj_base.specs.Journals.{IsPrefix}

pub record NoteWritten (note : List ℕ) (old new : Option (List ℕ)) (refused_before refused_now : ℕ) : Type 0 where
  pub grown : List ℕ
  pub written : Appends old new grown
  pub front : IsPrefix grown note
  pub rising : refused_before ≤ refused_now
  pub whole : (grown ≡ note) ⊎ Rose refused_before refused_now
