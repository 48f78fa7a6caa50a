-- A role of streams in memory, as its stage says it.
use Rattle.std.specs.Prelude.{ℕ, false, List, None, Some, Option, string_bytes}
use Rattle.hj_base.specs.declared.stream.Stage.{Stage}
use Rattle.hj_base.specs.declared.stream.Stage.TheVariants as stage
use Rattle.hj_base.specs.Outside.{Phase, unbegun, opened, refused}

abbrev pub phase_of : Stage → Phase
phase_of stage.Unbegun = unbegun
phase_of (stage.Opened unread) = opened unread.name unread.ended
phase_of (stage.Refused name) = refused (string_bytes name)

abbrev pub left_of : Stage → Option (List ℕ)
left_of stage.Unbegun = None
left_of (stage.Opened unread) = Some unread.left
left_of (stage.Refused name) = None

-- the phase that a start under a name leads to, by what was found there
abbrev pub begun_phase : List ℕ → Option (List ℕ) → Phase
begun_phase name (Some bytes) = opened name false
begun_phase name None = refused name
