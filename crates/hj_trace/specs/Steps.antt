-- How a step of an actor goes whose text is appended to a line.
use Rattle.std.specs.Prelude.{◌≡◌, ◌≢◌, ℕ, Bool, List, ◌++◌, None, length, nat_lt, if◌then◌else◌}
use Rattle.std.specs.declared.option.Option.{Option}
use Rattle.hj_msg.specs.declared.message.Report.{Report}
use Rattle.hj_chain.specs.Looks.{last}
use Rattle.hj_chain.specs.Reports.{queue_at}
use Rattle.hj_chain.specs.declared.actor.Actor.TheVariants.{Admit, PortLeft, PortRight, Core, Collect}
use Rattle.hj_msg.specs.declared.feed.Given.{Given}
use Rattle.hj_chain.specs.declared.actor.Actor.{Actor}
use Rattle.hj_chain.specs.declared.actor.Stepped.TheVariants as stepped
use Rattle.hj_chain.specs.Chain.{Contents, cause}
use Rattle.hj_chain.specs.Steps.{Steps}
use Rattle.hj_trace.specs.declared.step.Played.{Played}
use Rattle.hj_trace.specs.declared.step.Played.TheVariants as played
use Rattle.hj_trace.specs.Line.{said}

-- The step was made, and the line says it; or the actor isn't enabled, and the chain and its feed are as they were.
abbrev pub Plays : {P J F : Type 0} → (F → Given P → F → Type 0) → (F → Bool) → (P → P → Bool) → Actor → Played → Contents P J → F → Contents P J → F → List ℕ → List ℕ → Type 0
Plays gives is_ready matches actor played.Did old from new to line longer =
    Steps gives is_ready matches actor old.state from stepped.Did new.state to × (longer ≡ line ++ said matches old.state actor)
Plays gives is_ready matches actor played.NotEnabled old from new to line longer = (cause old.state actor ≢ None) × (new ≡ old) × (to ≡ from)
Plays gives is_ready matches actor played.Memory old from new to line longer = Unit {0}

-- how many reports wait of the core that an actor is an end of
abbrev pub waiting_at : {P : Type 0} → Actor → List (List (Report P)) → ℕ
waiting_at Admit reports = 0
waiting_at PortLeft reports = 0
waiting_at PortRight reports = 0
waiting_at (Core core end) reports = length (queue_at reports core.0)
waiting_at (Collect core) reports = 0

-- the last of them, where there are more than so many
abbrev pub added_at : {P : Type 0} → Actor → ℕ → List (List (Report P)) → Option (Report P)
added_at Admit waited reports = None
added_at PortLeft waited reports = None
added_at PortRight waited reports = None
added_at (Core core end) waited reports = if nat_lt waited (length (queue_at reports core.0)) then last (queue_at reports core.0) else None
added_at (Collect core) waited reports = None
