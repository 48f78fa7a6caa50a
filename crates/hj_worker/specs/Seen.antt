-- What contracts see of a worker.
use Rattle.std.specs.Prelude.{ℕ, ◌%◌, ◌==◌, Bool, ◌&&◌, if◌then◌else◌}
use Rattle.hj_base.specs.declared.numbers.Side.{Side}
use Rattle.hj_base.specs.declared.numbers.Side.TheVariants.{Left, Right}
use Rattle.hj_msg.specs.Core.{State}
use Rattle.hj_worker.specs.declared.answers.Place.{Place}
use Rattle.hj_worker.specs.declared.answers.Place.TheVariants.{Link, Reports}
use Rattle.hj_worker.specs.declared.ends.WorkerEnds.{WorkerEnds}
use Rattle.hj_worker.specs.Outgoing.{Outgoing, leftwards, rightwards, reported, Journals}
use Rattle.hj_worker.specs.Hands.{InHand}

pub record WorkerSeen (P J : Type 0) : Type 0 where
  -- its core: its join, its place among the cores, and what it keeps
  pub join : J
  pub place : ℕ
  pub cores : ℕ
  pub state : State P
  pub ends : WorkerEnds P
  pub hand : InHand P
  -- how many messages it took, and how often it was called to turn, as far as that is counted
  pub taken : ℕ
  pub calls : ℕ

module _ {P : Type 0} where
  abbrev pub journals_of : WorkerEnds P → Journals P
  journals_of ends = record { left = ends.left.journal; right = ends.right.journal; reports = ends.reports.journal }

  -- the place into which a thing is put
  abbrev pub place_of : Outgoing P → Place
  place_of (leftwards message) = Link Left
  place_of (rightwards message) = Link Right
  place_of (reported entry) = Reports

  -- the steps that found a place full, and those that found nothing to take at an end
  abbrev pub full_looks : Place → WorkerEnds P → ℕ
  full_looks (Link Left) ends = ends.left.full_looks
  full_looks (Link Right) ends = ends.right.full_looks
  full_looks Reports ends = ends.reports.full_looks

  abbrev pub empty_looks : Side → WorkerEnds P → ℕ
  empty_looks Left ends = ends.left.empty_looks
  empty_looks Right ends = ends.right.empty_looks

  -- both closes were handled
  abbrev pub has_ended : State P → Bool
  has_ended state = state.closed_left && state.closed_right

-- the end at which a call looks first for a message, after so many calls
abbrev pub first_end : ℕ → Side
first_end calls = if calls % 2 == 0 then Left else Right
