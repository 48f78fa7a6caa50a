-- Room for what the end of a run puts into lists.
use Rattle.std.specs.Prelude.{◌≡◌, ℕ, ◌+◌, ◌≤◌, [], vec_capacity, vec_len}
use Rattle.std.specs.declared.vec.Vec.{Vec}
use Rattle.hj_crew.specs.declared.ends.ChainEnds.{ChainEnds}
use Rattle.hj_crew.specs.declared.room.ChainRoom.{ChainRoom}
use Rattle.hj_crew.specs.declared.room.Room.{Room}

module _ {X Z : Type 0} where
  -- There is room for so many items more.
  abbrev pub HasRoom : ℕ → Vec X Z → Type 0
  HasRoom more list = vec_len list + more ≤ vec_capacity list

  -- an empty list with room for so many items
  pub record IsRoomOf (count : ℕ) (list : Vec X Z) : Type 0 where
    pub empty : list.items ≡ []
    pub room : HasRoom count list

-- There is room for the ends of so many cores more, and for the right end behind them.
pub record HasEndRoom {P : Type 0} (more : ℕ) (ends : ChainEnds P) : Type 0 where
  pub left : HasRoom more ends.left
  pub right : HasRoom (more + 1) ends.right
  pub senders : HasRoom more ends.senders

-- Room for the ends of a chain of so many cores, and for the links and queues of these ends.
pub record IsChainRoomFor {P : Type 0} (cores : ℕ) (room : ChainRoom P) : Type 0 where
  pub left : IsRoomOf (cores + 1) room.left
  pub right : IsRoomOf (cores + 1) room.right
  pub senders : IsRoomOf cores room.senders
  pub links : IsRoomOf (cores + 1) room.links
  pub queues : IsRoomOf cores room.queues

-- Room for the workers of so many cores too.
pub record IsRoomFor {P J S : Type 0} (cores : ℕ) (room : Room P J S) : Type 0 where
  pub workers : IsRoomOf cores room.workers
  pub chain : IsChainRoomFor cores room.chain
