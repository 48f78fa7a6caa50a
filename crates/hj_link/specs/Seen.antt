-- What contracts see of the ends of a link, and of the link once both were handed in.
use Rattle.std.specs.Prelude.{◌≡◌, ℕ, ◌+◌, List, [], ◌∷◌, ◌++◌}
use Rattle.hj_base.specs.Journals.{Entry, put}
use Rattle.hj_base.specs.Link.{Link, OneWay}
use Rattle.atomic_table.specs.Seated.{TableId}

-- an end of a link, which goes both ways or one way
pub record EndSeen (M : Type 0) : Type 0 where
  -- which link it is of, and for how many messages there is room in each of its directions
  pub link : TableId
  pub capacity : ℕ
  pub journal : List (Entry M)
  -- so many puts find room, and so many takes a message, whatever the other end does
  pub room : ℕ
  pub ready : ℕ
  -- the steps that found the direction full into which it puts, and those that found the other one empty
  pub full_looks : ℕ
  pub empty_looks : ℕ

-- a link in one direction whose ends were handed in
pub record WaySeen (M : Type 0) : Type 0 where
  pub capacity : ℕ
  pub way : OneWay M

-- a link that goes both ways whose ends were handed in
pub record LinkSeen (M : Type 0) : Type 0 where
  pub capacity : ℕ
  pub link : Link M

module _ {M : Type 0} where
  -- an end stays on its link
  abbrev pub KeepsLink : EndSeen M → EndSeen M → Type 0
  KeepsLink old new = (new.link ≡ old.link) × (new.capacity ≡ old.capacity)

  -- a message was put under a turn, for which there was room
  pub record HasPut (turn : ℕ) (message : M) (old new : EndSeen M) : Type 0 where
    pub link : KeepsLink old new
    pub journal : new.journal ≡ old.journal ++ put turn message ∷ []
    pub room : new.room + 1 ≡ old.room
    pub full_looks : new.full_looks ≡ old.full_looks
    pub takes : (new.ready ≡ old.ready) × (new.empty_looks ≡ old.empty_looks)

  abbrev pub one_way_of : List (Entry M) → List (Entry M) → OneWay M
  one_way_of sender receiver = record { sender = sender; receiver = receiver }

  abbrev pub closed_way : ℕ → List (Entry M) → List (Entry M) → WaySeen M
  closed_way capacity sender receiver = record { capacity = capacity; way = one_way_of sender receiver }

  abbrev pub link_of : List (Entry M) → List (Entry M) → Link M
  link_of left right = record { left = left; right = right }

  abbrev pub closed : ℕ → List (Entry M) → List (Entry M) → LinkSeen M
  closed capacity left right = record { capacity = capacity; link = link_of left right }
