-- What the driver's puts and takes leave at the two ends of the chain.
use Rattle.std.specs.Prelude.{◌≡◌, ℕ, ◌+◌, ◌++◌}
use Rattle.hj_base.specs.declared.numbers.Side.{Side}
use Rattle.hj_base.specs.declared.numbers.Side.TheVariants.{Left, Right}
use Rattle.hj_msg.specs.declared.message.Msg.{Msg}
use Rattle.hj_msg.specs.Driver.{DriverTurn}
use Rattle.hj_msg.specs.Run.{at_port}
use Rattle.hj_link.specs.Seen.{EndSeen}
use Rattle.hj_desk.specs.declared.ports.Ports.{Ports}

module _ {P : Type 0} where
  -- the end of the chain at a port
  abbrev pub end_at : Side → Ports P → EndSeen (Msg P)
  end_at Left ports = ports.left
  end_at Right ports = ports.right

  -- both ends are of the links that they were of
  pub record KeepsLinks (old new : Ports P) : Type 0 where
    pub left : new.left.link ≡ old.left.link
    pub left_capacity : new.left.capacity ≡ old.left.capacity
    pub right : new.right.link ≡ old.right.link
    pub right_capacity : new.right.capacity ≡ old.right.capacity

  -- the journals of both ends go on with a turn of the driver, under its number
  pub record Notes (number : ℕ) (turn : DriverTurn P) (old new : Ports P) : Type 0 where
    pub left : new.left.journal ≡ old.left.journal ++ at_port Left number turn
    pub right : new.right.journal ≡ old.right.journal ++ at_port Right number turn

  -- nothing was put or taken
  pub record IsQuiet (old new : Ports P) : Type 0 where
    pub left : new.left.journal ≡ old.left.journal
    pub right : new.right.journal ≡ old.right.journal

  -- a step found no message at a port, and none was known to be there
  pub record FoundEmpty (port : Side) (old new : Ports P) : Type 0 where
    pub none_known : (end_at port old).ready ≡ 0
    pub looked : (end_at port new).empty_looks ≡ (end_at port old).empty_looks + 1

  -- a step found the link full into which a port puts, and no room was known to be there
  pub record FoundFull (port : Side) (old new : Ports P) : Type 0 where
    pub none_known : (end_at port old).room ≡ 0
    pub looked : (end_at port new).full_looks ≡ (end_at port old).full_looks + 1
