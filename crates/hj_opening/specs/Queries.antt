-- The text of a query as far as it was read under a name, and what it spells.
use Rattle.std.specs.Prelude.{◌≡◌, ◌⊎◌, ℕ, ◌+◌, List, length, false, IfSome}
use Rattle.std.specs.declared.option.Option.{Option}
use Rattle.hj_base.specs.Journals.{IsPrefix}
use Rattle.hj_base.specs.Outside.{RoleState, opened}
use Rattle.hj_query.specs.QueryParts.{QueryParts}
use Rattle.hj_query.specs.Texts.{most_bytes, IsFirstQueryFault, Spells}
use Rattle.hj_query.specs.declared.fault.QueryFault.{QueryFault}
use Rattle.hj_query.specs.Keyed.{IsEquiQuery}
use Rattle.hj_opening.specs.Streams.{IsReadToEnd, StandsUnder}
use Rattle.hj_opening.specs.Words.{QuerySource, keyed, named}

-- The bytes are all that stand under the query's name, they were read to their end, and no read failed.
pub record IsReadWhole (bytes name : List ℕ) (told : Option (List ℕ)) (before now : RoleState) : Type 0 where
  pub stands : StandsUnder told bytes
  pub ended : IsReadToEnd name now
  pub faults : now.faults ≡ before.faults

-- The bytes are the first of those that stand there, one more than the longest text has, and no read failed.
pub record IsReadTooFar (bytes name : List ℕ) (told : Option (List ℕ)) (before now : RoleState) : Type 0 where
  pub size : length bytes ≡ most_bytes + 1
  pub stands : IfSome told (λ known. IsPrefix bytes known)
  pub phase : now.phase ≡ opened name false
  pub faults : now.faults ≡ before.faults

-- the text of a query as far as it was read
abbrev pub IsQueryRead : List ℕ → List ℕ → Option (List ℕ) → RoleState → RoleState → Type 0
IsQueryRead bytes name told before now =
    IsReadWhole bytes name told before now ⊎ IsReadTooFar bytes name told before now

-- The text was read whole, and spells this query.
pub record IsAccepted (query : QueryParts) (name : List ℕ) (told : Option (List ℕ)) (before now : RoleState) : Type 0 where
  pub text : List ℕ
  pub read : IsReadWhole text name told before now
  pub spelled : Spells text query

-- The text was read, and has this first fault.
pub record IsRefused (found : QueryFault) (name : List ℕ) (told : Option (List ℕ)) (before now : RoleState) : Type 0 where
  pub text : List ℕ
  pub read : IsQueryRead text name told before now
  pub first : IsFirstQueryFault text found

-- The query of a join: that of `equi W`, or the one that the text under its name spells, which was read to its end.
abbrev pub IsQueryOf : QuerySource → QueryParts → (List ℕ → Option (List ℕ)) → RoleState → RoleState → Type 0
IsQueryOf (keyed rows) query under before now = IsEquiQuery rows query
IsQueryOf (named name) query under before now = IsAccepted query name (under name) before now
