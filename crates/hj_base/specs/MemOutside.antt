-- Streams whose bytes stand in memory, each under a name, with the starts and reads that fail.
use Rattle.std.specs.Prelude.{◌≡◌, ◌==◌, ◌⊎◌, ℕ, Bool, true, false, List, [], ◌++◌, Contains, IsSome, length, min, find, drop, take, if◌then◌else◌, None, Some, option_map, unwrap_or, bytes_eq, Option}
use Rattle.hj_base.specs.declared.outside.Role.{Role}
use Rattle.hj_base.specs.declared.outside.Role.TheVariants.{Query, SecondQuery, Left, Right, Third, Trace, Output}
use Rattle.hj_base.specs.declared.outside.Opened.{Opened}
use Rattle.hj_base.specs.declared.outside.Opened.TheVariants as start
use Rattle.hj_base.specs.declared.outside.Got.{Got}
use Rattle.hj_base.specs.declared.outside.Got.TheVariants as read
use Rattle.hj_base.specs.Counts.{one_more}
use Rattle.hj_base.specs.Outside.{RoleState, opened, refused, at_end, new_role}

-- A role's stream.
pub record StreamState : Type 0 where
  pub role : RoleState
  -- its start fails, whatever stands under its name
  pub start_fails : Bool
  -- how many reads were answered
  pub reads : ℕ
  -- the reads that fail, counted from 1
  pub failing : List ℕ

-- The next read is one of those that fail.
abbrev pub IsFailing : StreamState → Type 0
IsFailing stream = Contains stream.failing (one_more stream.reads)

pub record OutsideState : Type 0 where
  -- the most bytes that one read gives
  pub chunk : ℕ
  -- names, each with the bytes that stand under it
  pub contents : List (List ℕ × List ℕ)
  pub query : StreamState
  pub second_query : StreamState
  pub left : StreamState
  pub right : StreamState
  pub third : StreamState
  pub trace : StreamState
  pub output : StreamState

-- the bytes under a name, where it stands
abbrev pub lookup : List (List ℕ × List ℕ) → List ℕ → Option (List ℕ)
lookup contents name = option_map (λ content. content.1) (find (λ content. bytes_eq content.0 name) contents)

-- the bytes that are told to stand under a name, none where it is missing
abbrev pub told_under : OutsideState → List ℕ → Option (List ℕ)
told_under outside name = Some (unwrap_or (lookup outside.contents name) [])

abbrev pub stream_at : OutsideState → Role → StreamState
stream_at outside Query = outside.query
stream_at outside SecondQuery = outside.second_query
stream_at outside Left = outside.left
stream_at outside Right = outside.right
stream_at outside Third = outside.third
stream_at outside Trace = outside.trace
stream_at outside Output = outside.output

abbrev pub role_at : OutsideState → Role → RoleState
role_at outside role = (stream_at outside role).role

-- the same with another state of a role's stream
abbrev pub with_stream : OutsideState → Role → StreamState → OutsideState
with_stream outside Query state = record outside { query = state }
with_stream outside SecondQuery state = record outside { second_query = state }
with_stream outside Left state = record outside { left = state }
with_stream outside Right state = record outside { right = state }
with_stream outside Third state = record outside { third = state }
with_stream outside Trace state = record outside { trace = state }
with_stream outside Output state = record outside { output = state }

-- a stream of a new object
abbrev pub new_stream : StreamState
new_stream = record { role = new_role; start_fails = false; reads = 0; failing = [] }

-- A start is ready only where the name stands and it isn't one that fails; it fails only where that isn't so.
abbrev pub AnswersStart : Opened → Bool → Option (List ℕ) → Type 0
AnswersStart start.Ready fails found = (fails ≡ false) × IsSome found
AnswersStart start.Failed fails found = (fails ≡ true) ⊎ (found ≡ None)
AnswersStart start.Memory fails found = Unit {0}

-- a stream after a start under a name, where these bytes were found
abbrev pub after_start : Opened → List ℕ → Option (List ℕ) → StreamState → StreamState
after_start start.Ready name found old = record old { role = record { phase = opened name false; faults = old.role.faults; left = found } }
after_start start.Failed name found old = record old { role = record { phase = refused name; faults = one_more old.role.faults; left = None } }
after_start start.Memory name found old = old

-- the answer to a read that doesn't fail, into a buffer with so much room, where these bytes are left
abbrev pub read_answer : ℕ → ℕ → List ℕ → Got
read_answer chunk room bytes = if length bytes == 0 then read.End else read.Bytes (min chunk (min room (length bytes)))

-- A read fails exactly where it is listed.
abbrev pub AnswersRead : Got → ℕ → ℕ → List ℕ → StreamState → Type 0
AnswersRead read.Failed chunk room bytes stream = IsFailing stream
AnswersRead answer chunk room bytes stream = (answer ≡ read_answer chunk room bytes) × ¬ (IsFailing stream)

-- a role after a read
abbrev pub role_after : Got → RoleState → RoleState
role_after (read.Bytes m) old = record old { left = option_map (drop m) old.left }
role_after read.End old = record old { phase = at_end old.phase }
role_after read.Failed old = record old { faults = one_more old.faults }

-- a stream after a read
abbrev pub after_read : Got → StreamState → StreamState
after_read answer old = record old { role = role_after answer old.role; reads = one_more old.reads }

-- a buffer after a read, where these bytes were left
abbrev pub filled : Got → List ℕ → List ℕ → List ℕ
filled (read.Bytes m) bytes buf = take m bytes ++ drop m buf
filled read.End bytes buf = buf
filled read.Failed bytes buf = buf
