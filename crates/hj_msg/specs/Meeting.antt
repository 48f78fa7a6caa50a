-- The pairs that the cores of a run meet, and where. Two rows that go through the chain in opposite directions meet at every core
-- (handshake join: Teubner and Mueller, SIGMOD 2011), and one core alone is to list the pair (low-latency handshake join: Roy, Teubner
-- and Gemulla, PVLDB 2014). Which core that is, is this project's own profile.
use Rattle.std.specs.Prelude.{ℕ, ◌<◌, ◌≤◌, ◌%◌, Bool, ◌&&◌, ◌==◌, List, [], slice_index_or, if◌then◌else◌}
use Rattle.std.specs.List.{Contains, count_by}
use Rattle.std.specs.List.Sorted.{IsPermutation}
use Rattle.hj_base.specs.declared.numbers.EventNo.{EventNo}
use Rattle.hj_base.specs.declared.numbers.Side.{Side}
use Rattle.hj_base.specs.declared.numbers.Side.TheVariants.{Left, Right}
use Rattle.hj_msg.specs.declared.event.Pair.{Pair}
use Rattle.hj_msg.specs.declared.message.Report.{Report}
use Rattle.hj_msg.specs.declared.message.Report.TheVariants.{Handled}
use Rattle.hj_msg.specs.declared.partner.Partner.{Partner}
use Rattle.hj_msg.specs.Messages.{is_R, is_S}
use Rattle.hj_msg.specs.Kang.{kang}
use Rattle.hj_msg.specs.Valid.{IsMatch}
use Rattle.hj_msg.specs.Turns.{handled}
use Rattle.hj_msg.specs.Run.{Run, IsRun, IsComplete}
use Rattle.hj_msg.specs.Crossing.{HasBefore}
use Rattle.hj_msg.specs.Met.{AreReportsOf, AreAllReportsOf, pairs_of, met}

-- whether a pair is one of the rows of these numbers
abbrev pub is_pair : {P : Type 0} → ℕ → ℕ → Pair P → Bool
is_pair i j pair = pair.left_no.0 == i && pair.right_no.0 == j

-- Each pair of numbers is met at most once.
abbrev pub MeetsOnce : {P : Type 0} → Run P → Type 0
MeetsOnce {P} run = (lists : List (List (Report P))) → AreReportsOf run lists → (i j : ℕ) → count_by (is_pair i j) (met lists) ≤ 1

-- Each pair that is met is valid, and its rows satisfy the predicate.
abbrev pub MeetsOnlyMatches : {P : Type 0} → Run P → Type 0
MeetsOnlyMatches {P} run = (lists : List (List (Report P))) → AreReportsOf run lists → (pair : Pair P) → Contains (met lists) pair → IsMatch run.matches run.events pair

-- the number of the row of this side
abbrev pub number_of : {P : Type 0} → Side → Pair P → EventNo
number_of Left pair = pair.left_no
number_of Right pair = pair.right_no

-- One of these reports is that of the arrival of this side and number.
pub record HasReportOf {P : Type 0} (side : Side) (at : EventNo) (reports : List (Report P)) : Type 0 where
  pub row : P
  pub partners : List (Partner P)
  pub is : Contains reports (Handled at side row partners)

-- Every core reported both rows of a pair.
abbrev pub AllReport : {P : Type 0} → Run P → List (List (Report P)) → Pair P → Type 0
AllReport run lists pair = (side : Side) (k : ℕ) → k < run.cores → HasReportOf side (number_of side pair) (slice_index_or lists k [])

-- Each match both of whose rows every core reported is met.
abbrev pub MeetsAll : {P : Type 0} → Run P → Type 0
MeetsAll {P} run =
    (lists : List (List (Report P))) → AreReportsOf run lists → (pair : Pair P) → IsMatch run.matches run.events pair → AllReport run lists pair → Contains (met lists) pair

-- The left arrival i and the right arrival j cross at this place: each core below it handled i first, and each core from it on j.
pub record CrossAt {P : Type 0} {run : Run P} (is : IsRun run) (i j place : ℕ) : Type 0 where
  pub within : place ≤ run.cores
  pub left_first : (k : ℕ) → k < place → HasBefore (is_R i) (is_S j) (handled (is.turns k))
  pub right_first : (k : ℕ) → place ≤ k → k < run.cores → HasBefore (is_S j) (is_R i) (handled (is.turns k))

-- The core of `n` that lists the pair of i and j where they cross at this place: the home of j where every core handled j first,
-- the home of i where every core handled i first, and else the core of the place.
abbrev pub meeting_core : ℕ → ℕ → ℕ → ℕ → ℕ
meeting_core n i j place = if place == 0 then j % n else if place == n then i % n else place

-- The side of the row under which it is listed: the right one where every core handled the left row first, and else the left one.
abbrev pub meeting_side : ℕ → ℕ → Side
meeting_side n place = if place == n then Right else Left

-- One of these reports is that of the pair's row of this side, and lists the pair.
pub record ListsUnder {P : Type 0} (side : Side) (pair : Pair P) (reports : List (Report P)) : Type 0 where
  pub row : P
  pub partners : List (Partner P)
  pub is : Contains reports (Handled (number_of side pair) side row partners)
  pub lists : Contains (pairs_of (Handled (number_of side pair) side row partners)) pair

-- The rows of a pair cross at a place, and the core of that place lists the pair, under the row of the side that goes with it.
pub record IsMetAtItsPlace {P : Type 0} {run : Run P} (is : IsRun run) (lists : List (List (Report P))) (pair : Pair P) : Type 0 where
  pub place : ℕ
  pub crossing : CrossAt is pair.left_no.0 pair.right_no.0 place
  pub listed : ListsUnder (meeting_side run.cores place) pair (slice_index_or lists (meeting_core run.cores pair.left_no.0 pair.right_no.0 place) [])

-- Each match both of whose rows every core reported is met at its place.
abbrev pub MeetsAtPlaces : {P : Type 0} {run : Run P} → IsRun run → Type 0
MeetsAtPlaces {P} {run = run} is =
    (lists : List (List (Report P))) → AreReportsOf run lists → (pair : Pair P) → IsMatch run.matches run.events pair → AllReport run lists pair → IsMetAtItsPlace is lists pair

-- The pairs that a complete run met are those of the sequential join, each once, in some order.
abbrev pub MeetsTheJoin : {P : Type 0} {run : Run P} → IsRun run → Type 0
MeetsTheJoin {P} {run = run} is = IsComplete is → (lists : List (List (Report P))) → AreAllReportsOf run lists → IsPermutation (kang run.matches run.events) (met lists)
