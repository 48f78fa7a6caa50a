-- The punctuation of a run against its pairs: it never overtakes one, and what is emitted begins the sequential join
-- (punctuation: Roy, Teubner and Gemulla, PVLDB 2014).
use Rattle.std.specs.Prelude.{◌≡◌, ℕ, ◌<◌, true, List, [], filter, slice_index_or}
use Rattle.std.specs.List.{Contains}
use Rattle.hj_base.specs.Journals.{IsPrefix}
use Rattle.hj_msg.specs.declared.event.Pair.{Pair}
use Rattle.hj_msg.specs.declared.message.Report.{Report}
use Rattle.hj_msg.specs.Kang.{kang}
use Rattle.hj_msg.specs.Valid.{IsMatch, later}
use Rattle.hj_msg.specs.Run.{Run, IsRun, IsComplete}
use Rattle.hj_msg.specs.Met.{AreReportsOf, AreAllReportsOf, met}
use Rattle.hj_msg.specs.Punctuation.{punctuation}
use Rattle.hj_msg.specs.Emission.{is_within, emitted}

-- Each match that is within the punctuation was met.
abbrev pub MeetsAllWithin : {P : Type 0} → Run P → Type 0
MeetsAllWithin {P} run =
    (lists : List (List (Report P))) → AreReportsOf run lists → (pair : Pair P) → IsMatch run.matches run.events pair → is_within (punctuation lists) (later pair) ≡ true → Contains (met lists) pair

-- What is emitted are the pairs of the sequential join that are within the punctuation, in its order.
abbrev pub EmitsJoinedWithin : {P : Type 0} → Run P → Type 0
EmitsJoinedWithin {P} run =
    (lists : List (List (Report P))) → AreReportsOf run lists → emitted lists ≡ filter (λ pair. is_within (punctuation lists) (later pair)) (kang run.matches run.events)

-- What is emitted begins the sequential join of the events.
abbrev pub EmitsPrefix : {P : Type 0} → Run P → Type 0
EmitsPrefix {P} run = (lists : List (List (Report P))) → AreReportsOf run lists → IsPrefix (emitted lists) (kang run.matches run.events)

-- At the end of a complete run the whole join is emitted.
abbrev pub EmitsAll : {P : Type 0} {run : Run P} → IsRun run → Type 0
EmitsAll {P} {run = run} is = IsComplete is → (lists : List (List (Report P))) → AreAllReportsOf run lists → emitted lists ≡ kang run.matches run.events

-- Lists of reports, and later ones of the same run: each list begins the later one of its core.
pub record AreLater {P : Type 0} (run : Run P) (lists longer : List (List (Report P))) : Type 0 where
  pub of_run : AreReportsOf run lists
  pub longer_of_run : AreReportsOf run longer
  pub each : (k : ℕ) → k < run.cores → IsPrefix (slice_index_or lists k []) (slice_index_or longer k [])

-- The punctuation doesn't fall: each number within it stays so.
abbrev pub PunctuationStays : {P : Type 0} → Run P → Type 0
PunctuationStays {P} run =
    (lists longer : List (List (Report P))) → AreLater run lists longer → (number : ℕ) → is_within (punctuation lists) number ≡ true → is_within (punctuation longer) number ≡ true

-- What was emitted begins what is emitted later.
abbrev pub EmissionGrows : {P : Type 0} → Run P → Type 0
EmissionGrows {P} run = (lists longer : List (List (Report P))) → AreLater run lists longer → IsPrefix (emitted lists) (emitted longer)
