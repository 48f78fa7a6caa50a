-- The pairs that the cores met: each row is compared at every core on its way (handshake join: Teubner and Mueller, SIGMOD
-- 2011).
use Rattle.std.specs.Prelude.{◌≡◌, ℕ, ◌<◌, List, [], length, map, slice_index_or}
use Rattle.std.specs.List.{flat_map}
use Rattle.hj_base.specs.declared.numbers.EventNo.{EventNo}
use Rattle.hj_base.specs.declared.numbers.Side.{Side}
use Rattle.hj_base.specs.declared.numbers.Side.TheVariants.{Left, Right}
use Rattle.hj_base.specs.Journals.{IsPrefix, puts, takes}
use Rattle.hj_msg.specs.declared.event.Pair.{Pair}
use Rattle.hj_msg.specs.declared.message.Report.{Report}
use Rattle.hj_msg.specs.declared.message.Report.TheVariants.{Handled, Quiet, Ended, NoMemory}
use Rattle.hj_msg.specs.declared.partner.Partner.{Partner}
use Rattle.hj_msg.specs.Run.{Run}

-- Lists of reports, one for each core: prefixes of the lists of what the cores reported.
pub record AreReportsOf {P : Type 0} (run : Run P) (lists : List (List (Report P))) : Type 0 where
  pub one_each : length lists ≡ run.cores
  pub prefixes : (k : ℕ) → k < run.cores → IsPrefix (slice_index_or lists k []) (puts (run.queue k).sender)

-- Lists of reports that hold all that was taken of each core's reports.
pub record AreAllReportsOf {P : Type 0} (run : Run P) (lists : List (List (Report P))) : Type 0 where
  pub of_run : AreReportsOf run lists
  pub all_taken : (k : ℕ) → k < run.cores → IsPrefix (takes (run.queue k).receiver) (slice_index_or lists k [])

-- the pair of a row of a side and of a partner that was found for it
abbrev pub pair_of : {P : Type 0} → Side → EventNo → P → Partner P → Pair P
pair_of Left at row partner = record { left_no = at; right_no = partner.no; left = row; right = partner.row }
pair_of Right at row partner = record { left_no = partner.no; right_no = at; left = partner.row; right = row }

-- the pairs of a report: its row with each of the partners
abbrev pub pairs_of : {P : Type 0} → Report P → List (Pair P)
pairs_of (Handled at side row partners) = map (pair_of side at row) partners
pairs_of (Quiet at side) = []
pairs_of Ended = []
pairs_of NoMemory = []

-- All pairs of all reports.
abbrev pub met : {P : Type 0} → List (List (Report P)) → List (Pair P)
met lists = flat_map (λ reports. flat_map pairs_of reports) lists
