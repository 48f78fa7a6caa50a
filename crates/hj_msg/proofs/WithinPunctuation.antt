-- What is within the punctuation was told by every core, and so met.
use Rattle.std.proofs.Common.{◌≡◌, ℕ, ◌<◌, ◌≤◌, Bool, true, false, ◌||◌, inl, inr, List, [], ◌∷◌, ◌++◌, length, Contains, Some, refl, ap, sym, ◌∙◌, subst, arith, eq-or-lt_of_le, true≢false}
use Rattle.std.specs.Prelude.{slice_index_or}
use Rattle.std.specs.List.{list_any}
use Rattle.std.proofs.lemmas.Bool.Decides.{nat_tests}
use Rattle.hj_base.specs.declared.numbers.Side.{Side}
use Rattle.hj_base.specs.declared.numbers.Side.TheVariants.{Left, Right}
use Rattle.hj_base.specs.Journals.{IsPrefix, puts}
use Rattle.hj_msg.specs.declared.event.Event.{Event}
use Rattle.hj_msg.specs.declared.event.Event.TheVariants.{Arrive, Quiet}
use Rattle.hj_msg.specs.declared.event.Pair.{Pair}
use Rattle.hj_msg.specs.declared.message.Msg.{Msg}
use Rattle.hj_msg.specs.declared.message.Report.{Report}
use Rattle.hj_msg.specs.declared.message.Report.TheVariants as reports
use Rattle.hj_msg.specs.Event.{number}
use Rattle.hj_msg.specs.Valid.{IsMatch, later}
use Rattle.hj_msg.specs.Punctuation.{all, tells, is_end, mark_of, punctuation}
use Rattle.hj_msg.specs.Emission.{is_within}
use Rattle.hj_msg.specs.Core.{empty_state, state_after}
use Rattle.hj_msg.specs.Turns.{handled}
use Rattle.hj_msg.specs.Run.{Run, IsRun}
use Rattle.hj_msg.specs.Met.{AreReportsOf, met}
use Rattle.hj_msg.specs.Meeting.{AllReport, HasReportOf}
use Rattle.hj_msg.proofs.Orders.{before, any-append, any-prefix, before-any, before-prefix}
use Rattle.hj_msg.proofs.AllMet.{met_all}
use Rattle.hj_msg.proofs.Marks.{marks_from, tells_quiet, reached, told_option, quiet_option}
use Rattle.hj_msg.proofs.Sides.{is_quiet, is_mark, is_close}
use Rattle.hj_msg.proofs.Fronts.{first_of, front_of, closed_by, none_closed, ends_closed}
use Rattle.hj_msg.proofs.ArrivalOrder.{marks_in_order, marks_before_close, quiet_event, quiet_of_event, puts_mark}
use Rattle.hj_msg.proofs.Members.{find, any_of}
use Rattle.hj_msg.proofs.Numbered.{same_number}
use Rattle.hj_msg.proofs.Ports.{event_puts}

pub has_here : {P : Type 0} (q : Msg P → Bool) (front back : List (Msg P)) (m : Msg P) → (q m || list_any q front) ≡ true → list_any q (front ++ m ∷ back) ≡ true
has_here q front back m h = any-append q front (m ∷ back) ∙ grind (arith, h)

pub or_left : (b c : Bool) → b ≡ true → (b || c) ≡ true
or_left true c e = refl
or_left false c e = absurd (true≢false (sym e))

module _ {P : Type 0} (run : Run P) (is : IsRun run) where
  -- what is put with the end of a core, or with what is marked later on its side, has what is marked before it
  pub told_before : (k : ℕ) → k < run.cores → (side : Side) (a m : ℕ) (event : Event P) → Contains run.events event → event_puts side (is_mark side a) event ≡ true → a < m
      → list_any (tells side m) (puts (run.queue k).sender) ≡ true → before (tells side a) (tells side m) (puts (run.queue k).sender) ≡ true
  told_before k low side a m event there passes_port below h =
      let first = first_of (is.steps k low) (tells side a) (tells side m) (is_mark side a) (told_option run.matches side a) (no_memory side) h in
      let passes : is_mark side m first.message ≡ true = sym (told_option run.matches side m (state_after k run.cores first.front) first.message) ∙ first.passes in
      let here = or_left (is_mark side m first.message) (list_any (is_mark side m) first.front) passes in
      let has : list_any (is_mark side m) (handled (is.turns k)) ≡ true = ap (list_any (is_mark side m)) first.is ∙ has_here (is_mark side m) first.front first.back first.message here in
      first.order (front_of (is_mark side a) (is_mark side m) first.front first.back first.message here (sym (ap (before (is_mark side a) (is_mark side m)) first.is) ∙ marks_in_order run is side k a m event low there passes_port below has))
    where
      no_memory : (side : Side) → tells {P = P} side m reports.NoMemory ≡ false
      no_memory Left = refl
      no_memory Right = refl

  told_before_end : (k : ℕ) → k < run.cores → (side : Side) (a : ℕ) (event : Event P) → Contains run.events event → event_puts side (is_mark side a) event ≡ true
      → list_any is_end (puts (run.queue k).sender) ≡ true → before (tells side a) is_end (puts (run.queue k).sender) ≡ true
  told_before_end k low side a event there passes_port h =
      let first = first_of (is.steps k low) (tells side a) is_end (is_mark side a) (told_option run.matches side a) refl h in
      let here : (is_close side first.message || list_any (is_close side) first.front) ≡ true
      = ap (λ b. is_close side first.message || b) (sym (closed_by side k run.cores empty_state first.front ∙ ap (λ b. b || list_any (is_close side) first.front) (none_closed P side)))
      ∙ ends_closed run.matches (state_after k run.cores first.front) first.message first.passes side in
      let has : list_any (is_close side) (handled (is.turns k)) ≡ true = ap (list_any (is_close side)) first.is ∙ has_here (is_close side) first.front first.back first.message here in
      first.order (front_of (is_mark side a) (is_close side) first.front first.back first.message here (sym (ap (before (is_mark side a) (is_close side)) first.is) ∙ marks_before_close run is side k a event low there passes_port has))

  -- what is within the mark of a core was told by it
  told_within : (k : ℕ) → k < run.cores → (side : Side) (a n : ℕ) (event : Event P) → Contains run.events event → event_puts side (is_mark side a) event ≡ true → a ≤ n
      → (rs : List (Report P)) → IsPrefix rs (puts (run.queue k).sender) → is_within (mark_of side rs) n ≡ true → list_any (tells side a) rs ≡ true
  told_within k low side a n event there passes below rs prefix h = elim (reached side n rs h) [
    | inl end ↦ before-any (tells side a) is_end rs (sym (before-prefix (tells side a) is_end prefix end) ∙ told_before_end k low side a event there passes (any-prefix is_end prefix end))
    | inr at ↦ elim (eq-or-lt_of_le (omega (arith, below, at.above))) [
      | inl same ↦ subst (λ m. list_any (tells side m) rs ≡ true) (sym same) at.told
      | inr less ↦ before-any (tells side a) (tells side at.number) rs (sym (before-prefix (tells side a) (tells side at.number) prefix at.told) ∙ told_before k low side a at.number event there passes less (any-prefix (tells side at.number) prefix at.told))
    ]
  ]

  -- no core tells of a quiet event under the number of an arrival
  no_quiet : (k : ℕ) → k < run.cores → (side : Side) (a : ℕ) (row : P) → Contains run.events (Arrive (record { 0 = a }) side row) → list_any (tells_quiet side a) (puts (run.queue k).sender) ≡ true → ⊥
  no_quiet k low side a row arrival h =
      let first = first_of (is.steps k low) (tells_quiet side a) (tells_quiet side a) (is_quiet side a) (quiet_option run.matches side a) (no_memory side) h in
      let passes : is_quiet side a first.message ≡ true = sym (quiet_option run.matches side a (state_after k run.cores first.front) first.message) ∙ first.passes in
      let here = or_left (is_quiet side a first.message) (list_any (is_quiet side a) first.front) passes in
      let has : list_any (is_quiet side a) (handled (is.turns k)) ≡ true = ap (list_any (is_quiet side a)) first.is ∙ has_here (is_quiet side a) first.front first.back first.message here in
      let found = find (event_puts side (is_quiet side a)) run.events (quiet_event run is side k a low has) in
      let quiet : found.one ≡ Quiet (record { 0 = a }) side = quiet_of_event side a found.one found.passes in
      let same : Arrive (record { 0 = a }) side row ≡ found.one = same_number run.events (Arrive (record { 0 = a }) side row) found.one is.well_formed.numbered arrival found.is (sym (ap number quiet)) in
      differ (same ∙ quiet)
    where
      no_memory : (side : Side) → tells_quiet {P = P} side a reports.NoMemory ≡ false
      no_memory Left = refl
      no_memory Right = refl

      differ : ◌≡◌ {A = Event P} (Arrive (record { 0 = a }) side row) (Quiet (record { 0 = a }) side) → ⊥
      differ e = cc

  -- what is told under the number of an arrival is that arrival
  row_told : (k : ℕ) → k < run.cores → (side : Side) (a : ℕ) (row : P) → Contains run.events (Arrive (record { 0 = a }) side row) → (rs : List (Report P)) → IsPrefix rs (puts (run.queue k).sender)
      → list_any (tells side a) rs ≡ true → HasReportOf side (record { 0 = a }) rs
  row_told k low side a row arrival rs prefix h = let found = find (tells side a) rs h in go side found.one found.is found.passes (λ quiet. no_quiet k low side a row arrival (any-prefix (tells_quiet side a) prefix (any_of (tells_quiet side a) rs found.one found.is quiet)))
    where
      go : (side : Side) (r : Report P) → Contains rs r → tells side a r ≡ true → (tells_quiet side a r ≡ true → ⊥) → HasReportOf side (record { 0 = a }) rs
      go Left (reports.Handled at Left row partners) there e quiet = let same : at.0 ≡ a = grind (arith, nat_tests, e) in record { row = row; partners = partners; is = subst (λ n. Contains rs (reports.Handled (record { 0 = n }) Left row partners)) same there }
      go Right (reports.Handled at Right row partners) there e quiet = let same : at.0 ≡ a = grind (arith, nat_tests, e) in record { row = row; partners = partners; is = subst (λ n. Contains rs (reports.Handled (record { 0 = n }) Right row partners)) same there }
      go Left (reports.Quiet at Left) there e quiet = absurd (quiet e)
      go Right (reports.Quiet at Right) there e quiet = absurd (quiet e)
      go Left other there e quiet = absurd (true≢false (sym e))
      go Right other there e quiet = absurd (true≢false (sym e))

  -- Each match within the punctuation is met.
  pub met_within : (lists : List (List (Report P))) → AreReportsOf run lists → (pair : Pair P) → IsMatch run.matches run.events pair → is_within (punctuation lists) (later pair) ≡ true → Contains (met lists) pair
  met_within lists of_run pair match h =
      let marks = (marks_from (later pair) (Some all) lists h).1 in
      met_all run is lists of_run pair match (all_report marks)
    where
      all_report : ((k : ℕ) → k < length lists → (is_within (mark_of Left (slice_index_or lists k [])) (later pair) ≡ true) × (is_within (mark_of Right (slice_index_or lists k [])) (later pair) ≡ true)) → AllReport run lists pair
      all_report marks Left k low =
          row_told k low Left pair.left_no.0 pair.left match.valid.left (slice_index_or lists k []) (of_run.prefixes k low)
          (told_within k low Left pair.left_no.0 (later pair) (Arrive pair.left_no Left pair.left) match.valid.left (puts_mark Left pair.left_no.0 pair.left) (omega arith) (slice_index_or lists k []) (of_run.prefixes k low) (marks k (omega (arith, low, of_run.one_each))).0)
      all_report marks Right k low =
          row_told k low Right pair.right_no.0 pair.right match.valid.right (slice_index_or lists k []) (of_run.prefixes k low)
          (told_within k low Right pair.right_no.0 (later pair) (Arrive pair.right_no Right pair.right) match.valid.right (puts_mark Right pair.right_no.0 pair.right) (omega arith) (slice_index_or lists k []) (of_run.prefixes k low) (marks k (omega (arith, low, of_run.one_each))).1)
