-- What the collector and the kept pairs of a chain say of the reports that were taken, and how it goes on.
use Rattle.std.proofs.Common.{◌≡◌, ℕ, zero, suc, ◌<◌, ◌≤◌, true, false, List, [], ◌∷◌, ◌++◌, length, take, Contains, Option, refl, ap, sym, ◌∙◌, subst, arith, append_assoc, length-append}
use Rattle.std.specs.List.Sorted.{IsPermutation}
use Rattle.std.proofs.lemmas.List.{length-map}
use Rattle.std.proofs.lemmas.List.Sorted.{IsPermutation-sym, IsPermutation-trans, IsPermutation-append_left, IsPermutation-append_right}
use Rattle.hj_base.specs.declared.numbers.CoreNo.{CoreNo}
use Rattle.hj_base.specs.declared.numbers.Side.TheVariants.{Left}
use Rattle.hj_base.specs.Journals.{IsPrefix}
use Rattle.hj_msg.specs.declared.event.Pair.{Pair}
use Rattle.hj_msg.specs.declared.message.Report.{Report}
use Rattle.hj_msg.specs.Valid.{later}
use Rattle.hj_msg.specs.Run.{Run, IsRun}
use Rattle.hj_msg.specs.Met.{AreReportsOf, met, pairs_of}
use Rattle.hj_msg.specs.Punctuation.{Mark, mark_of, punctuation}
use Rattle.hj_msg.specs.Emission.{is_within, emitted}
use Rattle.hj_collect.specs.Collector.{CollectorState, after_report, least_mark}
use Rattle.hj_collect.specs.StandsFor.{with_report}
use Rattle.hj_collect.specs.StandsFor as collect
use Rattle.hj_collect.proofs.Emissions.{within, emits-more, met-filter, met-permutation}
use Rattle.hj_collect.proofs.Following.{follows, least_follows}
use Rattle.hj_chain.proofs.Reporting as reporting

-- the collector took the reports, of the pairs that are emitted so many were given, and every other pair that was met is kept
pub record Accounts {P : Type 0} (collector : CollectorState) (kept : List (Pair P)) (given : ℕ) (lists : List (List (Report P))) : Type 0 where
  pub taken : collect.StandsFor collector lists
  pub within : given ≤ length (emitted lists)
  pub released : IsPermutation (take given (emitted lists) ++ kept) (met lists)

-- the mark doesn't fall with a report, and no pair of the report is within the old mark
pub record Grows {P : Type 0} (old new : Option Mark) (report : Report P) : Type 0 where
  pub stays : (number : ℕ) → is_within old number ≡ true → is_within new number ≡ true
  pub fresh : (pair : Pair P) → Contains (pairs_of report) pair → is_within old (later pair) ≡ false

take-front : {X : Type 0} (xs ys : List X) (i : ℕ) → i ≤ length xs → take i (xs ++ ys) ≡ take i xs
take-front xs ys zero low = refl
take-front [] ys (suc i) low = absurd (omega (arith, low))
take-front (x ∷ xs) ys (suc i) low = ap (λ l. x ∷ l) (take-front xs ys i (omega (arith, low)))

module _ {P : Type 0} (core : CoreNo) (report : Report P) (collector : CollectorState) (low : core.0 < length collector.left) where
  in_lists : (lists : List (List (Report P))) → collect.StandsFor collector lists → core.0 < length lists
  in_lists lists is = omega (arith, low, ap length is.left, length-map lists (mark_of Left))

  new_follows : (lists : List (List (Report P))) → collect.StandsFor collector lists → collect.StandsFor (after_report core report collector) (with_report core.0 report lists)
  new_follows lists is = follows core report collector lists low is

  -- in a run the mark grows
  pub grows : (run : Run P) (is : IsRun run) (lists : List (List (Report P))) → collect.StandsFor collector lists → AreReportsOf run (with_report core.0 report lists)
      → Grows (least_mark collector) (least_mark (after_report core report collector)) report
  grows run is lists stands longer =
      let here = in_lists lists stands in
      let old : least_mark collector ≡ punctuation lists = least_follows collector lists stands in
      let new : least_mark (after_report core report collector) ≡ punctuation (with_report core.0 report lists) = least_follows (after_report core report collector) (with_report core.0 report lists) (new_follows lists stands) in
      record {
        stays = λ number h. ap (λ m. is_within m number) new ∙ reporting.stays run is lists core.0 report here longer number (ap (λ m. is_within m number) (sym old) ∙ h);
        fresh = λ pair h. ap (λ m. is_within m (later pair)) old ∙ reporting.fresh run is lists core.0 report here longer pair h;
      }

  -- and what was emitted stays
  pub emitted-more : (lists : List (List (Report P))) → collect.StandsFor collector lists → Grows (least_mark collector) (least_mark (after_report core report collector)) report → IsPrefix (emitted lists) (emitted (with_report core.0 report lists))
  emitted-more lists taken growing =
      let longer = with_report core.0 report lists in
      let mark : punctuation lists ≡ least_mark collector = sym (least_follows collector lists taken) in
      let mark' : punctuation longer ≡ least_mark (after_report core report collector) = sym (least_follows (after_report core report collector) longer (new_follows lists taken)) in
      emits-more (punctuation lists) (punctuation longer) (met lists) (met longer)
      (λ number h. ap (λ m. is_within m number) mark' ∙ growing.stays number (ap (λ m. is_within m number) (sym mark) ∙ h))
      (met-filter lists core.0 report (in_lists lists taken) (within (punctuation lists)) (λ pair h. ap (λ m. is_within m (later pair)) mark ∙ growing.fresh pair h))

  -- one report more
  pub accounts-more : (kept kept' : List (Pair P)) (given : ℕ) (lists : List (List (Report P))) → IsPermutation (kept ++ pairs_of report) kept' → Grows (least_mark collector) (least_mark (after_report core report collector)) report
      → Accounts collector kept given lists → Accounts (after_report core report collector) kept' given (with_report core.0 report lists)
  accounts-more kept kept' given lists added growing old =
      let longer = with_report core.0 report lists in
      let here = in_lists lists old.taken in
      let prefix : IsPrefix (emitted lists) (emitted longer) = emitted-more lists old.taken growing in
      let front : List (Pair P) = take given (emitted lists) in
      let front_is : take given (emitted longer) ≡ front = ap (take given) prefix.is ∙ take-front (emitted lists) prefix.rest given old.within in
      record {
        taken = new_follows lists old.taken;
        within = omega (arith, old.within, ap length prefix.is, length-append (emitted lists) prefix.rest);
        released =
            subst (λ l. IsPermutation (l ++ kept') (met longer)) (sym front_is)
            (IsPermutation-trans (front ++ kept') (front ++ (kept ++ pairs_of report)) (met longer)
            (IsPermutation-append_right front kept' (kept ++ pairs_of report) (IsPermutation-sym (kept ++ pairs_of report) kept' added))
            (IsPermutation-trans (front ++ (kept ++ pairs_of report)) (met lists ++ pairs_of report) (met longer)
            (subst (λ l. IsPermutation l (met lists ++ pairs_of report)) (append_assoc front kept (pairs_of report))
            (IsPermutation-append_left (pairs_of report) (front ++ kept) (met lists) old.released))
            (met-permutation lists core.0 report here)));
      }
