-- Where a desk is done, the pairs given are the whole sequential join.
use Rattle.std.proofs.Common.{◌≡◌, ℕ, zero, suc, ◌<◌, ◌&&◌, Bool, true, false, List, [], ◌∷◌, ◌++◌, length, get_or, Contains, All, Some, None, Option, refl, ap, sym, ◌∙◌, subst, arith, append-nil, length-append, true≢false}
use Rattle.std.specs.List.{list_all, list_any}
use Rattle.std.proofs.lemmas.List.{length-map}
use Rattle.std.proofs.lemmas.List.Sorted.{length_permutation}
use Rattle.hj_base.specs.declared.numbers.Side.TheVariants.{Left, Right}
use Rattle.hj_base.specs.Journals.{IsPrefix, takes}
use Rattle.hj_msg.specs.declared.event.Pair.{Pair}
use Rattle.hj_msg.specs.declared.message.Msg.TheVariants.{CloseL, CloseR}
use Rattle.hj_msg.specs.declared.message.Report.{Report}
use Rattle.hj_msg.specs.declared.message.Report.TheVariants.{Handled, Quiet, Ended, NoMemory}
use Rattle.hj_msg.specs.Driver.{DriverTurn, admission, receipt, closing, is_take, took}
use Rattle.hj_msg.specs.Emission.{is_within, emitted}
use Rattle.hj_msg.specs.Feed.{FeedState}
use Rattle.hj_msg.specs.Kang.{kang}
use Rattle.hj_msg.specs.Met.{AreAllReportsOf, met}
use Rattle.hj_msg.specs.Punctuation.{Mark, up_to, all, is_end}
use Rattle.hj_msg.specs.Run.{Run, IsComplete, IsRun}
use Rattle.hj_msg.specs.Valid.{later}
use Rattle.hj_msg.proofs.Members.{Contains-cons, find}
use Rattle.hj_msg.proofs.Emitting.{emits_all, meets_the_join}
use Rattle.hj_driver.specs.Driver.{is_finished}
use Rattle.hj_driver.specs.StandsFor.{closes_of, is_CloseL, is_CloseR}
use Rattle.hj_collect.specs.Marks.{is_same}
use Rattle.hj_collect.proofs.Following.{ended_follows}
use Rattle.hj_desk.specs.declared.desk.Desk.{Desk}
use Rattle.hj_desk.specs.Desk.{DeskHistory, StandsFor, collected, turns_of}
use Rattle.hj_desk.specs.Runs.{Workers, AreUncut, DoTheirPart, IsDone, cores_of, run_of, taken_of}
use Rattle.hj_desk.specs.Releases.{Releases}
use Rattle.hj_desk.proofs.Runs.{all_put, all_reports, collected-at, is_run}

pub both_true : (a b : Bool) → (a && b) ≡ true → (a ≡ true) × (b ≡ true)
both_true true true is = (refl, refl)
both_true true false is = absurd (true≢false (sym is))
both_true false b is = absurd (true≢false (sym is))

all_at : {X : Type 0} (test : X → Bool) (xs : List X) (k : ℕ) (d : X) → list_all test xs ≡ true → k < length xs → test (get_or xs k d) ≡ true
all_at test [] k d is low = absurd (omega (arith, low))
all_at test (x ∷ xs) zero d is low = (both_true (test x) (list_all test xs) is).0
all_at test (x ∷ xs) (suc k) d is low = all_at test xs k d (both_true (test x) (list_all test xs) is).1 (omega (arith, low))

pub past_all : (mark : Option Mark) → is_same mark (Some all) ≡ true → mark ≡ Some all
past_all None is = absurd (true≢false (sym is))
past_all (Some (up_to number)) is = absurd (true≢false (sym is))
past_all (Some all) is = refl

module _ {P : Type 0} where
  -- both closes were taken
  is_left : (turn : DriverTurn P) → is_take Right is_CloseL turn ≡ true → turn ≡ receipt Right CloseL
  is_left (admission event) is = absurd (true≢false (sym is))
  is_left closing is = absurd (true≢false (sym is))
  is_left (receipt Left message) is = absurd (true≢false (sym is))
  is_left (receipt Right CloseL) is = refl
  is_left (receipt Right other) is = absurd (true≢false (sym is))

  is_right : (turn : DriverTurn P) → is_take Left is_CloseR turn ≡ true → turn ≡ receipt Left CloseR
  is_right (admission event) is = absurd (true≢false (sym is))
  is_right closing is = absurd (true≢false (sym is))
  is_right (receipt Right message) is = absurd (true≢false (sym is))
  is_right (receipt Left CloseR) is = refl
  is_right (receipt Left other) is = absurd (true≢false (sym is))

  took_left : (turns : List (DriverTurn P)) → took Right is_CloseL turns ≡ true → Contains turns (receipt Right CloseL)
  took_left turns is = let found = find (is_take Right is_CloseL) turns is in subst (Contains turns) (is_left found.one found.passes) found.is

  took_right : (turns : List (DriverTurn P)) → took Left is_CloseR turns ≡ true → Contains turns (receipt Left CloseR)
  took_right turns is = let found = find (is_take Left is_CloseR) turns is in subst (Contains turns) (is_right found.one found.passes) found.is

  both_taken : (turns : List (DriverTurn P)) → is_finished (closes_of turns) ≡ true → Contains turns (receipt Right CloseL) × Contains turns (receipt Left CloseR)
  both_taken [] is = absurd (true≢false (sym is))
  both_taken (admission event ∷ later) is =
      let found = both_taken later is in
      (Contains-cons (admission event) (receipt Right CloseL) later found.0, Contains-cons (admission event) (receipt Left CloseR) later found.1)
  both_taken (receipt port message ∷ later) is =
      let found = both_taken later is in
      (Contains-cons (receipt port message) (receipt Right CloseL) later found.0, Contains-cons (receipt port message) (receipt Left CloseR) later found.1)
  both_taken (closing ∷ later) is =
      let parts = both_true (took Right is_CloseL later) (took Left is_CloseR later) is in
      (Contains-cons closing (receipt Right CloseL) later (took_left later parts.0), Contains-cons closing (receipt Left CloseR) later (took_right later parts.1))

  -- a core's end was reported
  is_ended : (report : Report P) → is_end report ≡ true → report ≡ Ended
  is_ended Ended is = refl
  is_ended (Handled at side row partners) is = absurd (true≢false (sym is))
  is_ended (Quiet at side) is = absurd (true≢false (sym is))
  is_ended NoMemory is = absurd (true≢false (sym is))

  told_end : (reports : List (Report P)) → list_any is_end reports ≡ true → Contains reports Ended
  told_end reports is = let found = find is_end reports is in subst (Contains reports) (is_ended found.one found.passes) found.is

  -- no pair is kept
  pub none_kept : (mark : Option Mark) → mark ≡ Some all → (kept : List (Pair P)) → All (λ pair. is_within mark (later pair) ≡ false) kept → kept ≡ []
  none_kept mark is [] none = refl
  none_kept mark is (pair ∷ kept) none = absurd (true≢false (ap (λ m. is_within m (later pair)) (sym is) ∙ none 0 pair (omega arith)))

  no_rest : (given rest : List (Pair P)) → length (given ++ rest) ≡ length given → rest ≡ []
  no_rest given [] same = refl
  no_rest given (pair ∷ rest) same = absurd (omega (arith, same, length-append given (pair ∷ rest)))

  -- Where all reports of a complete run were taken, and no pair is kept, the pairs given are the whole join.
  pub whole-of : (run : Run P) (is : IsRun run) → IsComplete is → (lists : List (List (Report P))) → AreAllReportsOf run lists → (given : List (Pair P)) → Releases lists false [] given → given ≡ kang run.matches run.events
  whole-of run is complete lists reports given released =
      let joined = kang run.matches run.events in
      let out : emitted lists ≡ joined = emits_all run is complete lists reports in
      let prefix : IsPrefix given (emitted lists) = released.in_order run is reports.of_run in
      let all_given : length given ≡ length (met lists) = ap length (sym (append-nil given)) ∙ sym (length_permutation (given ++ []) (met lists) (released.others refl run is reports.of_run)) in
      let all_joined : length joined ≡ length (met lists) = sym (length_permutation joined (met lists) (meets_the_join run is complete lists reports)) in
      let rest : prefix.rest ≡ [] = no_rest given prefix.rest (ap length (sym prefix.is ∙ out) ∙ all_joined ∙ sym all_given) in
      sym (append-nil given) ∙ ap (λ l. given ++ l) (sym rest) ∙ sym prefix.is ∙ out

  -- where a desk is done, the end of each core was taken
  module _ (desk : Desk P) (feed : FeedState) (history : DeskHistory P) (stood : StandsFor desk feed history) (done : IsDone desk) where
    pub ended : (k : ℕ) → k < cores_of desk → Contains (takes (taken_of desk k)) Ended
    ended k low =
        let lists = collected desk.reports.items in
        let each : list_all (λ reports. list_any is_end reports) lists ≡ true = sym (ended_follows desk.collector lists stood.gathered.follows) ∙ done.ended in
        subst (λ (reports : List (Report P)). Contains reports Ended) (collected-at desk.reports.items k)
        (told_end (get_or lists k []) (all_at (λ reports. list_any is_end reports) lists k [] each (omega (arith, low, length-map desk.reports.items (λ r. takes r.journal)))))

  module _ (workers : Workers P) (desk : Desk P) (feed : FeedState) (history : DeskHistory P) (stood : StandsFor desk feed history) (parts : DoTheirPart workers desk history.events) (uncut : AreUncut parts) (done : IsDone desk) where
    abbrev lists : List (List (Report P))
    lists = collected desk.reports.items

    abbrev run : Run P
    run = run_of workers desk history.events

    closes : Contains (turns_of history.log) (receipt Right CloseL) × Contains (turns_of history.log) (receipt Left CloseR)
    closes = both_taken (turns_of history.log) (ap is_finished (sym stood.drives.stands.closes) ∙ done.finished)

    pub complete : IsComplete (is_run workers desk feed history stood parts)
    unfolding is_run
    complete = record {
      uncut = uncut;
      all_put = all_put desk.next feed (turns_of history.log) history.events stood.fed done.stopped;
      close_left = closes.0;
      close_right = closes.1;
      ended = ended desk feed history stood done;
    }

    pub whole_join : (given : List (Pair P)) → Releases lists false [] given → given ≡ kang workers.matches history.events
    whole_join given released =
        let is = is_run workers desk feed history stood parts in
        whole-of run is complete lists (all_reports workers desk feed history stood parts) given released
