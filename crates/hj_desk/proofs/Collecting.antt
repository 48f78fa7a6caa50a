-- A desk with one more report of a core.
use Rattle.std.proofs.Common.{All, Some, slice_get, true≢false, ◌≡◌, ℕ, ◌+◌, ◌<◌, ◌==◌, inl, inr, not, cond, Bool, true, false, List, [], ◌∷◌, ◌++◌, length, map, filter, replicate, set, get_or, refl, ap, sym, ◌∙◌, subst, arith, append-nil, append_assoc}
use Rattle.std.specs.declared.result.Result.{Result}
use Rattle.std.specs.declared.result.Result.TheVariants.{Ok, Err}
use Rattle.std.specs.Result.{OnErr, OnOk, is_err}
use Rattle.std.specs.Vec.{with_item}
use Rattle.std.proofs.lemmas.Option.{slice_get-get_or}
use Rattle.std.specs.List.Sorted.{IsPermutation, IsStrictlyIncreasing}
use Rattle.std.proofs.Math.Seq.{map-set_same}
use Rattle.std.proofs.lemmas.List.Sums.{fold-append}
use Rattle.std.proofs.lemmas.Bool.Decides.{eqb_tells}
use Rattle.std.proofs.lemmas.List.{map-append, map-set, get_or-map, length-map, length-set, set-get_or, get_or-set_same, get_or-set_other}
use Rattle.std.proofs.lemmas.List.Elements.{All-set, All-weaker, filter-append}
use Rattle.std.proofs.lemmas.List.Sorted.{IsPermutation-sym, IsPermutation-trans, IsPermutation-append_left, IsPermutation-append_right}
use Rattle.hj_base.specs.declared.numbers.CoreNo.{CoreNo}
use Rattle.hj_base.specs.declared.numbers.Side.TheVariants.{Left}
use Rattle.hj_base.specs.Journals.{Entry, IsPrefix, taken, takes}
use Rattle.hj_msg.specs.declared.event.Pair.{Pair}
use Rattle.hj_msg.specs.declared.message.Report.{Report}
use Rattle.hj_msg.specs.Emission.{emitted}
use Rattle.hj_msg.specs.Met.{AreReportsOf, met, pairs_of}
use Rattle.hj_msg.specs.Punctuation.{mark_of}
use Rattle.hj_msg.specs.Run.{Run}
use Rattle.hj_msg.proofs.Growing.{emission_grows}
use Rattle.hj_collect.specs.Collector.{CollectorState, after_report}
use Rattle.hj_collect.specs.StandsFor as collect
use Rattle.hj_collect.specs.StandsFor.{with_report}
use Rattle.hj_collect.proofs.Emissions.{met-permutation}
use Rattle.hj_collect.proofs.Following.{follows}
use Rattle.hj_link.specs.Seen.{EndSeen}
use Rattle.hj_raw.specs.Items.{TakenReport, lists_of, with_taken}
use Rattle.hj_desk.specs.declared.desk.Desk.{Desk}
use Rattle.hj_desk.specs.Desk.{IsBefore, Gathered, collected, journals_of}
use Rattle.hj_desk.specs.Releases.{Releases}
use Rattle.hj_desk.specs.Steps.{ChangesReceiver, FindsNoReport, TakesReport, next_taken}
use Rattle.hj_desk.specs.Taken.{AreTaken, takes_of, turns_in}
use Rattle.hj_desk.proofs.Driving.{drives-later}
use Rattle.hj_desk.proofs.Numbers.{before-more, before-taken, below-push, increasing-push}

pub prefix-trans : {X : Type 0} (xs ys zs : List X) → IsPrefix xs ys → IsPrefix ys zs → IsPrefix xs zs
prefix-trans xs ys zs first second = record { rest = first.rest ++ second.rest; is = second.is ∙ ap (λ l. l ++ second.rest) first.is ∙ append_assoc xs first.rest second.rest }

takes-push : {M : Type 0} (turn : ℕ) (journal : List (Entry M)) (message : M) → takes (journal ++ taken turn message ∷ []) ≡ takes journal ++ message ∷ []
takes-push {M} turn journal message =
    ap (map (λ (e : Entry M). e.message)) (filter-append (λ (e : Entry M). not e.is_put) journal (taken turn message ∷ []))
    ∙ map-append (λ (e : Entry M). e.message) (filter (λ (e : Entry M). not e.is_put) journal) (taken turn message ∷ [])

module _ {P : Type 0} (lists : List (List (Report P))) (core : ℕ) (report : Report P) (low : core < length lists) where
  abbrev longer : List (List (Report P))
  longer = with_report core report lists

  -- each list begins the one with the report
  begins : (k : ℕ) → IsPrefix (get_or lists k []) (get_or longer k [])
  begins k = elim (eqb_tells k core) [
    | inl w ↦
        record {
          rest = report ∷ [];
          is = ap (λ j. get_or longer j []) w.1 ∙ get_or-set_same lists core (get_or lists core [] ++ report ∷ []) [] low ∙ ap (λ j. get_or lists j [] ++ report ∷ []) (sym w.1);
        }
    | inr w ↦ record { rest = []; is = get_or-set_other lists core k (get_or lists core [] ++ report ∷ []) [] w.1 ∙ sym (append-nil (get_or lists k [])) }
  ]

  -- in a run of which the longer lists are, the shorter ones are too
  shorter : (run : Run P) → AreReportsOf run longer → AreReportsOf run lists
  shorter run are = record {
    one_each = sym (length-set lists core (get_or lists core [] ++ report ∷ [])) ∙ are.one_each;
    prefixes = λ k within. prefix-trans (get_or lists k []) (get_or longer k []) _ (begins k) (are.prefixes k within);
  }

  pub releases-more : (over over' : Bool) (kept kept' given : List (Pair P)) → Releases lists over kept given → (over' ≡ false → (over ≡ false) × IsPermutation (kept ++ pairs_of report) kept') → Releases longer over' kept' given
  releases-more over over' kept kept' given old added = record {
    in_order = λ run is are.
        prefix-trans given (emitted lists) (emitted longer) (old.in_order run is (shorter run are))
        (emission_grows run is lists longer (record { of_run = shorter run are; longer_of_run = are; each = λ k within. begins k }));
    others = λ lasts run is are.
        let more = added lasts in
        IsPermutation-trans (given ++ kept') (given ++ (kept ++ pairs_of report)) (met longer)
        (IsPermutation-append_right given kept' (kept ++ pairs_of report) (IsPermutation-sym (kept ++ pairs_of report) kept' more.1))
        (IsPermutation-trans (given ++ (kept ++ pairs_of report)) (met lists ++ pairs_of report) (met longer)
        (subst (λ l. IsPermutation l (met lists ++ pairs_of report)) (append_assoc given kept (pairs_of report))
        (IsPermutation-append_left (pairs_of report) (given ++ kept) (met lists) (old.others more.0 run is (shorter run are))))
        (met-permutation lists core report low));
  }

module _ {P : Type 0} (receivers : List (EndSeen (Report P))) (core : ℕ) (before after : EndSeen (Report P)) (low : core < length receivers) (was : get_or receivers core before ≡ before) where
  abbrev taken_in : EndSeen (Report P) → List (Report P)
  taken_in receiver = takes receiver.journal

  collected-taken : (turn : ℕ) (report : Report P) → after.journal ≡ before.journal ++ taken turn report ∷ [] → collected (set receivers core after) ≡ with_report core report (collected receivers)
  collected-taken turn report is =
      map-set taken_in receivers core after
      ∙ ap (set (collected receivers) core)
      (ap takes is ∙ takes-push turn before.journal report ∙ ap (λ l. l ++ report ∷ []) (sym (get_or-map taken_in receivers core before [] low ∙ ap taken_in was)))

  collected-same : after.journal ≡ before.journal → collected (set receivers core after) ≡ collected receivers
  collected-same is = map-set taken_in receivers core after ∙ ap (set (collected receivers) core) (ap takes is ∙ sym (ap taken_in was) ∙ sym (get_or-map taken_in receivers core before [] low)) ∙ set-same (collected receivers) core
    where
      set-same : (xs : List (List (Report P))) (k : ℕ) → set xs k (get_or xs k []) ≡ xs
      set-same xs k = set-get_or xs k []

  -- the journals too
  module _ (number : ℕ) (report : Report P) (grown : after.journal ≡ before.journal ++ taken number report ∷ []) (reports : List (TakenReport P)) (are : AreTaken (journals_of receivers) reports) where
    abbrev one : TakenReport P
    one = record { turn = number; core = core; report = report }

    abbrev entry : TakenReport P → Entry (Report P)
    entry r = taken r.turn r.report

    journals : journals_of (set receivers core after) ≡ set (journals_of receivers) core (before.journal ++ taken number report ∷ [])
    journals = map-set (λ (r : EndSeen (Report P)). r.journal) receivers core after ∙ ap (set (journals_of receivers) core) grown

    at-core : get_or (journals_of receivers) core [] ≡ before.journal
    at-core = get_or-map (λ (r : EndSeen (Report P)). r.journal) receivers core before [] low ∙ ap (λ (r : EndSeen (Report P)). r.journal) was

    takes-more : (k : ℕ) → takes_of k (reports ++ one ∷ []) ≡ takes_of k reports ++ takes_of k (one ∷ [])
    takes-more k =
        ap (map entry) (filter-append (λ (r : TakenReport P). r.core == k) reports (one ∷ []))
        ∙ map-append entry (filter (λ (r : TakenReport P). r.core == k) reports) (filter (λ (r : TakenReport P). r.core == k) (one ∷ []))

    behind : (k : ℕ) (test : Bool) → (core == k) ≡ test → takes_of k reports ++ map entry (cond test (one ∷ []) []) ≡ takes_of k (reports ++ one ∷ [])
    behind k test is = ap (λ b. takes_of k reports ++ map entry (cond b (one ∷ []) [])) (sym is) ∙ sym (takes-more k)

    each-more : (k : ℕ) → get_or (journals_of (set receivers core after)) k [] ≡ takes_of k (reports ++ one ∷ [])
    each-more k =
        let journal = before.journal ++ taken number report ∷ [] in
        elim (eqb_tells core k) [
          | inl w ↦
              ap (λ js. get_or js k []) journals ∙ ap (λ j. get_or (set (journals_of receivers) core journal) j []) (sym w.1)
              ∙ get_or-set_same (journals_of receivers) core journal [] (omega (arith, low, length-map receivers (λ (r : EndSeen (Report P)). r.journal)))
              ∙ ap (λ l. l ++ taken number report ∷ []) (sym at-core ∙ are.each core ∙ ap (λ j. takes_of j reports) w.1) ∙ behind k true w.0
          | inr w ↦
              ap (λ js. get_or js k []) journals ∙ get_or-set_other (journals_of receivers) core k journal [] (λ e. w.1 (sym e)) ∙ are.each k
              ∙ sym (append-nil (takes_of k reports)) ∙ behind k false w.0
        ]

    are-more : All (λ n. n < number) (turns_in reports) → AreTaken (journals_of (set receivers core after)) (reports ++ one ∷ [])
    are-more below = record {
      rising = subst IsStrictlyIncreasing (sym (map-append (λ (r : TakenReport P). r.turn) reports (one ∷ []))) (increasing-push number (turns_in reports) are.rising below);
      each = each-more;
    }

  module _ (number next : ℕ) (is : next ≡ number + 1) (collector : CollectorState) (reports : List (TakenReport P)) (old : Gathered receivers number collector reports) where
    collects-one : (at : CoreNo) (report : Report P) → at.0 ≡ core → after.journal ≡ before.journal ++ taken number report ∷ []
        → Gathered (set receivers core after) next (after_report at report collector) (reports ++ record { turn = number; core = core; report = report } ∷ [])
    collects-one at report here grown =
        let lists = collected receivers in
        let many : length lists ≡ length receivers = length-map receivers taken_in in
        let are : collected (set receivers core after) ≡ with_report core report lists = collected-taken number report grown in
        let one : IsBefore number before.journal = subst (λ (r : EndSeen (Report P)). IsBefore number r.journal) was (old.in_turn core before low) in
        let last : TakenReport P = record { turn = number; core = core; report = report } in
        record {
          in_turn =
              All-set (λ (r : EndSeen (Report P)). IsBefore next r.journal) receivers core after (subst (IsBefore next) (sym grown) (before-taken number next is before.journal one report))
              (All-weaker (λ (r : EndSeen (Report P)). IsBefore number r.journal) (λ (r : EndSeen (Report P)). IsBefore next r.journal) (λ (r : EndSeen (Report P)) b. before-more number next is r.journal b) receivers old.in_turn);
          follows =
              subst (collect.StandsFor (after_report at report collector)) (sym (are ∙ ap (λ k. with_report k report lists) (sym here)))
              (follows at report collector lists (omega (arith, low, here, many, ap length old.follows.left, length-map lists (mark_of Left))) old.follows);
          are = are-more number report grown reports old.are old.before;
          before = subst (All (λ n. n < next)) (sym (map-append (λ (r : TakenReport P). r.turn) reports (last ∷ []))) (below-push number next is (turns_in reports) old.before);
          lists =
              are ∙ ap (with_report core report) old.lists ∙ sym (fold-append with_taken (replicate (length receivers) []) reports (last ∷ []))
              ∙ ap (λ n. lists_of n (reports ++ last ∷ [])) (sym (length-set receivers core after));
        }

    pub collects-taken : (at : CoreNo) (report : Report P) → at.0 ≡ core → after.journal ≡ before.journal ++ taken number report ∷ []
        → Gathered (set receivers core after) next (after_report at report collector) (reports ++ record { turn = number; core = at.0; report = report } ∷ [])
    collects-taken at report here grown =
        subst (λ (k : ℕ). Gathered (set receivers core after) next (after_report at report collector) (reports ++ record { turn = number; core = k; report = report } ∷ [])) (sym here)
        (collects-one at report here grown)

    pub collects-none : after.journal ≡ before.journal → Gathered (set receivers core after) number collector reports
    collects-none same =
        let are = collected-same same in
        let journals : journals_of (set receivers core after) ≡ journals_of receivers =
        map-set_same (λ (r : EndSeen (Report P)). r.journal) receivers core after before (same ∙ ap (λ (r : EndSeen (Report P)). r.journal) (sym was)) in
        record {
          in_turn =
              All-set (λ (r : EndSeen (Report P)). IsBefore number r.journal) receivers core after
              (subst (IsBefore number) (sym same) (subst (λ (r : EndSeen (Report P)). IsBefore number r.journal) was (old.in_turn core before low))) old.in_turn;
          follows = subst (collect.StandsFor collector) (sym are) old.follows;
          are = subst (λ js. AreTaken js reports) (sym journals) old.are;
          before = old.before;
          lists = are ∙ old.lists ∙ ap (λ n. lists_of n reports) (sym (length-set receivers core after));
        }

-- a call that wasn't refused, or that was
pub granted : {T E : Type 0} (result : Result T E) (What : Type 0) → is_err result ≡ false → OnOk result What → What
granted (Ok value) What fine what = what
granted (Err refusal) What fine what = absurd (true≢false fine)

pub refused : {T E : Type 0} (result : Result T E) (What : Type 0) → is_err result ≡ true → OnErr result What → What
refused (Ok value) What bad what = absurd (true≢false (sym bad))
refused (Err refusal) What bad what = what

-- ---- a whole desk

module _ {P : Type 0} (old : Desk P) (core : CoreNo) (at : ℕ) (here : at ≡ core.0) (before after : EndSeen (Report P)) (low : core.0 < length old.reports.items) (value : before ≡ get_or old.reports.items at before)
    (link : after.link ≡ before.link) (capacity : after.capacity ≡ before.capacity) where
  changes : (new : Desk P) → new.reports.items ≡ set old.reports.items at after → ChangesReceiver core before after old new
  changes new is = record {
    was = ap (slice_get old.reports.items) (sym here) ∙ slice_get-get_or old.reports.items at before (omega (arith, low, here)) ∙ ap (λ (r : EndSeen (Report P)). Some r) (sym value);
    is = is ∙ ap (λ (k : ℕ). set old.reports.items k after) here;
    link = link;
    capacity = capacity;
  }

  pub finds-none : after.journal ≡ before.journal → before.ready ≡ 0 → after.empty_looks ≡ before.empty_looks + 1 → FindsNoReport core old (record old { reports = with_item old.reports at after })
  finds-none same none looked = record {
    before = before;
    after = after;
    receiver = changes (record old { reports = with_item old.reports at after }) refl;
    same = same;
    none_known = none;
    looked = looked;
    others = refl;
    stands = λ feed history stood. record {
      drives = stood.drives;
      fed = stood.fed;
      gathered = collects-none old.reports.items at before after (omega (arith, low, here)) (sym value) old.turns (old.turns + 1) refl old.collector history.taken stood.gathered same;
    };
  }

  pub takes-report : (report : Report P) (next : ℕ) → next ≡ old.turns + 1 → after.journal ≡ before.journal ++ taken old.turns report ∷ [] → (collector : CollectorState) → collector ≡ after_report core report old.collector → (over : Bool)
      → TakesReport core report old (record old { reports = with_item old.reports at after; turns = next; collector = collector; over = over })
  takes-report report next is grown collector noted over = record {
    before = before;
    after = after;
    receiver = changes (record old { reports = with_item old.reports at after; turns = next; collector = collector; over = over }) refl;
    noted = grown;
    number = is;
    collector = noted;
    others = refl;
    stands = λ feed history stood. record {
      drives = drives-later old.driver old.ports old.turns next history.log is stood.drives;
      fed = stood.fed;
      gathered =
          subst (λ (c : CollectorState). Gathered (set old.reports.items at after) next c (history.taken ++ next_taken core report old ∷ [])) (sym noted)
          (collects-taken old.reports.items at before after (omega (arith, low, here)) (sym value) old.turns next is old.collector history.taken stood.gathered core report (sym here) grown);
    };
  }
