-- What one report more does to the punctuation and to the pairs that are emitted, in a run.
use Rattle.std.proofs.Common.{◌≡◌, ℕ, ◌<◌, ◌≤◌, inl, inr, Bool, true, false, List, [], ◌∷◌, ◌++◌, length, get_or, filter, Contains, refl, ap, sym, ◌∙◌, subst, arith, append-nil, append_assoc, length-append}
use Rattle.std.proofs.lemmas.Bool.Decides.{nat_tests}
use Rattle.std.proofs.lemmas.List.{length-set, get_or-set_same, get_or-set_other}
use Rattle.std.proofs.lemmas.List.Elements.{Contains-append_left, Contains-append_right, filter-append}
use Rattle.std.proofs.lemmas.List.Sums.{length-filter}
use Rattle.hj_base.specs.Journals.{IsPrefix}
use Rattle.hj_msg.specs.declared.event.Pair.{Pair}
use Rattle.hj_msg.specs.declared.message.Report.{Report}
use Rattle.hj_msg.specs.Kang.{kang}
use Rattle.hj_msg.specs.Valid.{later}
use Rattle.hj_msg.specs.Run.{Run, IsRun}
use Rattle.hj_msg.specs.Met.{AreReportsOf, met, pairs_of}
use Rattle.hj_msg.specs.Meeting.{is_pair}
use Rattle.hj_msg.specs.Punctuation.{punctuation}
use Rattle.hj_msg.specs.Emission.{is_within, comes_before, emitted}
use Rattle.hj_msg.proofs.Members.{Contains-filter, Contains-from_filter}
use Rattle.hj_msg.proofs.Sorting.{sorted, from_sorted}
use Rattle.hj_msg.proofs.Emitting.{emitted_is}
use Rattle.hj_msg.proofs.Growing.{punctuation_stays}
use Rattle.hj_msg.proofs.MetOnce.{met_once}
use Rattle.hj_collect.specs.StandsFor.{with_report}
use Rattle.hj_collect.proofs.Emissions.{within, among}
use Rattle.hj_chain.proofs.Ways.{same_place}

some : {X : Type 0} (test : X → Bool) (xs : List X) (x : X) → Contains xs x → test x ≡ true → 1 ≤ length (filter test xs)
some test xs x h fits = let found = Contains-filter test xs x h fits in omega (arith, found.1)

module _ {P : Type 0} (run : Run P) (is : IsRun run) (lists : List (List (Report P))) (core : ℕ) (report : Report P) (low : core < length lists) (longer_are : AreReportsOf run (with_report core report lists)) where
  abbrev longer : List (List (Report P))
  longer = with_report core report lists

  begins : (k : ℕ) → IsPrefix (get_or lists k []) (get_or longer k [])
  begins k = elim (same_place k core) [
    | inl w ↦
        record {
          rest = report ∷ [];
          is =
              ap (λ j. get_or longer j []) w.0 ∙ get_or-set_same lists core (get_or lists core [] ++ report ∷ []) [] low
              ∙ ap (λ j. get_or lists j [] ++ report ∷ []) (sym w.0);
        }
    | inr w ↦ record { rest = []; is = get_or-set_other lists core k (get_or lists core [] ++ report ∷ []) [] w.0 ∙ sym (append-nil (get_or lists k [])) }
  ]

  lists_are : AreReportsOf run lists
  lists_are = record {
    one_each = sym (length-set lists core (get_or lists core [] ++ report ∷ [])) ∙ longer_are.one_each;
    prefixes = λ k within_run.
        let first = begins k in
        let second = longer_are.prefixes k within_run in
        record { rest = first.rest ++ second.rest; is = second.is ∙ ap (λ rs. rs ++ second.rest) first.is ∙ append_assoc (get_or lists k []) first.rest second.rest };
  }

  pub stays : (number : ℕ) → is_within (punctuation lists) number ≡ true → is_within (punctuation longer) number ≡ true
  stays = punctuation_stays run is lists longer (record { of_run = lists_are; longer_of_run = longer_are; each = λ k within_run. begins k })

  own : (pair : Pair P) → is_pair pair.left_no.0 pair.right_no.0 pair ≡ true
  own pair = grind (arith, nat_tests)

  -- a new pair within the old punctuation would have been met before
  met_before : (pair : Pair P) → Contains (pairs_of report) pair → within (punctuation lists) pair ≡ true → Contains (met lists) pair
  met_before pair h fits =
      let found = among lists core report low in
      let in_longer : Contains (met longer) pair = subst (λ pairs. Contains pairs pair) (sym found.new) (Contains-append_right found.front (pairs_of report ++ found.back) pair (Contains-append_left (pairs_of report) found.back pair h)) in
      let out : Contains (emitted longer) pair =
      sorted comes_before (filter (within (punctuation longer)) (met longer)) pair (Contains-filter (within (punctuation longer)) (met longer) pair in_longer (stays (later pair) fits)) in
      let joined : Contains (kang run.matches run.events) pair =
      (Contains-from_filter (within (punctuation longer)) (kang run.matches run.events) pair (subst (λ pairs. Contains pairs pair) (emitted_is run is longer longer_are) out)).0 in
      let before : Contains (emitted lists) pair =
      subst (λ pairs. Contains pairs pair) (sym (emitted_is run is lists lists_are)) (Contains-filter (within (punctuation lists)) (kang run.matches run.events) pair joined fits) in
      (Contains-from_filter (within (punctuation lists)) (met lists) pair (from_sorted comes_before (filter (within (punctuation lists)) (met lists)) pair before)).0

  -- no new pair is within the old punctuation
  pub fresh : (pair : Pair P) → Contains (pairs_of report) pair → is_within (punctuation lists) (later pair) ≡ false
  fresh pair h = by (is_within (punctuation lists) (later pair)) refl
    where
      by : (b : Bool) → is_within (punctuation lists) (later pair) ≡ b → is_within (punctuation lists) (later pair) ≡ false
      by false e = e
      by true e =
          let found = among lists core report low in
          let test : Pair P → Bool = is_pair pair.left_no.0 pair.right_no.0 in
          let once : length (filter test (met longer)) ≤ 1 = subst (λ m. m ≤ 1) (sym (length-filter test (met longer))) (met_once run is pair.left_no.0 pair.right_no.0 longer longer_are) in
          let here : 1 ≤ length (filter test (pairs_of report)) = some test (pairs_of report) pair h (own pair) in
          let before : 1 ≤ length (filter test (met lists)) = some test (met lists) pair (met_before pair h e) (own pair) in
          let now : filter test (met longer) ≡ filter test found.front ++ (filter test (pairs_of report) ++ filter test found.back) =
          ap (filter test) found.new ∙ filter-append test found.front (pairs_of report ++ found.back) ∙ ap (λ pairs. filter test found.front ++ pairs) (filter-append test (pairs_of report) found.back) in
          let old : filter test (met lists) ≡ filter test found.front ++ filter test found.back = ap (filter test) found.old ∙ filter-append test found.front found.back in
          absurd (omega (
            arith,
            once,
            here,
            before,
            ap length now,
            ap length old,
            length-append (filter test found.front) (filter test found.back),
            length-append (filter test found.front) (filter test (pairs_of report) ++ filter test found.back),
            length-append (filter test (pairs_of report)) (filter test found.back),
          ))
