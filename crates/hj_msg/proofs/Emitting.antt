-- What is emitted is what the sequential join lists within the punctuation.
use Rattle.std.proofs.Common.{◌≡◌, ℕ, ◌+◌, ◌<◌, ◌≤◌, Bool, true, cond, ◌||◌, ◌&&◌, ◌==◌, nat_lt, ◌⊎◌, inl, inr, List, [], ◌∷◌, filter, Contains, Some, None, Option, refl, ap, sym, ◌∙◌, subst, arith}
use Rattle.std.specs.Prelude.{slice_index_or}
use Rattle.std.specs.List.{list_any}
use Rattle.std.specs.List.Sorted.{IsPermutation}
use Rattle.std.proofs.lemmas.List.Sorted.{IsPermutation-sym}
use Rattle.std.proofs.lemmas.Bool.Decides.{nat_tests}
use Rattle.hj_base.specs.declared.numbers.Side.TheVariants.{Left, Right}
use Rattle.hj_base.specs.Journals.{IsPrefix, takes}
use Rattle.hj_msg.specs.declared.event.Pair.{Pair}
use Rattle.hj_msg.specs.declared.message.Report.{Report}
use Rattle.hj_msg.specs.declared.message.Report.TheVariants.{Ended}
use Rattle.hj_msg.specs.Kang.{kang}
use Rattle.hj_msg.specs.Valid.{Precedes, later, earlier}
use Rattle.hj_msg.specs.Order.{sort_by}
use Rattle.hj_msg.specs.Punctuation.{Mark, up_to, all, is_end, punctuation}
use Rattle.hj_msg.specs.Emission.{is_within, comes_before, emitted}
use Rattle.hj_msg.specs.Run.{Run, IsRun, IsComplete}
use Rattle.hj_msg.specs.Met.{AreReportsOf, AreAllReportsOf, met}
use Rattle.hj_msg.specs.Meeting.{MeetsTheJoin, is_pair}
use Rattle.hj_msg.specs.Overtaking.{EmitsAll}
use Rattle.hj_msg.proofs.Counts.{count, count_is, count-list_any}
use Rattle.hj_msg.proofs.Members.{Contains-head, Contains-cons, Contains-filter, Contains-from_filter, Ranked, Ranked-filter, any_of}
use Rattle.hj_msg.proofs.Orders.{any-prefix}
use Rattle.hj_msg.proofs.Joined.{IsJoined, windows_and_join}
use Rattle.hj_msg.proofs.MetOnce.{met_once}
use Rattle.hj_msg.proofs.OnlyMatches.{met_only_matches}
use Rattle.hj_msg.proofs.RankedLists.{same_ranked, one_first, ranked_by, filter_prefix, filter_all}
use Rattle.hj_msg.proofs.WithinPunctuation.{met_within}
use Rattle.hj_msg.proofs.Sorting.{sorted, from_sorted, sorted_ranked, sorted_permutation}
use Rattle.hj_msg.proofs.Marks.{within_marks, end_mark}

lex_trans : (a b c d e f : ℕ) → (nat_lt a c || (a == c && nat_lt b d)) ≡ true → (nat_lt c e || (c == e && nat_lt d f)) ≡ true → (nat_lt a e || (a == e && nat_lt b f)) ≡ true
lex_trans a b c d e f h k = grind (arith, nat_tests, h, k)

lex_apart : (a b c d : ℕ) → (nat_lt a c || (a == c && nat_lt b d)) ≡ true → (nat_lt c a || (c == a && nat_lt d b)) ≡ true → ⊥
lex_apart a b c d h k = grind (arith, nat_tests, h, k)

lex_of : (a b c d : ℕ) → (a < c) ⊎ ((a ≡ c) × (b < d)) → (nat_lt a c || (a == c && nat_lt b d)) ≡ true
lex_of a b c d (inl h) = grind (arith, nat_tests, h)
lex_of a b c d (inr h) = grind (arith, nat_tests, h.0, h.1)

lex_below : (a b c d : ℕ) → (nat_lt a c || (a == c && nat_lt b d)) ≡ true → a ≤ c
lex_below a b c d h = grind (arith, nat_tests, h)

-- the order in which pairs are emitted
abbrev pub First : {P : Type 0} → Pair P → Pair P → Type 0
First p q = comes_before p q ≡ true

-- what is before a pair within a mark is within it
pub within_below : (mark : Option Mark) (a b : ℕ) → a ≤ b → is_within mark b ≡ true → is_within mark a ≡ true
within_below None a b low h = h
within_below (Some (up_to m)) a b low h = grind (arith, nat_tests, low, h)
within_below (Some all) a b low h = refl

pub within_before : {P : Type 0} (mark : Option Mark) (p q : Pair P) → First p q → is_within mark (later q) ≡ true → is_within mark (later p) ≡ true
within_before mark p q first h = within_below mark (later p) (later q) (lex_below (later p) (earlier p) (later q) (earlier q) first) h

-- no two pairs are equal in rank
distinct : {P : Type 0} (joined : List (Pair P)) → Ranked First joined → (xs : List (Pair P)) → ((i j : ℕ) → count (is_pair i j) xs ≤ 1) → ((x : Pair P) → Contains xs x → Contains joined x) → Ranked (λ x y. First x y ⊎ First y x) xs
distinct joined ranked [] once there = tt
distinct {P} joined ranked (x ∷ xs) once there = (
  λ y h. elim (one_first First joined ranked x y (there x (Contains-head x xs)) (there y (Contains-cons x y xs h))) [ inl same ↦ absurd (twice y h same) | inr r ↦ r ],
  distinct joined ranked xs (λ i j. omega (arith, once i j)) (λ y h. there y (Contains-cons x y xs h)),
)
  where
    own : (pair : Pair P) → is_pair pair.left_no.0 pair.right_no.0 pair ≡ true
    own pair = grind (arith, nat_tests)

    twice : (y : Pair P) → Contains xs y → x ≡ y → ⊥
    twice y h same =
        let test : Pair P → Bool = is_pair x.left_no.0 x.right_no.0 in
        let again : 1 ≤ count test xs = count-list_any test xs (any_of test xs y h (ap test (sym same) ∙ own x)) in
        let all : cond {A = ℕ} (test x) 1 0 + count test xs ≤ 1 = once x.left_no.0 x.right_no.0 in
        let here : cond {A = ℕ} (test x) 1 0 ≡ 1 = ap (λ b. cond {A = ℕ} b 1 0) (own x) in
        omega (arith, again, all, here)

module _ {P : Type 0} (run : Run P) (is : IsRun run) where
  pub joined_ranked : Ranked First (kang run.matches run.events)
  joined_ranked = ranked_by Precedes First (λ p q h. lex_of (later p) (earlier p) (later q) (earlier q) h) (kang run.matches run.events) (windows_and_join run.matches run.events is.well_formed).ranked

  -- What is emitted is what the join lists within the punctuation.
  pub emitted_is : (lists : List (List (Report P))) → AreReportsOf run lists → emitted lists ≡ filter (λ pair. is_within (punctuation lists) (later pair)) (kang run.matches run.events)
  emitted_is lists of_run =
      same_ranked First (λ p q. lex_apart (later p) (earlier p) (later q) (earlier q)) (sort_by comes_before kept) (filter within joined)
      (sorted_ranked comes_before (λ p q r. lex_trans (later p) (earlier p) (later q) (earlier q) (later r) (earlier r)) kept
      (Ranked-filter (λ x y. First x y ⊎ First y x) within (met lists) (distinct joined joined_ranked (met lists) (λ i j. subst (λ n. n ≤ 1) (sym (count_is (is_pair i j) (met lists))) (met_once run is i j lists of_run)) to_joined)))
      (Ranked-filter First within joined joined_ranked)
      (λ pair h. let from = Contains-from_filter within (met lists) pair (from_sorted comes_before kept pair h) in Contains-filter within joined pair (to_joined pair from.0) from.1)
      (λ pair h. let from = Contains-from_filter within joined pair h in
      sorted comes_before kept pair (Contains-filter within (met lists) pair (met_within run is lists of_run pair ((is_joined.each pair).0 from.0) from.1) from.1))
    where
      is_joined : IsJoined run.matches run.events
      is_joined = windows_and_join run.matches run.events is.well_formed

      joined : List (Pair P)
      joined = kang run.matches run.events

      within : Pair P → Bool
      within pair = is_within (punctuation lists) (later pair)

      kept : List (Pair P)
      kept = filter within (met lists)

      to_joined : (pair : Pair P) → Contains (met lists) pair → Contains joined pair
      to_joined pair h = (is_joined.each pair).1 (met_only_matches run is lists of_run pair h)

  pub emits_prefix : (lists : List (List (Report P))) → AreReportsOf run lists → IsPrefix (emitted lists) (kang run.matches run.events)
  emits_prefix lists of_run = subst (λ pairs. IsPrefix pairs (kang run.matches run.events)) (sym (emitted_is lists of_run))
      (filter_prefix First (λ pair. is_within (punctuation lists) (later pair)) (within_before (punctuation lists)) (kang run.matches run.events) joined_ranked)

  -- everything is within the punctuation of a complete run
  all_within : IsComplete is → (lists : List (List (Report P))) → AreAllReportsOf run lists → (n : ℕ) → is_within (punctuation lists) n ≡ true
  all_within complete lists are n = within_marks n (Some all) lists refl (λ k low. let e = ended k (omega (arith, low, are.of_run.one_each)) in (end_mark Left (slice_index_or lists k []) n e, end_mark Right (slice_index_or lists k []) n e))
    where
      ended : (k : ℕ) → k < run.cores → list_any is_end (slice_index_or lists k []) ≡ true
      ended k low = any-prefix is_end (are.all_taken k low) (any_of is_end (takes (run.queue k).receiver) Ended (complete.ended k low) refl)

  pub emits_all : EmitsAll is
  emits_all complete lists are =
      emitted_is lists are.of_run ∙ filter_all (λ pair. is_within (punctuation lists) (later pair)) (λ pair. all_within complete lists are (later pair)) (kang run.matches run.events)

  -- A complete run meets the pairs of the join, each once.
  pub meets_the_join : MeetsTheJoin is
  meets_the_join complete lists are =
      let kept : filter (λ pair. is_within (punctuation lists) (later pair)) (met lists) ≡ met lists = filter_all (λ pair. is_within (punctuation lists) (later pair)) (λ pair. all_within complete lists are (later pair)) (met lists) in
      let sorted : sort_by comes_before (met lists) ≡ kang run.matches run.events = ap (sort_by comes_before) (sym kept) ∙ emits_all complete lists are in
      IsPermutation-sym (met lists) (kang run.matches run.events) (subst (IsPermutation (met lists)) sorted (sorted_permutation comes_before (met lists)))
