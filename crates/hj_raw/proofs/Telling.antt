-- Raw items tell of the join of a run's events.
use Rattle.std.proofs.Common.{◌≡◌, ℕ, zero, suc, ◌+◌, ◌<◌, ◌≤◌, ◌⊎◌, inl, inr, Bool, true, false, cond, List, [], ◌∷◌, ◌++◌, length, map, fold, replicate, get_or, Contains, Some, None, Option, refl, sym, ap, ap₂, subst, ◌∙◌, append-nil, append_assoc, arith, true≢false, IsPermutation}
use Rattle.std.specs.List.{count_by, flat_map, list_any}
use Rattle.std.proofs.lemmas.Bool.Decides.{eqb_tells, nat_tests}
use Rattle.std.proofs.lemmas.List.{length-replicate, length-set, get_or-set_same, get_or-set_other}
use Rattle.std.proofs.lemmas.List.Elements.{Contains-append_left, Contains-append_right}
use Rattle.std.proofs.lemmas.List.Sorted.{IsPermutation-refl, IsPermutation-sym, IsPermutation-trans, IsPermutation-append_left, Contains-permutation, sum_by-IsPermutation}
use Rattle.std.proofs.lemmas.List.Sums.{fold-append, sum_by-append, sum_by-cons}
use Rattle.hj_base.specs.declared.numbers.Side.TheVariants.{Left, Right}
use Rattle.hj_base.specs.Journals.{IsPrefix, puts, takes}
use Rattle.hj_msg.specs.declared.event.Pair.{Pair}
use Rattle.hj_msg.specs.declared.message.Report.{Report}
use Rattle.hj_msg.specs.declared.message.Report.TheVariants.{Ended}
use Rattle.hj_msg.specs.Emission.{is_within}
use Rattle.hj_msg.specs.Meeting.{is_pair}
use Rattle.hj_msg.specs.Met.{AreAllReportsOf, AreReportsOf, met, pairs_of}
use Rattle.hj_msg.specs.Overtaking.{AreLater}
use Rattle.hj_msg.specs.Punctuation.{Mark, up_to, all, is_end, lesser, mark_of, punctuation}
use Rattle.hj_msg.specs.Run.{Run, IsRun, IsComplete}
use Rattle.hj_msg.specs.Valid.{IsMatch, later}
use Rattle.hj_msg.proofs.Emitting.{meets_the_join}
use Rattle.hj_msg.proofs.Growing.{punctuation_stays}
use Rattle.hj_msg.proofs.Joined.{IsJoined, windows_and_join}
use Rattle.hj_msg.proofs.Marks.{end_mark, within_marks}
use Rattle.hj_msg.proofs.Members.{Contains-nil, Contains-head, Contains-cons, Contains-cons_cases, Contains-from_map, Contains-cut, any_of, find}
use Rattle.hj_msg.proofs.MetOnce.{met_once}
use Rattle.hj_msg.proofs.OnlyMatches.{met_only_matches}
use Rattle.hj_msg.proofs.WithinPunctuation.{met_within}
use Rattle.hj_collect.specs.Marks.{is_same}
use Rattle.hj_collect.proofs.Emissions.{met-permutation}
use Rattle.hj_raw.specs.Items.{Item, TakenReport, joined, marked, mark_behind, items_behind, items_of_report, lists_of, raw_items, with_taken}
use Rattle.hj_raw.specs.Telling.{AreTakenOf, IsBelow, TellsAll, TellsMatches, is_pair_of}
use Rattle.hj_raw.proofs.Behind.{one_behind}

-- how many of a list pass a test that a member passes
counts_member : {X : Type 0} (test : X → Bool) (xs : List X) (x : X) → Contains xs x → test x ≡ true → 1 ≤ count_by test xs
counts_member {X} test xs x h e =
    let cut = Contains-cut xs x h in
    let one : cond {A = ℕ} (test x) 1 0 ≡ 1 = ap (λ b. cond {A = ℕ} b 1 0) e in
    omega (
      arith,
      ap (λ (l : List X). count_by test l) cut.2,
      sum_by-append (λ (y : X). cond {A = ℕ} (test y) 1 0) cut.0 (x ∷ cut.1),
      sum_by-cons (λ (y : X). cond {A = ℕ} (test y) 1 0) x cut.1,
      one,
    )

-- what begins a beginning begins the whole
prefix-both : {X : Type 0} (xs ys zs : List X) → IsPrefix xs ys → IsPrefix ys zs → IsPrefix xs zs
prefix-both xs ys zs first second = record { rest = first.rest ++ second.rest; is = second.is ∙ ap (λ l. l ++ second.rest) first.is ∙ append_assoc xs first.rest second.rest }

-- ---- the pairs among items

module _ {P : Type 0} where
  abbrev joined_in : List (Item P) → List (Pair P)
  joined_in [] = []
  joined_in (joined pair ∷ items) = pair ∷ joined_in items
  joined_in (marked mark ∷ items) = joined_in items

  joined_in-append : (xs ys : List (Item P)) → joined_in (xs ++ ys) ≡ joined_in xs ++ joined_in ys
  joined_in-append [] ys = refl
  joined_in-append (joined pair ∷ xs) ys = ap (λ l. pair ∷ l) (joined_in-append xs ys)
  joined_in-append (marked mark ∷ xs) ys = joined_in-append xs ys

  joined_in-pairs : (pairs : List (Pair P)) → joined_in (map joined pairs) ≡ pairs
  joined_in-pairs [] = refl
  joined_in-pairs (pair ∷ pairs) = ap (λ l. pair ∷ l) (joined_in-pairs pairs)

  joined_in-mark : (before now : Option Mark) → joined_in (mark_behind before now) ≡ []
  joined_in-mark before None = refl
  joined_in-mark before (Some now) = by (is_same before (Some now))
    where
      by : (same : Bool) → joined_in (cond same [] (marked now ∷ [])) ≡ []
      by true = refl
      by false = refl

  joined_in-report : (lists : List (List (Report P))) (one : TakenReport P) → joined_in (items_of_report lists one) ≡ pairs_of one.report
  joined_in-report lists one =
      joined_in-append (map joined (pairs_of one.report)) (mark_behind (punctuation lists) (punctuation (with_taken lists one)))
      ∙ ap₂ (λ xs ys. xs ++ ys) (joined_in-pairs (pairs_of one.report)) (joined_in-mark (punctuation lists) (punctuation (with_taken lists one))) ∙ append-nil (pairs_of one.report)

  has : (items : List (Item P)) (pair : Pair P) → Contains items (joined pair) → Contains (joined_in items) pair
  has [] pair h = absurd (Contains-nil (joined pair) h)
  has (joined first ∷ items) pair h = elim (Contains-cons_cases (joined first) (joined pair) items h) [
    | inl e ↦ let same : first ≡ pair = cc in subst (λ p. Contains (first ∷ joined_in items) p) same (Contains-head first (joined_in items))
    | inr k ↦ Contains-cons first pair (joined_in items) (has items pair k)
  ]
  has (marked mark ∷ items) pair h = elim (Contains-cons_cases (marked mark) (joined pair) items h) [
    | inl e ↦ absurd (let wrong : marked mark ≡ joined pair = e in cc)
    | inr k ↦ has items pair k
  ]

  stands : (items : List (Item P)) (pair : Pair P) → Contains (joined_in items) pair → Contains items (joined pair)
  stands [] pair h = absurd (Contains-nil pair h)
  stands (joined first ∷ items) pair h = elim (Contains-cons_cases first pair (joined_in items) h) [
    | inl e ↦ subst (λ (p : Pair P). Contains (joined first ∷ items) (joined p)) e (Contains-head (joined first) items)
    | inr k ↦ Contains-cons (joined first) (joined pair) items (stands items pair k)
  ]
  stands (marked mark ∷ items) pair h = Contains-cons (marked mark) (joined pair) items (stands items pair h)

  counted : (i j : ℕ) (items : List (Item P)) → count_by (is_pair_of i j) items ≡ count_by (is_pair i j) (joined_in items)
  counted i j [] = refl
  counted i j (joined first ∷ items) =
      sum_by-cons (λ (x : Item P). cond (is_pair_of i j x) 1 0) (joined first) items ∙ ap (λ n. cond (is_pair i j first) 1 0 + n) (counted i j items)
      ∙ sym (sum_by-cons (λ (p : Pair P). cond (is_pair i j p) 1 0) first (joined_in items))
  counted i j (marked mark ∷ items) = omega (arith, sum_by-cons (λ (x : Item P). cond {A = ℕ} (is_pair_of i j x) 1 0) (marked mark) items, counted i j items)

  -- ---- reports, one after another

  length-with : (lists : List (List (Report P))) (one : TakenReport P) → length (with_taken lists one) ≡ length lists
  length-with lists one = length-set lists one.core (get_or lists one.core [] ++ one.report ∷ [])

  length-all : (lists : List (List (Report P))) (taken : List (TakenReport P)) → length (fold with_taken lists taken) ≡ length lists
  length-all lists [] = refl
  length-all lists (first ∷ later) = length-all (with_taken lists first) later ∙ length-with lists first

  begins-one : (lists : List (List (Report P))) (one : TakenReport P) → one.core < length lists → (k : ℕ) → IsPrefix (get_or lists k []) (get_or (with_taken lists one) k [])
  begins-one lists one low k = elim (eqb_tells k one.core) [
    | inl w ↦
        record {
          rest = one.report ∷ [];
          is = ap (λ j. get_or (with_taken lists one) j []) w.1 ∙ get_or-set_same lists one.core (get_or lists one.core [] ++ one.report ∷ []) [] low ∙ ap (λ j. get_or lists j [] ++ one.report ∷ []) (sym w.1);
        }
    | inr w ↦ record { rest = []; is = get_or-set_other lists one.core k (get_or lists one.core [] ++ one.report ∷ []) [] w.1 ∙ sym (append-nil (get_or lists k [])) }
  ]

  begins-all : (lists : List (List (Report P))) (taken : List (TakenReport P)) → ((one : TakenReport P) → Contains taken one → one.core < length lists) → (k : ℕ) → IsPrefix (get_or lists k []) (get_or (fold with_taken lists taken) k [])
  begins-all lists [] known k = record { rest = []; is = sym (append-nil (get_or lists k [])) }
  begins-all lists (first ∷ later) known k =
      prefix-both (get_or lists k []) (get_or (with_taken lists first) k []) (get_or (fold with_taken (with_taken lists first) later) k []) (begins-one lists first (known first (Contains-head first later)) k)
      (begins-all (with_taken lists first) later (λ one h. omega (arith, known one (Contains-cons first one later h), length-with lists first)) k)

  -- the pairs among the items are those that were met
  met-all : (lists : List (List (Report P))) (taken : List (TakenReport P)) → ((one : TakenReport P) → Contains taken one → one.core < length lists) → IsPermutation (met lists ++ joined_in (items_behind lists taken)) (met (fold with_taken lists taken))
  met-all lists [] known = subst (λ (l : List (Pair P)). IsPermutation l (met lists)) (sym (append-nil (met lists))) (IsPermutation-refl (met lists))
  met-all lists (first ∷ later) known =
      let longer = with_taken lists first in
      let rest = joined_in (items_behind longer later) in
      let own = pairs_of first.report in
      let parts : met lists ++ joined_in (items_behind lists (first ∷ later)) ≡ (met lists ++ own) ++ rest =
      ap (λ l. met lists ++ l) (joined_in-append (items_of_report lists first) (items_behind longer later) ∙ ap (λ l. l ++ rest) (joined_in-report lists first)) ∙ sym (append_assoc (met lists) own rest) in
      subst (λ (l : List (Pair P)). IsPermutation l (met (fold with_taken longer later))) (sym parts)
      (IsPermutation-trans ((met lists ++ own) ++ rest) (met longer ++ rest) (met (fold with_taken longer later))
      (IsPermutation-append_left rest (met lists ++ own) (met longer) (met-permutation lists first.core first.report (known first (Contains-head first later))))
      (met-all longer later (λ one h. omega (arith, known one (Contains-cons first one later h), length-with lists first))))

  none_met : (cores : ℕ) → met {P = P} (replicate cores []) ≡ []
  none_met zero = refl
  none_met (suc cores) = none_met cores

-- ---- where a mark stands

-- an element of two lists in a row is of the first one or of the second one
split : {X : Type 0} (xs ys front back : List X) (m : X) → xs ++ ys ≡ front ++ m ∷ back
    → ((mid : List X) × (xs ≡ front ++ m ∷ mid) × (back ≡ mid ++ ys)) ⊎ ((mid : List X) × (front ≡ xs ++ mid) × (ys ≡ mid ++ m ∷ back))
split [] ys front back m e = inr (front, refl, e)
split (x ∷ xs) ys [] back m e = let head : x ≡ m = cc in let tail : xs ++ ys ≡ back = cc in inl (xs, ap (λ y. y ∷ xs) head, sym tail)
split (x ∷ xs) ys (f ∷ front) back m e =
    let head : x ≡ f = cc in
    let tail : xs ++ ys ≡ front ++ m ∷ back = cc in
    elim (split xs ys front back m tail) [
      | inl w ↦ inl (w.0, ap₂ (λ y l. y ∷ l) head w.1, w.2)
      | inr w ↦ inr (w.0, ap₂ (λ y l. y ∷ l) (sym head) w.1, w.2)
    ]

not_empty : {X : Type 0} (front back : List X) (m : X) → [] ≡ front ++ m ∷ back → ⊥
not_empty [] back m e = let wrong : [] ≡ m ∷ back = e in cc
not_empty (f ∷ front) back m e = let wrong : [] ≡ f ∷ (front ++ m ∷ back) = e in cc

module _ {P : Type 0} where
  -- the mark behind a report, where it stands
  record IsMarked (before now : Option Mark) (front back : List (Item P)) (mark : Mark) : Type 0 where
    first : front ≡ []
    last : back ≡ []
    is : now ≡ Some mark
    rose : is_same before (Some mark) ≡ false

  marked_by : (before now : Option Mark) (front back : List (Item P)) (mark : Mark) → mark_behind before now ≡ front ++ marked mark ∷ back → IsMarked before now front back mark
  marked_by before None front back mark e = absurd (not_empty front back (marked mark) e)
  marked_by before (Some now) front back mark e = by (is_same before (Some now)) refl e
    where
      alone : (front : List (Item P)) → marked now ∷ [] ≡ front ++ marked mark ∷ back → (front ≡ []) × (back ≡ []) × (now ≡ mark)
      alone [] e = let same : ◌≡◌ {A = Item P} (marked now) (marked mark) = cc in let none : [] ≡ back = cc in (refl, sym none, (cc))
      alone (f ∷ front) e = let tail : [] ≡ front ++ marked mark ∷ back = cc in absurd (not_empty front back (marked mark) tail)

      by : (same : Bool) → is_same before (Some now) ≡ same → cond same [] (marked now ∷ []) ≡ front ++ marked mark ∷ back → IsMarked before (Some now) front back mark
      by true is e = absurd (not_empty front back (marked mark) e)
      by false is e = let one = alone front e in record { first = one.0; last = one.1; is = ap (λ (m : Mark). Some m) one.2; rose = ap (λ (m : Mark). is_same before (Some m)) (sym one.2) ∙ is }

  -- the report behind which a mark stands
  record StandsBehind (lists : List (List (Report P))) (taken : List (TakenReport P)) (front back : List (Item P))
      (mark : Mark) : Type 0 where
    early : List (TakenReport P)
    one : TakenReport P
    late : List (TakenReport P)
    parts : taken ≡ early ++ one ∷ late
    now : punctuation (with_taken (fold with_taken lists early) one) ≡ Some mark
    rose : is_same (punctuation (fold with_taken lists early)) (Some mark) ≡ false
    before : front ≡ items_behind lists early ++ map joined (pairs_of one.report)
    behind : back ≡ items_behind (with_taken (fold with_taken lists early) one) late

  find_mark : (lists : List (List (Report P))) (taken : List (TakenReport P)) (front back : List (Item P)) (mark : Mark) → items_behind lists taken ≡ front ++ marked mark ∷ back → StandsBehind lists taken front back mark
  find_mark lists [] front back mark e = absurd (not_empty front back (marked mark) e)
  find_mark lists (first ∷ later) front back mark e = elim (split own (own_mark ++ rest) front back (marked mark) (sym (append_assoc own own_mark rest) ∙ e)) [
    | inl w ↦ absurd (no_mark w.0 w.1)
    | inr w ↦ elim (split own_mark rest w.0 back (marked mark) w.2) [
      | inl v ↦ here w.0 v.0 w.1 (marked_by (punctuation lists) (punctuation longer) w.0 v.0 mark v.1) v.2
      | inr v ↦ further w.0 v.0 w.1 v.1 (find_mark longer later v.0 back mark v.2)
    ]
  ]
    where
      longer : List (List (Report P))
      longer = with_taken lists first

      own : List (Item P)
      own = map joined (pairs_of first.report)

      own_mark : List (Item P)
      own_mark = mark_behind (punctuation lists) (punctuation longer)

      rest : List (Item P)
      rest = items_behind longer later

      no_mark : (mid : List (Item P)) → own ≡ front ++ marked mark ∷ mid → ⊥
      no_mark mid e =
          let there : Contains own (marked mark) = subst (λ (l : List (Item P)). Contains l (marked mark)) (sym e) (Contains-append_right front (marked mark ∷ mid) (marked mark) (Contains-head (marked mark) mid)) in
          let found = Contains-from_map joined (pairs_of first.report) (marked mark) there in
          let wrong : joined found.0 ≡ marked mark = found.2 in cc

      here : (mid behind : List (Item P)) → front ≡ own ++ mid → IsMarked (punctuation lists) (punctuation longer) mid behind mark → back ≡ behind ++ rest → StandsBehind lists (first ∷ later) front back mark
      here mid behind front_is is back_is = record {
        early = [];
        one = first;
        late = later;
        parts = refl;
        now = is.is;
        rose = is.rose;
        before = front_is ∙ ap (λ l. own ++ l) is.first ∙ append-nil own;
        behind = back_is ∙ ap (λ l. l ++ rest) is.last;
      }

      further : (mid next : List (Item P)) → front ≡ own ++ mid → mid ≡ own_mark ++ next → StandsBehind longer later next back mark → StandsBehind lists (first ∷ later) front back mark
      further mid next front_is mid_is there =
          let pairs = map joined (pairs_of there.one.report) in
          let inner = items_behind longer there.early in
          record {
            early = first ∷ there.early;
            one = there.one;
            late = there.late;
            parts = ap (λ (l : List (TakenReport P)). first ∷ l) there.parts;
            now = there.now;
            rose = there.rose;
            before = front_is ∙ ap (λ l. own ++ l) mid_is ∙ sym (append_assoc own own_mark next) ∙ ap (λ l. (own ++ own_mark) ++ l) there.before ∙ sym (append_assoc (own ++ own_mark) inner pairs);
            behind = there.behind;
          }

-- ---- marks

-- A mark that stands behind another one is past it: what is within the punctuation stays so.
below_next : (first second : Mark) (mid : Option Mark) → ((n : ℕ) → is_within (Some first) n ≡ true → is_within mid n ≡ true) → ((n : ℕ) → is_within mid n ≡ true → is_within (Some second) n ≡ true) → is_same mid (Some second) ≡ false
    → IsBelow first second
below_next (up_to a) second None stays goes rose = absurd (true≢false (sym (stays a (grind (arith, nat_tests)))))
below_next all second None stays goes rose = absurd (true≢false (sym (stays 0 refl)))
below_next (up_to a) (up_to b) (Some (up_to m)) stays goes rose =
    let low = stays a (grind (arith, nat_tests)) in
    let high = goes m (grind (arith, nat_tests)) in
    grind (arith, nat_tests, low, high, rose)
below_next (up_to a) all (Some (up_to m)) stays goes rose = tt
below_next all second (Some (up_to m)) stays goes rose = let wrong = stays (suc m) refl in absurd (grind (arith, nat_tests, wrong))
below_next first (up_to b) (Some all) stays goes rose = let wrong = goes (suc b) refl in absurd (grind (arith, nat_tests, wrong))
below_next first all (Some all) stays goes rose = absurd (true≢false rose)

-- what has every number within it is past every number
past_every : (mark : Option Mark) → ((n : ℕ) → is_within mark n ≡ true) → mark ≡ Some all
past_every None within = absurd (true≢false (sym (within 0)))
past_every (Some (up_to m)) within = let wrong = within (suc m) in absurd (grind (arith, nat_tests, wrong))
past_every (Some all) within = refl

lesser-none : (marks : List (Option Mark)) → fold lesser None marks ≡ None
lesser-none [] = refl
lesser-none (mark ∷ marks) = lesser-none marks

-- where no core told anything there is no mark
pub none-told : (P : Type 0) (cores : ℕ) → 1 ≤ cores → punctuation {P = P} (replicate cores []) ≡ None
none-told P zero some = absurd (omega (arith, some))
none-told P (suc cores) some = lesser-none (None ∷ flat_map (λ (reports : List (Report P)). mark_of Left reports ∷ mark_of Right reports ∷ []) (replicate cores []))

module _ {P : Type 0} where
  -- where the punctuation came to be past every number, that mark stands
  reaches_all : (lists : List (List (Report P))) (taken : List (TakenReport P)) → is_same (punctuation lists) (Some all) ≡ false → punctuation (fold with_taken lists taken) ≡ Some all
      → (front : List (Item P)) × (back : List (Item P)) × (items_behind lists taken ≡ front ++ marked all ∷ back)
  reaches_all lists [] not_yet is = absurd (true≢false (sym (ap (λ mark. is_same mark (Some all)) is) ∙ not_yet))
  reaches_all lists (first ∷ later) not_yet is = by (reaches_all (with_taken lists first) later) (is_same (punctuation (with_taken lists first)) (Some all)) refl
    where
      own : List (Item P)
      own = map joined (pairs_of first.report)

      rest : List (Item P)
      rest = items_behind (with_taken lists first) later

      past : (mark : Option Mark) → is_same mark (Some all) ≡ true → mark ≡ Some all
      past None e = absurd (true≢false (sym e))
      past (Some (up_to m)) e = absurd (true≢false (sym e))
      past (Some all) e = refl

      by : (is_same (punctuation (with_taken lists first)) (Some all) ≡ false → punctuation (fold with_taken (with_taken lists first) later) ≡ Some all → (front : List (Item P)) × (back : List (Item P)) × (rest ≡ front ++ marked all ∷ back))
          → (same : Bool) → is_same (punctuation (with_taken lists first)) (Some all) ≡ same → (front : List (Item P)) × (back : List (Item P)) × (items_behind lists (first ∷ later) ≡ front ++ marked all ∷ back)
      by deeper true e =
          let now : mark_behind (punctuation lists) (punctuation (with_taken lists first)) ≡ marked all ∷ [] =
          ap (mark_behind (punctuation lists)) (past (punctuation (with_taken lists first)) e) ∙ ap (λ (b : Bool). cond b [] (marked all ∷ [])) not_yet in
          (own, rest, ap (λ l. (own ++ l) ++ rest) now ∙ append_assoc own (marked all ∷ []) rest)
      by deeper false e =
          let found = deeper e is in
          (items_of_report lists first ++ found.0, found.1, ap (λ l. items_of_report lists first ++ l) found.2 ∙ sym (append_assoc (items_of_report lists first) found.0 (marked all ∷ found.1)))

  module _ (run : Run P) (is : IsRun run) (taken : List (TakenReport P)) (are : AreTakenOf run taken) where
    abbrev cores : ℕ
    cores = run.cores

    abbrev items : List (Item P)
    items = raw_items cores taken

    known-front : (early late : List (TakenReport P)) → taken ≡ early ++ late → (one : TakenReport P) → Contains early one
        → one.core < cores
    known-front early late parts one h = are.known one (subst (λ (l : List (TakenReport P)). Contains l one) (sym parts) (Contains-append_left early late one h))

    known-back : (early late : List (TakenReport P)) → taken ≡ early ++ late → (one : TakenReport P) → Contains late one → one.core < cores
    known-back early late parts one h = are.known one (subst (λ (l : List (TakenReport P)). Contains l one) (sym parts) (Contains-append_right early late one h))

    many : (early : List (TakenReport P)) → length (lists_of cores early) ≡ cores
    many early = length-all (replicate cores []) early ∙ length-replicate cores []

    -- the reports that were taken first are of the run too
    each-begins : (early late : List (TakenReport P)) → taken ≡ early ++ late → (k : ℕ) → IsPrefix (get_or (lists_of cores early) k []) (get_or (lists_of cores taken) k [])
    each-begins early late parts k =
        let all_lists : fold with_taken (lists_of cores early) late ≡ lists_of cores taken = sym (fold-append with_taken (replicate cores []) early late) ∙ ap (lists_of cores) (sym parts) in
        subst (λ (lists : List (List (Report P))). IsPrefix (get_or (lists_of cores early) k []) (get_or lists k [])) all_lists
        (begins-all (lists_of cores early) late (λ one h. omega (arith, known-back early late parts one h, many early)) k)

    front-of_run : (early late : List (TakenReport P)) → taken ≡ early ++ late → AreReportsOf run (lists_of cores early)
    front-of_run early late parts = record {
      one_each = many early;
      prefixes = λ k low. prefix-both (get_or (lists_of cores early) k []) (get_or (lists_of cores taken) k []) (puts (run.queue k).sender) (each-begins early late parts k) (are.of_run.prefixes k low);
    }

    later-of_run : (early mid late : List (TakenReport P)) → taken ≡ (early ++ mid) ++ late → AreLater run (lists_of cores early) (lists_of cores (early ++ mid))
    later-of_run early mid late parts =
        let early_parts : taken ≡ early ++ (mid ++ late) = parts ∙ append_assoc early mid late in
        record {
          of_run = front-of_run early (mid ++ late) early_parts;
          longer_of_run = front-of_run (early ++ mid) late parts;
          each = λ k low.
              subst (λ (lists : List (List (Report P))). IsPrefix (get_or (lists_of cores early) k []) (get_or lists k [])) (sym (fold-append with_taken (replicate cores []) early mid))
              (begins-all (lists_of cores early) mid (λ one h. omega (arith, known-front (early ++ mid) late parts one (Contains-append_right early mid one h), many early)) k);
        }

    -- the pairs among the items of the first ones are those that were met
    met-items : (early late : List (TakenReport P)) → taken ≡ early ++ late → IsPermutation (joined_in (raw_items cores early)) (met (lists_of cores early))
    met-items early late parts =
        subst (λ (l : List (Pair P)). IsPermutation (l ++ joined_in (raw_items cores early)) (met (lists_of cores early))) (none_met cores)
        (met-all (replicate cores []) early (λ one h. omega (arith, known-front early late parts one h, many [])))

    whole : taken ≡ taken ++ []
    whole = sym (append-nil taken)

    only : (pair : Pair P) → Contains items (joined pair) → IsMatch run.matches run.events pair
    only pair h = met_only_matches run is (lists_of cores taken) are.of_run pair (Contains-permutation (joined_in items) (met (lists_of cores taken)) pair (met-items taken [] whole) (has items pair h))

    once : (i j : ℕ) → count_by (is_pair_of i j) items ≤ 1
    once i j = omega (
      arith,
      counted i j items,
      sum_by-IsPermutation (λ (p : Pair P). cond {A = ℕ} (is_pair i j p) 1 0) (joined_in items) (met (lists_of cores taken)) (met-items taken [] whole),
      met_once run is i j (lists_of cores taken) are.of_run,
    )

    before : (front back : List (Item P)) (mark : Mark) → items ≡ front ++ marked mark ∷ back → (pair : Pair P) → IsMatch run.matches run.events pair → is_within (Some mark) (later pair) ≡ true → Contains front (joined pair)
    before front back mark e pair match within =
        let at = find_mark (replicate cores []) taken front back mark e in
        let early = at.early ++ at.one ∷ [] in
        let parts : taken ≡ early ++ at.late = at.parts ∙ sym (append_assoc at.early (at.one ∷ []) at.late) in
        let lists_are : lists_of cores early ≡ with_taken (lists_of cores at.early) at.one = fold-append with_taken (replicate cores []) at.early (at.one ∷ []) in
        let now : is_within (punctuation (lists_of cores early)) (later pair) ≡ true = ap (λ (lists : List (List (Report P))). is_within (punctuation lists) (later pair)) lists_are ∙ ap (λ m. is_within m (later pair)) at.now ∙ within in
        let was_met = met_within run is (lists_of cores early) (front-of_run early at.late parts) pair match now in
        let there = Contains-permutation (met (lists_of cores early)) (joined_in (raw_items cores early)) pair (IsPermutation-sym (joined_in (raw_items cores early)) (met (lists_of cores early)) (met-items early at.late parts)) was_met in
        let same : joined_in (raw_items cores early) ≡ joined_in front =
        ap joined_in (one_behind cores at.early at.one) ∙ joined_in-append (raw_items cores at.early) (items_of_report (lists_of cores at.early) at.one)
        ∙ ap (λ l. joined_in (raw_items cores at.early) ++ l) (joined_in-report (lists_of cores at.early) at.one ∙ sym (joined_in-pairs (pairs_of at.one.report)))
        ∙ sym (joined_in-append (raw_items cores at.early) (map joined (pairs_of at.one.report))) ∙ ap joined_in (sym at.before) in
        stands front pair (subst (λ (l : List (Pair P)). Contains l pair) same there)

    behind : (front back : List (Item P)) (mark : Mark) → items ≡ front ++ marked mark ∷ back → (pair : Pair P) → Contains back (joined pair) → is_within (Some mark) (later pair) ≡ false
    behind front back mark e pair there = by (is_within (Some mark) (later pair)) refl
      where
        by : (b : Bool) → is_within (Some mark) (later pair) ≡ b → is_within (Some mark) (later pair) ≡ false
        by false is = is
        by true is =
            let here : Contains items (joined pair) = subst (λ (l : List (Item P)). Contains l (joined pair)) (sym e) (Contains-append_right front (marked mark ∷ back) (joined pair) (Contains-cons (marked mark) (joined pair) back there)) in
            let test : Item P → Bool = is_pair_of pair.left_no.0 pair.right_no.0 in
            let own : test (joined pair) ≡ true = grind (arith, nat_tests) in
            let front_has = counts_member test front (joined pair) (before front back mark e pair (only pair here) is) own in
            let back_has = counts_member test back (joined pair) there own in
            absurd (omega (
              arith,
              front_has,
              back_has,
              once pair.left_no.0 pair.right_no.0,
              ap (λ (l : List (Item P)). count_by test l) e,
              sum_by-append (λ (x : Item P). cond {A = ℕ} (test x) 1 0) front (marked mark ∷ back),
              sum_by-cons (λ (x : Item P). cond {A = ℕ} (test x) 1 0) (marked mark) back,
            ))

    rising : (front between back : List (Item P)) (first second : Mark) → items ≡ front ++ marked first ∷ (between ++ marked second ∷ back) → IsBelow first second
    rising front between back first second e =
        let one = find_mark (replicate cores []) taken front (between ++ marked second ∷ back) first e in
        let two = find_mark (with_taken (lists_of cores one.early) one.one) one.late between back second (sym one.behind) in
        let to_one = one.early ++ one.one ∷ [] in
        let lists_one : lists_of cores to_one ≡ with_taken (lists_of cores one.early) one.one = fold-append with_taken (replicate cores []) one.early (one.one ∷ []) in
        let to_mid = to_one ++ two.early in
        let lists_mid : lists_of cores to_mid ≡ fold with_taken (with_taken (lists_of cores one.early) one.one) two.early =
        fold-append with_taken (replicate cores []) to_one two.early ∙ ap (λ (lists : List (List (Report P))). fold with_taken lists two.early) lists_one in
        let to_two = to_mid ++ two.one ∷ [] in
        let lists_two : lists_of cores to_two ≡ with_taken (fold with_taken (with_taken (lists_of cores one.early) one.one) two.early) two.one =
        fold-append with_taken (replicate cores []) to_mid (two.one ∷ []) ∙ ap (λ (lists : List (List (Report P))). with_taken lists two.one) lists_mid in
        let parts_two : taken ≡ to_two ++ two.late =
        one.parts ∙ sym (append_assoc one.early (one.one ∷ []) one.late) ∙ ap (λ (l : List (TakenReport P)). to_one ++ l) two.parts ∙ sym (append_assoc to_one two.early (two.one ∷ two.late))
        ∙ sym (append_assoc to_mid (two.one ∷ []) two.late) in
        let parts_mid : taken ≡ to_mid ++ (two.one ∷ two.late) = parts_two ∙ append_assoc to_mid (two.one ∷ []) two.late in
        let mid = punctuation (lists_of cores to_mid) in
        below_next first second mid
        (λ n h. punctuation_stays run is (lists_of cores to_one) (lists_of cores to_mid) (later-of_run to_one two.early (two.one ∷ two.late) parts_mid) n
        (ap (λ (lists : List (List (Report P))). is_within (punctuation lists) n) lists_one ∙ ap (λ m. is_within m n) one.now ∙ h))
        (λ n h. ap (λ m. is_within m n) (sym two.now) ∙ ap (λ (lists : List (List (Report P))). is_within (punctuation lists) n) (sym lists_two)
        ∙ punctuation_stays run is (lists_of cores to_mid) (lists_of cores to_two) (later-of_run to_mid (two.one ∷ []) two.late parts_two) n h)
        (ap (λ (lists : List (List (Report P))). is_same (punctuation lists) (Some second)) lists_mid ∙ two.rose)

    pub tells : TellsMatches run.matches run.events items
    tells = record { only = only; once = once; before = before; behind = behind; rising = rising }

    -- ---- at the end of a complete run

    module _ (complete : IsComplete is) (all_taken : AreAllReportsOf run (lists_of cores taken)) where
      each : (pair : Pair P) → IsMatch run.matches run.events pair → Contains items (joined pair)
      each pair match =
          let joins : IsJoined run.matches run.events = windows_and_join run.matches run.events is.well_formed in
          let was_met = Contains-permutation _ (met (lists_of cores taken)) pair (meets_the_join run is complete (lists_of cores taken) all_taken) ((joins.each pair).1 match) in
          stands items pair (Contains-permutation (met (lists_of cores taken)) (joined_in items) pair (IsPermutation-sym (joined_in items) (met (lists_of cores taken)) (met-items taken [] whole)) was_met)

      ended : (k : ℕ) → k < cores → list_any is_end (get_or (lists_of cores taken) k []) ≡ true
      ended k low = any-of_longer (all_taken.all_taken k low) (any_of is_end (takes (run.queue k).receiver) Ended (complete.ended k low) refl)
        where
          any-of_longer : {xs ys : List (Report P)} → IsPrefix xs ys → list_any is_end xs ≡ true → list_any is_end ys ≡ true
          any-of_longer {xs} {ys} prefix h =
              let found = find is_end xs h in
              subst (λ (l : List (Report P)). list_any is_end l ≡ true) (sym prefix.is) (any_of is_end (xs ++ prefix.rest) found.one (Contains-append_left xs prefix.rest found.one found.is) found.passes)

      over : punctuation (lists_of cores taken) ≡ Some all
      over = past_every (punctuation (lists_of cores taken)) (λ n. within_marks n (Some all) (lists_of cores taken) refl (λ k low. let e = ended k (omega (arith, low, many taken)) in (end_mark Left (get_or (lists_of cores taken) k []) n e, end_mark Right (get_or (lists_of cores taken) k []) n e)))

      nothing_behind : (front back : List (Item P)) → items ≡ front ++ marked all ∷ back → back ≡ []
      nothing_behind front [] e = refl
      nothing_behind front (joined pair ∷ back) e = absurd (true≢false (behind front (joined pair ∷ back) all e pair (Contains-head (joined pair) back)))
      nothing_behind front (marked mark ∷ back) e = absurd (rising front [] back all mark e)

      pub tells_all : TellsAll run.matches run.events items
      tells_all =
          let found = reaches_all (replicate cores []) taken (ap (λ m. is_same m (Some all)) (none-told P cores is.some_core)) over in record {
            each = each;
            front = found.0;
            last = found.2 ∙ ap (λ (l : List (Item P)). found.0 ++ marked all ∷ l) (nothing_behind found.0 found.1 found.2);
          }
