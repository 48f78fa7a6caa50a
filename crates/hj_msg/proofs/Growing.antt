-- As more is reported the punctuation doesn't fall, and what was emitted stays.
use Rattle.std.proofs.Common.{◌≡◌, ℕ, ◌+◌, ◌<◌, ◌≤◌, Bool, true, false, cond, ◌||◌, ◌==◌, ◌⊎◌, inl, inr, List, [], ◌∷◌, ◌++◌, map, filter, Contains, Some, None, Option, refl, ap, sym, ◌∙◌, subst, arith, append_assoc, true≢false}
use Rattle.std.specs.Prelude.{slice_index_or}
use Rattle.std.specs.Option.{IfSome, option_to_list}
use Rattle.std.specs.List.{list_any, flat_map, filter_map, last_or}
use Rattle.std.proofs.lemmas.Bool.Decides.{nat_tests}
use Rattle.std.proofs.lemmas.List.{map-append}
use Rattle.std.proofs.lemmas.List.Concat.{flat_map-append}
use native.Mathlib.Decide.{dec_lt}
use Rattle.hj_base.specs.declared.numbers.Side.{Side}
use Rattle.hj_base.specs.declared.numbers.Side.TheVariants.{Left, Right}
use Rattle.hj_base.specs.Journals.{IsPrefix, puts}
use Rattle.hj_msg.specs.declared.event.Event.{Event}
use Rattle.hj_msg.specs.declared.event.Pair.{Pair}
use Rattle.hj_msg.specs.declared.message.Report.{Report}
use Rattle.hj_msg.specs.declared.message.Report.TheVariants.{Handled, Quiet, Ended, NoMemory}
use Rattle.hj_msg.specs.Kang.{kang}
use Rattle.hj_msg.specs.Valid.{later}
use Rattle.hj_msg.specs.Punctuation.{up_to, all, told_up_to, tells, is_end, mark_of, punctuation}
use Rattle.hj_msg.specs.Emission.{is_within, emitted}
use Rattle.hj_msg.specs.Core.{State, empty_state, after, report, state_after}
use Rattle.hj_msg.specs.Turns.{Turn, IsCut, AreWhole, all_of, handled}
use Rattle.hj_msg.specs.Run.{Run, IsRun}
use Rattle.hj_msg.specs.Overtaking.{AreLater}
use Rattle.hj_msg.proofs.Counts.{count, count-append, count-list_any}
use Rattle.hj_msg.proofs.Members.{Ranked-filter, find}
use Rattle.hj_msg.proofs.MarksOnce.{mark_once}
use Rattle.hj_msg.proofs.Orders.{before, any-append, any-prefix, before-any, before-prefix}
use Rattle.hj_msg.proofs.Reports.{puts-reports}
use Rattle.hj_msg.proofs.Marks.{marks_from, last_told, reached, told_option, within_marks, end_mark}
use Rattle.hj_msg.proofs.Sides.{is_mark}
use Rattle.hj_msg.proofs.RankedLists.{filter_prefix, filter_twice}
use Rattle.hj_msg.proofs.WithinPunctuation.{told_before, or_left, has_here}
use Rattle.hj_msg.proofs.Ports.{event_puts}
use Rattle.hj_msg.proofs.ArrivalOrder.{mark_event}
use Rattle.hj_msg.proofs.Fronts.{first_of}
use Rattle.hj_msg.proofs.Emitting.{First, within_before, joined_ranked, emitted_is}

-- one report behind another
record Behind {P : Type 0} (side : Side) (m number : ℕ) (rs : List (Report P)) : Type 0 where
  front : List (Report P)
  back : List (Report P)
  parts : rs ≡ front ++ back
  first : list_any (tells side m) front ≡ true
  second : list_any (tells side number) back ≡ true

-- the last arrival that was told, against one that was told
record LastTold {P : Type 0} (side : Side) (m : ℕ) (rs : List (Report P)) (o : Option ℕ) : Type 0 where
  number : ℕ
  is : last_or o (filter_map (told_up_to side) rs) ≡ Some number
  order : (m ≡ number) ⊎ Behind side m number rs

last_some : (a : ℕ) (ns : List ℕ) → (number : ℕ) × (last_or (Some a) ns ≡ Some number)
last_some a [] = (a, refl)
last_some a (n ∷ ns) = last_some n ns

last_of : {P : Type 0} (side : Side) (m : ℕ) (rs : List (Report P)) (o : Option ℕ) → list_any (tells side m) rs ≡ true → LastTold side m rs o
last_of side m [] o h = absurd (true≢false (sym h))
last_of {P} side m (r ∷ rs) o h = go side r h (last_of side m rs)
  where
    behind : (side : Side) (r : Report P) (number : ℕ) → (m ≡ number) ⊎ Behind side m number rs → (m ≡ number) ⊎ Behind side m number (r ∷ rs)
    behind side r number (inl e) = inl e
    behind side r number (inr b) = inr (record { front = r ∷ b.front; back = b.back; parts = ap (λ rs. r ∷ rs) b.parts; first = any-append (tells side m) (r ∷ []) b.front ∙ grind (arith, b.first); second = b.second })

    skip : (side : Side) (r : Report P) → last_or o (filter_map (told_up_to side) (r ∷ rs)) ≡ last_or o (filter_map (told_up_to side) rs) → LastTold side m rs o → LastTold side m (r ∷ rs) o
    skip side r same found = record { number = found.number; is = same ∙ found.is; order = behind side r found.number found.order }

    own : (side : Side) (r : Report P) (a : ℕ) → last_or o (filter_map (told_up_to side) (r ∷ rs)) ≡ last_or (Some a) (filter_map (told_up_to side) rs) → tells side m r ≡ (a == m)
        → (b : Bool) → list_any (tells side m) rs ≡ b → (tells side m r || list_any (tells side m) rs) ≡ true → ((o : Option ℕ) → list_any (tells side m) rs ≡ true → LastTold side m rs o) → LastTold side m (r ∷ rs) o
    own side r a same told true e h deeper = let found = deeper (Some a) e in record { number = found.number; is = same ∙ found.is; order = behind side r found.number found.order }
    own side r a same told false e h deeper =
        let here : tells side m r ≡ true = grind (arith, h, e) in
        let a_is : a ≡ m = grind (arith, nat_tests, here, told) in
        let last = last_some a (filter_map (told_up_to side) rs) in
        record {
          number = last.0;
          is = same ∙ last.1;
          order = elim (last_told side rs (Some a) last.0 last.1) [
            | inl k ↦ inl (let b_is : a ≡ last.0 = cc in sym a_is ∙ b_is)
            | inr k ↦ inr (record { front = r ∷ []; back = rs; parts = refl; first = rw here refl; second = k })
          ];
        }

    go : (side : Side) (r : Report P) → (tells side m r || list_any (tells side m) rs) ≡ true → ((o : Option ℕ) → list_any (tells side m) rs ≡ true → LastTold side m rs o) → LastTold side m (r ∷ rs) o
    go Left (Handled at Left row partners) h deeper = own Left (Handled at Left row partners) at.0 refl refl (list_any (tells Left m) rs) refl h deeper
    go Right (Handled at Right row partners) h deeper = own Right (Handled at Right row partners) at.0 refl refl (list_any (tells Right m) rs) refl h deeper
    go Left (Handled at Right row partners) h deeper = skip Left (Handled at Right row partners) refl (deeper o h)
    go Right (Handled at Left row partners) h deeper = skip Right (Handled at Left row partners) refl (deeper o h)
    go Left (Quiet at Left) h deeper = own Left (Quiet at Left) at.0 refl refl (list_any (tells Left m) rs) refl h deeper
    go Right (Quiet at Right) h deeper = own Right (Quiet at Right) at.0 refl refl (list_any (tells Right m) rs) refl h deeper
    go Left (Quiet at Right) h deeper = skip Left (Quiet at Right) refl (deeper o h)
    go Right (Quiet at Left) h deeper = skip Right (Quiet at Left) refl (deeper o h)
    go Left Ended h deeper = skip Left Ended refl (deeper o h)
    go Right Ended h deeper = skip Right Ended refl (deeper o h)
    go Left NoMemory h deeper = skip Left NoMemory refl (deeper o h)
    go Right NoMemory h deeper = skip Right NoMemory refl (deeper o h)

one_at_most : {X : Type 0} (p : X → Bool) (o : Option X) → count p (option_to_list o) ≡ cond (list_any p (option_to_list o)) 1 0
one_at_most p None = refl
one_at_most p (Some x) = go (p x)
  where
    go : (b : Bool) → cond {A = ℕ} b 1 0 + 0 ≡ cond {A = ℕ} (b || false) 1 0
    go true = refl
    go false = refl

-- an arrival is told as often as it is handled
told_often : {P : Type 0} (matches : P → P → Bool) (place n : ℕ) (side : Side) (a : ℕ) (state : State P) (turns : List (Turn P)) → AreWhole matches place n state turns
    → count (tells side a) (flat_map (λ turn. turn.reports) turns) ≡ count (is_mark side a) (map (λ turn. turn.message) turns)
told_often matches place n side a state [] whole = refl
told_often {P} matches place n side a state (turn ∷ turns) whole =
    let here : count (tells side a) turn.reports ≡ cond (is_mark side a turn.message) 1 0
    = ap (count (tells side a)) whole.0.reports ∙ one_at_most (tells side a) (report matches state turn.message) ∙ ap (λ b. cond {A = ℕ} b 1 0) (told_option matches side a state turn.message) in
    omega (arith, here, count-append (tells side a) turn.reports (flat_map (λ (turn : Turn P). turn.reports) turns), told_often matches place n side a (after place n state turn.message) turns whole.1)

module _ {P : Type 0} (run : Run P) (is : IsRun run) where
  told_once : (k : ℕ) → k < run.cores → (side : Side) (a : ℕ) → count (tells side a) (puts (run.queue k).sender) ≤ 1
  told_once k low side a =
      let turns = is.turns k in
      let core = is.steps k low in
      let whole : List (Report P) = flat_map (λ turn. turn.reports) turns.whole in
      let cut : List (Report P) = flat_map (λ turn. turn.reports) (option_to_list turns.cut) in
      let parts : puts (run.queue k).sender ≡ whole ++ cut = ap puts core.reports ∙ puts-reports (all_of turns) ∙ flat_map-append (λ turn. turn.reports) turns.whole (option_to_list turns.cut) in
      let messages : handled turns ≡ map (λ turn. turn.message) turns.whole ++ map (λ turn. turn.message) (option_to_list turns.cut) = map-append (λ turn. turn.message) turns.whole (option_to_list turns.cut) in
      omega (
        arith,
        ap (count (tells side a)) parts,
        count-append (tells side a) whole cut,
        no_cut (is.turns k).cut core.cut,
        told_often run.matches k run.cores side a empty_state turns.whole core.whole,
        ap (count (is_mark side a)) messages,
        count-append (is_mark side a) (map (λ turn. turn.message) turns.whole) (map (λ turn. turn.message) (option_to_list turns.cut)),
        mark_once run is side a k low,
      )
    where
      no_memory : (side : Side) → count (tells {P = P} side a) (NoMemory ∷ []) ≡ 0
      no_memory Left = refl
      no_memory Right = refl

      no_cut : (cut : Option (Turn P)) → IfSome cut (IsCut k run.cores) → count (tells side a) (flat_map (λ turn. turn.reports) (option_to_list cut)) ≡ 0
      no_cut None is = refl
      no_cut (Some turn) is = elim is.reports [
        | inl e ↦ omega (arith, count-append (tells side a) turn.reports [], ap (count (tells side a)) e)
        | inr e ↦ omega (arith, count-append (tells side a) turn.reports [], ap (count (tells side a)) e, no_memory side)
      ]

  -- what was told is an event
  record Marked (side : Side) (a : ℕ) : Type 0 where
    event : Event P
    there : Contains run.events event
    passes : event_puts side (is_mark side a) event ≡ true

  arrived : (k : ℕ) → k < run.cores → (side : Side) (a : ℕ) → list_any (tells side a) (puts (run.queue k).sender) ≡ true → Marked side a
  arrived k low side a h =
      let first = first_of (is.steps k low) (tells side a) (tells side a) (is_mark side a) (told_option run.matches side a) (no_memory side) h in
      let passes : is_mark side a first.message ≡ true = sym (told_option run.matches side a (state_after k run.cores first.front) first.message) ∙ first.passes in
      let here = or_left (is_mark side a first.message) (list_any (is_mark side a) first.front) passes in
      let has : list_any (is_mark side a) (handled (is.turns k)) ≡ true = ap (list_any (is_mark side a)) first.is ∙ has_here (is_mark side a) first.front first.back first.message here in
      let found = find (event_puts side (is_mark side a)) run.events (mark_event run is side k a low has) in
      record { event = found.one; there = found.is; passes = found.passes }
    where
      no_memory : (side : Side) → tells {P = P} side a NoMemory ≡ false
      no_memory Left = refl
      no_memory Right = refl

  -- where a core told of a number, its mark is no less
  pub within_told : (k : ℕ) → k < run.cores → (side : Side) (n m : ℕ) (more : List (Report P)) → IsPrefix more (puts (run.queue k).sender) → list_any (tells side m) more ≡ true → n ≤ m → is_within (mark_of side more) n ≡ true
  within_told k low side n m more prefix told at_least = go (list_any is_end more) refl m at_least told (last_of side m more None told)
    where
      above : (m : ℕ) → list_any (tells side m) more ≡ true → (number : ℕ) → (m ≡ number) ⊎ Behind side m number more → m ≤ number
      above m told number (inl e) = omega (arith, e)
      above m told number (inr b) = decide (dec_lt number m)
        where
          decide : Dec (number < m) → m ≤ number
          decide (no high) = omega (arith, high)
          decide (yes below) =
              let all_parts : puts (run.queue k).sender ≡ b.front ++ (b.back ++ prefix.rest) = prefix.is ∙ ap (λ rs. rs ++ prefix.rest) b.parts ∙ append_assoc b.front b.back prefix.rest in
              let front : IsPrefix b.front (puts (run.queue k).sender) = record { rest = b.back ++ prefix.rest; is = all_parts } in
              let number_told : list_any (tells side number) more ≡ true = ap (list_any (tells side number)) b.parts ∙ any-append (tells side number) b.front b.back ∙ grind (arith, b.second) in
              let arrival = arrived k low side number (any-prefix (tells side number) prefix number_told) in
              let order : before (tells side number) (tells side m) (puts (run.queue k).sender) ≡ true = told_before run is k low side number m arrival.event arrival.there arrival.passes below (any-prefix (tells side m) prefix told) in
              let again : list_any (tells side number) b.front ≡ true = before-any (tells side number) (tells side m) b.front (sym (before-prefix (tells side number) (tells side m) front b.first) ∙ order) in
              absurd (omega (
                arith,
                told_once k low side number,
                ap (count (tells side number)) all_parts,
                count-append (tells side number) b.front (b.back ++ prefix.rest),
                count-append (tells side number) b.back prefix.rest,
                count-list_any (tells side number) b.front again,
                count-list_any (tells side number) b.back b.second,
              ))

      go : (b : Bool) → list_any is_end more ≡ b → (m : ℕ) → n ≤ m → list_any (tells side m) more ≡ true → LastTold side m more None → is_within (mark_of side more) n ≡ true
      go true e m at_least told last = end_mark side more n e
      go false e m at_least told last =
          let marked : mark_of side more ≡ Some (up_to last.number) = rw (e, last.is) refl in
          let high : n ≤ last.number = omega (arith, at_least, above m told last.number last.order) in
          ap (λ mark. is_within mark n) marked ∙ grind (arith, nat_tests, high)

  -- the mark of a core doesn't fall
  mark_stays : (k : ℕ) → k < run.cores → (side : Side) (n : ℕ) (rs more : List (Report P)) → IsPrefix rs more → IsPrefix more (puts (run.queue k).sender) → is_within (mark_of side rs) n ≡ true → is_within (mark_of side more) n ≡ true
  mark_stays k low side n rs more longer prefix h = elim (reached side n rs h) [
    | inl end ↦ end_mark side more n (any-prefix is_end longer end)
    | inr at ↦ within_told k low side n at.number more prefix (any-prefix (tells side at.number) longer at.told) at.above
  ]

  pub punctuation_stays : (lists longer : List (List (Report P))) → AreLater run lists longer → (n : ℕ) → is_within (punctuation lists) n ≡ true → is_within (punctuation longer) n ≡ true
  punctuation_stays lists longer are n h =
      let marks = (marks_from n (Some all) lists h).1 in
      within_marks n (Some all) longer refl (λ k low.
      let within : k < run.cores = omega (arith, low, are.longer_of_run.one_each) in
      let old = marks k (omega (arith, within, are.of_run.one_each)) in (
        mark_stays k within Left n (slice_index_or lists k []) (slice_index_or longer k []) (are.each k within) (are.longer_of_run.prefixes k within) old.0,
        mark_stays k within Right n (slice_index_or lists k []) (slice_index_or longer k []) (are.each k within) (are.longer_of_run.prefixes k within) old.1,
      ))

  pub emission_grows : (lists longer : List (List (Report P))) → AreLater run lists longer → IsPrefix (emitted lists) (emitted longer)
  emission_grows lists longer are =
      let old : Pair P → Bool = λ pair. is_within (punctuation lists) (later pair) in
      let new : Pair P → Bool = λ pair. is_within (punctuation longer) (later pair) in
      let joined : List (Pair P) = kang run.matches run.events in
      let twice : filter old (filter new joined) ≡ emitted lists = filter_twice old new (λ pair h. punctuation_stays lists longer are (later pair) h) joined ∙ sym (emitted_is run is lists are.of_run) in
      let prefix : IsPrefix (filter old (filter new joined)) (filter new joined) = filter_prefix First old (within_before (punctuation lists)) (filter new joined) (Ranked-filter First new joined (joined_ranked run is)) in
      subst (λ pairs. IsPrefix (emitted lists) pairs) (sym (emitted_is run is longer are.longer_of_run)) (subst (λ pairs. IsPrefix pairs (filter new joined)) twice prefix)
