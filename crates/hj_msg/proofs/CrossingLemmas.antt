-- Each row goes along the chain once, and rows that cross do so in one order.
use Rattle.std.proofs.Common.{ap₂, length-append, true≢false, ◌≡◌, ℕ, ◌+◌, ◌<◌, ◌≤◌, Bool, true, false, ◌||◌, List, [], ◌∷◌, ◌++◌, length, map, refl, ap, sym, ◌∙◌, subst, arith, append_assoc, ◌⊎◌, inl, inr}
use Rattle.std.specs.List.{flat_map, AllByRecursion, list_any}
use Rattle.std.proofs.lemmas.List.Concat.{flat_map-append}
use Rattle.hj_base.specs.declared.numbers.Side.{Side}
use Rattle.hj_base.specs.declared.numbers.Side.TheVariants.{Left, Right}
use Rattle.hj_base.specs.Journals.{Entry, puts, takes}
use Rattle.hj_base.specs.Link.{Link, Agrees}
use Rattle.hj_msg.specs.declared.message.Msg.{Msg}
use Rattle.hj_msg.specs.declared.message.Msg.TheVariants.{R}
use Rattle.hj_msg.specs.Event.{number}
use Rattle.hj_msg.specs.Messages.{is_R, is_S}
use Rattle.hj_msg.specs.Turns.{Turn, all_of, handled, at_left, at_right}
use Rattle.hj_msg.specs.Run.{Run, IsRun}
use Rattle.hj_msg.specs.Crossing.{HasBefore, HandlesOnce, KeepsOrder}
use Rattle.hj_msg.proofs.Counts.{count, count_is, count-append, longer_by_one}
use Rattle.hj_msg.proofs.Ends.{puts-append, takes-append}
use Rattle.hj_msg.proofs.TurnPuts.{PutsOnly, all_put, count-goes, end_on, put_once, row_sent}
use Rattle.hj_msg.proofs.Sides.{is_row, opposite, goes_with}
use Rattle.hj_msg.proofs.Directions.{none_taken}
use Rattle.hj_msg.proofs.MarksOnce.{row_goes, row_once, takes_both}

-- A link has no moments of its two ends such that each had taken a message that the other was yet to put.
beginning : {X : Type 0} (xs ys zs all : List X) → all ≡ (xs ++ ys) ++ zs → all ≡ xs ++ (ys ++ zs)
beginning xs ys zs all e = e ∙ append_assoc xs ys zs

pub never_both : {M : Type 0} {capacity : ℕ} (link : Link M) → Agrees capacity link → (p q : M → Bool) (left_before left_after right_before right_after : List (Entry M))
    → link.left ≡ left_before ++ left_after → link.right ≡ right_before ++ right_after
    → 1 ≤ count p (takes left_before) → count q (puts left_before) ≡ 0
    → 1 ≤ count q (takes right_before) → count p (puts right_before) ≡ 0 → ⊥
never_both link agrees p q left_before left_after right_before right_after left right took_p no_q took_q no_p =
    let from_right = agrees.leftwards.taken in
    let from_left = agrees.rightwards.taken in
    let right_puts : puts link.right ≡ puts right_before ++ puts right_after = ap puts right ∙ puts-append right_before right_after in
    let left_puts : puts link.left ≡ puts left_before ++ puts left_after = ap puts left ∙ puts-append left_before left_after in
    let left_takes : takes link.left ≡ takes left_before ++ takes left_after = ap takes left ∙ takes-append left_before left_after in
    let right_takes : takes link.right ≡ takes right_before ++ takes right_after = ap takes right ∙ takes-append right_before right_after in
    let puts_left : puts link.left ≡ takes right_before ++ (takes right_after ++ from_left.rest)
    = beginning (takes right_before) (takes right_after) from_left.rest (puts link.left) (from_left.is ∙ ap (λ ms. ms ++ from_left.rest) right_takes) in
    let puts_right : puts link.right ≡ takes left_before ++ (takes left_after ++ from_right.rest)
    = beginning (takes left_before) (takes left_after) from_right.rest (puts link.right) (from_right.is ∙ ap (λ ms. ms ++ from_right.rest) left_takes) in
    let more_p : length (puts right_before) < length (takes left_before)
    = longer_by_one p (takes left_before) (puts right_before) (takes left_after ++ from_right.rest) (puts right_after) (sym puts_right ∙ right_puts) no_p took_p in
    let more_q : length (puts left_before) < length (takes right_before)
    = longer_by_one q (takes right_before) (puts left_before) (takes right_after ++ from_left.rest) (puts left_after) (sym puts_left ∙ left_puts) no_q took_q in
    let within_left : length (takes right_before) ≤ length (puts link.left) = omega (arith, ap length puts_left, length-append (takes right_before) (takes right_after ++ from_left.rest)) in
    let within_right : length (takes left_before) ≤ length (puts link.right) = omega (arith, ap length puts_right, length-append (takes left_before) (takes left_after ++ from_right.rest)) in
    agrees.in_time (length (puts left_before)) (length (puts right_before))
    (record { before = left_before; after = left_after; moment = left; took = more_p; yet_to_put = omega arith; put = omega arith })
    (record { before = right_before; after = right_after; moment = right; took = more_q; yet_to_put = omega arith; put = omega arith })

-- A moment between two turns: a message that passes `first` was handled, and none that passes `second`.
record Moment {P : Type 0} (first second : Msg P → Bool) (turns : List (Turn P)) : Type 0 where
  front : List (Turn P)
  back : List (Turn P)
  is : turns ≡ front ++ back
  some : 1 ≤ count first (map (λ turn. turn.message) front)
  none : count second (map (λ turn. turn.message) front) ≡ 0

-- a list whose image is cut in two
record Cut {X Y : Type 0} (f : X → Y) (xs : List X) (ys zs : List Y) : Type 0 where
  front : List X
  back : List X
  is : xs ≡ front ++ back
  first : map f front ≡ ys
  second : map f back ≡ zs

cut_map : {X Y : Type 0} (f : X → Y) (xs : List X) (ys zs : List Y) → map f xs ≡ ys ++ zs → Cut f xs ys zs
cut_map f xs [] zs e = record { front = []; back = xs; is = refl; first = refl; second = e }
cut_map f [] (y ∷ ys) zs e = absurd (cc)
cut_map f (x ∷ xs) (y ∷ ys) zs e =
    let tail : map f xs ≡ ys ++ zs = cc in
    let deeper = cut_map f xs ys zs tail in
    let head : f x ≡ y = cc in
    record { front = x ∷ deeper.front; back = deeper.back; is = ap (λ ws. x ∷ ws) deeper.is; first = ap₂ (λ w ws. w ∷ ws) head deeper.first; second = deeper.second }

count-one : {X : Type 0} (p : X → Bool) (before : List X) (x : X) (behind : List X) → p x ≡ true → count p (before ++ x ∷ behind) ≡ count p before + (1 + count p behind)
count-one p before x behind e = rw (count-append p before (x ∷ behind), e) refl

moment_of : {P : Type 0} (first second : Msg P → Bool) (turns : List (Turn P)) → HasBefore first second (map (λ turn. turn.message) turns)
    → count second (map (λ turn. turn.message) turns) ≤ 1 → Moment first second turns
moment_of first second turns has once =
    let parts : map (λ turn. turn.message) turns ≡ (has.before ++ has.one ∷ has.between) ++ (has.other ∷ has.behind)
    = has.is ∙ sym (append_assoc has.before (has.one ∷ has.between) (has.other ∷ has.behind)) in
    let cut = cut_map (λ turn. turn.message) turns (has.before ++ has.one ∷ has.between) (has.other ∷ has.behind) parts in
    let counted : count second (map (λ turn. turn.message) turns) ≡ count second (has.before ++ has.one ∷ has.between) + (1 + count second has.behind)
    = ap (count second) parts ∙ count-one second (has.before ++ has.one ∷ has.between) has.other has.behind has.is_second in
    record {
      front = cut.front;
      back = cut.back;
      is = cut.is;
      some = rw cut.first (omega (arith, count-one first has.before has.one has.between has.is_first));
      none = rw cut.first (omega arith);
    }

front_of : {X : Type 0} (Q : X → Type 0) (xs ys : List X) → AllByRecursion Q (xs ++ ys) → AllByRecursion Q xs
front_of Q [] ys all = tt
front_of Q (x ∷ xs) ys all = (all.0, front_of Q xs ys all.1)

-- of two messages of a list that don't pass the same test, one comes before the other
record Found {P : Type 0} (q : Msg P → Bool) (ms : List (Msg P)) : Type 0 where
  between : List (Msg P)
  behind : List (Msg P)
  other : Msg P
  is : ms ≡ between ++ other ∷ behind
  is_second : q other ≡ true

found_behind : {P : Type 0} (q : Msg P → Bool) (m : Msg P) (ms : List (Msg P)) → Found q ms → Found q (m ∷ ms)
found_behind q m ms f = record { between = m ∷ f.between; behind = f.behind; other = f.other; is = ap (λ ws. m ∷ ws) f.is; is_second = f.is_second }

found : {P : Type 0} (q : Msg P → Bool) (ms : List (Msg P)) → list_any q ms ≡ true → Found q ms
found q [] h = absurd (cc)
found q (m ∷ ms) h = go (q m) refl h (found q ms)
  where
    go : (b : Bool) → q m ≡ b → (b || list_any q ms) ≡ true → (list_any q ms ≡ true → Found q ms) → Found q (m ∷ ms)
    go true e h behind = record { between = []; behind = ms; other = m; is = refl; is_second = e }
    go false e h behind = found_behind q m ms (behind h)

before_found : {P : Type 0} (p q : Msg P → Bool) (m : Msg P) (ms : List (Msg P)) → p m ≡ true → Found q ms → HasBefore p q (m ∷ ms)
before_found p q m ms e f = record { before = []; between = f.between; behind = f.behind; one = m; other = f.other; is = ap (λ ws. m ∷ ws) f.is; is_first = e; is_second = f.is_second }

has_behind : {P : Type 0} (p q : Msg P → Bool) (m : Msg P) (ms : List (Msg P)) → HasBefore p q ms → HasBefore p q (m ∷ ms)
has_behind p q m ms h = record { before = m ∷ h.before; between = h.between; behind = h.behind; one = h.one; other = h.other; is = ap (λ ws. m ∷ ws) h.is; is_first = h.is_first; is_second = h.is_second }

one_order : {P : Type 0} (p q : Msg P → Bool) (ms : List (Msg P)) → ((m : Msg P) → p m ≡ true → q m ≡ false) → list_any p ms ≡ true → list_any q ms ≡ true → HasBefore p q ms ⊎ HasBefore q p ms
one_order p q [] apart has_p has_q = absurd (cc)
one_order p q (m ∷ ms) apart has_p has_q = go (p m) (q m) refl refl has_p has_q (one_order p q ms apart)
  where
    go : (b c : Bool) → p m ≡ b → q m ≡ c → (b || list_any p ms) ≡ true → (c || list_any q ms) ≡ true
        → (list_any p ms ≡ true → list_any q ms ≡ true → HasBefore p q ms ⊎ HasBefore q p ms) → HasBefore p q (m ∷ ms) ⊎ HasBefore q p (m ∷ ms)
    go true true is_p is_q has_p has_q behind = absurd (true≢false (sym is_q ∙ apart m is_p))
    go true false is_p is_q has_p has_q behind = inl (before_found p q m ms is_p (found q ms has_q))
    go false true is_p is_q has_p has_q behind = inr (before_found q p m ms is_q (found p ms has_p))
    go false false is_p is_q has_p has_q behind = elim (behind has_p has_q) [ inl h ↦ inl (has_behind p q m ms h) | inr h ↦ inr (has_behind q p m ms h) ]

apart_S_R : {P : Type 0} (i j : ℕ) (m : Msg P) → is_S j m ≡ true → is_R i m ≡ false
apart_S_R i j (R at row) e = absurd (cc)
apart_S_R i j other e = refl

module _ {P : Type 0} (run : Run P) (is : IsRun run) where
  -- At a moment of a core, its end has taken a row of a side where the front has it, and puts no row of the other side that the front hasn't.
  took : (side : Side) (number k : ℕ) → k < run.cores → (front back : List (Turn P)) → all_of (is.turns k) ≡ front ++ back
      → 1 ≤ count (is_row side number) (map (λ turn. turn.message) front)
      → 1 ≤ count (is_row side number) (takes (flat_map (end_on (opposite side)) front))
  took side number k low front back e some =
      let all_takes : takes (flat_map (end_on side) (all_of (is.turns k))) ≡ takes (flat_map (end_on side) front) ++ takes (flat_map (end_on side) back)
      = ap (λ turns. takes (flat_map (end_on side) turns)) e ∙ ap takes (flat_map-append (end_on side) front back) ∙ takes-append (flat_map (end_on side) front) (flat_map (end_on side) back) in
      omega (
        arith,
        takes_both side (is_row side number) front,
        count-goes (is_row side number) (goes_with side) (row_goes side number) (takes (flat_map (end_on side) front)),
        ap (count (goes_with side)) all_takes,
        count-append (goes_with side) (takes (flat_map (end_on side) front)) (takes (flat_map (end_on side) back)),
        none_taken run is side k low,
      )

  front_puts : (k : ℕ) (low : k < run.cores) (front back : List (Turn P)) → all_of (is.turns k) ≡ front ++ back → AllByRecursion (PutsOnly k run.cores) front
  front_puts k low front back e = front_of (PutsOnly k run.cores) front back (subst (AllByRecursion (PutsOnly k run.cores)) e (all_put (is.steps k low)))

  -- Two neighbours never handle two crossing rows in opposite orders, each having seen the other's row first.
  not_opposed : (k i j : ℕ) → k + 1 < run.cores → Moment (is_S j) (is_R i) (all_of (is.turns k)) → Moment (is_R i) (is_S j) (all_of (is.turns (k + 1))) → ⊥
  not_opposed k i j low here there =
      let low_k : k < run.cores = omega arith in
      never_both (run.link (k + 1)) (is.links (k + 1) (omega arith)) (is_S j) (is_R i)
      (flat_map at_right here.front) (flat_map at_right here.back) (flat_map at_left there.front) (flat_map at_left there.back)
      ((is.steps k low_k).right ∙ ap (flat_map at_right) here.is ∙ flat_map-append at_right here.front here.back)
      ((is.steps (k + 1) low).left ∙ ap (flat_map at_left) there.is ∙ flat_map-append at_left there.front there.back)
      (took Right j k low_k here.front here.back here.is here.some)
      (let puts_none : count (is_R i) (puts (flat_map at_right here.front)) ≤ count (is_R i) (map (λ turn. turn.message) here.front)
      = put_once Left (is_R i) k run.cores (row_sent Left i k run.cores) here.front (front_puts k low_k here.front here.back here.is) in
      let none = here.none in omega arith)
      (took Left i (k + 1) low there.front there.back there.is there.some)
      (let puts_none : count (is_S j) (puts (flat_map at_left there.front)) ≤ count (is_S j) (map (λ turn. turn.message) there.front)
      = put_once Right (is_S j) (k + 1) run.cores (row_sent Right j (k + 1) run.cores) there.front (front_puts (k + 1) low there.front there.back there.is) in
      let none = there.none in omega arith)

  pub keeps_order : KeepsOrder is
  keeps_order k i j low before has_R has_S =
      let low_k : k < run.cores = omega arith in
      let here = moment_of (is_S j) (is_R i) (all_of (is.turns k)) before (row_once run is Left i k low_k) in
      elim (one_order (is_S j) (is_R i) (handled (is.turns (k + 1))) (apart_S_R i j) has_S has_R) [
        | inl order ↦ order
        | inr other ↦ absurd (not_opposed k i j low here (moment_of (is_R i) (is_S j) (all_of (is.turns (k + 1))) other (row_once run is Right j (k + 1) low)))
      ]

  pub handles_once : HandlesOnce is
  handles_once k at low =
      (rw (← count_is (is_R at) (handled (is.turns k))) (row_once run is Left at k low), rw (← count_is (is_S at) (handled (is.turns k))) (row_once run is Right at k low))
