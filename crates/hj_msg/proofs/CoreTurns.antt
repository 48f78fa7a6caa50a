-- The whole turns of a core that takes given messages, and that the journals of a core tell which messages it took.
use Rattle.std.proofs.Common.{◌≡◌, ℕ, ◌+◌, ◌<◌, Bool, true, false, cond, not, nat_lt, List, [], ◌∷◌, ◌++◌, map, get_or, add-one, refl, ap, ap₂, sym, ◌∙◌, subst, arith, append-nil, Option, Some, None}
use Rattle.std.specs.List.{flat_map, AllByRecursion, filter}
use Rattle.std.specs.Option.{option_to_list}
use Rattle.std.specs.List.Sorted.{IsStrictlyIncreasing}
use Rattle.std.proofs.lemmas.Bool.Decides.{nat_tests}
use Rattle.std.proofs.lemmas.List.{map-append}
use Rattle.std.proofs.lemmas.List.Elements.{filter-append}
use Rattle.std.proofs.lemmas.List.Concat.{flat_map-append}
use Rattle.hj_base.specs.declared.numbers.Side.{Side}
use Rattle.hj_base.specs.declared.numbers.Side.TheVariants.{Left, Right}
use Rattle.hj_base.specs.Journals.{Entry, IsPrefix, put, taken}
use Rattle.hj_msg.specs.declared.message.Msg.{Msg}
use Rattle.hj_msg.specs.declared.message.Report.{Report}
use Rattle.hj_msg.specs.Order.{insert_by, sort_by}
use Rattle.hj_msg.specs.Core.{State, empty_state, after, sends, report}
use Rattle.hj_msg.specs.Run.{Run, IsRun}
use Rattle.hj_msg.specs.Crossing.{HandleTheSame}
use Rattle.hj_msg.specs.Turns.{Turn, Turns, IsWhole, AreWhole, TakesTurns, all_of, handled, at_left, at_right, at_reports, only_at}

-- a message that a core took, under which number and at which end
pub record Received (P : Type 0) : Type 0 where
  pub number : ℕ
  pub end : Side
  pub message : Msg P

abbrev pub received : {P : Type 0} → Turn P → Received P
received turn = record { number = turn.number; end = turn.end; message = turn.message }

-- the whole turn that takes a message in this state
abbrev pub whole_turn : {P : Type 0} → (P → P → Bool) → ℕ → ℕ → State P → Received P → Turn P
whole_turn matches place n state r = record {
  number = r.number;
  end = r.end;
  message = r.message;
  to_left = (sends place n r.message).left;
  to_right = (sends place n r.message).right;
  reports = option_to_list (report matches state r.message);
}

abbrev pub whole_turns : {P : Type 0} → (P → P → Bool) → ℕ → ℕ → State P → List (Received P) → List (Turn P)
whole_turns matches place n state [] = []
whole_turns matches place n state (r ∷ rs) = whole_turn matches place n state r ∷ whole_turns matches place n (after place n state r.message) rs

pub are_whole : {P : Type 0} (matches : P → P → Bool) (place n : ℕ) (state : State P) (rs : List (Received P)) → AreWhole matches place n state (whole_turns matches place n state rs)
are_whole matches place n state [] = tt
are_whole matches place n state (r ∷ rs) = (record { left = refl; right = refl; reports = refl }, are_whole matches place n (after place n state r.message) rs)

-- Whole turns are told by the messages that they take.
whole_is : {P : Type 0} (matches : P → P → Bool) (place n : ℕ) (state : State P) (turn : Turn P) → IsWhole matches place n state turn → turn ≡ whole_turn matches place n state (received turn)
whole_is matches place n state turn whole = λ i. record {
  number = turn.number;
  end = turn.end;
  message = turn.message;
  to_left = whole.left i;
  to_right = whole.right i;
  reports = whole.reports i;
}

pub whole_are : {P : Type 0} (matches : P → P → Bool) (place n : ℕ) (state : State P) (turns : List (Turn P)) → AreWhole matches place n state turns
    → turns ≡ whole_turns matches place n state (map received turns)
whole_are matches place n state [] whole = refl
whole_are matches place n state (turn ∷ turns) whole =
    ap₂ (λ t ts. t ∷ ts) (whole_is matches place n state turn whole.0) (whole_are matches place n (after place n state turn.message) turns whole.1)

-- The messages that were taken at an end, as its journal has them.
abbrev pub received_at : {P : Type 0} → Side → List (Entry (Msg P)) → List (Received P)
received_at end journal = map (λ entry. record { number = entry.turn; end = end; message = entry.message }) (filter (λ entry. not entry.is_put) journal)

abbrev is_left : Side → Bool
is_left Left = true
is_left Right = false

abbrev at_left_end : {P : Type 0} → List (Received P) → List (Received P)
at_left_end rs = filter (λ r. is_left r.end) rs

abbrev at_right_end : {P : Type 0} → List (Received P) → List (Received P)
at_right_end rs = filter (λ r. not (is_left r.end)) rs

received_at-append : {P : Type 0} (end : Side) (xs ys : List (Entry (Msg P))) → received_at end (xs ++ ys) ≡ received_at end xs ++ received_at end ys
received_at-append {P} end xs ys = rw (filter-append (λ entry. not entry.is_put) xs ys)
    (map-append (λ (entry : Entry (Msg P)). record { number = entry.turn; end = end; message = entry.message }) (filter (λ entry. not entry.is_put) xs) (filter (λ entry. not entry.is_put) ys))

received_at-puts : {P : Type 0} (end : Side) (number : ℕ) (messages : List (Msg P)) → received_at end (map (put number) messages) ≡ []
received_at-puts end number [] = refl
received_at-puts end number (m ∷ messages) = received_at-puts end number messages

-- what a turn took at its left end, and what it took at its right end
received-at_left : {P : Type 0} (turn : Turn P) → received_at Left (at_left turn) ≡ at_left_end (received turn ∷ [])
received-at_left {P} turn = go turn.end
  where
    go : (end : Side) → received_at Left (only_at end Left (taken turn.number turn.message) ++ map (put turn.number) turn.to_left) ≡ at_left_end (record { number = turn.number; end = end; message = turn.message } ∷ [])
    go Left = ap (λ rs. record { number = turn.number; end = Left; message = turn.message } ∷ rs) (received_at-puts Left turn.number turn.to_left)
    go Right = received_at-puts Left turn.number turn.to_left

received-at_right : {P : Type 0} (turn : Turn P) → received_at Right (at_right turn) ≡ at_right_end (received turn ∷ [])
received-at_right {P} turn = go turn.end
  where
    go : (end : Side) → received_at Right (only_at end Right (taken turn.number turn.message) ++ map (put turn.number) turn.to_right) ≡ at_right_end (record { number = turn.number; end = end; message = turn.message } ∷ [])
    go Left = received_at-puts Right turn.number turn.to_right
    go Right = ap (λ rs. record { number = turn.number; end = Right; message = turn.message } ∷ rs) (received_at-puts Right turn.number turn.to_right)

left_received : {P : Type 0} (turns : List (Turn P)) → received_at Left (flat_map at_left turns) ≡ at_left_end (map received turns)
left_received [] = refl
left_received (turn ∷ turns) =
    received_at-append Left (at_left turn) (flat_map at_left turns) ∙ ap₂ (λ xs ys. xs ++ ys) (received-at_left turn) (left_received turns)
    ∙ sym (filter-append (λ r. is_left r.end) (received turn ∷ []) (map received turns))

right_received : {P : Type 0} (turns : List (Turn P)) → received_at Right (flat_map at_right turns) ≡ at_right_end (map received turns)
right_received [] = refl
right_received (turn ∷ turns) =
    received_at-append Right (at_right turn) (flat_map at_right turns) ∙ ap₂ (λ xs ys. xs ++ ys) (received-at_right turn) (right_received turns)
    ∙ sym (filter-append (λ r. not (is_left r.end)) (received turn ∷ []) (map received turns))

-- Two lists of rising numbers are merged by sorting them.
abbrev earlier : {P : Type 0} → Received P → Received P → Bool
earlier r other = nat_lt r.number other.number

abbrev Above : {P : Type 0} → ℕ → List (Received P) → Type 0
Above low rs = AllByRecursion (λ r. low < r.number) rs

-- each number is below all that follow
abbrev RiseAll : {P : Type 0} → List (Received P) → Type 0
RiseAll [] = Unit {0}
RiseAll (r ∷ rs) = Above r.number rs × RiseAll rs

above-insert : {P : Type 0} (low : ℕ) (r : Received P) (rs : List (Received P)) → low < r.number → Above low rs → Above low (insert_by earlier r rs)
above-insert low r [] here all = (here, tt)
above-insert {P} low r (s ∷ rs) here all = go (earlier s r) (above-insert low r rs here all.1)
  where
    go : (b : Bool) → Above low (insert_by earlier r rs) → Above low (cond b (s ∷ insert_by earlier r rs) (r ∷ s ∷ rs))
    go true later = (all.0, later)
    go false later = (here, all)

above-sort : {P : Type 0} (low : ℕ) (rs : List (Received P)) → Above low rs → Above low (sort_by earlier rs)
above-sort low [] all = tt
above-sort low (r ∷ rs) all = above-insert low r (sort_by earlier rs) all.0 (above-sort low rs all.1)

above_lower : {P : Type 0} (low high : ℕ) (rs : List (Received P)) → low < high → Above high rs → Above low rs
above_lower low high [] less all = tt
above_lower low high (r ∷ rs) less all = (omega (arith, all.0), above_lower low high rs less all.1)

above-filter : {P : Type 0} (low : ℕ) (test : Received P → Bool) (rs : List (Received P)) → Above low rs → Above low (filter test rs)
above-filter low test [] all = tt
above-filter {P} low test (r ∷ rs) all = go (test r) (above-filter low test rs all.1)
  where
    go : (b : Bool) → Above low (filter test rs) → Above low (cond b (r ∷ filter test rs) (filter test rs))
    go true later = (all.0, later)
    go false later = later

not_earlier : (a b : ℕ) → a < b → nat_lt b a ≡ false
not_earlier a b less = grind (arith, nat_tests)

is_earlier : (a b : ℕ) → a < b → nat_lt a b ≡ true
is_earlier a b less = grind (arith, nat_tests)

insert_first : {P : Type 0} (r : Received P) (rs : List (Received P)) → Above r.number rs → insert_by earlier r rs ≡ r ∷ rs
insert_first r [] all = refl
insert_first r (s ∷ rs) all = ap (λ b. cond b (s ∷ insert_by earlier r rs) (r ∷ s ∷ rs)) (not_earlier r.number s.number all.0)

sort_least : {P : Type 0} (r : Received P) (xs ys : List (Received P)) → Above r.number xs → Above r.number ys → sort_by earlier (xs ++ r ∷ ys) ≡ r ∷ sort_by earlier (xs ++ ys)
sort_least r [] ys above_xs above_ys = insert_first r (sort_by earlier ys) (above-sort r.number ys above_ys)
sort_least r (x ∷ xs) ys above_xs above_ys =
    ap (insert_by earlier x) (sort_least r xs ys above_xs.1 above_ys)
    ∙ ap (λ b. cond b (r ∷ insert_by earlier x (sort_by earlier (xs ++ ys))) (x ∷ r ∷ sort_by earlier (xs ++ ys))) (is_earlier r.number x.number above_xs.0)

merged : {P : Type 0} (rs : List (Received P)) → RiseAll rs → sort_by earlier (at_left_end rs ++ at_right_end rs) ≡ rs
merged [] rising = refl
merged {P} (r ∷ rs) rising = go (is_left r.end) (merged rs rising.1)
  where
    above_left : Above r.number (at_left_end rs)
    above_left = above-filter r.number (λ s. is_left s.end) rs rising.0

    above_right : Above r.number (at_right_end rs)
    above_right = above-filter r.number (λ s. not (is_left s.end)) rs rising.0

    go : (b : Bool) → sort_by earlier (at_left_end rs ++ at_right_end rs) ≡ rs
        → sort_by earlier (cond b (r ∷ at_left_end rs) (at_left_end rs) ++ cond (not b) (r ∷ at_right_end rs) (at_right_end rs)) ≡ r ∷ rs
    go true later = ap (insert_by earlier r) later ∙ insert_first r rs rising.0
    go false later = sort_least r (at_left_end rs) (at_right_end rs) above_left above_right ∙ ap (λ ss. r ∷ ss) later

tail_rises : (x : ℕ) (xs : List ℕ) → IsStrictlyIncreasing (x ∷ xs) → IsStrictlyIncreasing xs
tail_rises x xs rising k within =
    let next : get_or (x ∷ xs) (k + 1) 0 < get_or (x ∷ xs) ((k + 1) + 1) 0 = rising (k + 1) (omega arith) in
    let here : get_or (x ∷ xs) (k + 1) 0 ≡ get_or xs k 0 = rw (add-one k) refl in
    let there : get_or (x ∷ xs) ((k + 1) + 1) 0 ≡ get_or xs (k + 1) 0 = rw (add-one (k + 1)) refl in
    omega arith

rises : {P : Type 0} (low : ℕ) (rs : List (Received P)) → IsStrictlyIncreasing (low ∷ map (λ r. r.number) rs) → Above low rs × RiseAll rs
rises low [] rising = (tt, tt)
rises low (r ∷ rs) rising =
    let deeper = rises r.number rs (tail_rises low (r.number ∷ map (λ s. s.number) rs) rising) in
    let first : low < r.number = rising 0 (omega arith) in
    ((first, above_lower low r.number rs first deeper.0), (deeper.0, deeper.1))

rise_all : {P : Type 0} (rs : List (Received P)) → IsStrictlyIncreasing (map (λ r. r.number) rs) → RiseAll rs
rise_all [] rising = tt
rise_all (r ∷ rs) rising = rises r.number rs rising

map-received : {P : Type 0} (turns : List (Turn P)) → map (λ r. r.number) (map received turns) ≡ map (λ turn. turn.number) turns
map-received [] = refl
map-received (turn ∷ turns) = ap (λ ns. turn.number ∷ ns) (map-received turns)

-- The journals of a core tell what it took, in which order.
abbrev pub received_in : {P : Type 0} → List (Entry (Msg P)) → List (Entry (Msg P)) → List (Received P)
received_in left right = sort_by earlier (received_at Left left ++ received_at Right right)

pub told : {P : Type 0} {matches : P → P → Bool} {place n : ℕ} {turns : Turns P} {left right : List (Entry (Msg P))} {reports : List (Entry (Report P))}
    → TakesTurns matches place n turns left right reports → map received (all_of turns) ≡ received_in left right
told {turns = turns} {left = left} {right = right} core =
    let rising : RiseAll (map received (all_of turns)) = rise_all (map received (all_of turns)) (subst IsStrictlyIncreasing (sym (map-received (all_of turns))) core.rising) in
    let lefts : received_at Left left ≡ at_left_end (map received (all_of turns)) = ap (received_at Left) core.left ∙ left_received (all_of turns) in
    let rights : received_at Right right ≡ at_right_end (map received (all_of turns)) = ap (received_at Right) core.right ∙ right_received (all_of turns) in
    sym (ap₂ (λ xs ys. sort_by earlier (xs ++ ys)) lefts rights ∙ merged (map received (all_of turns)) rising)

-- All turns but the last are whole.
whole_turns-append : {P : Type 0} (matches : P → P → Bool) (place n : ℕ) (state : State P) (front back : List (Received P))
    → IsPrefix (whole_turns matches place n state front) (whole_turns matches place n state (front ++ back))
whole_turns-append matches place n state [] back = record { rest = whole_turns matches place n state back; is = refl }
whole_turns-append matches place n state (r ∷ front) back =
    let deeper = whole_turns-append matches place n (after place n state r.message) front back in
    record { rest = deeper.rest; is = ap (λ turns. whole_turn matches place n state r ∷ turns) deeper.is }

last_off : {X : Type 0} (xs ys : List X) (x y : X) → xs ++ x ∷ [] ≡ ys ++ y ∷ [] → xs ≡ ys
last_off [] [] x y e = refl
last_off [] (z ∷ []) x y e = absurd (cc)
last_off [] (z ∷ w ∷ ys) x y e = absurd (cc)
last_off (z ∷ []) [] x y e = absurd (cc)
last_off (z ∷ w ∷ xs) [] x y e = absurd (cc)
last_off (z ∷ xs) (w ∷ ys) x y e =
    let head : z ≡ w = cc in
    let tails : xs ++ x ∷ [] ≡ ys ++ y ∷ [] = cc in
    ap₂ (λ v vs. v ∷ vs) head (last_off xs ys x y tails)

pub front_whole : {P : Type 0} {matches : P → P → Bool} {place n : ℕ} {turns : Turns P} {left right : List (Entry (Msg P))} {reports : List (Entry (Report P))}
    → TakesTurns matches place n turns left right reports → (front : List (Received P)) (last : Received P) → received_in left right ≡ front ++ last ∷ []
    → IsPrefix (whole_turns matches place n empty_state front) (all_of turns)
front_whole {P} {matches = matches} {place = place} {n = n} {turns = turns} core front last e = go turns.cut (told core ∙ e)
  where
    go : (cut : Option (Turn P)) → map received (turns.whole ++ option_to_list cut) ≡ front ++ last ∷ [] → IsPrefix (whole_turns matches place n empty_state front) (turns.whole ++ option_to_list cut)
    go None is =
        let taken_all : map received turns.whole ≡ front ++ last ∷ [] = ap (map received) (sym (append-nil turns.whole)) ∙ is in
        let all_whole : turns.whole ++ [] ≡ whole_turns matches place n empty_state (front ++ last ∷ [])
        = append-nil turns.whole ∙ whole_are matches place n empty_state turns.whole core.whole ∙ ap (whole_turns matches place n empty_state) taken_all in
        let prefix = whole_turns-append matches place n empty_state front (last ∷ []) in
        record { rest = prefix.rest; is = all_whole ∙ prefix.is }
    go (Some turn) is =
        let taken_front : map received turns.whole ≡ front = last_off (map received turns.whole) front (received turn) last (sym (map-append received turns.whole (turn ∷ [])) ∙ is) in
        record { rest = turn ∷ []; is = ap (λ ws. ws ++ turn ∷ []) (whole_are matches place n empty_state turns.whole core.whole ∙ ap (whole_turns matches place n empty_state) taken_front) }

-- So each journal begins with what those turns leave in it.
beginning_of : {X Y : Type 0} (f : X → List Y) {xs ys : List X} → IsPrefix xs ys → IsPrefix (flat_map f xs) (flat_map f ys)
beginning_of f {xs} prefix = record { rest = flat_map f prefix.rest; is = ap (flat_map f) prefix.is ∙ flat_map-append f xs prefix.rest }

pub right_begins : {P : Type 0} {matches : P → P → Bool} {place n : ℕ} {turns : Turns P} {left right : List (Entry (Msg P))} {reports : List (Entry (Report P))}
    → TakesTurns matches place n turns left right reports → (front : List (Received P)) (last : Received P) → received_in left right ≡ front ++ last ∷ []
    → IsPrefix (flat_map at_right (whole_turns matches place n empty_state front)) right
right_begins core front last e =
    let prefix = beginning_of at_right (front_whole core front last e) in
    record { rest = prefix.rest; is = core.right ∙ prefix.is }

pub reports_begin : {P : Type 0} {matches : P → P → Bool} {place n : ℕ} {turns : Turns P} {left right : List (Entry (Msg P))} {reports : List (Entry (Report P))}
    → TakesTurns matches place n turns left right reports → (front : List (Received P)) (last : Received P) → received_in left right ≡ front ++ last ∷ []
    → IsPrefix (flat_map at_reports (whole_turns matches place n empty_state front)) reports
reports_begin core front last e =
    let prefix = beginning_of at_reports (front_whole core front last e) in
    record { rest = prefix.rest; is = core.reports ∙ prefix.is }

-- Turns that leave the same journals handle the same messages.
messages-received : {P : Type 0} (turns : List (Turn P)) → map (λ r. r.message) (map received turns) ≡ map (λ turn. turn.message) turns
messages-received [] = refl
messages-received (turn ∷ turns) = ap (λ ms. turn.message ∷ ms) (messages-received turns)

handled_is : {P : Type 0} {matches : P → P → Bool} {place n : ℕ} {turns : Turns P} {left right : List (Entry (Msg P))} {reports : List (Entry (Report P))}
    → TakesTurns matches place n turns left right reports → handled turns ≡ map (λ r. r.message) (received_in left right)
handled_is {turns = turns} core = sym (messages-received (all_of turns)) ∙ ap (map (λ r. r.message)) (told core)

pub handle_the_same : {P : Type 0} (run : Run P) (one other : IsRun run) → HandleTheSame one other
handle_the_same run one other k low = handled_is (one.steps k low) ∙ sym (handled_is (other.steps k low))
