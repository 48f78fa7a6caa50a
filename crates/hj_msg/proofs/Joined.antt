-- The sequential join lists exactly the matching valid pairs, each once, in order: event by event, what it lists are the matches whose later row is that event's.
use Rattle.std.proofs.Common.{◌≡◌, ℕ, ◌<◌, ◌≤◌, min, max, ◌↔◌, inl, inr, Bool, true, List, [], ◌∷◌, ◌++◌, filter, length, length-append, append_assoc, append-nil, Contains, arith, sym, subst, eq-or-lt_of_le}
use Rattle.std.proofs.lemmas.List.Elements.{Contains-append_left, Contains-append_right, Contains-append_cases, Contains-push, Contains-push_cases}
use Rattle.hj_base.specs.declared.numbers.EventNo.{EventNo}
use Rattle.hj_base.specs.declared.numbers.Side.TheVariants.{Left, Right}
use Rattle.hj_msg.specs.declared.event.Event.{Event}
use Rattle.hj_msg.specs.declared.event.Event.TheVariants.{Arrive, Expire, Quiet}
use Rattle.hj_msg.specs.declared.event.Pair.{Pair}
use Rattle.hj_msg.specs.Event.{Expires, IsWellFormed}
use Rattle.hj_msg.specs.Kang.{Held, Windows, no_rows, pair, windows_after, listed, kang}
use Rattle.hj_msg.specs.Valid.{later, earlier, IsMatch, Precedes, IsListOfMatches}
use Rattle.hj_msg.proofs.Members.{Contains-nil, Contains-filter, Contains-from_filter, Contains-map, Contains-from_map, Ranked, Ranked-append, Ranked-filter, Ranked-map, Ranked-apart}
use Rattle.hj_msg.proofs.Numbered.{number_below, number-last, front_is_well_formed}
use Rattle.hj_msg.proofs.Windows.{before_last, kang-push, windows_from-append, among_front, IsLive, IsWindow-none, IsWindow-below, AreWindows, AreWindows-after}

-- the later row of a match is among the events
later_below : {P : Type 0} (matches : P → P → Bool) (front : List (Event P)) (found : Pair P) → IsWellFormed front → IsMatch matches front found → later found < length front
later_below matches front found h m = omega (arith, number_below front (Arrive found.left_no Left found.left) h.numbered m.valid.left, number_below front (Arrive found.right_no Right found.right) h.numbered m.valid.right)

-- a match stays one at one event more; and one whose later row came before that event was one before it
IsMatch-more : {P : Type 0} (matches : P → P → Bool) (front : List (Event P)) (event : Event P) (found : Pair P) → IsWellFormed (front ++ event ∷ []) → IsMatch matches front found → IsMatch matches (front ++ event ∷ []) found
IsMatch-more matches front event found h m = record {
  valid = record {
    left = Contains-append_left front (event ∷ []) (Arrive found.left_no Left found.left) m.valid.left;
    right = Contains-append_left front (event ∷ []) (Arrive found.right_no Right found.right) m.valid.right;
    live = λ at expiry below. m.valid.live at
        (expiry.0, among_front front event (Expire (record { 0 = at }) expiry.0 (record { 0 = earlier found })) h expiry.1 (omega (arith, below, later_below matches front found (front_is_well_formed front (event ∷ []) h) m)))
        below;
  };
  joined = m.joined;
}

IsMatch-less : {P : Type 0} (matches : P → P → Bool) (front : List (Event P)) (event : Event P) (found : Pair P) → IsWellFormed (front ++ event ∷ []) → later found < length front → IsMatch matches (front ++ event ∷ []) found → IsMatch matches front found
IsMatch-less matches front event found h below m = record {
  valid = record {
    left = among_front front event (Arrive found.left_no Left found.left) h m.valid.left (omega arith);
    right = among_front front event (Arrive found.right_no Right found.right) h m.valid.right (omega arith);
    live = λ at expiry. m.valid.live at (expiry.0, Contains-append_left front (event ∷ []) (Expire (record { 0 = at }) expiry.0 (record { 0 = earlier found })) expiry.1);
  };
  joined = m.joined;
}

-- a row that arrives at the left matches each live row of the right that satisfies the predicate with it; then the same at the right
left_joins : {P : Type 0} (matches : P → P → Bool) (front : List (Event P)) (at : EventNo) (row : P) (held : Held P) → IsWellFormed (front ++ Arrive at Left row ∷ []) → IsLive front Right held → matches row held.row ≡ true → IsMatch matches (front ++ Arrive at Left row ∷ []) (pair (record { no = at.0; row = row }) held) × (max at.0 held.no ≡ length front)
left_joins matches front at row held h live t =
    let last = number-last front (Arrive at Left row) h in
    let below = number_below front (Arrive (record { 0 = held.no }) Right held.row) (front_is_well_formed front (Arrive at Left row ∷ []) h).numbered live.0 in
    let held_first : min at.0 held.no ≡ held.no = omega arith in (
      record {
        valid = record {
          left = Contains-push front (Arrive at Left row);
          right = Contains-append_left front (Arrive at Left row ∷ []) (Arrive (record { 0 = held.no }) Right held.row) live.0;
          live = λ x expiry before. live.1 x (
            expiry.0,
            subst (λ n. Contains front (Expire (record { 0 = x }) expiry.0 (record { 0 = n }))) held_first
                (among_front front (Arrive at Left row) (Expire (record { 0 = x }) expiry.0 (record { 0 = min at.0 held.no })) h expiry.1 (omega arith)),
          );
        };
        joined = t;
      },
      omega arith,
    )

right_joins : {P : Type 0} (matches : P → P → Bool) (front : List (Event P)) (at : EventNo) (row : P) (held : Held P) → IsWellFormed (front ++ Arrive at Right row ∷ []) → IsLive front Left held → matches held.row row ≡ true → IsMatch matches (front ++ Arrive at Right row ∷ []) (pair held (record { no = at.0; row = row })) × (max held.no at.0 ≡ length front)
right_joins matches front at row held h live t =
    let last = number-last front (Arrive at Right row) h in
    let below = number_below front (Arrive (record { 0 = held.no }) Left held.row) (front_is_well_formed front (Arrive at Right row ∷ []) h).numbered live.0 in
    let held_first : min held.no at.0 ≡ held.no = omega arith in (
      record {
        valid = record {
          left = Contains-append_left front (Arrive at Right row ∷ []) (Arrive (record { 0 = held.no }) Left held.row) live.0;
          right = Contains-push front (Arrive at Right row);
          live = λ x expiry before. live.1 x (
            expiry.0,
            subst (λ n. Contains front (Expire (record { 0 = x }) expiry.0 (record { 0 = n }))) held_first
                (among_front front (Arrive at Right row) (Expire (record { 0 = x }) expiry.0 (record { 0 = min held.no at.0 })) h expiry.1 (omega arith)),
          );
        };
        joined = t;
      },
      omega arith,
    )

-- what an event lists are the matches whose later row is its own
listed_match : {P : Type 0} (matches : P → P → Bool) (front : List (Event P)) (windows : Windows P) (event : Event P) (found : Pair P) → IsWellFormed (front ++ event ∷ []) → AreWindows front windows → Contains (listed matches windows event) found → IsMatch matches (front ++ event ∷ []) found × (later found ≡ length front)
listed_match {P} matches front windows (Arrive at Left row) found h w k =
    let drawn = Contains-from_map (λ (held : Held P). pair (record { no = at.0; row = row }) held) (filter (λ held. matches row held.row) windows.right) found k in
    let kept = Contains-from_filter (λ (held : Held P). matches row held.row) windows.right drawn.0 drawn.1 in
    subst (λ p. IsMatch matches (front ++ Arrive at Left row ∷ []) p × (later p ≡ length front)) drawn.2 (left_joins matches front at row drawn.0 h ((w.right.exact drawn.0).0 kept.0) kept.1)
listed_match {P} matches front windows (Arrive at Right row) found h w k =
    let drawn = Contains-from_map (λ (held : Held P). pair held (record { no = at.0; row = row })) (filter (λ held. matches held.row row) windows.left) found k in
    let kept = Contains-from_filter (λ (held : Held P). matches held.row row) windows.left drawn.0 drawn.1 in
    subst (λ p. IsMatch matches (front ++ Arrive at Right row ∷ []) p × (later p ≡ length front)) drawn.2 (right_joins matches front at row drawn.0 h ((w.left.exact drawn.0).0 kept.0) kept.1)
listed_match matches front windows (Expire at side of) found h w k = absurd (Contains-nil found k)
listed_match matches front windows (Quiet at side) found h w k = absurd (Contains-nil found k)

-- the earlier row of a match is live before the later one comes
earlier_live : {P : Type 0} (matches : P → P → Bool) (front : List (Event P)) (event : Event P) (found : Pair P) → IsWellFormed (front ++ event ∷ []) → IsMatch matches (front ++ event ∷ []) found → later found ≡ length front → (of at : ℕ) → earlier found ≡ of → ¬ (Expires front of at)
earlier_live matches front event found h m last of at same expiry =
    let below = number_below front (Expire (record { 0 = at }) expiry.0 (record { 0 = of })) (front_is_well_formed front (event ∷ []) h).numbered expiry.1 in
    m.valid.live at (
      expiry.0,
      subst (λ n. Contains (front ++ event ∷ []) (Expire (record { 0 = at }) expiry.0 (record { 0 = n }))) (sym same)
          (Contains-append_left front (event ∷ []) (Expire (record { 0 = at }) expiry.0 (record { 0 = of })) expiry.1),
    ) (omega arith)

-- a match whose later row is the left one is listed at the event of that row; then the same of the right one
left_listed : {P : Type 0} (matches : P → P → Bool) (front : List (Event P)) (windows : Windows P) (event : Event P) (found : Pair P) → IsWellFormed (front ++ event ∷ []) → AreWindows front windows → IsMatch matches (front ++ event ∷ []) found → later found ≡ length front → event ≡ Arrive found.left_no Left found.left → Contains (listed matches windows event) found
left_listed {P} matches front windows event found h w m last e =
    let arrived : Contains front (Arrive found.right_no Right found.right) = before_last front event (Arrive found.right_no Right found.right) (λ f. cc) m.valid.right in
    let below = number_below front (Arrive found.right_no Right found.right) (front_is_well_formed front (event ∷ []) h).numbered arrived in
    let partner : Held P = record { no = found.right_no.0; row = found.right } in
    let live = λ (x : ℕ). earlier_live matches front event found h m last found.right_no.0 x (omega arith) in
    subst (λ x. Contains (listed matches windows x) found) (sym e)
    (Contains-map (λ (held : Held P). pair (record { no = found.left_no.0; row = found.left }) held) (filter (λ held. matches found.left held.row) windows.right) partner
    (Contains-filter (λ held. matches found.left held.row) windows.right partner ((w.right.exact partner).1 (arrived, live)) m.joined))

right_listed : {P : Type 0} (matches : P → P → Bool) (front : List (Event P)) (windows : Windows P) (event : Event P) (found : Pair P) → IsWellFormed (front ++ event ∷ []) → AreWindows front windows → IsMatch matches (front ++ event ∷ []) found → later found ≡ length front → event ≡ Arrive found.right_no Right found.right → Contains (listed matches windows event) found
right_listed {P} matches front windows event found h w m last e =
    let arrived : Contains front (Arrive found.left_no Left found.left) = before_last front event (Arrive found.left_no Left found.left) (λ f. cc) m.valid.left in
    let below = number_below front (Arrive found.left_no Left found.left) (front_is_well_formed front (event ∷ []) h).numbered arrived in
    let partner : Held P = record { no = found.left_no.0; row = found.left } in
    let live = λ (x : ℕ). earlier_live matches front event found h m last found.left_no.0 x (omega arith) in
    subst (λ x. Contains (listed matches windows x) found) (sym e)
    (Contains-map (λ (held : Held P). pair held (record { no = found.right_no.0; row = found.right })) (filter (λ held. matches held.row found.right) windows.left) partner
    (Contains-filter (λ held. matches held.row found.right) windows.left partner ((w.left.exact partner).1 (arrived, live)) m.joined))

match_listed : {P : Type 0} (matches : P → P → Bool) (front : List (Event P)) (windows : Windows P) (event : Event P) (found : Pair P) → IsWellFormed (front ++ event ∷ []) → AreWindows front windows → IsMatch matches (front ++ event ∷ []) found → later found ≡ length front → Contains (listed matches windows event) found
match_listed matches front windows event found h w m last = elim (Contains-push_cases front event (Arrive found.left_no Left found.left) m.valid.left) [
  | inr e ↦ left_listed matches front windows event found h w m last e
  | inl k ↦ elim (Contains-push_cases front event (Arrive found.right_no Right found.right) m.valid.right) [
    | inr e ↦ right_listed matches front windows event found h w m last e
    | inl n ↦
        let numbered = (front_is_well_formed front (event ∷ []) h).numbered in
        let left_below = number_below front (Arrive found.left_no Left found.left) numbered k in
        let right_below = number_below front (Arrive found.right_no Right found.right) numbered n in
        absurd (omega arith)
  ]
]

listed_ranked : {P : Type 0} (matches : P → P → Bool) (front : List (Event P)) (windows : Windows P) (event : Event P) → IsWellFormed (front ++ event ∷ []) → AreWindows front windows → Ranked Precedes (listed matches windows event)
listed_ranked {P} matches front windows (Arrive at Left row) h w =
    let last = number-last front (Arrive at Left row) h in
    let below = λ (x : Held P) (k : Contains (filter (λ held. matches row held.row) windows.right) x). IsWindow-below front Right windows.right x (front_is_well_formed front (Arrive at Left row ∷ []) h) w.right (Contains-from_filter (λ held. matches row held.row) windows.right x k).0 in
    Ranked-map (λ x y. x.no < y.no) Precedes (λ held. pair (record { no = at.0; row = row }) held) (filter (λ held. matches row held.row) windows.right)
    (λ x y k n less. let first = below x k in let second = below y n in inr (omega arith, omega arith))
    (Ranked-filter (λ x y. x.no < y.no) (λ held. matches row held.row) windows.right w.right.rising)
listed_ranked {P} matches front windows (Arrive at Right row) h w =
    let last = number-last front (Arrive at Right row) h in
    let below = λ (x : Held P) (k : Contains (filter (λ held. matches held.row row) windows.left) x). IsWindow-below front Left windows.left x (front_is_well_formed front (Arrive at Right row ∷ []) h) w.left (Contains-from_filter (λ held. matches held.row row) windows.left x k).0 in
    Ranked-map (λ x y. x.no < y.no) Precedes (λ held. pair held (record { no = at.0; row = row })) (filter (λ held. matches held.row row) windows.left)
    (λ x y k n less. let first = below x k in let second = below y n in inr (omega arith, omega arith))
    (Ranked-filter (λ x y. x.no < y.no) (λ held. matches held.row row) windows.left w.left.rising)
listed_ranked matches front windows (Expire at side of) h w = tt
listed_ranked matches front windows (Quiet at side) h w = tt

last_or_before : {P : Type 0} (matches : P → P → Bool) (front : List (Event P)) (event : Event P) (found : Pair P) → IsWellFormed (front ++ event ∷ []) → IsMatch matches (front ++ event ∷ []) found → later found ≤ length front
last_or_before matches front event found h m = omega (arith, later_below matches (front ++ event ∷ []) found h m, length-append front (event ∷ []))

-- the windows and the join of the events so far
pub record IsJoined {P : Type 0} (matches : P → P → Bool) (events : List (Event P)) : Type 0 where
  pub windows : AreWindows events (windows_after events)
  pub each : (found : Pair P) → Contains (kang matches events) found ↔ IsMatch matches events found
  pub ranked : Ranked Precedes (kang matches events)

IsJoined-none : {P : Type 0} (matches : P → P → Bool) → IsJoined {P = P} matches []
IsJoined-none matches = record {
  windows = record { left = IsWindow-none Left; right = IsWindow-none Right };
  each = λ found. (λ k. absurd (Contains-nil found k), λ m. absurd (Contains-nil _ m.valid.left));
  ranked = tt;
}

IsJoined-push : {P : Type 0} (matches : P → P → Bool) (front : List (Event P)) (event : Event P) → IsWellFormed (front ++ event ∷ []) → IsJoined matches front → IsJoined matches (front ++ event ∷ [])
IsJoined-push matches front event h j = record {
  windows = rw (windows_from-append no_rows front (event ∷ [])) (AreWindows-after front (windows_after front) event h j.windows);
  each = λ found. (
    λ k. elim (Contains-append_cases (kang matches front) (listed matches (windows_after front) event) found (subst (λ pairs. Contains pairs found) (kang-push matches front event) k)) [
      | inl old ↦ IsMatch-more matches front event found h ((j.each found).0 old)
      | inr new ↦ (listed_match matches front (windows_after front) event found h j.windows new).0
    ],
    λ m. subst (λ pairs. Contains pairs found) (sym (kang-push matches front event)) (elim (eq-or-lt_of_le (last_or_before matches front event found h m)) [
      | inl last ↦ Contains-append_right (kang matches front) (listed matches (windows_after front) event) found (match_listed matches front (windows_after front) event found h j.windows m last)
      | inr below ↦ Contains-append_left (kang matches front) (listed matches (windows_after front) event) found ((j.each found).1 (IsMatch-less matches front event found h below m))
    ]),
  );
  ranked = subst (Ranked Precedes) (sym (kang-push matches front event)) (Ranked-append Precedes (kang matches front) (listed matches (windows_after front) event) j.ranked (listed_ranked matches front (windows_after front) event h j.windows)
      (λ p q k n. inl (omega (arith, later_below matches front p (front_is_well_formed front (event ∷ []) h) ((j.each p).0 k), (listed_match matches front (windows_after front) event q h j.windows n).1))));
}

IsJoined-append : {P : Type 0} (matches : P → P → Bool) (front rest : List (Event P)) → IsWellFormed (front ++ rest) → IsJoined matches front → IsJoined matches (front ++ rest)
IsJoined-append matches front [] h j = subst (IsJoined matches) (sym (append-nil front)) j
IsJoined-append matches front (event ∷ rest) h j =
    let regrouped = append_assoc front (event ∷ []) rest in
    let all = subst IsWellFormed (sym regrouped) h in
    subst (IsJoined matches) regrouped (IsJoined-append matches (front ++ event ∷ []) rest all (IsJoined-push matches front event (front_is_well_formed (front ++ event ∷ []) rest all) j))

pub windows_and_join : {P : Type 0} (matches : P → P → Bool) (events : List (Event P)) → IsWellFormed events → IsJoined matches events
windows_and_join matches events h = IsJoined-append matches [] events h (IsJoined-none matches)

pub join_of_well_formed : {P : Type 0} (matches : P → P → Bool) (events : List (Event P)) → IsWellFormed events → IsListOfMatches matches events
join_of_well_formed matches events h =
    let joined = windows_and_join matches events h in
    record { each = joined.each; ordered = λ before between behind p q e. Ranked-apart Precedes before between behind p q (subst (Ranked Precedes) e joined.ranked) }
