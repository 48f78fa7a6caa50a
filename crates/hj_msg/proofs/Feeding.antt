-- The events that a feed gives are well formed.
use Rattle.std.proofs.Common.{◌≡◌, ℕ, ◌+◌, ◌⊎◌, inl, inr, ◌==◌, not, true, List, [], ◌∷◌, ◌++◌, length, map, replicate, zero, suc, Contains, fold, refl, ap, sym, ◌∙◌, subst, arith, append-nil, append_assoc, length-append, eq-eqb, true≢false}
use Rattle.std.proofs.lemmas.List.Elements.{Contains-append_left, Contains-push, Contains-push_cases}
use Rattle.std.proofs.lemmas.List.Sums.{fold_push}
use Rattle.hj_base.specs.declared.numbers.Side.{Side}
use Rattle.hj_base.specs.declared.numbers.Side.TheVariants.{Left, Right}
use Rattle.hj_msg.specs.declared.event.Event.{Event}
use Rattle.hj_msg.specs.declared.event.Event.TheVariants.{Arrive, Expire, Quiet}
use Rattle.hj_msg.specs.declared.feed.Given.{Given}
use Rattle.hj_msg.specs.declared.feed.Given.TheVariants as given
use Rattle.hj_msg.specs.Event.{number, NumbersFrom, Arrives, Expires, NamesLive, IsWellFormed}
use Rattle.hj_msg.specs.Feed.{Numbering, first_numbering, numbering_after, numbering_of, NamesLiveNumber, Answers, FeedState, GivesEvent, GoesOver, GoesOverAnswers}
use Rattle.hj_msg.specs.GoesOn.{GoesOnWith}
use Rattle.hj_msg.proofs.Members.{Contains-nil, Contains-from_filter}
use Rattle.hj_msg.proofs.Numbered.{same_number, front_is_well_formed, number-last, NamesLive-last, Expires-below}

-- where a list with one element more is cut
pub split-push : {X : Type 0} (xs : List X) (x : X) (ys : List X) (y : X) (zs : List X) → xs ++ x ∷ [] ≡ ys ++ y ∷ zs → ((rest : List X) × (xs ≡ ys ++ y ∷ rest)) ⊎ ((xs ≡ ys) × (x ≡ y))
split-push [] x [] y zs is = inr (refl, cc)
split-push [] x (u ∷ us) y zs is = absurd (omega (arith, ap length is, length-append us (y ∷ zs)))
split-push (v ∷ vs) x [] y zs is = inl (vs, let same : v ≡ y = cc in ap (λ w. w ∷ vs) same)
split-push {X} (v ∷ vs) x (u ∷ us) y zs is =
    let first : v ≡ u = cc in
    let later : vs ++ x ∷ [] ≡ us ++ y ∷ zs = cc in
    elim (split-push vs x us y zs later) [
      | inl w ↦ inl (w.0, ap (λ (a : X). a ∷ vs) first ∙ ap (λ (l : List X). u ∷ l) w.1)
      | inr w ↦ inr (ap (λ (a : X). a ∷ vs) first ∙ ap (λ (l : List X). u ∷ l) w.0, w.1)
    ]

-- a row of this side arrived under this number, and hasn't expired
record IsLive {P : Type 0} (side : Side) (events : List (Event P)) (of : ℕ) : Type 0 where
  row : P
  arrives : Arrives events side of row
  stays : (before : ℕ) → Expires events of before → ⊥

-- the numbering is that of these events
record Tells {P : Type 0} (numbering : Numbering) (events : List (Event P)) : Type 0 where
  next : numbering.next ≡ length events
  left : (of : ℕ) → Contains numbering.live_left of → IsLive Left events of
  right : (of : ℕ) → Contains numbering.live_right of → IsLive Right events of

-- an expiry of this number
abbrev expires_of : {P : Type 0} → Event P → ℕ → Type 0
expires_of {P} event of = (at : ℕ) × (side : Side) × (event ≡ Expire (record { 0 = at }) side (record { 0 = of }))

expires-push : {P : Type 0} (front : List (Event P)) (event : Event P) (of before : ℕ) → Expires (front ++ event ∷ []) of before → Expires front of before ⊎ expires_of event of
expires-push front event of before expiry = elim (Contains-push_cases front event (Expire (record { 0 = before }) expiry.0 (record { 0 = of })) expiry.1) [
  | inl w ↦ inl (expiry.0, w)
  | inr w ↦ inr (before, expiry.0, w)
]

-- what is live stays live behind an event that isn't its expiry
still_live : {P : Type 0} (side : Side) (front : List (Event P)) (event : Event P) (of : ℕ) → (expires_of event of → ⊥) → IsLive side front of → IsLive side (front ++ event ∷ []) of
still_live {P} side front event of other live = record {
  row = live.row;
  arrives = Contains-append_left front (event ∷ []) (Arrive (record { 0 = of }) side live.row) live.arrives;
  stays = λ before expiry. elim (expires-push front event of before expiry) [ inl w ↦ live.stays before w | inr w ↦ other w ];
}

-- a row that arrives is live
arrives_live : {P : Type 0} (side : Side) (front : List (Event P)) (at : _) (row : P) (of : ℕ) → IsWellFormed (front ++ Arrive at side row ∷ []) → at.0 ≡ of → IsLive side (front ++ Arrive at side row ∷ []) of
arrives_live {P} side front at row of well is =
    let event : Event P = Arrive at side row in
    record {
      row = row;
      arrives = subst (λ (m : ℕ). Contains (front ++ event ∷ []) (Arrive (record { 0 = m }) side row)) is (Contains-push front event);
      stays = λ before expiry. elim (expires-push front event of before expiry) [
        | inl w ↦ absurd (omega (arith, Expires-below front of before (front_is_well_formed front (event ∷ []) well) w, number-last front event well, is))
        | inr w ↦ absurd (let e = w.2 in cc)
      ];
    }

module _ {P : Type 0} (numbering : Numbering) (front : List (Event P)) (tells : Tells numbering front) where
  next-push : (event : Event P) → numbering.next + 1 ≡ length (front ++ event ∷ [])
  next-push event = omega (arith, tells.next, length-append front (event ∷ []))

  not_expiry : (at : _) (side : Side) (row : P) (of : ℕ) → expires_of (Arrive at side row) of → ⊥
  not_expiry at side row of w = let e = w.2 in cc

  tells-push : (event : Event P) → IsWellFormed (front ++ event ∷ []) → Tells (numbering_after numbering event) (front ++ event ∷ [])
  tells-push (Arrive at Left row) well = record {
    next = next-push (Arrive at Left row);
    left = λ of has. elim (Contains-push_cases numbering.live_left at.0 of has) [
      | inl w ↦ still_live Left front (Arrive at Left row) of (not_expiry at Left row of) (tells.left of w)
      | inr w ↦ arrives_live Left front at row of well w
    ];
    right = λ of has. still_live Right front (Arrive at Left row) of (not_expiry at Left row of) (tells.right of has);
  }
  tells-push (Arrive at Right row) well = record {
    next = next-push (Arrive at Right row);
    left = λ of has. still_live Left front (Arrive at Right row) of (not_expiry at Right row of) (tells.left of has);
    right = λ of has. elim (Contains-push_cases numbering.live_right at.0 of has) [
      | inl w ↦ still_live Right front (Arrive at Right row) of (not_expiry at Right row of) (tells.right of w)
      | inr w ↦ arrives_live Right front at row of well w
    ];
  }
  tells-push (Quiet at side) well = record {
    next = next-push (Quiet at side);
    left = λ of has. still_live Left front (Quiet at side) of (λ w. let e = w.2 in cc) (tells.left of has);
    right = λ of has. still_live Right front (Quiet at side) of (λ w. let e = w.2 in cc) (tells.right of has);
  }
  tells-push (Expire at Left gone) well =
      let event : Event P = Expire at Left gone in
      let named = (NamesLive-last front event well).0 in
      record {
        next = next-push event;
        left = λ of has.
            let kept = Contains-from_filter (λ (x : ℕ). not (x == gone.0)) numbering.live_left of has in
            still_live Left front event of (λ w. other of gone.0 kept.1 (let e = w.2 in cc)) (tells.left of kept.0);
        right = λ of has.
            let live = tells.right of has in
            still_live Right front event of
            (λ w.
            let same : gone.0 ≡ of = (let e = w.2 in cc) in
            let moved : Arrives front Left of named.0 = subst (λ (m : ℕ). Arrives front Left m named.0) same named.1 in
            absurd (let e = same_number front (Arrive (record { 0 = of }) Left named.0) (Arrive (record { 0 = of }) Right live.row) (front_is_well_formed front (event ∷ []) well).numbered moved live.arrives refl in cc)) live;
      }
    where
      other : (x y : ℕ) → not (x == y) ≡ true → y ≡ x → ⊥
      other x y differ same = absurd (true≢false (sym differ ∙ ap not (eq-eqb x y (sym same))))
  tells-push (Expire at Right gone) well =
      let event : Event P = Expire at Right gone in
      let named = (NamesLive-last front event well).0 in
      record {
        next = next-push event;
        left = λ of has.
            let live = tells.left of has in
            still_live Left front event of
            (λ w.
            let same : gone.0 ≡ of = (let e = w.2 in cc) in
            let moved : Arrives front Right of named.0 = subst (λ (m : ℕ). Arrives front Right m named.0) same named.1 in
            absurd (let e = same_number front (Arrive (record { 0 = of }) Right named.0) (Arrive (record { 0 = of }) Left live.row) (front_is_well_formed front (event ∷ []) well).numbered moved live.arrives refl in cc)) live;
        right = λ of has.
            let kept = Contains-from_filter (λ (x : ℕ). not (x == gone.0)) numbering.live_right of has in
            still_live Right front event of (λ w. other of gone.0 kept.1 (let e = w.2 in cc)) (tells.right of kept.0);
      }
    where
      other : (x y : ℕ) → not (x == y) ≡ true → y ≡ x → ⊥
      other x y differ same = absurd (true≢false (sym differ ∙ ap not (eq-eqb x y (sym same))))

tells-all : {P : Type 0} (numbering : Numbering) (front rest : List (Event P)) → Tells numbering front → IsWellFormed (front ++ rest) → Tells (fold numbering_after numbering rest) (front ++ rest)
tells-all numbering front [] tells well = subst (Tells numbering) (sym (append-nil front)) tells
tells-all {P} numbering front (event ∷ rest) tells well =
    let whole : (front ++ event ∷ []) ++ rest ≡ front ++ event ∷ rest = append_assoc front (event ∷ []) rest in
    let well_whole : IsWellFormed ((front ++ event ∷ []) ++ rest) = subst IsWellFormed (sym whole) well in
    let next = tells-push numbering front tells event (front_is_well_formed (front ++ event ∷ []) rest well_whole) in
    subst (Tells (fold numbering_after numbering (event ∷ rest))) whole (tells-all (numbering_after numbering event) (front ++ event ∷ []) rest next well_whole)

tells-first : (P : Type 0) → Tells {P = P} first_numbering []
tells-first P = record { next = refl; left = λ of has. absurd (Contains-nil of has); right = λ of has. absurd (Contains-nil of has) }

tells : {P : Type 0} (events : List (Event P)) → IsWellFormed events → Tells (numbering_of events) events
tells {P} events well = tells-all first_numbering [] events (tells-first P) well

numbers-push : {P : Type 0} (first : ℕ) (events : List (Event P)) (event : Event P) → NumbersFrom first events → number event ≡ first + length events → NumbersFrom first (events ++ event ∷ [])
numbers-push first [] event numbers is = (omega (arith, is), tt)
numbers-push first (e ∷ events) event numbers is = (numbers.0, numbers-push (first + 1) events event numbers.1 (omega (arith, is)))

names-live : {P : Type 0} (numbering : Numbering) (events : List (Event P)) (event : Event P) → Tells numbering events → NamesLiveNumber numbering event → NamesLive events event
names-live numbering events (Arrive at side row) tells named = tt
names-live numbering events (Quiet at side) tells named = tt
names-live numbering events (Expire at Left of) tells named = let live = tells.left of.0 named in ((live.row, live.arrives), live.stays)
names-live numbering events (Expire at Right of) tells named = let live = tells.right of.0 named in ((live.row, live.arrives), live.stays)

-- one event more
pub well-push : {P : Type 0} (events : List (Event P)) (event : Event P) (old new : FeedState) → IsWellFormed events → old.numbering ≡ numbering_of events → GivesEvent event old new → IsWellFormed (events ++ event ∷ [])
well-push {P} events event old new well same gives =
    let told = tells events well in
    record {
      numbered = numbers-push 0 events event well.numbered (omega (arith, gives.numbered, ap (λ (m : Numbering). m.next) same, told.next));
      live = λ earlier later one is. elim (split-push events event earlier one later is) [
        | inl w ↦ well.live earlier w.0 one w.1
        | inr w ↦
            subst (λ (es : List (Event P)). NamesLive es one) w.0 (subst (NamesLive events) w.1 (names-live (numbering_of events) events event told (subst (λ (m : Numbering). NamesLiveNumber m event) same gives.live)))
      ];
    }

pub numbering-push : {P : Type 0} (events : List (Event P)) (event : Event P) (old new : FeedState) → old.numbering ≡ numbering_of events → GivesEvent event old new → new.numbering ≡ numbering_of (events ++ event ∷ [])
numbering-push events event old new same gives = gives.numbering ∙ ap (λ (m : Numbering). numbering_after m event) same ∙ sym (fold_push numbering_after first_numbering events event)

pub well-nothing : (P : Type 0) → IsWellFormed {P = P} []
well-nothing P = record { numbered = tt; live = λ earlier later event is. absurd (omega (arith, ap length is, length-append earlier (event ∷ later))) }

-- a feed whose answers are those that its states tell
module _ {P F : Type 0} (gives : F → Given P → F → Type 0) (state : F → FeedState) (told : (old : F) (answer : Given P) (new : F) → gives old answer new → Answers answer (state old) (state new)) where
  stops-on : (events : List (Event P)) (stops : ℕ) (from to : F) → GoesOnWith events (state from) → GoesOverAnswers gives from (replicate stops given.Stop) to → GoesOnWith events (state to)
  stops-on events zero from to goes over = subst (λ (f : F). GoesOnWith events (state f)) (sym over) goes
  stops-on events (suc stops) from to goes over =
      let says = told from given.Stop over.0 over.1 in
      stops-on events stops over.0 to (record { well_formed = goes.well_formed; numbering = says.numbering ∙ goes.numbering }) over.2

  events-on : (events later : List (Event P)) (stops : ℕ) (from to : F) → GoesOnWith events (state from) → GoesOverAnswers gives from (map given.Event later ++ replicate stops given.Stop) to → GoesOnWith (events ++ later) (state to)
  events-on events [] stops from to goes over = subst (λ (l : List (Event P)). GoesOnWith l (state to)) (sym (append-nil events)) (stops-on events stops from to goes over)
  events-on events (event ∷ later) stops from to goes over =
      let says = told from (given.Event event) over.0 over.1 in
      subst (λ (l : List (Event P)). GoesOnWith l (state to)) (append_assoc events (event ∷ []) later)
      (events-on (events ++ event ∷ []) later stops over.0 to
      (record { well_formed = well-push events event (state from) (state over.0) goes.well_formed goes.numbering says; numbering = numbering-push events event (state from) (state over.0) goes.numbering says }) over.2)

  pub feed-goes-on : (events later : List (Event P)) (from to : F) → GoesOnWith events (state from) → GoesOver gives from later to → GoesOnWith (events ++ later) (state to)
  feed-goes-on events later from to goes over = events-on events later over.stops from to goes over.answers
