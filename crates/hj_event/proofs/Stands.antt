-- What stands of the live rows in the events that have come.
use Rattle.std.proofs.Common.{◌≡◌, ℕ, ◌+◌, ◌<◌, ◌⊎◌, inl, inr, Bool, true, false, not, cond, ◌&&◌, ◌==◌, List, [], ◌∷◌, ◌++◌, length, length-append, map, filter, Contains, arith, refl, sym, ap, subst, ◌∙◌, append-nil}
use Rattle.std.proofs.Math.Bool.{and_comm}
use Rattle.std.proofs.lemmas.Bool.{false_from_ne_true, false≢true}
use Rattle.std.proofs.lemmas.List.{map-append}
use Rattle.std.proofs.lemmas.List.Elements.{filter-append, Contains-push_cases}
use Rattle.hj_value.specs.declared.field.Field.{Field}
use Rattle.hj_value.specs.Row.{time_of}
use Rattle.hj_base.specs.declared.numbers.EventNo.{EventNo}
use Rattle.hj_base.specs.declared.numbers.Side.{Side}
use Rattle.hj_base.specs.declared.numbers.Side.TheVariants.{Left, Right}
use Rattle.hj_msg.specs.declared.event.Event.{Event}
use Rattle.hj_msg.specs.declared.event.Event.TheVariants.{Arrive, Expire, Quiet}
use Rattle.hj_msg.specs.Event.{number, Arrives}
use Rattle.hj_msg.proofs.Members.{Contains-nil, Ranked, Ranked-push, Ranked-filter, Contains-from_filter}
use Rattle.hj_window.specs.LiveRows.{LiveRow, is_same_side, of_side}
use Rattle.hj_event.specs.Windows.{live_rows}
use Rattle.hj_event.proofs.LiveRows.{cases_side, filter_both, has_expired, has_expired-arrival, has_expired-quiet, has_expired-cases, live_rows-arrival, live_rows-other_arrival, live_rows-quiet, live_rows-expiry}

abbrev pub Events : Type 0
Events = List (Event (List Field))

abbrev pub no_of : LiveRow → ℕ
no_of row = row.no

-- the numbers of a side's rows
abbrev pub shown_rows : Side → List LiveRow → List ℕ
shown_rows side rows = map no_of (of_side side rows)

-- the rows but that of this number
abbrev pub removed : ℕ → List LiveRow → List LiveRow
removed gone rows = filter (λ row. not (gone == row.no)) rows

pub filter_swap : {X : Type 0} (one other : X → Bool) (xs : List X) → filter one (filter other xs) ≡ filter other (filter one xs)
filter_swap one other xs =
    sym (filter_both other one (λ x. other x && one x) (λ x. refl) xs)
    ∙ filter_both one other (λ x. other x && one x) (λ x. and_comm (other x) (one x)) xs

filter_mapped : {X Y : Type 0} (f : X → Y) (test : Y → Bool) (xs : List X) → filter test (map f xs) ≡ map f (filter (λ x. test (f x)) xs)
filter_mapped f test [] = refl
filter_mapped {X} {Y} f test (x ∷ xs) =
    elim (test (f x)) as (λ b. cond b (f x ∷ filter test (map f xs)) (filter test (map f xs)) ≡ map f (cond b (x ∷ filter (λ y. test (f y)) xs) (filter (λ y. test (f y)) xs))) [
      | true ↦ ap (λ (ys : List Y). f x ∷ ys) (filter_mapped f test xs)
      | false ↦ filter_mapped f test xs
    ]

shown_removed : (gone : ℕ) (side : Side) (rows : List LiveRow) → filter (λ n. not (gone == n)) (shown_rows side rows) ≡ shown_rows side (removed gone rows)
shown_removed gone side rows =
    filter_mapped no_of (λ (n : ℕ). not (gone == n)) (of_side side rows)
    ∙ ap (map no_of) (filter_swap (λ (row : LiveRow). not (gone == row.no)) (λ (row : LiveRow). is_same_side side row.side) rows)

pub same_self : (side : Side) → is_same_side side side ≡ true
same_self Left = refl
same_self Right = refl

pub same_other : (side other : Side) → (side ≡ other → ⊥) → is_same_side side other ≡ false
same_other Left Left differs = absurd (differs refl)
same_other Left Right differs = refl
same_other Right Left differs = refl
same_other Right Right differs = absurd (differs refl)

pub of_side-push : (side : Side) (rows : List LiveRow) (row : LiveRow) → is_same_side side row.side ≡ true → of_side side (rows ++ row ∷ []) ≡ of_side side rows ++ row ∷ []
of_side-push side rows row same = filter-append (λ (r : LiveRow). is_same_side side r.side) rows (row ∷ []) ∙ ap (λ (b : Bool). of_side side rows ++ cond b (row ∷ []) []) same

pub of_side-other : (side : Side) (rows : List LiveRow) (row : LiveRow) → is_same_side side row.side ≡ false → of_side side (rows ++ row ∷ []) ≡ of_side side rows
of_side-other side rows row differs =
    filter-append (λ (r : LiveRow). is_same_side side r.side) rows (row ∷ []) ∙ (ap (λ (b : Bool). of_side side rows ++ cond b (row ∷ []) []) differs ∙ append-nil (of_side side rows))

-- These events are numbered below this number, and these rows are live.
pub record Stands (before : Events) (at : ℕ) (rows : List LiveRow) : Type 0 where
  pub count : length before ≡ at
  pub shown : (side : Side) → live_rows side before ≡ shown_rows side rows
  pub below : (row : LiveRow) → Contains rows row → row.no < at
  pub rising : Ranked (λ one other. one.no < other.no) rows
  pub expired : (gone : ℕ) → has_expired before gone ≡ true → gone < at
  pub arrived : (side : Side) (came : ℕ) (row : List Field) → Arrives before side came row → came < at
  pub timed : (side : Side) (came : ℕ) (row : List Field) (one : LiveRow) → Arrives before side came row → Contains rows one → one.no ≡ came → one.time ≡ time_of row

pub Stands-none : Stands [] 0 []
Stands-none = record {
  count = refl;
  shown = λ side. refl;
  below = λ row h. absurd (Contains-nil row h);
  rising = tt;
  expired = λ gone h. absurd (false≢true h);
  arrived = λ side came row h. absurd (Contains-nil (Arrive (record { 0 = came }) side row) h);
  timed = λ side came row one h k e. absurd (Contains-nil one k);
}

module _ (before : Events) (at : ℕ) (side : Side) (row : List Field) (rows : List LiveRow) (s : Stands before at rows) where
  fresh : has_expired before at ≡ false
  fresh = false_from_ne_true (has_expired before at) (λ e. omega (arith, s.expired at e))

  arrival_cases : (own : Side) (came : ℕ) (older : List Field) → Arrives (before ++ Arrive (record { 0 = at }) side row ∷ []) own came older → Arrives before own came older ⊎ ((at ≡ came) × (row ≡ older))
  arrival_cases own came older h = elim (Contains-push_cases before (Arrive (record { 0 = at }) side row) (Arrive (record { 0 = came }) own older) h) [
    | inl k ↦ inl k
    | inr e ↦ inr (ap (λ (event : Event (List Field)). number event) e, (cc))
  ]

  pub Stands-arrival : Stands (before ++ Arrive (record { 0 = at }) side row ∷ []) (at + 1) (rows ++ record { no = at; side = side; time = time_of row } ∷ [])
  Stands-arrival =
      let newest : LiveRow = record { no = at; side = side; time = time_of row } in
      record {
        count = omega (arith, length-append before (Arrive (record { 0 = at }) side row ∷ []), s.count);
        shown = λ own. elim (cases_side own side) [
          | inl same ↦ subst (λ (o : Side). live_rows o (before ++ Arrive (record { 0 = at }) side row ∷ []) ≡ shown_rows o (rows ++ newest ∷ [])) (sym same)
              (live_rows-arrival before (record { 0 = at }) side row fresh
              ∙ (ap (λ (numbers : List ℕ). numbers ++ at ∷ []) (s.shown side)
              ∙ sym (ap (map no_of) (of_side-push side rows newest (same_self side)) ∙ map-append no_of (of_side side rows) (newest ∷ []))))
          | inr differs ↦ live_rows-other_arrival before (record { 0 = at }) side own row differs
              ∙ (s.shown own ∙ sym (ap (map no_of) (of_side-other own rows newest (same_other own side differs))))
        ];
        below = λ one h. elim (Contains-push_cases rows newest one h) [
          | inl k ↦ (let l = s.below one k in omega arith)
          | inr e ↦ (let n : at ≡ one.no = ap no_of e in omega arith)
        ];
        rising = Ranked-push (λ one other. one.no < other.no) rows newest s.rising s.below;
        expired = λ gone h. let l = s.expired gone (sym (has_expired-arrival before (record { 0 = at }) side row gone) ∙ h) in omega arith;
        arrived = λ own came older h. elim (arrival_cases own came older h) [
          | inl k ↦ (let l = s.arrived own came older k in omega arith)
          | inr e ↦ omega (arith, e.0)
        ];
        timed = λ own came older one h k is. elim (Contains-push_cases rows newest one k) [
          | inl kept ↦ elim (arrival_cases own came older h) [
            | inl past ↦ s.timed own came older one past kept is
            | inr e ↦ absurd (let l = s.below one kept in omega (arith, e.0))
          ]
          | inr same ↦ elim (arrival_cases own came older h) [
            | inl past ↦ absurd (let l = s.arrived own came older past in let n : at ≡ one.no = ap no_of same in omega arith)
            | inr e ↦ sym (ap (λ (r : LiveRow). r.time) same) ∙ ap time_of e.1
          ]
        ];
      }

past_expiry : (before : Events) (at of : EventNo) (side own : Side) (came : ℕ) (row : List Field) → Arrives (before ++ Expire at side of ∷ []) own came row → Arrives before own came row
past_expiry before at of side own came row h = elim (Contains-push_cases before (Expire at side of) (Arrive (record { 0 = came }) own row) h) [ inl k ↦ k | inr e ↦ cc ]

pub Stands-expiry : (before : Events) (at : ℕ) (side : Side) (of : EventNo) (rows : List LiveRow) → of.0 < at → Stands before at rows → Stands (before ++ Expire (record { 0 = at }) side of ∷ []) (at + 1) (removed of.0 rows)
Stands-expiry before at side of rows earlier s = record {
  count = omega (arith, length-append before (Expire (record { 0 = at }) side of ∷ []), s.count);
  shown = λ own. live_rows-expiry before (record { 0 = at }) of side own
      ∙ (ap (λ (numbers : List ℕ). filter (λ n. not (of.0 == n)) numbers) (s.shown own) ∙ shown_removed of.0 own rows);
  below = λ row h. let l = s.below row (Contains-from_filter (λ (r : LiveRow). not (of.0 == r.no)) rows row h).0 in omega arith;
  rising = Ranked-filter (λ one other. one.no < other.no) (λ (r : LiveRow). not (of.0 == r.no)) rows s.rising;
  expired = λ gone h. elim (has_expired-cases before (record { 0 = at }) of side gone h) [
    | inl e ↦ (let l = s.expired gone e in omega arith)
    | inr e ↦ omega arith
  ];
  arrived = λ own came row h. let l = s.arrived own came row (past_expiry before (record { 0 = at }) of side own came row h) in omega arith;
  timed = λ own came row one h k is. s.timed own came row one (past_expiry before (record { 0 = at }) of side own came row h) (Contains-from_filter (λ (r : LiveRow). not (of.0 == r.no)) rows one k).0 is;
}

past_quiet : (before : Events) (at : EventNo) (side own : Side) (came : ℕ) (row : List Field) → Arrives (before ++ Quiet at side ∷ []) own came row → Arrives before own came row
past_quiet before at side own came row h = elim (Contains-push_cases before (Quiet at side) (Arrive (record { 0 = came }) own row) h) [ inl k ↦ k | inr e ↦ cc ]

pub Stands-quiet : (before : Events) (at : ℕ) (side : Side) (rows : List LiveRow) → Stands before at rows → Stands (before ++ Quiet (record { 0 = at }) side ∷ []) (at + 1) rows
Stands-quiet before at side rows s = record {
  count = omega (arith, length-append before (Quiet (record { 0 = at }) side ∷ []), s.count);
  shown = λ own. live_rows-quiet before (record { 0 = at }) side own ∙ s.shown own;
  below = λ row h. let l = s.below row h in omega arith;
  rising = s.rising;
  expired = λ gone h. let l = s.expired gone (sym (has_expired-quiet before (record { 0 = at }) side gone) ∙ h) in omega arith;
  arrived = λ own came row h. let l = s.arrived own came row (past_quiet before (record { 0 = at }) side own came row h) in omega arith;
  timed = λ own came row one h k is. s.timed own came row one (past_quiet before (record { 0 = at }) side own came row h) k is;
}
