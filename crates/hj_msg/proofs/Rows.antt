-- The rows that messages carry, and that cores keep, are those of the events.
use Rattle.std.proofs.Common.{◌≡◌, ℕ, zero, suc, ◌+◌, ◌<◌, Bool, true, false, ◌==◌, nat_lt, ◌⊎◌, inl, inr, List, [], ◌∷◌, ◌++◌, map, Contains, refl, ap, sym, ◌∙◌, subst, arith}
use Rattle.std.specs.List.{flat_map, AllByRecursion}
use Rattle.std.proofs.lemmas.List.Elements.{Contains-append_left, Contains-append_right, Contains-append_cases}
use Rattle.hj_base.specs.declared.numbers.EventNo.{EventNo}
use Rattle.hj_base.specs.declared.numbers.Side.{Side}
use Rattle.hj_base.specs.declared.numbers.Side.TheVariants.{Left, Right}
use Rattle.hj_base.specs.Journals.{IsPrefix, puts, takes}
use Rattle.hj_msg.specs.declared.event.Event.TheVariants.{Arrive, Expire, Quiet}
use Rattle.hj_msg.specs.declared.message.Msg.{Msg}
use Rattle.hj_msg.specs.declared.message.Msg.TheVariants.{R, AckS, EndS, ExpS, QuietL, CloseL, S, EndR, ExpR, QuietR, CloseR}
use Rattle.hj_msg.specs.Core.{is_last, only_if}
use Rattle.hj_msg.specs.Turns.{Turn, all_of, handled, at_left, at_right}
use Rattle.hj_msg.specs.Driver.{DriverTurn, admission, receipt, closing, admitted}
use Rattle.hj_msg.specs.Run.{Run, IsRun, LogEntry, at_port, port_journal}
use Rattle.hj_msg.proofs.Counts.{count}
use Rattle.hj_msg.proofs.Ends.{puts-append, takes-append}
use Rattle.hj_msg.proofs.Members.{Contains-nil, Contains-head, Contains-cons, Contains-cons_cases}
use Rattle.hj_msg.proofs.TurnPuts.{PutsOnly, admitted-cons, all_put, end_on, puts_end, puts_on, puts_only}
use Rattle.hj_msg.proofs.Directions.{before_core, before_first, before_next, low_of, nearer, none_taken, port_is, reached, taken_at, taken_before}
use Rattle.hj_msg.proofs.Sides.{opposite, goes_with, row_message, sends_on, Reaches}

-- what a list holds it counts
no_member : {X : Type 0} (p : X → Bool) (xs : List X) (x : X) → Contains xs x → p x ≡ true → count p xs ≡ 0 → ⊥
no_member p [] x h e none = Contains-nil x h
no_member p (y ∷ ys) x h e none = elim (Contains-cons_cases y x ys h) [
  | inl same ↦ absurd (grind (arith, none, ap p same, e))
  | inr later ↦ no_member p ys x later e (omega (arith, none))
]

in_prefix : {X : Type 0} {xs ys : List X} (x : X) → IsPrefix xs ys → Contains xs x → Contains ys x
in_prefix {xs = xs} x prefix h = subst (λ zs. Contains zs x) (sym prefix.is) (Contains-append_left xs prefix.rest x h)

taken_somewhere : {P : Type 0} (turns : List (Turn P)) (m : Msg P) → Contains (map (λ turn. turn.message) turns) m → Contains (takes (flat_map at_left turns)) m ⊎ Contains (takes (flat_map at_right turns)) m
taken_somewhere [] m h = absurd (Contains-nil m h)
taken_somewhere {P} (turn ∷ turns) m h =
    go (Contains-cons_cases turn.message m (map (λ turn. turn.message) turns) h) (taken_at Left turn).one (taken_somewhere turns m)
  where
    l : takes (flat_map at_left (turn ∷ turns)) ≡ takes (at_left turn) ++ takes (flat_map at_left turns)
    l = takes-append (at_left turn) (flat_map at_left turns)

    r : takes (flat_map at_right (turn ∷ turns)) ≡ takes (at_right turn) ++ takes (flat_map at_right turns)
    r = takes-append (at_right turn) (flat_map at_right turns)

    here : (ms : List (Msg P)) → ms ≡ turn.message ∷ [] → turn.message ≡ m → Contains ms m
    here ms e same = subst (λ ns. Contains ns m) (sym e) (subst (λ n. Contains (turn.message ∷ []) n) same (Contains-head turn.message []))

    go : (turn.message ≡ m) ⊎ Contains (map (λ (turn : Turn P). turn.message) turns) m
        → (takes (at_left turn) ≡ turn.message ∷ []) × (takes (at_right turn) ≡ []) ⊎ (takes (at_left turn) ≡ []) × (takes (at_right turn) ≡ turn.message ∷ [])
        → (Contains (map (λ (turn : Turn P). turn.message) turns) m → Contains (takes (flat_map at_left turns)) m ⊎ Contains (takes (flat_map at_right turns)) m)
        → Contains (takes (flat_map at_left (turn ∷ turns))) m ⊎ Contains (takes (flat_map at_right (turn ∷ turns))) m
    go (inl same) (inl is) deeper = inl (rw l (Contains-append_left (takes (at_left turn)) (takes (flat_map at_left turns)) m (here (takes (at_left turn)) is.0 same)))
    go (inl same) (inr is) deeper = inr (rw r (Contains-append_left (takes (at_right turn)) (takes (flat_map at_right turns)) m (here (takes (at_right turn)) is.1 same)))
    go (inr later) is deeper = elim (deeper later) [
      | inl k ↦ inl (rw l (Contains-append_right (takes (at_left turn)) (takes (flat_map at_left turns)) m k))
      | inr k ↦ inr (rw r (Contains-append_right (takes (at_right turn)) (takes (flat_map at_right turns)) m k))
    ]

-- a list that holds one thing at most
Contains-only_if : {P : Type 0} (b : Bool) (m n : Msg P) → Contains (only_if b m) n → m ≡ n
Contains-only_if true m n h = elim (Contains-cons_cases m n [] h) [ inl e ↦ e | inr k ↦ absurd (Contains-nil n k) ]
Contains-only_if false m n h = absurd (Contains-nil n h)

Contains-one : {X : Type 0} (x y : X) → Contains (x ∷ []) y → x ≡ y
Contains-one x y h = elim (Contains-cons_cases x y [] h) [ inl e ↦ e | inr k ↦ absurd (Contains-nil y k) ]

-- a core sends on only the row that it handled
sent_row : {P : Type 0} (side : Side) (place n : ℕ) (m : Msg P) (at : EventNo) (row : P)
    → Contains (sends_on side place n m) (row_message side at row) → m ≡ row_message side at row
sent_row Right place n (R num other) at row h = absurd (let e = Contains-only_if (is_last place n) (EndR num) (S at row) h in cc)
sent_row Right place n (S num other) at row h = Contains-one (S num other) (S at row) h
sent_row Right place n (EndR num) at row h = absurd (let e = Contains-one (EndR num) (S at row) h in cc)
sent_row Right place n (ExpR num) at row h = absurd (let e = Contains-one (ExpR num) (S at row) h in cc)
sent_row Right place n (QuietR num) at row h = absurd (let e = Contains-one (QuietR num) (S at row) h in cc)
sent_row Right place n CloseR at row h = absurd (let e = Contains-one CloseR (S at row) h in cc)
sent_row Right place n other at row h = absurd (Contains-nil (S at row) h)
sent_row Left place n (S num other) at row h = absurd (elim (Contains-append_cases (only_if (nat_lt (place + 1) n) (AckS num)) (only_if (place == 0) (EndS num)) (R at row) h) [
  | inl k ↦ (let e = Contains-only_if (nat_lt (place + 1) n) (AckS num) (R at row) k in cc)
  | inr k ↦ (let e = Contains-only_if (place == 0) (EndS num) (R at row) k in cc)
])
sent_row Left place n (R num other) at row h = Contains-one (R num other) (R at row) h
sent_row Left place n (EndS num) at row h = absurd (let e = Contains-one (EndS num) (R at row) h in cc)
sent_row Left place n (ExpS num) at row h = absurd (let e = Contains-one (ExpS num) (R at row) h in cc)
sent_row Left place n (QuietL num) at row h = absurd (let e = Contains-one (QuietL num) (R at row) h in cc)
sent_row Left place n CloseL at row h = absurd (let e = Contains-one CloseL (R at row) h in cc)
sent_row Left place n other at row h = absurd (Contains-nil (R at row) h)

from_turns : {P : Type 0} (side : Side) (place n : ℕ) (turns : List (Turn P)) (at : EventNo) (row : P)
    → AllByRecursion (PutsOnly place n) turns
    → Contains (flat_map (puts_on side) turns) (row_message side at row)
    → Contains (map (λ turn. turn.message) turns) (row_message side at row)
from_turns side place n [] at row all h = absurd (Contains-nil (row_message side at row) h)
from_turns side place n (turn ∷ turns) at row all h = elim (Contains-append_cases (puts_on side turn) (flat_map (puts_on side) turns) (row_message side at row) h) [
  | inl k ↦ subst (λ m. Contains (turn.message ∷ map (λ turn. turn.message) turns) m) (sent_row side place n turn.message at row (in_prefix (row_message side at row) (puts_only side all.0) k)) (Contains-head turn.message (map (λ turn. turn.message) turns))
  | inr k ↦ Contains-cons turn.message (row_message side at row) (map (λ turn. turn.message) turns) (from_turns side place n turns at row all.1 k)
]

-- the driver puts a row only for its arrival
arrival : {P : Type 0} (side : Side) (num at : EventNo) (other row : P) → row_message side num other ≡ row_message side at row
    → Arrive num side other ≡ Arrive at side row
arrival Left num at other row same = cc
arrival Right num at other row same = cc

put_now : {P : Type 0} (side : Side) (number : ℕ) (turn : DriverTurn P) (at : EventNo) (row : P)
    → Contains (puts (at_port side number turn)) (row_message side at row) → Contains (admitted (turn ∷ [])) (Arrive at side row)
put_now Left number (admission (Arrive num Left other)) at row h =
    subst (λ event. Contains (Arrive num Left other ∷ []) event) (arrival Left num at other row (Contains-one (R num other) (R at row) h)) (Contains-head (Arrive num Left other) [])
put_now Left number (admission (Expire num Right of)) at row h = absurd (let e = Contains-one (ExpS of) (R at row) h in cc)
put_now Left number (admission (Quiet num Left)) at row h = absurd (let e = Contains-one (QuietL num) (R at row) h in cc)
put_now Left number (receipt Left message) at row h = absurd (Contains-nil (R at row) h)
put_now Left number closing at row h = absurd (let e = Contains-one CloseL (R at row) h in cc)
put_now Right number (admission (Arrive num Right other)) at row h =
    subst (λ event. Contains (Arrive num Right other ∷ []) event) (arrival Right num at other row (Contains-one (S num other) (S at row) h)) (Contains-head (Arrive num Right other) [])
put_now Right number (admission (Expire num Left of)) at row h = absurd (let e = Contains-one (ExpR of) (S at row) h in cc)
put_now Right number (admission (Quiet num Right)) at row h = absurd (let e = Contains-one (QuietR num) (S at row) h in cc)
put_now Right number (receipt Left message) at row h = absurd (Contains-nil (S at row) h)
put_now Right number closing at row h = absurd (let e = Contains-one CloseR (S at row) h in cc)
put_now side number turn at row h = absurd (Contains-nil (row_message side at row) h)

from_port : {P : Type 0} (side : Side) (log : List (LogEntry P)) (at : EventNo) (row : P)
    → Contains (puts (port_journal side log)) (row_message side at row)
    → Contains (admitted (map (λ entry. entry.turn) log)) (Arrive at side row)
from_port side [] at row h = absurd (Contains-nil (row_message side at row) h)
from_port side (entry ∷ log) at row h =
    let here = at_port side entry.number entry.turn in
    let later = map (λ (entry : LogEntry _). entry.turn) log in
    subst (λ events. Contains events (Arrive at side row)) (sym (admitted-cons entry.turn later))
    (elim (Contains-append_cases (puts here) (puts (port_journal side log)) (row_message side at row) (subst (λ ms. Contains ms (row_message side at row)) (puts-append here (port_journal side log)) h)) [
      | inl now ↦ Contains-append_left (admitted (entry.turn ∷ [])) (admitted later) (Arrive at side row) (put_now side entry.number entry.turn at row now)
      | inr then ↦ Contains-append_right (admitted (entry.turn ∷ [])) (admitted later) (Arrive at side row) (from_port side log at row then)
    ])

row_goes_with : {P : Type 0} (side : Side) (at : EventNo) (row : P) → goes_with side (row_message side at row) ≡ true
row_goes_with Left at row = refl
row_goes_with Right at row = refl

-- what turns handled was taken at the one end or at the other
taken_either : {P : Type 0} (side : Side) (turns : List (Turn P)) (m : Msg P) → Contains (map (λ turn. turn.message) turns) m
    → Contains (takes (flat_map (end_on side) turns)) m ⊎ Contains (takes (flat_map (end_on (opposite side)) turns)) m
taken_either Left turns m h = elim (taken_somewhere turns m h) [ inl there ↦ inr there | inr there ↦ inl there ]
taken_either Right turns m h = taken_somewhere turns m h

module _ {P : Type 0} (run : Run P) (is : IsRun run) where
  -- a row that is handled was put by the core before, or by the driver
  put_before : (side : Side) (k : ℕ) → k < run.cores → (at : EventNo) (row : P) → Contains (handled (is.turns k)) (row_message side at row)
      → Contains (puts (before_core run is side k)) (row_message side at row)
  put_before side k low at row h = elim (taken_either side (all_of (is.turns k)) (row_message side at row) h) [
    | inl there ↦ absurd (no_member (goes_with side) (takes (flat_map (end_on side) (all_of (is.turns k)))) (row_message side at row) there (row_goes_with side at row) (none_taken run is side k low))
    | inr there ↦ in_prefix (row_message side at row) (taken_before run is side k low) there
  ]

  -- every row that is handled is that of an arrival
  arrived_at : (side : Side) (others k : ℕ) → Reaches run.cores side others k → (at : EventNo) (row : P)
      → Contains (handled (is.turns k)) (row_message side at row) → Contains run.events (Arrive at side row)
  arrived_at side zero k reaches at row h =
      let at_port : Contains (puts (port_journal side is.log)) (row_message side at row)
      = subst (λ j. Contains (puts j) (row_message side at row)) (before_first run is side k reaches ∙ port_is run is side) (put_before side k (low_of run is side 0 k reaches) at row h) in
      in_prefix (Arrive at side row) is.lawful.in_order (from_port side is.log at row at_port)
  arrived_at side (suc others) k reaches at row h =
      let near = nearer run is side others k reaches in
      let by : Contains (flat_map (puts_on side) (all_of (is.turns near.0))) (row_message side at row)
      = subst (λ ms. Contains ms (row_message side at row)) (ap puts (before_next run is side others near.0 k near.1 reaches) ∙ puts_end side (all_of (is.turns near.0)))
      (put_before side k (low_of run is side (suc others) k reaches) at row h) in
      arrived_at side others near.0 near.1 at row (from_turns side near.0 run.cores (all_of (is.turns near.0)) at row (all_put (is.steps near.0 (low_of run is side others near.0 near.1))) by)

  pub arrived : (side : Side) (k : ℕ) → k < run.cores → (at : EventNo) (row : P) → Contains (handled (is.turns k)) (row_message side at row) → Contains run.events (Arrive at side row)
  arrived side k low at row h = let reaches = reached run is side k low in arrived_at side reaches.0 k reaches.1 at row h
