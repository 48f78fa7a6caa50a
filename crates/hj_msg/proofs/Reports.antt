-- Which report comes of which message, and whom it lists.
use Rattle.std.proofs.Common.{◌≡◌, ℕ, Bool, true, false, cond, not, ◌&&◌, ◌⊎◌, inl, inr, List, [], ◌∷◌, ◌++◌, map, filter, fold, Contains, Some, None, Option, refl, ap, ap₂, sym, ◌∙◌, subst, append_assoc}
use Rattle.std.specs.List.{flat_map}
use Rattle.std.specs.Option.{IfSome, option_to_list}
use Rattle.std.proofs.lemmas.List.{map-append}
use Rattle.std.proofs.lemmas.List.Concat.{flat_map-append}
use Rattle.std.proofs.lemmas.List.Elements.{Contains-append_cases}
use Rattle.hj_base.specs.declared.numbers.EventNo.{EventNo}
use Rattle.hj_base.specs.declared.numbers.Side.{Side}
use Rattle.hj_base.specs.declared.numbers.Side.TheVariants.{Left, Right}
use Rattle.hj_base.specs.Journals.{Entry, puts}
use Rattle.hj_msg.specs.declared.message.Msg.{Msg}
use Rattle.hj_msg.specs.declared.message.Msg.TheVariants.{R, CloseL, S, CloseR}
use Rattle.hj_msg.specs.declared.message.Report.{Report}
use Rattle.hj_msg.specs.declared.message.Report.TheVariants.{Handled, Ended, NoMemory}
use Rattle.hj_msg.specs.declared.partner.Partner.{Partner}
use Rattle.hj_msg.specs.Store.{Resting, settled_partners}
use Rattle.hj_msg.specs.Core.{State, InFlight, empty_state, after, report, partners_of_left, partners_of_right, flying_partners}
use Rattle.hj_msg.specs.Turns.{Turn, Turns, IsCut, AreWhole, TakesTurns, all_of, handled, at_reports}
use Rattle.hj_msg.proofs.Ends.{puts-append, puts-puts}
use Rattle.hj_msg.proofs.Members.{Contains-nil, Contains-cons_cases, Contains-filter, Contains-map}
use Rattle.hj_msg.proofs.Sides.{row_message, partners_of}

pub puts-reports : {P : Type 0} (turns : List (Turn P)) → puts (flat_map at_reports turns) ≡ flat_map (λ turn. turn.reports) turns
puts-reports [] = refl
puts-reports (turn ∷ turns) = puts-append (at_reports turn) (flat_map at_reports turns) ∙ ap₂ (λ xs ys. xs ++ ys) (puts-puts turn.number turn.reports) (puts-reports turns)

-- the messages handled before, and the one that was reported
pub record Told {P : Type 0} (matches : P → P → Bool) (place n : ℕ) (state : State P) (messages : List (Msg P)) (r : Report P) : Type 0 where
  pub front : List (Msg P)
  pub message : Msg P
  pub back : List (Msg P)
  pub is : messages ≡ front ++ message ∷ back
  pub told : report matches (fold (after place n) state front) message ≡ Some r

told_option : {X : Type 0} (o : Option X) (x : X) → Contains (option_to_list o) x → o ≡ Some x
told_option None x h = absurd (Contains-nil x h)
told_option (Some y) x h = elim (Contains-cons_cases y x [] h) [ inl e ↦ ap Some e | inr k ↦ absurd (Contains-nil x k) ]

told_by : {P : Type 0} (matches : P → P → Bool) (place n : ℕ) (state : State P) (turns : List (Turn P)) (r : Report P) → AreWhole matches place n state turns
    → Contains (flat_map (λ turn. turn.reports) turns) r → Told matches place n state (map (λ turn. turn.message) turns) r
told_by matches place n state [] r whole h = absurd (Contains-nil r h)
told_by matches place n state (turn ∷ turns) r whole h = elim (Contains-append_cases turn.reports (flat_map (λ turn. turn.reports) turns) r h) [
  | inl k ↦ record {
    front = [];
    message = turn.message;
    back = map (λ turn. turn.message) turns;
    is = refl;
    told = told_option (report matches state turn.message) r (subst (λ rs. Contains rs r) whole.0.reports k);
  }
  | inr k ↦
      let deeper = told_by matches place n (after place n state turn.message) turns r whole.1 k in
      record { front = turn.message ∷ deeper.front; message = deeper.message; back = deeper.back; is = ap (λ ms. turn.message ∷ ms) deeper.is; told = deeper.told }
]

-- a report of a core other than that memory ran out
pub told_of : {P : Type 0} {matches : P → P → Bool} {place n : ℕ} {turns : Turns P} {left right : List (Entry (Msg P))} {reports : List (Entry (Report P))}
    → TakesTurns matches place n turns left right reports → (r : Report P) → ((r ≡ NoMemory) → ⊥) → Contains (puts reports) r → Told matches place n empty_state (handled turns) r
told_of {P} {matches = matches} {place = place} {n = n} {turns = turns} core r other h = go (Contains-append_cases (flat_map (λ turn. turn.reports) turns.whole) (flat_map (λ turn. turn.reports) (option_to_list turns.cut)) r all)
  where
    all : Contains (flat_map (λ turn. turn.reports) turns.whole ++ flat_map (λ turn. turn.reports) (option_to_list turns.cut)) r
    all = subst (λ rs. Contains rs r) (ap puts core.reports ∙ puts-reports (all_of turns) ∙ flat_map-append (λ turn. turn.reports) turns.whole (option_to_list turns.cut)) h

    no_cut : (cut : Option (Turn P)) → IfSome cut (IsCut place n) → Contains (flat_map (λ turn. turn.reports) (option_to_list cut)) r → ⊥
    no_cut None is k = Contains-nil r k
    no_cut (Some turn) is k = elim (Contains-append_cases turn.reports [] r k) [
      | inl l ↦ elim is.reports [
        | inl e ↦ Contains-nil r (subst (λ rs. Contains rs r) e l)
        | inr e ↦ elim (Contains-cons_cases NoMemory r [] (subst (λ rs. Contains rs r) e l)) [ inl same ↦ other (sym same) | inr m ↦ Contains-nil r m ]
      ]
      | inr l ↦ Contains-nil r l
    ]

    go : Contains (flat_map (λ (turn : Turn P). turn.reports) turns.whole) r ⊎ Contains (flat_map (λ (turn : Turn P). turn.reports) (option_to_list turns.cut)) r → Told matches place n empty_state (handled turns) r
    go (inr k) = absurd (no_cut turns.cut core.cut k)
    go (inl k) =
        let told = told_by matches place n empty_state turns.whole r core.whole k in
        record {
          front = told.front;
          message = told.message;
          back = told.back ++ map (λ turn. turn.message) (option_to_list turns.cut);
          is = map-append (λ turn. turn.message) turns.whole (option_to_list turns.cut) ∙ ap (λ ms. ms ++ map (λ turn. turn.message) (option_to_list turns.cut)) told.is
              ∙ append_assoc told.front (told.message ∷ told.back) (map (λ turn. turn.message) (option_to_list turns.cut));
          told = told.told;
        }

-- the message of a report of an arrival, and its partners
pub record TellsRow {P : Type 0} (side : Side) (matches : P → P → Bool) (state : State P) (m : Msg P) (at : EventNo) (row : P) (partners : List (Partner P)) : Type 0 where
  pub message : m ≡ row_message side at row
  pub lists : partners ≡ partners_of side matches state row

ended_or : {P : Type 0} (b : Bool) (at : EventNo) (side : Side) (row : P) (partners : List (Partner P)) → cond b (Some Ended) None ≡ Some (Handled at side row partners) → ⊥
ended_or true at side row partners e = cc
ended_or false at side row partners e = cc

pub tells_row : {P : Type 0} (side : Side) (matches : P → P → Bool) (state : State P) (m : Msg P) (at : EventNo) (row : P) (partners : List (Partner P)) → report matches state m ≡ Some (Handled at side row partners) → TellsRow side matches state m at row partners
tells_row Left matches state (R num other) at row partners e =
    let same : Handled num Left other (partners_of_left matches state other) ≡ Handled at Left row partners = cc in
    let rows : other ≡ row = cc in
    record { message = cc; lists = let l : partners_of_left matches state other ≡ partners = cc in sym l ∙ ap (partners_of_left matches state) rows }
tells_row Left matches state (S num other) at row partners e = absurd (let same : Handled num Right other (partners_of_right matches state other) ≡ Handled at Left row partners = cc in cc)
tells_row Right matches state (S num other) at row partners e =
    let same : Handled num Right other (partners_of_right matches state other) ≡ Handled at Right row partners = cc in
    let rows : other ≡ row = cc in
    record { message = cc; lists = let l : partners_of_right matches state other ≡ partners = cc in sym l ∙ ap (partners_of_right matches state) rows }
tells_row Right matches state (R num other) at row partners e = absurd (let same : Handled num Left other (partners_of_left matches state other) ≡ Handled at Right row partners = cc in cc)
tells_row side matches state CloseL at row partners e = absurd (ended_or (not state.closed_left && state.closed_right) at side row partners e)
tells_row side matches state CloseR at row partners e = absurd (ended_or (not state.closed_right && state.closed_left) at side row partners e)
tells_row side matches state other at row partners e = absurd (cc)

-- a settled row that joins is listed
pub lists_settled : {P : Type 0} (joins : P → Bool) (entries : List (Resting P)) (entry : Resting P) → Contains entries entry → entry.settled ≡ true → joins entry.row ≡ true
    → Contains (settled_partners joins entries) (record { no = record { 0 = entry.no }; row = entry.row })
lists_settled joins entries entry h settled join =
    Contains-map (λ entry. record { no = record { 0 = entry.no }; row = entry.row }) (filter (λ entry. entry.settled && joins entry.row) entries) entry
    (Contains-filter (λ entry. entry.settled && joins entry.row) entries entry h (rw (settled, join) refl))

pub lists_flying : {P : Type 0} (joins : P → Bool) (rows : List (InFlight P)) (flying : InFlight P) → Contains rows flying → joins flying.row ≡ true
    → Contains (flying_partners joins rows) (record { no = record { 0 = flying.no }; row = flying.row })
lists_flying joins rows flying h join =
    Contains-map (λ flying. record { no = record { 0 = flying.no }; row = flying.row }) (filter (λ flying. joins flying.row) rows) flying
    (Contains-filter (λ flying. joins flying.row) rows flying h join)
