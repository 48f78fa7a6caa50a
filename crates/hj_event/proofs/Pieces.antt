-- The pieces that are to come of a side, by what its cutter answered.
use Rattle.std.proofs.Common.{◌≡◌, ℕ, zero, suc, ◌+◌, ◌-◌, ◌≤◌, ◌⊎◌, inr, Bool, true, false, List, [], ◌++◌, length, take, drop, None, Some, sym, refl, ap, ◌∙◌, arith}
use Rattle.std.specs.List.{slice_range}
use Rattle.std.proofs.lemmas.List.{take-take, drop-take, drop-drop}
use Rattle.std.proofs.lemmas.Bool.Decides.{nat_tests}
use Rattle.std.specs.declared.option.Option.{Option}
use Rattle.hj_record.specs.declared.fault.PieceFault.{PieceFault}
use Rattle.hj_record.specs.declared.fault.PieceFault.TheVariants as fault
use Rattle.hj_record.specs.declared.cutter.Cut.TheVariants as cut
use Rattle.hj_record.specs.declared.cutter.Fed.TheVariants as fed
use Rattle.hj_record.specs.Cutter.{Cutting, cleared, pieces_from, EndsStream, EndsFrom, LeadsAtEnd}
use Rattle.hj_record.specs.Cuts.{Cuts, CutsFrom, LeadsBy, with_piece}
use Rattle.hj_record.specs.Pieces.{Pieces, ended, then_pieces, clean, bad, unread, pieces_of}
use Rattle.hj_event.specs.Sides.{unless_refused}

-- ---- parts of a portion

pub range_rest : (xs : List ℕ) (from to used : ℕ) → used ≤ to - from → slice_range xs (from + used) to ≡ drop used (slice_range xs from to)
range_rest xs from to used le =
    let e : to - from ≡ used + (to - (from + used)) = omega arith in
    ap (λ (ys : List ℕ). take (to - (from + used)) ys) (sym (drop-drop used from xs))
    ∙ sym (ap (λ (n : ℕ). drop used (take n (drop from xs))) e ∙ drop-take used (to - (from + used)) (drop from xs))

pub range_front : (xs : List ℕ) (from to used : ℕ) → used ≤ to - from → slice_range xs from (from + used) ≡ take used (slice_range xs from to)
range_front xs from to used le =
    let e : from + used - from ≡ used = omega arith in
    ap (λ (n : ℕ). take n (drop from xs)) e ∙ sym (take-take used (to - from) (drop from xs) le)

pub range_none : (xs : List ℕ) (at : ℕ) → slice_range xs at at ≡ []
range_none xs at = let e : at - at ≡ 0 = omega arith in ap (λ (n : ℕ). take n (drop at xs)) e

-- ---- pieces

-- the pieces of which these bytes come next
abbrev pub ahead_of : Cutting → List ℕ → Bool → Pieces
ahead_of cutting bytes whole = unless_refused cutting.fault (pieces_from cutting bytes whole)

-- An empty stream has no piece.
pub pieces_of-empty : (limit : ℕ) → pieces_of limit (record { bytes = []; whole = true }) ≡ ended clean
pieces_of-empty zero = refl
pieces_of-empty (suc limit) = grind (arith, nat_tests)

fault_of : (c d : Cutting) (found : Option PieceFault) → c ≡ d → d.fault ≡ found → c.fault ≡ found
fault_of c d found is e = ap (λ (v : Cutting). v.fault) is ∙ e

live_ahead : (c : Cutting) (bytes : List ℕ) (whole : Bool) → c.fault ≡ None → pieces_from c bytes whole ≡ ahead_of c bytes whole
live_ahead c bytes whole live = sym (ap (λ (f : Option PieceFault). unless_refused f (pieces_from c bytes whole)) live)

module _ (old new : Cutting) (rest : List ℕ) where
  lent_from : (was : Option PieceFault) → old.fault ≡ was → (used : ℕ) → CutsFrom was (cut.Lent used) rest old new → (was ≡ None → LeadsBy (cut.Lent used) rest old new) → (more : List ℕ) (whole : Bool) → unless_refused was (pieces_from old (rest ++ more) whole) ≡ then_pieces (take used rest) (ahead_of new (drop used rest ++ more) whole)
  lent_from None e used lends leads more whole =
      leads refl more whole ∙ ap (then_pieces (take used rest)) (live_ahead new (drop used rest ++ more) whole (fault_of new (cleared (with_piece (take used rest) old)) None lends.2 e))
  lent_from (Some found) e used stays leads more whole = cc

  within_from : (was : Option PieceFault) (used : ℕ) → CutsFrom was (cut.Lent used) rest old new → used ≤ length rest
  within_from None used lends = lends.1.1
  within_from (Some found) used stays = cc

  pub lent_within : (used : ℕ) → Cuts (cut.Lent used) rest old new → used ≤ length rest
  lent_within = within_from old.fault

  kept_from : (was : Option PieceFault) (used : ℕ) → CutsFrom was (cut.Piece used) rest old new → used ≤ length rest
  kept_from None used takes = takes.1
  kept_from (Some found) used stays = cc

  pub piece_within : (used : ℕ) → Cuts (cut.Piece used) rest old new → used ≤ length rest
  piece_within = kept_from old.fault

  pub lent_ahead : (used : ℕ) → Cuts (cut.Lent used) rest old new → (old.fault ≡ None → LeadsBy (cut.Lent used) rest old new) → (more : List ℕ) (whole : Bool) → ahead_of old (rest ++ more) whole ≡ then_pieces (take used rest) (ahead_of new (drop used rest ++ more) whole)
  lent_ahead = lent_from old.fault refl

  piece_from : (was : Option PieceFault) → old.fault ≡ was → (used : ℕ) → CutsFrom was (cut.Piece used) rest old new → (was ≡ None → LeadsBy (cut.Piece used) rest old new) → (more : List ℕ) (whole : Bool) → unless_refused was (pieces_from old (rest ++ more) whole) ≡ then_pieces new.piece (ahead_of (cleared new) (drop used rest ++ more) whole)
  piece_from None e used takes leads more whole =
      leads refl more whole ∙ ap (then_pieces new.piece) (live_ahead (cleared new) (drop used rest ++ more) whole (fault_of new (record old { piece = old.piece ++ take used rest; whole = true }) None takes.2 e))
  piece_from (Some found) e used stays leads more whole = cc

  pub piece_ahead : (used : ℕ) → Cuts (cut.Piece used) rest old new → (old.fault ≡ None → LeadsBy (cut.Piece used) rest old new) → (more : List ℕ) (whole : Bool) → ahead_of old (rest ++ more) whole ≡ then_pieces new.piece (ahead_of (cleared new) (drop used rest ++ more) whole)
  piece_ahead = piece_from old.fault refl

  -- what a piece that goes on says
  pub record GoesOn : Type 0 where
    pub ahead : (more : List ℕ) (whole : Bool) → ahead_of old (rest ++ more) whole ≡ ahead_of new more whole
    pub cut_off : ahead_of new [] false ≡ ended unread
    pub going : new.whole ≡ old.whole

  more_from : (was : Option PieceFault) → old.fault ≡ was → CutsFrom was cut.More rest old new → (was ≡ None → LeadsBy cut.More rest old new) → GoesOn
  more_from None e takes leads =
      let live : new.fault ≡ None = fault_of new (record old { piece = old.piece ++ rest }) None takes.0 e in
      record {
        ahead = λ more whole. sym (live_ahead old (rest ++ more) whole e) ∙ ((leads refl).0 more whole ∙ live_ahead new more whole live);
        cut_off = sym (live_ahead new [] false live) ∙ (leads refl).1;
        going = ap (λ (v : Cutting). v.whole) takes.0;
      }
  more_from (Some found) e stays leads = cc

  pub more_ahead : Cuts cut.More rest old new → (old.fault ≡ None → LeadsBy cut.More rest old new) → GoesOn
  more_ahead = more_from old.fault refl

  bad_from : (was : Option PieceFault) → (found : PieceFault) → CutsFrom was (cut.Bad found) rest old new → (was ≡ None → LeadsBy (cut.Bad found) rest old new) → (found ≡ fault.Memory) ⊎ ((more : List ℕ) (whole : Bool) → unless_refused was (pieces_from old (rest ++ more) whole) ≡ ended (bad found))
  bad_from None found takes leads = leads refl
  bad_from (Some other) found stays leads = let e : other ≡ found = cc in inr (λ more whole. ap (λ (f : PieceFault). ended (bad f)) e)

  pub bad_ahead : (found : PieceFault) → Cuts (cut.Bad found) rest old new → (old.fault ≡ None → LeadsBy (cut.Bad found) rest old new) → (found ≡ fault.Memory) ⊎ ((more : List ℕ) (whole : Bool) → ahead_of old (rest ++ more) whole ≡ ended (bad found))
  bad_ahead = bad_from old.fault

-- ---- the end

module _ (old new : Cutting) where
  last_from : (was : Option PieceFault) → old.fault ≡ was → (used : ℕ) → EndsFrom was (fed.Piece used) old new → (was ≡ None → LeadsAtEnd (fed.Piece used) old new) → (unless_refused was (pieces_from old [] true) ≡ then_pieces new.piece (ahead_of (cleared new) [] true)) × (new.piece ≡ old.piece)
  last_from None e used closes leads =
      let live : new.fault ≡ None = fault_of new (record old { whole = true }) None closes.3 e in (
        leads refl ∙ ap (then_pieces new.piece) (sym (sym (live_ahead (cleared new) [] true live) ∙ pieces_of-empty (new.room - length new.piece))),
        ap (λ (v : Cutting). v.piece) closes.3,
      )
  last_from (Some found) e used stays leads = cc

  pub last_ahead : (used : ℕ) → EndsStream (fed.Piece used) old new → (old.fault ≡ None → LeadsAtEnd (fed.Piece used) old new) → (ahead_of old [] true ≡ then_pieces new.piece (ahead_of (cleared new) [] true)) × (new.piece ≡ old.piece)
  last_ahead = last_from old.fault refl
